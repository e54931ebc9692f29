use Rattle.std.proofs.Common.{◌≡◌, ◌-◌}
use Rattle.std.specs.List.{list_any, range_with_len}
use Rattle.sched_checks.specs.Checks.{held_twice}
use Rattle.sched_checks.proofs.before.RecordsBefore.holds_any_twice.Given as goal

abbrev pub invariant-loop-register : goal.invariant-loop-register
invariant-loop-register l = list_any (held_twice l.self l.file) (range_with_len l.register (32 - l.register)) ≡ list_any (held_twice l.self l.file) (range_with_len 0 32)

use Rattle.std.proofs.Common.{◌≡◌, ◌++◌, drop, map}
use Rattle.sched_checks.specs.Parts.{parts_from}
use Rattle.sched_checks.proofs.resources.all_parts.Given as goal

abbrev pub invariant-loop-number : goal.invariant-loop-number
invariant-loop-number l = let rs = map (λ r. r.now) l.list in map (λ p. p.keys) l.all.items ++ parts_from rs l.number (drop l.number rs) ≡ parts_from rs 0 rs

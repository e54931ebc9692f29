use Rattle.std.proofs.Common.{◌≡◌, ◌≤◌, min, drop}
use Rattle.sched_records.specs.Numbers.{digits_value}
use Rattle.sched_records.proofs.number.digits_value.Given as goal

abbrev pub invariant-loop-digit : goal.invariant-loop-digit
invariant-loop-digit l = record {
  bound : l.value ≤ 9223372036854775809;
  same : min (digits_value l.base l.value (drop l.digit-index l.digits)) 9223372036854775809 ≡ min (digits_value l.base 0 l.digits) 9223372036854775809;
}

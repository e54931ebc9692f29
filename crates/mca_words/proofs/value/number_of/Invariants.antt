use Rattle.std.proofs.Common.{◌≡◌, ◌≤◌, ◌^◌, min, drop}
use Rattle.mca_words.specs.Values.{number_from}
use Rattle.mca_words.proofs.value.number_of.Given as goal

abbrev pub invariant-loop-digit : goal.invariant-loop-digit
invariant-loop-digit l = record {
  bound : l.number ≤ 2 ^ 32;
  read : min (2 ^ 32) (number_from l.number (drop l.digit-index l.digits)) ≡ min (2 ^ 32) (number_from 0 l.digits);
}

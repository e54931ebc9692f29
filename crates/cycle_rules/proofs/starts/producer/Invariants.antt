use Rattle.std.proofs.Common.{◌≡◌, ◌<◌, ◌≤◌, ℕ, false}
use Rattle.std.specs.Prelude.{nat_eq}
use Rattle.cycle_rules.specs.Below.{last_below}
use Rattle.cycle_rules.specs.Given.{row_in}
use Rattle.cycle_rules.proofs.starts.producer.Given as goal

abbrev pub invariant-loop-k : goal.invariant-loop-k
invariant-loop-k l = record {
  low : l.k ≤ l.j;
  is : last_below l.j (λ k. nat_eq (row_in l.given.body.now k).rd l.reg) ≡ last_below l.k (λ k. nat_eq (row_in l.given.body.now k).rd l.reg);
  none : (i : ℕ) → l.k ≤ i → i < l.j → nat_eq (row_in l.given.body.now i).rd l.reg ≡ false;
}

abbrev pub decreases-loop-k : goal.decreases-loop-k
decreases-loop-k l = l.k

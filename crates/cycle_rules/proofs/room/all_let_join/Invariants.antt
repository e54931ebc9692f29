use Rattle.std.proofs.Common.{◌≡◌, ◌||◌, not, true}
use Rattle.std.specs.Prelude.{nat_eq}
use Rattle.cycle_rules.specs.Below.{all_below}
use Rattle.cycle_rules.specs.Dispatch.{share}
use Rattle.cycle_rules.specs.Given.{row_in, size_in}
use Rattle.cycle_rules.specs.Row.{times}
use Rattle.cycle_rules.proofs.room.all_let_join.Given as goal

abbrev pub invariant-loop-k : goal.invariant-loop-k
invariant-loop-k l = all_below l.k (λ k. not (row_in l.given.body.now k).ends_group || nat_eq (share l.width (size_in l.given.body.now l.reorder k) (times l.given.rows.now k).dispatch l.c) 0) ≡ true

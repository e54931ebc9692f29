use Rattle.std.proofs.Common.{◌≡◌, ℕ, drop}
use Rattle.cycle_rules.specs.Given.{later_place}
use Rattle.cycle_rules.specs.Pick.{place_after, taken_by}
use Rattle.cycle_rules.proofs.finds.place_among.Given as goal

abbrev pub invariant-loop-i : goal.invariant-loop-i
invariant-loop-i l = (from : ℕ) → place_after l.resource (taken_by from l.uses l.taken) ≡ later_place l.place (place_after l.resource (taken_by from (drop l.i l.uses) (drop l.i l.taken)))

use Rattle.std.proofs.Common.{◌≡◌, ◌*◌, ◌-◌, ◌≤◌, length, true}
use Rattle.engine_steps.specs.Readers.{IsAppended, names_place}
use Rattle.engine_steps.proofs.readers.Chains.list.Given as goal

abbrev pub invariant-loop-at : goal.invariant-loop-at
invariant-loop-at l = record {
  within : l.at ≤ 2 * length l.links;
  names : (l.at ≡ 0 → ⊥) → names_place l.links l.place (l.at - 1) ≡ true;
  appended : IsAppended l.links l.place l.at l.fn.later.items l.later.items;
}

abbrev pub decreases-loop-at : goal.decreases-loop-at
decreases-loop-at l = l.at

use Rattle.std.proofs.Common.{◌≡◌, ◌&&◌, drop}
use Rattle.std.specs.Prelude.{nat_eq}
use Rattle.std.specs.List.{list_any}
use Rattle.cycle_rules.specs.Pick.{holds_at, taken_by}
use Rattle.cycle_rules.proofs.finds.one_holds.Given as goal

abbrev pub invariant-loop-i : goal.invariant-loop-i
invariant-loop-i l = list_any (λ h. nat_eq h.unit l.unit && holds_at l.c h) (taken_by l.from l.uses l.taken) ≡ list_any (λ h. nat_eq h.unit l.unit && holds_at l.c h) (taken_by l.from (drop l.i l.uses) (drop l.i l.taken))

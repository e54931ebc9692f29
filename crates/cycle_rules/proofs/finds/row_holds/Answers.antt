use Rattle.std.proofs.Common.{◌≡◌, true, false, ◌&&◌, rules, ap, sym, ◌∙◌}
use Rattle.std.specs.Prelude.{nat_eq}
use Rattle.std.specs.List.{list_any}
use Rattle.cycle_rules.specs.Pick.{holds_at, taken_by}
use Rattle.cycle_rules.specs.Row.{Row}
use Rattle.cycle_rules.proofs.Earlier.{and_is, and_not}
use Rattle.cycle_rules.proofs.finds.row_holds.Goals as goal

pub returns-then-not-has_issued : goal.returns-then-not-has_issued
returns-then-not-has_issued c = λ m. and_not _ _ (sym (c.has_issued.ensures m) ∙ (let e : c.has_issued.result ≡ false = search rules in e))

pub returns : goal.returns
returns c = λ m. c.one_holds.ensures
    ∙ (λ i. list_any (λ h. nat_eq h.unit c.args.unit && holds_at c.args.at.cycle h) (taken_by (c.time-time.ensures i).issue ((c.used_by.ensures ∙ ap (λ (r : Row). r.uses) c.row.ensures.row) i) (c.time-time.ensures i).units))
    ∙ and_is _ _ (sym (c.has_issued.ensures m) ∙ (let e : c.has_issued.result ≡ true = search rules in e))

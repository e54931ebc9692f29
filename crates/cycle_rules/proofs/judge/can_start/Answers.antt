use Rattle.std.proofs.Common.{◌≡◌, true, false, rules, sym, ◌∙◌}
use Rattle.cycle_rules.proofs.Judging.{start_no_operands, start_no_access, start_by_units, some_is}
use Rattle.cycle_rules.proofs.judge.can_start.Goals as goal

pub returns-then-not-has_operands : goal.returns-then-not-has_operands
returns-then-not-has_operands g c = start_no_operands _ _ _ _ (sym c.has_operands.ensures ∙ (let e : c.has_operands.result ≡ false = search rules in e))

pub returns-then-not-may_access : goal.returns-then-not-may_access
returns-then-not-may_access g c = start_no_access _ _ _ _ (sym c.has_operands.ensures ∙ (let e : c.has_operands.result ≡ true = search rules in e)) (sym c.may_access.ensures ∙ (let e : c.may_access.result ≡ false = search rules in e))

pub returns : goal.returns
returns g c = start_by_units _ _ _ _ _ (sym c.has_operands.ensures ∙ (let e : c.has_operands.result ≡ true = search rules in e)) (sym c.may_access.ensures ∙ (let e : c.may_access.result ≡ true = search rules in e))
    (some_is c.pick.result _ _ c.is_some.ensures c.pick.ensures.none c.pick.ensures.some)

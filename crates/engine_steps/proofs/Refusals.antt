-- A row whose one resource has no unit left does not issue in the rest of the phase.
use Rattle.std.proofs.Common.{◌≡◌, ℕ, List, [], ◌++◌, inl, inr, sym, ◌∙◌, ap, subst, refl, Bool, true, false, ◌&&◌, ◌||◌, arith}
use Rattle.std.specs.Prelude.{Option, Some, None, is_some, nat_eq, nat_lt}
use Rattle.std.proofs.lemmas.Bool.{cases_eq, both_ways}
use Rattle.std.proofs.lemmas.Bool.Decides.{nat_tests}
use Rattle.machine_model.specs.Meaning.{MachineMeaning}
use Rattle.unit_sets.specs.Members.{in_word}
use Rattle.cycle_rules.specs.Issue.{has_operands, may_access, can_start, can_issue}
use Rattle.cycle_rules.specs.Pick.{Taken, pick, pick_unit, pick_units, prepend}
use Rattle.cycle_rules.specs.Row.{Row, Input, Table}
use Rattle.cycle_rules.specs.declared.times.Times.{Times}
use Rattle.engine_state.specs.State.{now, taken_now}
use Rattle.event_rules.proofs.Blocked.{blocked_stays}
use Rattle.engine_steps.specs.Refused.{AreRefused, HasOneUse}

no_units : (m : MachineMeaning) (taken : List Taken) (c r : ℕ) (row : Row) → HasOneUse row r → pick_unit m taken c r ≡ None → pick_units m taken c row.uses ≡ None
unfolding pick_units
no_units m taken c r row one none =
    let unit : pick_unit m taken c one.use_of.resource ≡ None = ap (pick_unit m taken c) one.resource ∙ none in
    rw (one.uses, one.holds, unit) refl

pub one_unit : (m : MachineMeaning) (taken : List Taken) (c r : ℕ) (row : Row) → HasOneUse row r → is_some (pick_units m taken c row.uses) ≡ false → pick_unit m taken c r ≡ None
unfolding pick_units
one_unit m taken c r row one none = ap (pick_unit m taken c) (sym one.resource) ∙ single (pick_unit m taken c one.use_of.resource) (rw (one.uses, one.holds) at none)
  where
    single : (o : Option ℕ) → is_some (prepend o (λ u. Some [])) ≡ false → o ≡ None
    single None e = refl
    single (Some u) e = cc

not_issues : (g : Input) (t : Table) (j c : ℕ) → pick g t j c ≡ None → can_issue g t j c ≡ false
unfolding can_issue can_start
not_issues g t j c none = rw none (and_false (nat_lt (t j).dispatch c) (has_operands g t j c) (may_access g t j c))
  where
    and_false : (a b d : Bool) → (a && (b && d && false)) ≡ false
    and_false true true true = refl
    and_false true true false = refl
    and_false true false d = refl
    and_false false b d = refl

pub refused_waits : (g : Input) (c j r : ℕ) (xs : List Times) → HasOneUse (g.row j) r → pick_unit g.machine (taken_now g c xs) c r ≡ None → can_issue g (now g c xs) j c ≡ false
unfolding pick
refused_waits g c j r xs one none = not_issues g (now g c xs) j c (no_units g.machine (taken_now g c xs) c r (g.row j) one none)

-- more units are taken
pub refused_grow : (m : MachineMeaning) (taken more : List Taken) (c refused : ℕ) → AreRefused m taken c refused → AreRefused m (taken ++ more) c refused
refused_grow m taken more c refused h = record { none = λ r is. blocked_stays m taken more c r (h.none r is); others = h.others }

-- at first none is
pub refused_none : (m : MachineMeaning) (taken : List Taken) (c refused : ℕ) → ((r : ℕ) → in_word refused r ≡ false) → AreRefused m taken c refused
refused_none m taken c refused empty = record { none = λ r is. absurd (both_ways _ (empty r) is); others = empty 63 }

-- one resource more
pub refused_more : (m : MachineMeaning) (taken : List Taken) (c a b r : ℕ) → AreRefused m taken c a → pick_unit m taken c r ≡ None → (r ≡ 63 → ⊥) → ((v : ℕ) → in_word b v ≡ (nat_eq v r || in_word a v)) → AreRefused m taken c b
refused_more m taken c a b r h none class is = record {
  none = λ v in_b. elim (cases_eq v r) [
    | inl here ↦ subst (λ x. pick_unit m taken c x ≡ None) (sym here) none
    | inr ne ↦ (let test : nat_eq v r ≡ false = grind (arith, nat_tests, ne) in h.none v (sym (rw test at (is v)) ∙ in_b))
  ];
  others = (let test : nat_eq 63 r ≡ false = grind (arith, nat_tests, class) in is 63 ∙ rw test h.others);
}

-- What the events of a row do to the list of the uses that took units.
use Rattle.std.proofs.Common.{◌≡◌, ℕ, ◌<◌, inl, inr, List, [], ◌++◌, length, set, arith, sym, ◌∙◌, ap, subst, refl, Bool, true, false, append-nil}
use Rattle.std.specs.Prelude.{if◌then◌else◌, Some, None}
use Rattle.std.proofs.lemmas.Bool.{cases_eq}
use Rattle.cycle_rules.specs.Schedule.{event}
use Rattle.cycle_rules.specs.Row.{Row, Input, times, phase}
use Rattle.cycle_rules.specs.Pick.{taken_by}
use Rattle.cycle_rules.specs.declared.times.Times.{Times}
use Rattle.cycle_rules.proofs.Rows.{phase_reserved, phase_free}
use Rattle.cycle_rules.proofs.Sees.{choose_true, choose_false}
use Rattle.engine_state.specs.State.{never, if_known, recorded_in, recorded, taken_now, at, IsState}
use Rattle.engine_state.specs.Writes.{IsRetired, IsIssued, IsIssuedWith, IsDispatched}
use Rattle.engine_state.proofs.State.{recorded_row, times_set_other, times_set_same}
use Rattle.engine_state.proofs.Turn.{known_is_some, never_is_none}
use Rattle.engine_state.proofs.Taken.{phase_low, phase_cases, taken_grows, taken_keeps}

-- where what a row issued stays, so does the list
issue_stays : (g : Input) (c j : ℕ) (xs : List Times) (v : Times) → length xs ≡ g.rows → j < g.rows → recorded_in (g.row j) v (phase (g.row j)) ≡ recorded_in (g.row j) (times xs j) (phase (g.row j)) → taken_now g c (set xs j v) ≡ taken_now g c xs
issue_stays g c j xs v long lt same = taken_keeps g c xs (set xs j v) (λ k low.
    recorded_row g (set xs j v) (phase (g.row k)) k (phase_low (g.row k)) low ∙ row k ∙ sym (recorded_row g xs (phase (g.row k)) k (phase_low (g.row k)) low))
  where
    row : (k : ℕ) → recorded_in (g.row k) (times (set xs j v) k) (phase (g.row k)) ≡ recorded_in (g.row k) (times xs k) (phase (g.row k))
    row k = elim (cases_eq k j) [
      | inl here ↦ subst (λ i. recorded_in (g.row i) (times (set xs j v) i) (phase (g.row i)) ≡ recorded_in (g.row i) (times xs i) (phase (g.row i))) (sym here)
          (ap (λ t. recorded_in (g.row j) t (phase (g.row j))) (times_set_same xs j v (omega (arith, long, lt))) ∙ same)
      | inr ne ↦ ap (λ t. recorded_in (g.row k) t (phase (g.row k))) (times_set_other xs j k v ne)
    ]

-- a row retires
same_issue : (b : Row) (s t : Times) → s.dispatch ≡ t.dispatch → s.issue ≡ t.issue → s.units ≡ t.units → recorded_in b s (phase b) ≡ recorded_in b t (phase b)
same_issue b s t d i u = elim (phase_cases b) [ inl one ↦ rw one (rw (i, u) refl) | inr two ↦ rw two (rw (d, u) refl) ]

pub taken_retires : (g : Input) (c j : ℕ) (xs : List Times) (v : Times) → length xs ≡ g.rows → j < g.rows → IsRetired xs j c v → taken_now g c (set xs j v) ≡ taken_now g c xs
taken_retires g c j xs v long lt w = issue_stays g c j xs v long lt (same_issue (g.row j) v (times xs j) w.dispatch w.issue w.units)

-- a row issues by its own event
pub taken_issues : (g : Input) (c j : ℕ) (xs : List Times) (v : Times) → IsState g (at g c 1 j) xs → j < g.rows → c < never → (g.row j).reserved ≡ false → (times xs j).issue ≡ never → IsIssued g xs j c v
    → taken_now g c (set xs j v) ≡ taken_now g c xs ++ taken_by c (g.row j).uses v.units
taken_issues g c j xs v s lt low free none w = taken_grows g c j xs v v.units (subst (λ p. IsState g (at g c p j) xs) (sym one) s) lt
    (subst (λ p. recorded g xs (event g.rows p j) ≡ None) (sym one) before) (subst (λ p. recorded g (set xs j v) (event g.rows p j) ≡ Some (record { cycle = c; what = v.units })) (sym one) after)
  where
    one : phase (g.row j) ≡ 1
    one = phase_free (g.row j) free

    before : recorded g xs (event g.rows 1 j) ≡ None
    before = recorded_row g xs 1 j (omega arith) lt ∙ choose_false (g.row j).reserved None (if_known (times xs j).issue (times xs j).units) free ∙ never_is_none (times xs j).issue (times xs j).units none

    after : recorded g (set xs j v) (event g.rows 1 j) ≡ Some (record { cycle = c; what = v.units })
    after = recorded_row g (set xs j v) 1 j (omega arith) lt ∙ ap (λ t. recorded_in (g.row j) t 1) (times_set_same xs j v (omega (arith, s.rows, lt)))
        ∙ choose_false (g.row j).reserved None (if_known v.issue v.units) free ∙ known_is_some v.issue v.units (λ e. omega (arith, e, w.issue, low)) ∙ ap (λ n. Some (record { cycle = n; what = v.units })) w.issue

-- a row dispatches, and issues with it where it is reserved
pub taken_dispatches : (g : Input) (c j : ℕ) (xs : List Times) (v : Times) → IsState g (at g c 2 j) xs → j < g.rows → c < never → (times xs j).dispatch ≡ never → IsDispatched g xs j c v
    → taken_now g c (set xs j v) ≡ taken_now g c xs ++ (if (g.row j).reserved then taken_by c (g.row j).uses v.units else [])
taken_dispatches g c j xs v s lt low none w = go (g.row j).reserved refl w.issue
  where
    before : recorded g xs (event g.rows 2 j) ≡ None
    before = recorded_row g xs 2 j (omega arith) lt ∙ never_is_none (times xs j).dispatch (if (g.row j).reserved then (times xs j).units else []) none

    after : (g.row j).reserved ≡ true → recorded g (set xs j v) (event g.rows 2 j) ≡ Some (record { cycle = c; what = v.units })
    after is = recorded_row g (set xs j v) 2 j (omega arith) lt ∙ ap (λ t. recorded_in (g.row j) t 2) (times_set_same xs j v (omega (arith, s.rows, lt)))
        ∙ ap (if_known v.dispatch) (choose_true (g.row j).reserved v.units [] is) ∙ known_is_some v.dispatch v.units (λ e. omega (arith, e, w.dispatch, low)) ∙ ap (λ n. Some (record { cycle = n; what = v.units })) w.dispatch

    stays : (g.row j).reserved ≡ false → v.issue ≡ (times xs j).issue → v.units ≡ (times xs j).units → recorded_in (g.row j) v (phase (g.row j)) ≡ recorded_in (g.row j) (times xs j) (phase (g.row j))
    stays free i u = subst (λ p. recorded_in (g.row j) v p ≡ recorded_in (g.row j) (times xs j) p) (sym (phase_free (g.row j) free)) (rw (i, u) refl)

    go : (b : Bool) → (g.row j).reserved ≡ b → IsIssuedWith g xs j c v b → taken_now g c (set xs j v) ≡ taken_now g c xs ++ (if b then taken_by c (g.row j).uses v.units else [])
    go true is h = taken_grows g c j xs v v.units (subst (λ p. IsState g (at g c p j) xs) (sym (phase_reserved (g.row j) is)) s) lt
        (subst (λ p. recorded g xs (event g.rows p j) ≡ None) (sym (phase_reserved (g.row j) is)) before)
        (subst (λ p. recorded g (set xs j v) (event g.rows p j) ≡ Some (record { cycle = c; what = v.units })) (sym (phase_reserved (g.row j) is)) (after is))
    go false free h = issue_stays g c j xs v s.rows lt (stays free h.0 h.2) ∙ sym (append-nil (taken_now g c xs))

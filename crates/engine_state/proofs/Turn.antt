-- The events of a cycle in turn: one that falls is written, one that does not changes nothing.
use Rattle.std.proofs.Common.{zero, suc, ◌≡◌, ℕ, ◌+◌, ◌<◌, inl, inr, List, [], set, get_or, arith, sym, ◌∙◌, ap, refl, Bool, true, false, ◌&&◌, not}
use Rattle.std.specs.Prelude.{nat_eq, if◌then◌else◌, Option, Some, None}
use Rattle.std.proofs.lemmas.Bool.Decides.{nat_tests}
use Rattle.std.proofs.lemmas.Bool.{cases_eq}
use Rattle.std.proofs.lemmas.List.{get_or_default}
use Rattle.cycle_rules.specs.Schedule.{Fall}
use Rattle.cycle_rules.specs.Row.{Input, times, no_times}
use Rattle.cycle_rules.specs.Pick.{pick, padded}
use Rattle.cycle_rules.specs.Dispatch.{can_dispatch}
use Rattle.cycle_rules.specs.Issue.{can_issue}
use Rattle.cycle_rules.specs.Retire.{can_retire}
use Rattle.engine_state.specs.State.{never, if_known, recorded_in, recorded, now, at, IsState}
use Rattle.cycle_rules.specs.declared.times.Times.{Times}
use Rattle.cycle_rules.proofs.Rows.{phase_reserved, phase_free, phase_some, takes_units, takes_none}
use Rattle.cycle_rules.proofs.Sees.{choose_true, choose_false}
use Rattle.engine_state.proofs.State.{state_keeps, state_writes}

-- a time that is recorded is a number, and never is none
pub none_is_never : (c : ℕ) (what : List ℕ) → if_known c what ≡ None → c ≡ never
none_is_never c what e = elim (cases_eq c never) [ inl is ↦ is | inr ne ↦ (let test : nat_eq c never ≡ false = grind (arith, nat_tests, ne) in absurd (not_none (rw test at e))) ]
  where
    not_none : ◌≡◌ {A = Option (Fall (List ℕ))} (Some (record { cycle = c; what = what })) None → ⊥
    not_none h = cc

pub known_is_some : (c : ℕ) (what : List ℕ) → (c ≡ never → ⊥) → if_known c what ≡ Some (record { cycle = c; what = what })
known_is_some c what ne = let test : nat_eq c never ≡ false = grind (arith, nat_tests, ne) in rw test refl

pub never_is_none : (c : ℕ) (what : List ℕ) → c ≡ never → if_known c what ≡ None
never_is_none c what e = let test : nat_eq c never ≡ true = grind (arith, nat_tests) in rw test refl

-- An event that is recorded, or may not fall now

pub retire_keeps : (g : Input) (c j : ℕ) (xs : List Times) → IsState g (at g c 0 j) xs → j < g.rows → ((times xs j).retire ≡ never → can_retire g (now g c xs) j c ≡ false) → IsState g (at g c 0 (j + 1)) xs
retire_keeps g c j xs h lt refused = state_keeps g c 0 j xs h (omega arith) lt (λ none. refused (none_is_never (times xs j).retire [] none))

issue_refused : (g : Input) (c j : ℕ) (xs : List Times) (b : Bool) → (b ≡ false → (times xs j).issue ≡ never → can_issue g (now g c xs) j c ≡ false)
    → (if b then None else if_known (times xs j).issue (times xs j).units) ≡ None → (not b && can_issue g (now g c xs) j c) ≡ false
issue_refused g c j xs true refused none = refl
issue_refused g c j xs false refused none = refused refl (none_is_never (times xs j).issue (times xs j).units none)

pub issue_keeps : (g : Input) (c j : ℕ) (xs : List Times) → IsState g (at g c 1 j) xs → j < g.rows
    → ((g.row j).reserved ≡ false → (times xs j).issue ≡ never → can_issue g (now g c xs) j c ≡ false) → IsState g (at g c 1 (j + 1)) xs
issue_keeps g c j xs h lt refused = state_keeps g c 1 j xs h (omega arith) lt (issue_refused g c j xs (g.row j).reserved refused)

pub dispatch_keeps : (g : Input) (c j : ℕ) (xs : List Times) → IsState g (at g c 2 j) xs → j < g.rows → ((times xs j).dispatch ≡ never → can_dispatch g (now g c xs) j c ≡ false) → IsState g (at g c 2 (j + 1)) xs
dispatch_keeps g c j xs h lt refused = state_keeps g c 2 j xs h (omega arith) lt (λ none. refused (none_is_never (times xs j).dispatch (if (g.row j).reserved then (times xs j).units else []) none))

-- An event that is not recorded and may fall now

fall_is : (a c : ℕ) (x y : List ℕ) → c < never → a ≡ c → x ≡ y → if_known a x ≡ Some (record { cycle = c; what = y })
fall_is a c x y low e f = known_is_some a x (λ n. omega (arith, n, e, low)) ∙ ap Some (λ i. record { cycle = e i; what = f i })

-- what is recorded of a row whose times stay, by phase
same_issue : (b : Bool) (s t : Times) → s.issue ≡ t.issue → s.units ≡ t.units → (if b then None else if_known s.issue s.units) ≡ (if b then None else if_known t.issue t.units)
same_issue b s t i u = rw (i, u) refl

same_dispatch : (b : Bool) (s t : Times) → s.dispatch ≡ t.dispatch → s.units ≡ t.units → if_known s.dispatch (if b then s.units else []) ≡ if_known t.dispatch (if b then t.units else [])
same_dispatch b s t d u = rw (d, u) refl

pub retire_writes : (g : Input) (c j : ℕ) (xs : List Times) (v : Times) → IsState g (at g c 0 j) xs → j < g.rows → c < never
    → (times xs j).retire ≡ never → can_retire g (now g c xs) j c ≡ true
    → v.dispatch ≡ (times xs j).dispatch → v.issue ≡ (times xs j).issue → v.complete ≡ (times xs j).complete → v.units ≡ (times xs j).units → v.retire ≡ c
    → IsState g (at g c 0 (j + 1)) (set xs j v)
retire_writes g c j xs v h lt low open_now can d i w u r = state_writes g c 0 j xs v h (omega arith) lt (never_is_none (times xs j).retire [] open_now) can
    (fall_is v.retire c [] _ low r (sym (takes_none g (recorded g xs) c 0 j (λ e. omega (arith, phase_some (g.row j), e))))) others
    (record { together = λ is. i ∙ (h.kept j lt).together is ∙ sym d; complete = λ ne. w ∙ (h.kept j lt).complete (λ n. ne (i ∙ n)) ∙ ap (λ n. n + (g.row j).latency) (sym i) })
  where
    others : (q : ℕ) → q < 3 → (q ≡ 0 → ⊥) → recorded_in (g.row j) v q ≡ recorded_in (g.row j) (times xs j) q
    others zero lq ne = absurd (ne refl)
    others (suc zero) lq ne = same_issue (g.row j).reserved v (times xs j) i u
    others (suc (suc q)) lq ne = same_dispatch (g.row j).reserved v (times xs j) d u

pub issue_writes : (g : Input) (c j : ℕ) (xs : List Times) (v : Times) → IsState g (at g c 1 j) xs → j < g.rows → c < never
    → (g.row j).reserved ≡ false → (times xs j).issue ≡ never → can_issue g (now g c xs) j c ≡ true
    → v.dispatch ≡ (times xs j).dispatch → v.issue ≡ c → v.complete ≡ c + (g.row j).latency → v.units ≡ padded (pick g (now g c xs) j c) → v.retire ≡ (times xs j).retire
    → IsState g (at g c 1 (j + 1)) (set xs j v)
issue_writes g c j xs v h lt low free open_now can d i w u r = state_writes g c 1 j xs v h (omega arith) lt
    (rw free (never_is_none (times xs j).issue (times xs j).units open_now)) (rw free can)
    (choose_false (g.row j).reserved None (if_known v.issue v.units) free ∙ fall_is v.issue c v.units _ low i (u ∙ sym (takes_units g (recorded g xs) c 1 j (sym (phase_free (g.row j) free))))) others
    (record { together = λ is. absurd (apart (sym is ∙ free)); complete = λ ne. w ∙ ap (λ n. n + (g.row j).latency) (sym i) })
  where
    apart : true ≡ false → ⊥
    apart e = cc

    others : (q : ℕ) → q < 3 → (q ≡ 1 → ⊥) → recorded_in (g.row j) v q ≡ recorded_in (g.row j) (times xs j) q
    others zero lq ne = ap (λ n. if_known n []) r
    others (suc zero) lq ne = absurd (ne refl)
    others (suc (suc q)) lq ne = rw (free, d) refl

pub dispatch_writes : (g : Input) (c j : ℕ) (xs : List Times) (v : Times) → IsState g (at g c 2 j) xs → j < g.rows → c < never
    → (g.row j).reserved ≡ false → (times xs j).dispatch ≡ never → can_dispatch g (now g c xs) j c ≡ true
    → v.dispatch ≡ c → v.issue ≡ (times xs j).issue → v.complete ≡ (times xs j).complete → v.units ≡ (times xs j).units → v.retire ≡ (times xs j).retire
    → IsState g (at g c 2 (j + 1)) (set xs j v)
dispatch_writes g c j xs v h lt low free open_now can d i w u r = state_writes g c 2 j xs v h (omega arith) lt
    (never_is_none (times xs j).dispatch (if (g.row j).reserved then (times xs j).units else []) open_now) can
    (fall_is v.dispatch c (if (g.row j).reserved then v.units else []) _ low d (choose_false (g.row j).reserved v.units [] free ∙ sym (takes_none g (recorded g xs) c 2 j (λ e. omega (arith, phase_free (g.row j) free, e))))) others
    (record { together = λ is. absurd (apart (sym is ∙ free)); complete = λ ne. w ∙ (h.kept j lt).complete (λ n. ne (i ∙ n)) ∙ ap (λ n. n + (g.row j).latency) (sym i) })
  where
    apart : true ≡ false → ⊥
    apart e = cc

    others : (q : ℕ) → q < 3 → (q ≡ 2 → ⊥) → recorded_in (g.row j) v q ≡ recorded_in (g.row j) (times xs j) q
    others zero lq ne = ap (λ n. if_known n []) r
    others (suc zero) lq ne = same_issue (g.row j).reserved v (times xs j) i u
    others (suc (suc zero)) lq ne = absurd (ne refl)
    others (suc (suc (suc q))) lq ne = absurd (omega arith)

pub dispatch_issues : (g : Input) (c j : ℕ) (xs : List Times) (v : Times) → IsState g (at g c 2 j) xs → j < g.rows → c < never
    → (g.row j).reserved ≡ true → (times xs j).dispatch ≡ never → can_dispatch g (now g c xs) j c ≡ true
    → v.dispatch ≡ c → v.issue ≡ c → v.complete ≡ c + (g.row j).latency → v.units ≡ padded (pick g (now g c xs) j c) → v.retire ≡ (times xs j).retire
    → IsState g (at g c 2 (j + 1)) (set xs j v)
dispatch_issues g c j xs v h lt low is open_now can d i w u r = state_writes g c 2 j xs v h (omega arith) lt
    (never_is_none (times xs j).dispatch (if (g.row j).reserved then (times xs j).units else []) open_now) can
    (fall_is v.dispatch c (if (g.row j).reserved then v.units else []) _ low d (choose_true (g.row j).reserved v.units [] is ∙ u ∙ sym (takes_units g (recorded g xs) c 2 j (sym (phase_reserved (g.row j) is))))) others
    (record { together = λ _. i ∙ sym d; complete = λ ne. w ∙ ap (λ n. n + (g.row j).latency) (sym i) })
  where
    others : (q : ℕ) → q < 3 → (q ≡ 2 → ⊥) → recorded_in (g.row j) v q ≡ recorded_in (g.row j) (times xs j) q
    others zero lq ne = ap (λ n. if_known n []) r
    others (suc zero) lq ne = rw is refl
    others (suc (suc zero)) lq ne = absurd (ne refl)
    others (suc (suc (suc q))) lq ne = absurd (omega arith)

pub read_row : (g : Input) (k : ℕ) (xs : List Times) (j : ℕ) (v : Times) → IsState g k xs → j < g.rows → v ≡ get_or xs j v → v ≡ times xs j
read_row g k xs j v h lt e = e ∙ get_or_default xs j v no_times (omega (arith, h.rows))

pub not_true : (b : Bool) → b ≡ false → b ≡ true → ⊥
not_true b p q = cc

-- What is recorded of a row, and which times it sets.
use Rattle.std.proofs.Common.{◌≡◌, ℕ, ◌+◌, ◌<◌, inl, inr, List, [], ◌∷◌, ◌++◌, arith, sym, ◌∙◌, ap, refl, Bool, true, false, not, ◌||◌}
use Rattle.std.specs.Prelude.{nat_eq, if◌then◌else◌, Option, Some, None}
use Rattle.std.specs.List.{list_any}
use Rattle.std.proofs.lemmas.Bool.Decides.{nat_tests}
use Rattle.std.proofs.lemmas.Bool.{cases_eq}
use Rattle.std.proofs.lemmas.List.Folds.{list_any-append}
use Rattle.cycle_rules.specs.Row.{Input, times, phase}
use Rattle.cycle_rules.specs.Schedule.{Fall, Known}
use Rattle.cycle_rules.specs.Events.{known_of}
use Rattle.cycle_rules.specs.declared.times.Times.{Times}
use Rattle.cycle_rules.proofs.Sees.{known_in}
use Rattle.engine_state.specs.State.{never, if_known, recorded, IsWritten}
use Rattle.engine_state.proofs.State.{recorded_row}
use Rattle.engine_state.proofs.Turn.{known_is_some, never_is_none}
use Rattle.event_rules.specs.Due.{following, listed, changes, dispatch_sets, issue_sets, all_times, ready_from}
use Rattle.event_rules.proofs.Turns.{fails_some}
use Rattle.engine_steps.proofs.Wakes.{row_issue}
use Rattle.event_engine.specs.Tells.{is_time}

-- What is recorded

pub row_dispatch : (g : Input) (k : ℕ) (xs : List Times) → k < g.rows → known_of g (recorded g xs) 2 k ≡ if_known (times xs k).dispatch (if (g.row k).reserved then (times xs k).units else [])
row_dispatch g k xs lt = known_in g (recorded g xs) 2 k lt ∙ recorded_row g xs 2 k (omega arith) lt

pub row_retire : (g : Input) (k : ℕ) (xs : List Times) → k < g.rows → known_of g (recorded g xs) 0 k ≡ if_known (times xs k).retire []
row_retire g k xs lt = known_in g (recorded g xs) 0 k lt ∙ recorded_row g xs 0 k (omega arith) lt

-- the time of an event that is known
pub record IsAt (time : ℕ) (f : Fall (List ℕ)) : Type 0 where
  pub is : time ≡ f.cycle
  pub some : time ≡ never → ⊥

known_at : (t : ℕ) (w : List ℕ) (f : Fall (List ℕ)) → if_known t w ≡ Some f → IsAt t f
known_at t w f e = elim (cases_eq t never) [
  | inl none ↦ absurd (nothing f (sym (never_is_none t w none) ∙ e))
  | inr ne ↦ record { is = same (record { cycle = t; what = w }) f (sym (known_is_some t w ne) ∙ e); some = ne }
]
  where
    nothing : (f : Fall (List ℕ)) → None ≡ Some f → ⊥
    nothing f e = cc

    same : (a b : Fall (List ℕ)) → Some a ≡ Some b → a.cycle ≡ b.cycle
    same a b e = let s : a ≡ b = cc in ap (λ (x : Fall (List ℕ)). x.cycle) s

pub dispatch_at : (g : Input) (k : ℕ) (xs : List Times) (f : Fall (List ℕ)) → k < g.rows → known_of g (recorded g xs) 2 k ≡ Some f → IsAt (times xs k).dispatch f
dispatch_at g k xs f lt is = known_at _ _ f (sym (row_dispatch g k xs lt) ∙ is)

pub retire_at : (g : Input) (k : ℕ) (xs : List Times) (f : Fall (List ℕ)) → k < g.rows → known_of g (recorded g xs) 0 k ≡ Some f → IsAt (times xs k).retire f
retire_at g k xs f lt is = known_at _ _ f (sym (row_retire g k xs lt) ∙ is)

pub issue_at : (g : Input) (k : ℕ) (xs : List Times) (f : Fall (List ℕ)) → k < g.rows → IsWritten (g.row k) (times xs k) → known_of g (recorded g xs) (phase (g.row k)) k ≡ Some f → IsAt (times xs k).issue f
issue_at g k xs f lt kept is = known_at _ _ f (sym (row_issue g k xs lt kept) ∙ is)

pub complete_at : (g : Input) (k : ℕ) (xs : List Times) (f : Fall (List ℕ)) → k < g.rows → IsWritten (g.row k) (times xs k) → known_of g (recorded g xs) (phase (g.row k)) k ≡ Some f → (times xs k).complete ≡ f.cycle + (g.row k).latency
complete_at g k xs f lt kept is = let at : IsAt (times xs k).issue f = issue_at g k xs f lt kept is in kept.complete at.some ∙ ap (λ n. n + (g.row k).latency) at.is

pub unissued_none : (g : Input) (k : ℕ) (xs : List Times) → k < g.rows → IsWritten (g.row k) (times xs k) → (times xs k).issue ≡ never → known_of g (recorded g xs) (phase (g.row k)) k ≡ None
unissued_none g k xs lt kept none = row_issue g k xs lt kept ∙ never_is_none (times xs k).issue (times xs k).units none

pub issued_some : (g : Input) (k : ℕ) (xs : List Times) → k < g.rows → IsWritten (g.row k) (times xs k) → ((times xs k).issue ≡ never → ⊥) → known_of g (recorded g xs) (phase (g.row k)) k ≡ Some (record { cycle = (times xs k).issue; what = (times xs k).units })
issued_some g k xs lt kept ne = row_issue g k xs lt kept ∙ known_is_some (times xs k).issue (times xs k).units ne

-- an event that is known is none that is not
pub not_none : {o : Option (Fall (List ℕ))} {f : Fall (List ℕ)} → o ≡ None → o ≡ Some f → ⊥
not_none p q = cc

-- The times that a row sets

or_first : (a b : Bool) → a ≡ true → (a || b) ≡ true
or_first a b e = rw e refl

or_second : (a b : Bool) → b ≡ true → (a || b) ≡ true
or_second true b e = refl
or_second false b e = e

pub set_dispatch : (g : Input) (known : Known (List ℕ)) (k x : ℕ) (f : Fall (List ℕ)) → known_of g known 2 k ≡ Some f → list_any (nat_eq x) (dispatch_sets g k f.cycle) ≡ true → list_any (nat_eq x) (all_times g known k) ≡ true
unfolding all_times
set_dispatch g known k x f is here = parts (following (known_of g known 2 k) (dispatch_sets g k)) (following (known_of g known (phase (g.row k)) k) (issue_sets g k)) (following (known_of g known 0 k) (λ t. (t + 1) ∷ [])) (listed (ready_from g known k)) (rw is here)
  where
    parts : (a b d e : List ℕ) → list_any (nat_eq x) a ≡ true → list_any (nat_eq x) (a ++ b ++ d ++ e) ≡ true
    parts a b d e h = list_any-append (nat_eq x) (a ++ b ++ d) e ∙ or_first _ _ (list_any-append (nat_eq x) (a ++ b) d ∙ or_first _ _ (list_any-append (nat_eq x) a b ∙ or_first _ _ h))

pub set_issue : (g : Input) (known : Known (List ℕ)) (k x : ℕ) (f : Fall (List ℕ)) → known_of g known (phase (g.row k)) k ≡ Some f → list_any (nat_eq x) (issue_sets g k f.cycle) ≡ true → list_any (nat_eq x) (all_times g known k) ≡ true
unfolding all_times
set_issue g known k x f is here = parts (following (known_of g known 2 k) (dispatch_sets g k)) (following (known_of g known (phase (g.row k)) k) (issue_sets g k)) (following (known_of g known 0 k) (λ t. (t + 1) ∷ [])) (listed (ready_from g known k)) (rw is here)
  where
    parts : (a b d e : List ℕ) → list_any (nat_eq x) b ≡ true → list_any (nat_eq x) (a ++ b ++ d ++ e) ≡ true
    parts a b d e h = list_any-append (nat_eq x) (a ++ b ++ d) e ∙ or_first _ _ (list_any-append (nat_eq x) (a ++ b) d ∙ or_first _ _ (list_any-append (nat_eq x) a b ∙ or_second _ _ h))

pub set_ready : (g : Input) (known : Known (List ℕ)) (k x : ℕ) → ready_from g known k ≡ Some x → list_any (nat_eq x) (all_times g known k) ≡ true
unfolding all_times
set_ready g known k x is = parts (following (known_of g known 2 k) (dispatch_sets g k)) (following (known_of g known (phase (g.row k)) k) (issue_sets g k)) (following (known_of g known 0 k) (λ t. (t + 1) ∷ [])) (listed (ready_from g known k)) (rw is (let same : nat_eq x x ≡ true = grind (arith, nat_tests) in rw same refl))
  where
    parts : (a b d e : List ℕ) → list_any (nat_eq x) e ≡ true → list_any (nat_eq x) (a ++ b ++ d ++ e) ≡ true
    parts a b d e h = list_any-append (nat_eq x) (a ++ b ++ d) e ∙ or_second _ _ h

-- so the completion, the cycle after it, the cycles in which the share falls, and the changes of the uses are set
pub set_complete : (g : Input) (known : Known (List ℕ)) (k x : ℕ) (f : Fall (List ℕ)) → known_of g known (phase (g.row k)) k ≡ Some f → x ≡ f.cycle + (g.row k).latency → list_any (nat_eq x) (all_times g known k) ≡ true
set_complete g known k x f is e = set_issue g known k x f is (let test : nat_eq x (f.cycle + (g.row k).latency) ≡ true = grind (arith, nat_tests, e) in or_second (nat_eq x (f.cycle + 1)) _ (or_first _ _ test))

pub set_completed : (g : Input) (known : Known (List ℕ)) (k x : ℕ) (f : Fall (List ℕ)) → known_of g known (phase (g.row k)) k ≡ Some f → x ≡ f.cycle + (g.row k).latency + 1 → list_any (nat_eq x) (all_times g known k) ≡ true
set_completed g known k x f is e = set_issue g known k x f is (let test : nat_eq x (f.cycle + (g.row k).latency + 1) ≡ true = grind (arith, nat_tests, e) in or_second (nat_eq x (f.cycle + 1)) _ (or_second (nat_eq x (f.cycle + (g.row k).latency)) _ (or_first _ _ test)))

pub set_change : (g : Input) (known : Known (List ℕ)) (k x : ℕ) (f : Fall (List ℕ)) → known_of g known (phase (g.row k)) k ≡ Some f → list_any (nat_eq x) (changes f.cycle (g.row k).uses) ≡ true → list_any (nat_eq x) (all_times g known k) ≡ true
set_change g known k x f is here = set_issue g known k x f is (or_second (nat_eq x (f.cycle + 1)) _ (or_second (nat_eq x (f.cycle + (g.row k).latency)) _ (or_second (nat_eq x (f.cycle + (g.row k).latency + 1)) (list_any (nat_eq x) (changes f.cycle (g.row k).uses)) here)))

-- and so it is a time of some row
pub time_of_row : (g : Input) (known : Known (List ℕ)) (k x : ℕ) → k < g.rows → list_any (nat_eq x) (all_times g known k) ≡ true → is_time g known x ≡ true
unfolding is_time
time_of_row g known k x lt here = fails_some g.rows (λ j. not (list_any (nat_eq x) (all_times g known j))) k lt (rw here refl)

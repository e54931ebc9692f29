-- Where none of the times that the rows set falls before a cycle, an engine may go on to it.
use Rattle.std.proofs.Common.{zero, suc, ◌≡◌, ℕ, ◌+◌, ◌/◌, ◌%◌, ◌<◌, ◌≤◌, List, [], ◌∷◌, ◌++◌, arith, ◌∙◌, refl, Bool, true, false, ◌||◌}
use Rattle.std.specs.Prelude.{nat_lt, nat_eq, Option, Some, None}
use Rattle.std.specs.List.{list_any}
use Rattle.std.proofs.lemmas.Bool.Decides.{nat_tests}
use Rattle.std.proofs.lemmas.Bool.{ltb-true, ne_eqb}
use Rattle.std.proofs.lemmas.List.Folds.{list_any-append}
use Rattle.cycle_rules.specs.Below.{all_below}
use Rattle.cycle_rules.specs.Row.{Input, phase, uops_of}
use Rattle.cycle_rules.specs.Schedule.{Fall, Known, made}
use Rattle.cycle_rules.specs.Events.{events, known_of, rules_of}
use Rattle.event_rules.specs.Due.{following, only_if, is_ordered, is_front, is_waiting, dispatch_times, issue_times, due_times, none_of, ready_from, listed, is_due}
use Rattle.event_rules.specs.Clear.{Outside, IsClear, ClearCycles, SetTime}
use Rattle.event_rules.proofs.Turns.{quiet_cycles_are, set_of_row}

not_in : (y n : ℕ) → (y ≡ n → ⊥) → (nat_eq y n || false) ≡ false
not_in y n ne = rw (ne_eqb y n ne) refl

append_none : (y : ℕ) (xs ys : List ℕ) → list_any (nat_eq y) xs ≡ false → list_any (nat_eq y) ys ≡ false → list_any (nat_eq y) (xs ++ ys) ≡ false
append_none y xs ys p q = list_any-append (nat_eq y) xs ys ∙ rw (p, q) refl

following_none : (y : ℕ) (o : Option (Fall (List ℕ))) (times : ℕ → List ℕ) → ((f : Fall (List ℕ)) → o ≡ Some f → list_any (nat_eq y) (times f.cycle) ≡ false) → list_any (nat_eq y) (following o times) ≡ false
following_none y None times h = refl
following_none y (Some f) times h = h f refl

only_none : (y : ℕ) (b : Bool) (n : ℕ) → (b ≡ true → y ≡ n → ⊥) → list_any (nat_eq y) (only_if b (n ∷ [])) ≡ false
only_none y true n h = not_in y n (h refl)
only_none y false n h = refl

cons_none : (y n : ℕ) (xs : List ℕ) → (y ≡ n → ⊥) → list_any (nat_eq y) xs ≡ false → list_any (nat_eq y) (n ∷ xs) ≡ false
cons_none y n xs ne h = rw (ne_eqb y n ne, h) refl

outside : (c x n y : ℕ) → Outside c x n → c ≤ y → y < x → y ≡ n → ⊥
outside c x n y out lo hi e = omega (arith, e, lo, hi, out (omega (arith, e, lo)))

listed_none : (y : ℕ) (b : Bool) (o : Option ℕ) → (b ≡ true → (r : ℕ) → o ≡ Some r → y ≡ r → ⊥) → list_any (nat_eq y) (only_if b (listed o)) ≡ false
listed_none y true None h = refl
listed_none y true (Some r) h = not_in y r (h refl r refl)
listed_none y false o h = refl

clear_none : (g : Input) (known : Known (List ℕ)) (c x k y : ℕ) → IsClear g known c x k → c ≤ y → y < x → list_any (nat_eq y) (due_times g known k) ≡ false
unfolding due_times
clear_none g known c x k y h lo hi =
    let w : ℕ = g.machine.limits.width in let u : ℕ = uops_of g k in
    append_none y _ _ (append_none y _ _ (append_none y _ _
    (following_none y (known_of g known 2 k) (dispatch_times g k) (λ f is. cons_none y (f.cycle + 1) _ (outside c x _ y (h.dispatched f is) lo hi)
    (append_none y _ _ (only_none y (nat_lt 0 (u / w)) (f.cycle + u / w) (λ more. outside c x _ y (h.full f is (ltb-true 0 (u / w) more)) lo hi))
    (only_none y (nat_lt 0 (u % w)) (f.cycle + u / w + 1) (λ more. outside c x _ y (h.rest f is (ltb-true 0 (u % w) more)) lo hi)))))
    (following_none y (known_of g known (phase (g.row k)) k) (issue_times g known k) (λ f is. cons_none y (f.cycle + 1) _ (outside c x _ y (h.issued f is) lo hi)
    (append_none y _ _ (append_none y _ _ (only_none y (is_ordered (g.row k).kind) (f.cycle + (g.row k).latency) (λ here. outside c x _ y (h.completes f is here) lo hi))
    (only_none y (is_front g known k) (f.cycle + (g.row k).latency + 1) (λ here. outside c x _ y (h.completed f is here) lo hi)))
    (h.changed f is y lo hi)))))
    (following_none y (known_of g known 0 k) (λ t. (t + 1) ∷ []) (λ f is. not_in y (f.cycle + 1) (outside c x _ y (h.retired f is) lo hi))))
    (listed_none y (is_waiting g known k) (ready_from g known k) (λ waits r is. outside c x r y (h.ready waits r is) lo hi))

all_none : (n : ℕ) (p : ℕ → Bool) → ((k : ℕ) → k < n → p k ≡ true) → all_below n p ≡ true
unfolding all_below
all_none zero p h = refl
all_none (suc n) p h = rw (all_none n p (λ k lt. h k (omega arith)), h n (omega arith)) refl

not_due : (g : Input) (c x y : ℕ) → ((k : ℕ) → k < g.rows → IsClear g (made (rules_of g) (events g) c) c x k) → (c ≡ 0 → x ≡ 0) → c ≤ y → y < x → is_due g (made (rules_of g) (events g) c) y ≡ false
unfolding is_due
not_due g c x y h start lo hi =
    let above : 0 < y = grind (arith, start, lo, hi) in
    let later : nat_eq y 0 ≡ false = grind (arith, nat_tests, above) in
    let none : all_below g.rows (none_of g (made (rules_of g) (events g) c) y) ≡ true = all_none g.rows _ (λ k lk. rw (clear_none g (made (rules_of g) (events g) c) c x k y (h k lk) lo hi) refl) in
    rw (later, none) refl

pub clear_cycles : ClearCycles
clear_cycles g c x le start h = quiet_cycles_are g c x le (λ y lo hi. not_due g c x y h start lo hi)

pub set_time : SetTime
set_time g bound c x k le lk here = set_of_row g bound c x k le lk here

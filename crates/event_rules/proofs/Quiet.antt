-- In cycles in which no time of a row falls, no event falls.
use Rattle.std.proofs.Common.{zero, suc, ◌≡◌, ℕ, ◌+◌, ◌-◌, ◌*◌, ◌/◌, ◌%◌, ◌<◌, ◌≤◌, inl, inr, List, [], ◌∷◌, arith, sym, ◌∙◌, ap, subst, refl, add-zero, Bool, true, false, ◌&&◌, not, cond}
use Rattle.std.specs.Prelude.{nat_lt, nat_eq, if◌then◌else◌, Option, Some, None}
use Rattle.std.proofs.Math.Nat.{mul-le-mul_right, mod-lt, le-div_iff_mul-le, add-mul, mul-zero}
use Rattle.std.proofs.lemmas.Nat.{div_below}
use Rattle.std.proofs.lemmas.Bool.Decides.{nat_tests}
use Rattle.std.proofs.lemmas.Bool.{cases_Bool, cases_lt, eqb-false}
use Rattle.cycle_rules.specs.Row.{Input, phase}
use Rattle.cycle_rules.specs.Schedule.{Fall, Known, Rules, key, next, known_at, made, event}
use Rattle.cycle_rules.specs.Events.{events, known_of, may_fall, rules_of}
use Rattle.event_rules.specs.Due.{dispatch_times, issue_times, none_of}
use Rattle.cycle_rules.proofs.Exists.{Came, came, refused, upward, not_both, cases}
use Rattle.cycle_rules.proofs.Falls.{apart, first_true}
use Rattle.cycle_rules.proofs.Sees.{known_in}
use Rattle.cycle_rules.proofs.Rows.{phase_free, IsEvent, event_is}
use Rattle.event_rules.proofs.Reached.{Early}
use Rattle.event_rules.proofs.TakenStill.{or_parts}
use Rattle.event_rules.proofs.StillTests.{IsStill, NotAmong, not_among, of_fall, still_falls}

-- Any rules

and_false : (a b : Bool) → (a ≡ true → b ≡ false) → (a && b) ≡ false
and_false true b h = h refl
and_false false b h = refl

next_same : {P : Type 0} (r : Rules P) (m : ℕ) (known : Known P) (k e : ℕ) (o : Option (Fall P)) → (e ≡ k % m → o ≡ None → r.allowed known (k / m) (k % m) ≡ false) → next r m known k e o ≡ o
next_same r m known k e (Some f) none = refl
next_same {P} r m known k e None none =
    let test : (nat_eq e (k % m) && r.allowed known (k / m) e) ≡ false = and_false _ _ (λ here. (let at : e ≡ k % m = grind (arith, nat_tests, here) in subst (λ n. r.allowed known (k / m) n ≡ false) (sym at) (none at refl))) in
    ap (λ b. cond b (Some (record { cycle = k / m; what = r.takes known (k / m) e })) None) test

-- where no event that is not known is allowed at the next n keys, nothing comes to be known there
pub quiet_keys : {P : Type 0} (r : Rules P) (m k n : ℕ) → ((i : ℕ) → k ≤ i → i < k + n → known_at r m k (i % m) ≡ None → r.allowed (known_at r m k) (i / m) (i % m) ≡ false) → known_at r m (k + n) ≡ known_at r m k
quiet_keys r m k zero h = ap (known_at r m) (add-zero k)
quiet_keys {P} r m k (suc n) h =
    let same : known_at r m (k + n) ≡ known_at r m k = quiet_keys r m k n (λ i le lt none. h i le (omega arith) none) in
    let here : (e : ℕ) → e ≡ (k + n) % m → known_at r m (k + n) e ≡ None → r.allowed (known_at r m (k + n)) ((k + n) / m) ((k + n) % m) ≡ false
    = λ e at none. subst (λ s. r.allowed s ((k + n) / m) ((k + n) % m) ≡ false) (sym same) (h (k + n) (omega arith) (omega arith) (subst (λ s. s ((k + n) % m) ≡ None) same (subst (λ x. known_at r m (k + n) x ≡ None) at none))) in
    let one : known_at r m (suc (k + n)) ≡ known_at r m (k + n) = λ i e. next_same r m (known_at r m (k + n)) (k + n) e (known_at r m (k + n) e) (here e) i in
    let sum : k + suc n ≡ suc (k + n) = omega arith in
    ap (known_at r m) sum ∙ one ∙ same

-- An event that is known when all cycles below c are done, and sets no time in c, fell before the cycle before

-- the cycles below c are done
abbrev done : Input → ℕ → Known (List ℕ)
done g c = made (rules_of g) (events g) c

some_rows : (g : Input) (e : ℕ) → e < events g → 0 < g.rows
some_rows g e lt = grind (arith, lt)

below_cycle : (g : Input) (c e : ℕ) (f : Fall (List ℕ)) → 0 < events g → done g c e ≡ Some f → f.cycle < c
below_cycle g c e f some is =
    let came_at : Came (rules_of g) (events g) (c * events g) e f = came (rules_of g) (events g) (c * events g) e f some is in
    elim (cases_lt f.cycle c) [
      | inl low ↦ low
      | inr high ↦ (let le : c * events g ≤ f.cycle * events g = mul-le-mul_right (events g) high in absurd (omega (arith, le, came_at.before)))
    ]

known_row : (g : Input) (known : Known (List ℕ)) (q k : ℕ) (f : Fall (List ℕ)) → known_of g known q k ≡ Some f → k < g.rows
known_row g known q k f is = elim (cases_lt k g.rows) [
  | inl low ↦ low
  | inr high ↦ (let none : nat_lt k g.rows ≡ false = grind (arith, nat_tests, high) in absurd (nothing _ none is))
]
  where
    nothing : (b : Bool) → b ≡ false → (if b then known (event g.rows q k) else None) ≡ Some f → ⊥
    nothing true e h = absurd (apart e)
    nothing false e h = cc

record IsDone (g : Input) (a : ℕ) : Type 0 where
  retires : (k : ℕ) → Early a (known_of g (done g (suc a)) 0 k)
  issues : (k : ℕ) → Early a (known_of g (done g (suc a)) (phase (g.row k)) k)
  dispatches : (k : ℕ) → Early a (known_of g (done g (suc a)) 2 k)

is_done : (g : Input) (a : ℕ) → ((k : ℕ) → k < g.rows → none_of g (done g (suc a)) (suc a) k ≡ true) → IsDone g a
is_done g a none = record {
  retires = λ k f is. one 0 k f is (eqb-false _ _ (or_parts _ _ (of_fall (suc a) (λ t. (t + 1) ∷ []) _ f is (among 0 k f is).retire)).0);
  issues = λ k f is. one (phase (g.row k)) k f is (eqb-false _ _ (or_parts _ _ (of_fall (suc a) (issue_times g (done g (suc a)) k) _ f is (among (phase (g.row k)) k f is).issue)).0);
  dispatches = λ k f is. one 2 k f is (eqb-false _ _ (or_parts _ _ (of_fall (suc a) (dispatch_times g k) _ f is (among 2 k f is).dispatch)).0);
}
  where
    among : (q k : ℕ) (f : Fall (List ℕ)) → known_of g (done g (suc a)) q k ≡ Some f → NotAmong g (done g (suc a)) (suc a) k
    among q k f is = not_among g (done g (suc a)) (suc a) k (none k (known_row g (done g (suc a)) q k f is))

    one : (q k : ℕ) (f : Fall (List ℕ)) → known_of g (done g (suc a)) q k ≡ Some f → (suc a ≡ f.cycle + 1 → ⊥) → f.cycle < a
    one q k f is ne =
        let lk : k < g.rows = known_row g (done g (suc a)) q k f is in
        let low : f.cycle < suc a = below_cycle g (suc a) (event g.rows q k) f (omega (arith, lk)) (sym (known_in g (done g (suc a)) q k lk) ∙ is) in
        elim (cases_lt f.cycle a) [ inl less ↦ less | inr more ↦ absurd (ne (omega (arith, low, more))) ]

-- a reserved row has no event of its own for its issue
pub no_issue : (g : Input) (n j : ℕ) (f : Fall (List ℕ)) (q e : ℕ) → q ≡ 1 → e / g.rows ≡ q → e % g.rows ≡ j → 0 < events g → (g.row j).reserved ≡ true → known_at (rules_of g) (events g) n e ≡ Some f → ⊥
no_issue g n j f q e one at row some reserved is =
    let came_at : Came (rules_of g) (events g) n e f = came (rules_of g) (events g) n e f some is in
    let allowed : may_fall g (known_at (rules_of g) (events g) (key (events g) f.cycle e)) f.cycle (e / g.rows) (e % g.rows) ≡ true = came_at.allowed in
    let here : may_fall g (known_at (rules_of g) (events g) (key (events g) f.cycle e)) f.cycle 1 j ≡ true
    = subst (λ p. may_fall g (known_at (rules_of g) (events g) (key (events g) f.cycle e)) f.cycle p j ≡ true) (at ∙ one) (subst (λ x. may_fall g (known_at (rules_of g) (events g) (key (events g) f.cycle e)) f.cycle (e / g.rows) x ≡ true) row allowed) in
    apart (sym (first_true _ _ here) ∙ ap not reserved)

-- so each event that is known fell before a
event_early : (g : Input) (a : ℕ) → IsDone g a → (e : ℕ) → e < events g → (f : Fall (List ℕ)) → done g (suc a) e ≡ Some f → f.cycle < a
event_early g a done_a e lt f is = go (e / g.rows) refl (event_is g.rows e lt)
  where
    known : Known (List ℕ)
    known = done g (suc a)

    at_row : (q : ℕ) → e / g.rows ≡ q → IsEvent g.rows e → known_of g known q (e % g.rows) ≡ Some f
    at_row q at here = known_in g known q (e % g.rows) here.row ∙ subst (λ p. known (event g.rows p (e % g.rows)) ≡ Some f) at (subst (λ x. known x ≡ Some f) (sym here.is) is)

    issue : IsEvent g.rows e → e / g.rows ≡ 1 → f.cycle < a
    issue here at = elim (cases_Bool (g.row (e % g.rows)).reserved) [
      | inl reserved ↦ absurd (no_issue g (suc a * events g) (e % g.rows) f 1 e refl at refl (omega (arith, lt)) reserved is)
      | inr free ↦ done_a.issues (e % g.rows) f (subst (λ p. known_of g known p (e % g.rows) ≡ Some f) (sym (phase_free (g.row (e % g.rows)) free)) (at_row 1 at here))
    ]

    go : (q : ℕ) → e / g.rows ≡ q → IsEvent g.rows e → f.cycle < a
    go zero at here = done_a.retires (e % g.rows) f (at_row 0 at here)
    go (suc zero) at here = issue here at
    go (suc (suc zero)) at here = done_a.dispatches (e % g.rows) f (at_row 2 at here)
    go (suc (suc (suc q))) at here = absurd (omega (arith, here.phase, at))

-- nothing has come to be known in cycle a
known_through : (g : Input) (a : ℕ) → 0 < events g → IsDone g a → (k : ℕ) → a * events g ≤ k → k ≤ suc a * events g → known_at (rules_of g) (events g) k ≡ done g (suc a)
known_through g a some done_a k low high = λ i e. at_one e i
  where
    r : Rules (List ℕ)
    r = rules_of g

    late : (e : ℕ) (f : Fall (List ℕ)) → known_at r (events g) k e ≡ None → done g (suc a) e ≡ Some f → ⊥
    late e f none is =
        let came_at : Came r (events g) (suc a * events g) e f = came r (events g) (suc a * events g) e f some is in
        let early : f.cycle < a = event_early g a done_a e came_at.in_range f is in
        let le : suc f.cycle * events g ≤ a * events g = mul-le-mul_right (events g) (let s : suc f.cycle ≤ a = omega arith in s) in
        not_both (known_at r (events g) k e) f none (upward r (events g) (suc (key (events g) f.cycle e)) k e f (omega (arith, le, came_at.in_range, low)) came_at.after)

    at_one : (e : ℕ) → known_at r (events g) k e ≡ done g (suc a) e
    at_one e = elim (cases (known_at r (events g) k e)) [
      | inr x ↦ x.1 ∙ sym (upward r (events g) k (suc a * events g) e x.0 high x.1)
      | inl none ↦ elim (cases (done g (suc a) e)) [ inl never ↦ none ∙ sym never | inr y ↦ absurd (late e y.0 none y.1) ]
    ]

-- an event that is not known was not allowed in cycle a
not_allowed : (g : Input) (a e : ℕ) → 0 < events g → IsDone g a → e < events g → done g (suc a) e ≡ None → (rules_of g).allowed (done g (suc a)) a e ≡ false
not_allowed g a e some done_a lt none =
    let r : Rules (List ℕ) = rules_of g in
    let m : ℕ = events g in
    let end : suc (key m a e) ≤ suc a * m = omega (arith, lt) in
    let after : known_at r m (suc (key m a e)) e ≡ None = elim (cases (known_at r m (suc (key m a e)) e)) [
      | inl n ↦ n
      | inr x ↦ absurd (not_both (done g (suc a) e) x.0 none (upward r m (suc (key m a e)) (suc a * m) e x.0 end x.1))
    ] in
    let through : known_at r m (key m a e) ≡ done g (suc a) = known_through g a some done_a (key m a e) (omega arith) (omega (arith, end)) in
    subst (λ s. r.allowed s a e ≡ false) through (refused r m a e lt (known_at r m (key m a e) e) after)

-- so none that is not known is allowed in the cycles from the next on
still_not_allowed : (g : Input) (a x e : ℕ) → 0 < events g → IsDone g a → IsStill g (done g (suc a)) a x → e < events g → done g (suc a) e ≡ None → (rules_of g).allowed (done g (suc a)) x e ≡ false
still_not_allowed g a x e some done_a still lt none =
    let here : IsEvent g.rows e = event_is g.rows e lt in
    let of_row : known_of g (done g (suc a)) (e / g.rows) (e % g.rows) ≡ None = known_in g (done g (suc a)) (e / g.rows) (e % g.rows) here.row ∙ subst (λ y. done g (suc a) y ≡ None) (sym here.is) none in
    sym (still_falls g (done g (suc a)) a x (e / g.rows) (e % g.rows) still here.phase here.row of_row) ∙ not_allowed g a e some done_a lt none

-- from a cycle above 0 on, as far as below another, none of the times falls that are known when all cycles below the first are done
pub record IsQuiet (g : Input) (c n : ℕ) : Type 0 where
  pub started : 0 < c
  pub order : c ≤ n
  pub none : (x k : ℕ) → c ≤ x → x < n → k < g.rows → none_of g (made (rules_of g) (events g) c) x k ≡ true

quiet_from : (g : Input) (a n : ℕ) → 0 < events g → IsQuiet g (suc a) n → made (rules_of g) (events g) n ≡ made (rules_of g) (events g) (suc a)
quiet_from g a n some h = elim (cases_lt (suc a) n) [
  | inr end ↦ (let same : n ≡ suc a = omega (arith, h.order, end) in ap (made (rules_of g) (events g)) same)
  | inl more ↦ (
      let m : ℕ = events g in
      let done_a : IsDone g a = is_done g a (λ k lk. h.none (suc a) k (omega arith) more lk) in
      let still : (x : ℕ) → suc a ≤ x → x < n → IsStill g (done g (suc a)) a x = λ x lo hi. record {
        order = omega (arith, lo);
        retires = done_a.retires;
        issues = done_a.issues;
        dispatches = done_a.dispatches;
        none = λ y k low high lk. h.none y k (omega arith) (omega arith) lk;
      } in
      let sum : suc a * m + (n - suc a) * m ≡ n * m = sym (add-mul (suc a) (n - suc a) m) ∙ ap (λ z. z * m) (let s : suc a + (n - suc a) ≡ n = omega (arith, h.order) in s) in
      let quiet : known_at (rules_of g) m (suc a * m + (n - suc a) * m) ≡ known_at (rules_of g) m (suc a * m) = quiet_keys (rules_of g) m (suc a * m) ((n - suc a) * m)
      (λ i lo hi none. let cycle : i / m < n = div_below i m n some (omega (arith, hi, sum)) in
      still_not_allowed g a (i / m) (i % m) some done_a (still (i / m) (at_least (suc a) m i some lo) cycle) (mod-lt i some) none) in
      ap (known_at (rules_of g) m) (sym sum) ∙ quiet)
]
  where
    at_least : (c m i : ℕ) → 0 < m → c * m ≤ i → c ≤ i / m
    at_least c m i some le = (le-div_iff_mul-le some).1 le

no_rows : (g : Input) (c n : ℕ) → events g ≡ 0 → made (rules_of g) (events g) n ≡ made (rules_of g) (events g) c
no_rows g c n empty = ap (known_at (rules_of g) (events g)) (zero_of n ∙ sym (zero_of c))
  where
    zero_of : (x : ℕ) → x * events g ≡ 0
    zero_of x = rw empty (mul-zero x)

pub quiet_times : (g : Input) (c n : ℕ) → IsQuiet g c n → made (rules_of g) (events g) n ≡ made (rules_of g) (events g) c
quiet_times g zero n h = absurd (omega (arith, h.started))
quiet_times g (suc a) n h = elim (cases_lt 0 (events g)) [ inl some ↦ quiet_from g a n some h | inr none ↦ no_rows g (suc a) n (omega (arith, none)) ]

-- Whether an earlier use passes a test, and which one named a resource last, by a walk over the rows in any order.
use Rattle.std.proofs.Common.{zero, suc, ◌≡◌, ℕ, ◌<◌, ◌≤◌, ◌⊎◌, inl, inr, List, [], ◌++◌, arith, sym, ◌∙◌, ap, subst, refl, Bool, true, false, ◌&&◌, ◌||◌}
use Rattle.std.specs.Prelude.{nat_lt, nat_eq, if◌then◌else◌}
use Rattle.std.specs.List.{list_any}
use Rattle.std.proofs.lemmas.Bool.{cases_lt, cases_eq, eqb-true, and_parts, lt-ltb, le-ltb, eq-eqb, ne_eqb}
use Rattle.std.proofs.lemmas.List.Folds.{list_any-append}
use Rattle.cycle_rules.specs.Pick.{Taken, taken_by, place_after, taken_in, taken_below}
use Rattle.cycle_rules.specs.Row.{Input, Table, phase}
use Rattle.cycle_rules.proofs.Tests.{and_false}
use Rattle.cycle_rules.proofs.Places.{names_it, place_append_if}
use Rattle.cycle_rules.proofs.SeenRows.{phase_most, phase_least}

-- some number below n passes
unfoldable pub some_below : ℕ → (ℕ → Bool) → Bool
some_below zero p = false
some_below (suc n) p = some_below n p || p n

-- what the uses of a row pass, if it issued in a cycle
abbrev pub passes : Input → Table → (Taken → Bool) → ℕ → ℕ → Bool
passes g t f c k = list_any f (taken_by c (g.row k).uses (t k).units)

pub some_same : (n : ℕ) (p q : ℕ → Bool) → ((k : ℕ) → k < n → p k ≡ q k) → some_below n p ≡ some_below n q
unfolding some_below
some_same zero p q h = refl
some_same (suc n) p q h = rw (some_same n p q (λ k lt. h k (omega arith)), h n (omega arith)) refl

pub some_none : (n : ℕ) (p : ℕ → Bool) → ((k : ℕ) → k < n → p k ≡ false) → some_below n p ≡ false
unfolding some_below
some_none zero p h = refl
some_none (suc n) p h = rw (some_none n p (λ k lt. h k (omega arith)), h n (omega arith)) refl

or_swap : (a b c d : Bool) → ((a || b) || (c || d)) ≡ ((a || c) || (b || d))
or_swap true b c d = refl
or_swap false true true d = refl
or_swap false true false d = refl
or_swap false false true d = refl
or_swap false false false d = refl

some_or : (n : ℕ) (p q : ℕ → Bool) → (some_below n p || some_below n q) ≡ some_below n (λ k. p k || q k)
unfolding some_below
some_or zero p q = refl
some_or (suc n) p q = or_swap (some_below n p) (p n) (some_below n q) (q n) ∙ ap (λ x. x || (p n || q n)) (some_or n p q)

or_false : (b : Bool) → (b || false) ≡ b
or_false true = refl
or_false false = refl

scan_at : (g : Input) (t : Table) (f : Taken → Bool) (c q n : ℕ) → list_any f (taken_in g t c q n) ≡ some_below n (λ k. (nat_eq (phase (g.row k)) q && nat_eq (t k).issue c) && passes g t f c k)
unfolding taken_in some_below
scan_at g t f c q zero = refl
scan_at g t f c q (suc n) = rw (list_any-append f (taken_in g t c q n), scan_at g t f c q n) (ap (λ x. some_below n (λ k. (nat_eq (phase (g.row k)) q && nat_eq (t k).issue c) && passes g t f c k) || x) (go (nat_eq (phase (g.row n)) q && nat_eq (t n).issue c)))
  where
    go : (x : Bool) → list_any f (if x then taken_by c ((g.row n).uses) (t n).units else []) ≡ (x && passes g t f c n)
    go true = refl
    go false = refl

-- one row's part of a cycle
cycle_part : (x c ph : ℕ) (p : ℕ → Bool) → 1 ≤ ph → ph ≤ 2
    → (((nat_lt x c && p x) || ((nat_eq ph 1 && nat_eq x c) && p c)) || ((nat_eq ph 2 && nat_eq x c) && p c)) ≡ (nat_lt x (suc c) && p x)
cycle_part x c ph p low high = elim (cases_eq x c) [
  | inl e ↦ rw (e, le-ltb c c (omega arith), eq-eqb c c refl, lt-ltb c (suc c) (omega arith)) (one ph low high (p c))
  | inr ne ↦ elim (cases_lt x c) [
    | inl less ↦ rw (lt-ltb x c less, ne_eqb x c ne, lt-ltb x (suc c) (omega arith), and_false (nat_eq ph 1), and_false (nat_eq ph 2)) (or_false _ ∙ or_false _)
    | inr more ↦ rw (le-ltb x c more, ne_eqb x c ne, le-ltb x (suc c) (above more ne), and_false (nat_eq ph 1), and_false (nat_eq ph 2)) refl
  ]
]
  where
    above : c ≤ x → (x ≡ c → ⊥) → suc c ≤ x
    above le ne = grind (arith, ne)

    one : (ph : ℕ) → 1 ≤ ph → ph ≤ 2 → (b : Bool) → ((false || ((nat_eq ph 1 && true) && b)) || ((nat_eq ph 2 && true) && b)) ≡ b
    one zero low high b = absurd (omega arith)
    one (suc zero) low high b = or_false b
    one (suc (suc zero)) low high b = refl
    one (suc (suc (suc n))) low high b = absurd (omega arith)

pub scan_below : (g : Input) (t : Table) (f : Taken → Bool) (c : ℕ) → list_any f (taken_below g t c) ≡ some_below g.rows (λ k. nat_lt (t k).issue c && passes g t f (t k).issue k)
unfolding taken_below
scan_below g t f zero = sym (some_none g.rows _ (λ k _. rw (le-ltb (t k).issue 0 (omega arith)) refl))
scan_below g t f (suc c) =
    rw (
      list_any-append f (taken_below g t c ++ taken_in g t c 1 g.rows) (taken_in g t c 2 g.rows),
      list_any-append f (taken_below g t c) (taken_in g t c 1 g.rows),
      scan_below g t f c,
      scan_at g t f c 1 g.rows,
      scan_at g t f c 2 g.rows,
    ) (
    ap (λ x. x || some_below g.rows (λ k. (nat_eq (phase (g.row k)) 2 && nat_eq (t k).issue c) && passes g t f c k)) (some_or g.rows _ _)
    ∙ (some_or g.rows _ _ ∙ some_same g.rows _ _ (λ k lt. cycle_part (t k).issue c (phase (g.row k)) (λ i. passes g t f i k) (phase_least (g.row k)) (phase_most (g.row k)))))

-- Where the search starts, by the last row that took a unit of the resource

place_at : (g : Input) (t : Table) (r c q n k : ℕ) → k < n → phase (g.row k) ≡ q → (t k).issue ≡ c → passes g t (names_it r) c k ≡ true
    → ((m : ℕ) → k < m → m < n → phase (g.row m) ≡ q → (t m).issue ≡ c → passes g t (names_it r) c m ≡ false)
    → place_after r (taken_in g t c q n) ≡ place_after r (taken_by c ((g.row k).uses) (t k).units)
unfolding taken_in
place_at g t r c q zero k lt ph i named silent = absurd (omega arith)
place_at g t r c q (suc n) k lt ph i named silent = place_append_if r (taken_in g t c q n) _ ∙ elim (cases_lt k n) [
  | inl low ↦ rw (quiet low) (place_at g t r c q n k low ph i named (λ m more less. silent m more (omega arith)))
  | inr last ↦ (let e : k ≡ n = omega arith in own e)
]
  where
    part : List Taken
    part = if nat_eq (phase (g.row n)) q && nat_eq (t n).issue c then taken_by c ((g.row n).uses) (t n).units else []

    quiet : k < n → list_any (names_it r) part ≡ false
    quiet low = go (nat_eq (phase (g.row n)) q && nat_eq (t n).issue c) refl
      where
        go : (x : Bool) → (nat_eq (phase (g.row n)) q && nat_eq (t n).issue c) ≡ x → list_any (names_it r) (if x then taken_by c ((g.row n).uses) (t n).units else []) ≡ false
        go true e = silent n low (omega arith) (eqb-true _ _ (and_parts _ _ e).0) (eqb-true _ _ (and_parts _ _ e).1)
        go false e = refl

    own : k ≡ n → (if list_any (names_it r) part then place_after r part else place_after r (taken_in g t c q n)) ≡ place_after r (taken_by c ((g.row k).uses) (t k).units)
    own e =
        let all : (nat_eq (phase (g.row n)) q && nat_eq (t n).issue c) ≡ true = subst (λ m. (nat_eq (phase (g.row m)) q && nat_eq (t m).issue c) ≡ true) e (rw (eq-eqb (phase (g.row k)) q ph, eq-eqb (t k).issue c i) refl) in
        let mine : passes g t (names_it r) c n ≡ true = subst (λ m. passes g t (names_it r) c m ≡ true) e named in
        rw (all, mine) (ap (λ m. place_after r (taken_by c ((g.row m).uses) (t m).units)) (sym e))

pub some_true : (n : ℕ) (p : ℕ → Bool) (k : ℕ) → k < n → p k ≡ true → some_below n p ≡ true
unfolding some_below
some_true zero p k lt h = absurd (omega arith)
some_true (suc n) p k lt h = elim (cases_lt k n) [ inl low ↦ rw (some_true n p k low h) refl | inr last ↦ (let e : k ≡ n = omega arith in rw (subst (λ m. p m ≡ true) e h) (or_true (some_below n p))) ]
  where
    or_true : (b : Bool) → (b || true) ≡ true
    or_true true = refl
    or_true false = refl

any_at_phase : (g : Input) (t : Table) (f : Taken → Bool) (c q n : ℕ) → ((k : ℕ) → k < n → phase (g.row k) ≡ q → (t k).issue ≡ c → passes g t f c k ≡ false) → list_any f (taken_in g t c q n) ≡ false
any_at_phase g t f c q n h = scan_at g t f c q n ∙ some_none n _ (λ k lt. go k (nat_eq (phase (g.row k)) q && nat_eq (t k).issue c) refl lt)
  where
    go : (k : ℕ) (x : Bool) → (nat_eq (phase (g.row k)) q && nat_eq (t k).issue c) ≡ x → k < n → (x && passes g t f c k) ≡ false
    go k true e lt = h k lt (eqb-true _ _ (and_parts _ _ e).0) (eqb-true _ _ (and_parts _ _ e).1)
    go k false e lt = refl

-- row m issued after row k
abbrev pub IssuesAfter : Input → Table → ℕ → ℕ → Type 0
IssuesAfter g t k m = ((t k).issue < (t m).issue) ⊎ (((t k).issue ≡ (t m).issue) × ((phase (g.row k) < phase (g.row m)) ⊎ ((phase (g.row k) ≡ phase (g.row m)) × (k < m))))

pub place_below : (g : Input) (t : Table) (r k c : ℕ) → k < g.rows → (t k).issue < c → passes g t (names_it r) (t k).issue k ≡ true
    → ((m : ℕ) → m < g.rows → (t m).issue < c → IssuesAfter g t k m → passes g t (names_it r) (t m).issue m ≡ false)
    → place_after r (taken_below g t c) ≡ place_after r (taken_by (t k).issue ((g.row k).uses) (t k).units)
unfolding taken_below
place_below g t r k zero lt early named silent = absurd (omega arith)
place_below g t r k (suc c) lt early named silent =
    place_append_if r (taken_below g t c ++ taken_in g t c 1 g.rows) (taken_in g t c 2 g.rows) ∙ elim (cases_lt (t k).issue c) [
      | inl before ↦ rw (none 2 before) (place_append_if r (taken_below g t c) (taken_in g t c 1 g.rows) ∙ rw (none 1 before) (place_below g t r k c lt before named (λ m lm e after. silent m lm (omega arith) after)))
      | inr now ↦ (let i : (t k).issue ≡ c = omega arith in
          subst (λ x. (if list_any (names_it r) (taken_in g t c 2 g.rows) then place_after r (taken_in g t c 2 g.rows) else place_after r (taken_below g t c ++ taken_in g t c 1 g.rows))
          ≡ place_after r (taken_by x ((g.row k).uses) (t k).units)) (sym i) (here i (subst (λ x. passes g t (names_it r) x k ≡ true) i named) (phase (g.row k)) refl (phase_least (g.row k)) (phase_most (g.row k))))
    ]
  where
    none : (q : ℕ) → (t k).issue < c → list_any (names_it r) (taken_in g t c q g.rows) ≡ false
    none q before = any_at_phase g t (names_it r) c q g.rows (λ m lm ph e. subst (λ i. passes g t (names_it r) i m ≡ false) e (silent m lm (omega (arith, e)) (inl (omega (arith, e)))))

    after_silent : (m : ℕ) → (t k).issue ≡ c → m < g.rows → (t m).issue ≡ c → ((phase (g.row k) < phase (g.row m)) ⊎ ((phase (g.row k) ≡ phase (g.row m)) × (k < m))) → passes g t (names_it r) c m ≡ false
    after_silent m i lm e later = subst (λ x. passes g t (names_it r) x m ≡ false) e (silent m lm (omega (arith, e)) (inr (i ∙ sym e, later)))

    found : (q : ℕ) → phase (g.row k) ≡ q → (t k).issue ≡ c → passes g t (names_it r) c k ≡ true → list_any (names_it r) (taken_in g t c q g.rows) ≡ true
    found q ph i named = scan_at g t (names_it r) c q g.rows ∙ some_true g.rows _ k lt (rw (eq-eqb (phase (g.row k)) q ph, eq-eqb (t k).issue c i, named) refl)

    own : (q : ℕ) → phase (g.row k) ≡ q → (t k).issue ≡ c → passes g t (names_it r) c k ≡ true → place_after r (taken_in g t c q g.rows) ≡ place_after r (taken_by c ((g.row k).uses) (t k).units)
    own q ph i named = place_at g t r c q g.rows k lt ph i named (λ m more lm pm e. after_silent m i lm e (inr (ph ∙ sym pm, more)))

    here : (t k).issue ≡ c → passes g t (names_it r) c k ≡ true → (q : ℕ) → phase (g.row k) ≡ q → 1 ≤ q → q ≤ 2
        → (if list_any (names_it r) (taken_in g t c 2 g.rows) then place_after r (taken_in g t c 2 g.rows) else place_after r (taken_below g t c ++ taken_in g t c 1 g.rows))
        ≡ place_after r (taken_by c ((g.row k).uses) (t k).units)
    here i named zero ph low high = absurd (omega arith)
    here i named (suc zero) ph low high =
        let none_two : list_any (names_it r) (taken_in g t c 2 g.rows) ≡ false = any_at_phase g t (names_it r) c 2 g.rows (λ m lm pm e. after_silent m i lm e (inl (omega (arith, ph, pm)))) in
        rw none_two (place_append_if r (taken_below g t c) (taken_in g t c 1 g.rows) ∙ rw (found 1 ph i named) (own 1 ph i named))
    here i named (suc (suc zero)) ph low high = rw (found 2 ph i named) (own 2 ph i named)
    here i named (suc (suc (suc n))) ph low high = absurd (omega arith)

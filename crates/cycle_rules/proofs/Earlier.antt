-- The uses that took units before a row looks, by the rows that issued before.
use Rattle.std.proofs.Common.{zero, suc, ◌≡◌, ℕ, ◌+◌, ◌<◌, ◌≤◌, ◌⊎◌, inl, inr, List, [], ◌∷◌, length, arith, sym, ◌∙◌, ap, subst, refl, Bool, true, false, ◌&&◌}
use Rattle.std.specs.Prelude.{nat_lt, nat_eq, if◌then◌else◌}
use Rattle.std.specs.List.{list_any}
use Rattle.std.proofs.lemmas.Bool.Decides.{nat_tests}
use Rattle.std.proofs.lemmas.Bool.{cases_Bool, cases_lt, cases_eq}
use Rattle.machine_model.specs.declared.facts.Use.{Use}
use Rattle.cycle_rules.specs.Given.{earlier_at, issue_key, place_in, IsLast}
use Rattle.cycle_rules.specs.Held.{taken_of}
use Rattle.cycle_rules.specs.Pick.{Taken, taken_by, place_after}
use Rattle.cycle_rules.specs.Row.{Input, Table, times, no_times, phase}
use Rattle.cycle_rules.specs.Seen.{key_at, comes_before, has_issued, sees}
use Rattle.cycle_rules.specs.declared.times.Times.{Times}
use Rattle.cycle_rules.proofs.Places.{names_it, place_none, place_zero, taken_nothing}
use Rattle.cycle_rules.proofs.Scan.{some_below, scan_below, place_below, IssuesAfter, some_true, some_none, some_same}
use Rattle.cycle_rules.proofs.SeenIssues.{seen_within}

pub and_is : (a b : Bool) → a ≡ true → b ≡ (a && b)
and_is a b e = rw e refl

pub and_not : (a b : Bool) → a ≡ false → false ≡ (a && b)
and_not a b e = rw e refl

pub place_issued : (g : Input) (t : Table) (c p j r k : ℕ) → has_issued g t k c p j ≡ true → place_after r (taken_of g t k) ≡ place_in g t c p j r k
place_issued g t c p j r k h = ap (λ b. if b then place_after r (taken_of g t k) else 0) (sym h)

pub place_not : (g : Input) (t : Table) (c p j r k : ℕ) → has_issued g t k c p j ≡ false → 0 ≡ place_in g t c p j r k
place_not g t c p j r k h = ap (λ b. if b then place_after r (taken_of g t k) else 0) (sym h)

-- an earlier use passes a test exactly where one of a row that has issued does

one_row : (i c : ℕ) (b : Bool) (uses : List Use) (units : List ℕ) (f : Taken → Bool) → (b ≡ true → i ≤ c)
    → (nat_lt (if b then i else c + 1) (c + 1) && list_any f (taken_by (if b then i else c + 1) uses (if b then units else []))) ≡ (b && list_any f (taken_by i uses units))
one_row i c true uses units f low = let le : nat_lt i (c + 1) ≡ true = (let h : i ≤ c = low refl in grind (arith, nat_tests)) in rw le refl
one_row i c false uses units f low = let no_row : nat_lt (c + 1) (c + 1) ≡ false = grind (arith, nat_tests) in rw no_row refl

pub any_earlier : (g : Input) (t : Table) (f : Taken → Bool) (c p j : ℕ) → list_any f (earlier_at g t c p j) ≡ some_below g.rows (λ k. has_issued g t k c p j && list_any f (taken_of g t k))
any_earlier g t f c p j = scan_below g (sees g t p j c) f (c + 1)
    ∙ some_same g.rows _ _ (λ k lt. one_row (t k).issue c (has_issued g t k c p j) (g.row k).uses (t k).units f (λ h. seen_within g.rows (t k).issue (phase (g.row k)) k c p j h))

pub some_earlier : (g : Input) (t : Table) (f : Taken → Bool) (c p j k : ℕ) → k < g.rows → (has_issued g t k c p j && list_any f (taken_of g t k)) ≡ true → true ≡ list_any f (earlier_at g t c p j)
some_earlier g t f c p j k lt h = sym (any_earlier g t f c p j ∙ some_true g.rows (λ i. has_issued g t i c p j && list_any f (taken_of g t i)) k lt h)

-- a row that is not given takes no units
pub not_given : (table : List Times) (k : ℕ) → length table ≤ k → times table k ≡ no_times
not_given [] k le = refl
not_given (x ∷ xs) zero le = absurd (omega arith)
not_given (x ∷ xs) (suc k) le = not_given xs k (omega arith)

pub takes_none : (g : Input) (table : List Times) (k : ℕ) → length table ≤ k → taken_of g (times table) k ≡ []
takes_none g table k le = ap (λ (x : Times). taken_by x.issue (g.row k).uses x.units) (not_given table k le) ∙ taken_nothing 0 (g.row k).uses

pub none_earlier : (g : Input) (table : List Times) (f : Taken → Bool) (c p j : ℕ) → ((k : ℕ) → k < g.rows → k < length table → (has_issued g (times table) k c p j && list_any f (taken_of g (times table) k)) ≡ false)
    → false ≡ list_any f (earlier_at g (times table) c p j)
none_earlier g table f c p j h = sym (any_earlier g (times table) f c p j ∙ some_none g.rows _ (λ k lt. elim (cases_lt k (length table)) [
  | inl given ↦ h k lt given
  | inr missing ↦ no_use (has_issued g (times table) k c p j) (taken_of g (times table) k) (takes_none g table k missing)
]))
  where
    no_use : (b : Bool) (xs : List Taken) → xs ≡ [] → (b && list_any f xs) ≡ false
    no_use true xs e = rw e refl
    no_use false xs e = refl

-- The row that took a unit of a resource last

pub last_start : (g : Input) (t : Table) (c p j r : ℕ) → IsLast g t c p j r 0 0 0
last_start g t c p j r = record { none = λ _ k lt. absurd (omega arith); low = λ h. absurd (omega arith); is = λ h. absurd (omega arith); later = λ h k lt. absurd (omega arith) }

up_to : (P : ℕ → Type 0) (n : ℕ) → ((k : ℕ) → k < n → P k) → P n → (k : ℕ) → k < n + 1 → P k
up_to P n below here k lt = elim (cases_lt k n) [ inl low ↦ below k low | inr last ↦ (let e : n ≡ k = omega arith in subst P e here) ]

pub last_same : (g : Input) (t : Table) (c p j r n last place : ℕ) → IsLast g t c p j r n last place → place_in g t c p j r n ≡ 0 → IsLast g t c p j r (n + 1) last place
last_same g t c p j r n last place l none = record {
  none = λ e. up_to _ n (l.none e) none;
  low = λ h. omega (arith, l.low h);
  is = l.is;
  later = λ h. up_to (λ k. 0 < place_in g t c p j r k → comes_before (issue_key g.row t last) (issue_key g.row t k) ≡ false) n (l.later h) (λ some. absurd (omega (arith, some, none)));
}

not_self : (x q k : ℕ) → comes_before (key_at x q k) (key_at x q k) ≡ false
unfolding comes_before
not_self x q k = grind (arith, nat_tests)

pub last_first : (g : Input) (t : Table) (c p j r n last place own : ℕ) → IsLast g t c p j r n last place → own ≡ place_in g t c p j r n → 0 < own → place ≡ 0 → IsLast g t c p j r (n + 1) n own
last_first g t c p j r n last place own l e some none = record {
  none = λ z. absurd (omega (arith, z, some));
  low = λ h. omega arith;
  is = λ h. e;
  later = λ h. up_to (λ k. 0 < place_in g t c p j r k → comes_before (issue_key g.row t n) (issue_key g.row t k) ≡ false) n
      (λ k lt is. absurd (omega (arith, is, l.none none k lt))) (λ _. not_self (t n).issue (phase (g.row n)) n);
}

-- what comes before a later event comes before ..
joins : (x y z o q s a b d : ℕ) → comes_before (key_at x o a) (key_at y q b) ≡ true → comes_before (key_at x o a) (key_at z s d) ≡ false → comes_before (key_at y q b) (key_at z s d) ≡ false
unfolding comes_before
joins x y z o q s a b d h k = grind (arith, nat_tests, h, k)

pub last_later : (g : Input) (t : Table) (c p j r n last place own : ℕ) → IsLast g t c p j r n last place → own ≡ place_in g t c p j r n → 0 < own → 0 < place → comes_before (issue_key g.row t last) (issue_key g.row t n) ≡ true → IsLast g t c p j r (n + 1) n own
last_later g t c p j r n last place own l e here some before = record {
  none = λ z. absurd (omega (arith, z, here));
  low = λ h. omega arith;
  is = λ h. e;
  later = λ h. up_to (λ k. 0 < place_in g t c p j r k → comes_before (issue_key g.row t n) (issue_key g.row t k) ≡ false) n
      (λ k lt is. joins (t last).issue (t n).issue (t k).issue (phase (g.row last)) (phase (g.row n)) (phase (g.row k)) last n k before (l.later some k lt is))
      (λ _. not_self (t n).issue (phase (g.row n)) n);
}

pub last_kept : (g : Input) (t : Table) (c p j r n last place : ℕ) → IsLast g t c p j r n last place → 0 < place → comes_before (issue_key g.row t last) (issue_key g.row t n) ≡ false → IsLast g t c p j r (n + 1) last place
last_kept g t c p j r n last place l some after = record {
  none = λ z. absurd (omega (arith, z, some));
  low = λ h. omega (arith, l.low h);
  is = l.is;
  later = λ h. up_to (λ k. 0 < place_in g t c p j r k → comes_before (issue_key g.row t last) (issue_key g.row t k) ≡ false) n (l.later h) (λ _. after);
}

after_before : (x y a b p q k m : ℕ) → a ≡ x → b ≡ y → (a < b) ⊎ ((a ≡ b) × ((p < q) ⊎ ((p ≡ q) × (k < m)))) → comes_before (key_at x p k) (key_at y q m) ≡ true
unfolding comes_before
after_before x y a b p q k m e f (inl lt) = grind (arith, nat_tests, lt)
after_before x y a b p q k m e f (inr (same, inl lt)) = grind (arith, nat_tests, lt, same)
after_before x y a b p q k m e f (inr (same, inr (phases, lt))) = grind (arith, nat_tests, lt, same, phases)

seen_issue : (g : Input) (t : Table) (c p j k : ℕ) → has_issued g t k c p j ≡ true → (sees g t p j c k).issue ≡ (t k).issue
seen_issue g t c p j k h = ap (λ b. if b then (t k).issue else c + 1) h

seen_units : (g : Input) (t : Table) (c p j k : ℕ) → has_issued g t k c p j ≡ true → (sees g t p j c k).units ≡ (t k).units
seen_units g t c p j k h = ap (λ b. if b then (t k).units else []) h

seen_not : (g : Input) (t : Table) (c p j k : ℕ) → has_issued g t k c p j ≡ false → (sees g t p j c k).issue ≡ c + 1
seen_not g t c p j k h = ap (λ b. if b then (t k).issue else c + 1) h

seen_taken : (g : Input) (t : Table) (c p j k : ℕ) → has_issued g t k c p j ≡ true → taken_of g (sees g t p j c) k ≡ taken_of g t k
seen_taken g t c p j k h = λ i. taken_by (seen_issue g t c p j k h i) (g.row k).uses (seen_units g t c p j k h i)

-- a row that took no unit of a resource, or has not issued
no_place : (g : Input) (t : Table) (c p j r k : ℕ) → place_in g t c p j r k ≡ 0 → (has_issued g t k c p j && list_any (names_it r) (taken_of g t k)) ≡ false
no_place g t c p j r k z = go (has_issued g t k c p j) z
  where
    go : (b : Bool) → (if b then place_after r (taken_of g t k) else 0) ≡ 0 → (b && list_any (names_it r) (taken_of g t k)) ≡ false
    go true e = place_zero r (taken_of g t k) (grind (arith, nat_tests, e))
    go false e = refl

-- and one that did
some_place : (r : ℕ) (xs : List Taken) → list_any (names_it r) xs ≡ true → 0 < place_after r xs
some_place r xs h = elim (cases_Bool (nat_eq (place_after r xs) 0)) [
  | inl none ↦ absurd (let f : list_any (names_it r) xs ≡ false = place_zero r xs none in cc)
  | inr some ↦ grind (arith, nat_tests, some)
]

issued_by_place : (g : Input) (t : Table) (c p j r k : ℕ) → 0 < place_in g t c p j r k → (has_issued g t k c p j ≡ true) × (list_any (names_it r) (taken_of g t k) ≡ true)
issued_by_place g t c p j r k some = go (has_issued g t k c p j) some
  where
    named : (b : Bool) → list_any (names_it r) (taken_of g t k) ≡ b → 0 < place_after r (taken_of g t k) → b ≡ true
    named true e h = refl
    named false e h = absurd (omega (arith, h, place_none r (taken_of g t k) e))

    go : (b : Bool) → 0 < (if b then place_after r (taken_of g t k) else 0) → (b ≡ true) × (list_any (names_it r) (taken_of g t k) ≡ true)
    go true h = (refl, named (list_any (names_it r) (taken_of g t k)) refl h)
    go false h = absurd (omega (arith, h))

pub last_place : (g : Input) (table : List Times) (c p j r n last place : ℕ) → ((k : ℕ) → k < g.rows → k < length table → k < n) → n ≤ g.rows → IsLast g (times table) c p j r n last place → place ≡ place_after r (earlier_at g (times table) c p j)
last_place g table c p j r n last place whole within l = elim (cases_eq place 0) [ inl zero_place ↦ nothing zero_place | inr some ↦ something (omega (arith, some)) ]
  where
    t : Table
    t = times table

    s : Table
    s = sees g (times table) p j c

    nothing : place ≡ 0 → place ≡ place_after r (earlier_at g t c p j)
    nothing z = z ∙ sym (place_none r (earlier_at g t c p j) (sym (none_earlier g table (names_it r) c p j (λ k lt given. no_place g t c p j r k (l.none z k (whole k lt given))))))

    silent_row : 0 < place → (m : ℕ) → m < g.rows → (b : Bool) → has_issued g t m c p j ≡ b → (s m).issue < c + 1 → has_issued g t last c p j ≡ true → IssuesAfter g s last m → list_any (names_it r) (taken_of g s m) ≡ false
    silent_row some m lm false not_yet early issued after = absurd (omega (arith, early, seen_not g t c p j m not_yet))
    silent_row some m lm true seen early issued after = ap (list_any (names_it r)) (seen_taken g t c p j m seen) ∙ elim (cases_lt m (length table)) [
      | inr missing ↦ ap (list_any (names_it r)) (takes_none g table m missing)
      | inl given ↦ elim (cases_Bool (list_any (names_it r) (taken_of g t m))) [
        | inr none ↦ none
        | inl named ↦ absurd (
            let here : 0 < place_in g t c p j r m = subst (λ x. 0 < x) (place_issued g t c p j r m seen) (some_place r (taken_of g t m) named) in
            let before : comes_before (issue_key g.row t last) (issue_key g.row t m) ≡ false = l.later some m (whole m lm given) here in
            let is : comes_before (issue_key g.row t last) (issue_key g.row t m) ≡ true
            = after_before (t last).issue (t m).issue (s last).issue (s m).issue (phase (g.row last)) (phase (g.row m)) last m (seen_issue g t c p j last issued) (seen_issue g t c p j m seen) after in
            cc)
      ]
    ]

    something : 0 < place → place ≡ place_after r (earlier_at g t c p j)
    something some =
        let low : last < g.rows = omega (arith, l.low some) in
        let own : (has_issued g t last c p j ≡ true) × (list_any (names_it r) (taken_of g t last) ≡ true) = issued_by_place g t c p j r last (subst (λ x. 0 < x) (l.is some) some) in
        let early : (s last).issue < c + 1 = omega (arith, seen_issue g t c p j last own.0, seen_within g.rows (t last).issue (phase (g.row last)) last c p j own.0) in
        l.is some ∙ sym (place_issued g t c p j r last own.0) ∙ ap (place_after r) (sym (seen_taken g t c p j last own.0))
        ∙ sym (place_below g s r last (c + 1) low early (ap (list_any (names_it r)) (seen_taken g t c p j last own.0) ∙ own.1)
        (λ m lm em after. silent_row some m lm (has_issued g t m c p j) refl em own.0 after))

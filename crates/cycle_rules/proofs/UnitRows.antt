-- The laws of units over the rows of a table.
use Rattle.std.proofs.Common.{zero, suc, ◌≡◌, ℕ, ◌+◌, ◌-◌, ◌<◌, ◌≤◌, ◌⊎◌, inl, inr, List, [], ◌∷◌, ◌++◌, arith, sym, ◌∙◌, ap, subst, refl, Bool, true, false, ◌&&◌, ◌||◌}
use Rattle.std.specs.Prelude.{nat_lt, nat_le, nat_eq, if◌then◌else◌, is_some}
use Rattle.std.specs.List.{list_any}
use Rattle.std.proofs.lemmas.Bool.Decides.{nat_tests}
use Rattle.std.proofs.lemmas.Bool.{cases_Bool, eqb-true, and_parts, le-leb}
use Rattle.std.proofs.lemmas.List.Folds.{list_any-append, list_all-append}
use Rattle.machine_model.specs.declared.facts.Use.{Use}
use Rattle.cycle_rules.specs.Pick.{Taken, holds_at, pick_units, taken_by, taken_in, taken_below, pick}
use Rattle.cycle_rules.specs.declared.times.Times.{Times}
use Rattle.cycle_rules.specs.Row.{Input, Table, phase}
use Rattle.cycle_rules.specs.Seen.{comes_before, has_issued, sees}
use Rattle.cycle_rules.specs.Held.{AllEnd, AllBegun, NoChange, changes_at, taken_of}
use Rattle.cycle_rules.specs.Bind.{AreUses}
use Rattle.cycle_rules.specs.CycleBound.{reach}
use Rattle.cycle_rules.proofs.Tests.{or_none}
use Rattle.cycle_rules.proofs.UnitsEnd.{units_end, units_stay}
use Rattle.cycle_rules.proofs.UnitsFound.{units_found}

-- a row holds no unit in the cycle of its issue and its reach, or later
pub row_ends : (g : Input) (t : Table) (j : ℕ) → AllEnd ((t j).issue + reach (g.row j).uses) (taken_of g t j)
row_ends g t j = units_end (t j).issue (g.row j).uses (t j).units

-- What is said of the uses of each row is said of all that issued

any_in : (f : Taken → Bool) (g : Input) (t : Table) (c p n : ℕ) → ((k : ℕ) → k < n → (t k).issue ≡ c → list_any f (taken_of g t k) ≡ false) → list_any f (taken_in g t c p n) ≡ false
unfolding taken_in
any_in f g t c p zero h = refl
any_in f g t c p (suc n) h =
    list_any-append f (taken_in g t c p n) _ ∙ or_none _ _ (any_in f g t c p n (λ k lt. h k (omega arith))) (go (nat_eq (phase (g.row n)) p && nat_eq (t n).issue c) refl)
  where
    go : (x : Bool) → (nat_eq (phase (g.row n)) p && nat_eq (t n).issue c) ≡ x → list_any f (if x then taken_by c (g.row n).uses (t n).units else []) ≡ false
    go false e = refl
    go true e =
        let is : (t n).issue ≡ c = eqb-true _ _ (and_parts _ _ e).1 in
        subst (λ b. list_any f (taken_by b (g.row n).uses (t n).units) ≡ false) is (h n (omega arith) is)

pub any_below : (f : Taken → Bool) (g : Input) (t : Table) (c : ℕ) → ((k : ℕ) → k < g.rows → (t k).issue < c → list_any f (taken_of g t k) ≡ false) → list_any f (taken_below g t c) ≡ false
unfolding taken_below
any_below f g t zero h = refl
any_below f g t (suc c) h =
    let now : (k : ℕ) → k < g.rows → (t k).issue ≡ c → list_any f (taken_of g t k) ≡ false = λ k lt e. h k lt (omega (arith, e)) in
    list_any-append f (taken_below g t c ++ taken_in g t c 1 g.rows) (taken_in g t c 2 g.rows)
    ∙ or_none _ _ (list_any-append f (taken_below g t c) (taken_in g t c 1 g.rows) ∙ or_none _ _ (any_below f g t c (λ k lt e. h k lt (omega (arith, e)))) (any_in f g t c 1 g.rows now)) (any_in f g t c 2 g.rows now)

pub end_below : (g : Input) (t : Table) (c n : ℕ) → ((k : ℕ) → k < g.rows → (t k).issue < n → AllEnd c (taken_of g t k)) → AllEnd c (taken_below g t n)
end_below g t c n h b le = any_below (holds_at b) g t n (λ k lt e. h k lt e b le)

begun_by : (a c : ℕ) (uses : List Use) (units : List ℕ) → c ≤ a → AllBegun a (taken_by c uses units)
unfolding taken_by
begun_by a c [] us le = refl
begun_by a c (w ∷ rest) [] le = refl
begun_by a c (w ∷ rest) (u ∷ us) le = go (nat_eq w.hold 0) (begun_by a c rest us le)
  where
    go : (x : Bool) → AllBegun a (taken_by c rest us) → AllBegun a (if x then taken_by c rest us else record { resource = w.resource; hold = w.hold; unit = u; from = c } ∷ taken_by c rest us)
    go true h = h
    go false h = rw (le-leb c a le, h) refl

begun_append : (a : ℕ) (xs ys : List Taken) → AllBegun a xs → AllBegun a ys → AllBegun a (xs ++ ys)
begun_append a xs ys p q = list_all-append (λ h. nat_le h.from a) xs ys ∙ rw (p, q) refl

begun_in : (a : ℕ) (g : Input) (t : Table) (c p n : ℕ) → c ≤ a → AllBegun a (taken_in g t c p n)
unfolding taken_in
begun_in a g t c p zero le = refl
begun_in a g t c p (suc n) le = begun_append a (taken_in g t c p n) _ (begun_in a g t c p n le) (go (nat_eq (phase (g.row n)) p && nat_eq (t n).issue c))
  where
    go : (x : Bool) → AllBegun a (if x then taken_by c (g.row n).uses (t n).units else [])
    go true = begun_by a c (g.row n).uses (t n).units le
    go false = refl

pub begun_below : (a : ℕ) (g : Input) (t : Table) (c : ℕ) → c ≤ a + 1 → AllBegun a (taken_below g t c)
unfolding taken_below
begun_below a g t zero le = refl
begun_below a g t (suc c) le = begun_append a (taken_below g t c ++ taken_in g t c 1 g.rows) (taken_in g t c 2 g.rows)
    (begun_append a (taken_below g t c) (taken_in g t c 1 g.rows) (begun_below a g t c (omega arith)) (begun_in a g t c 1 g.rows (omega arith))) (begun_in a g t c 2 g.rows (omega arith))

-- What issued is the same in tables whose rows issued alike

in_same : (g : Input) (s t : Table) (c p n : ℕ) → ((k : ℕ) → k < n → nat_eq (s k).issue c ≡ nat_eq (t k).issue c) → ((k : ℕ) → k < n → (s k).issue ≡ c → (s k).units ≡ (t k).units) → taken_in g s c p n ≡ taken_in g t c p n
unfolding taken_in
in_same g s t c p zero e u = refl
in_same g s t c p (suc n) e u = rw (in_same g s t c p n (λ k lt. e k (omega arith)) (λ k lt. u k (omega arith)), ← e n (omega arith)) (go (nat_eq (phase (g.row n)) p && nat_eq (s n).issue c) refl)
  where
    go : (x : Bool) → (nat_eq (phase (g.row n)) p && nat_eq (s n).issue c) ≡ x
        → taken_in g t c p n ++ (if x then taken_by c (g.row n).uses (s n).units else []) ≡ taken_in g t c p n ++ (if x then taken_by c (g.row n).uses (t n).units else [])
    go false h = refl
    go true h = ap (λ us. taken_in g t c p n ++ taken_by c (g.row n).uses us) (u n (omega arith) (eqb-true _ _ (and_parts _ _ h).1))

pub below_same : (g : Input) (s t : Table) (c : ℕ) → ((k b : ℕ) → k < g.rows → b < c → nat_eq (s k).issue b ≡ nat_eq (t k).issue b) → ((k : ℕ) → k < g.rows → (s k).issue < c → (s k).units ≡ (t k).units) → taken_below g s c ≡ taken_below g t c
unfolding taken_below
below_same g s t zero e u = refl
below_same g s t (suc c) e u =
    let units : (k : ℕ) → k < g.rows → (s k).issue ≡ c → (s k).units ≡ (t k).units = λ k lt is. u k lt (omega (arith, is)) in
    rw (
      below_same g s t c (λ k b lt up. e k b lt (omega arith)) (λ k lt up. u k lt (omega arith)),
      in_same g s t c 1 g.rows (λ k lt. e k c lt (omega arith)) units,
      in_same g s t c 2 g.rows (λ k lt. e k c lt (omega arith)) units,
    ) refl

in_none : (g : Input) (t : Table) (c p n : ℕ) → ((k : ℕ) → k < n → nat_eq (t k).issue c ≡ false) → taken_in g t c p n ≡ []
unfolding taken_in
in_none g t c p zero h = refl
in_none g t c p (suc n) h = rw (in_none g t c p n (λ k lt. h k (omega arith)), h n (omega arith)) (go (nat_eq (phase (g.row n)) p))
  where
    go : (x : Bool) → ([] ++ (if x && false then taken_by c (g.row n).uses (t n).units else [])) ≡ []
    go true = refl
    go false = refl

-- cycles in which no row issued add nothing
pub below_more : (g : Input) (t : Table) (c n : ℕ) → ((k b : ℕ) → k < g.rows → c ≤ b → b < c + n → nat_eq (t k).issue b ≡ false) → taken_below g t (c + n) ≡ taken_below g t c
unfolding taken_below
below_more g t c zero h = ap (taken_below g t) (let e : c + 0 ≡ c = omega arith in e)
below_more g t c (suc n) h =
    let more : c + suc n ≡ suc (c + n) = omega arith in
    let last : (k : ℕ) → k < g.rows → nat_eq (t k).issue (c + n) ≡ false = λ k lt. h k (c + n) lt (omega arith) (omega arith) in
    rw (more, in_none g t (c + n) 1 g.rows last, in_none g t (c + n) 2 g.rows last) (nothing (taken_below g t (c + n)) ∙ below_more g t c n (λ k b lt lo up. h k b lt lo (omega arith)))
  where
    nothing : (xs : List Taken) → xs ++ [] ++ [] ≡ xs
    nothing [] = refl
    nothing (x ∷ xs) = ap (λ l. x ∷ l) (nothing xs)

-- What a row sees of those that have issued

issued_low : (g : Input) (t : Table) (k c p j : ℕ) → has_issued g t k c p j ≡ true → (t k).issue ≤ c
unfolding comes_before
issued_low g t k c p j e = low (and_parts (nat_lt k g.rows) (nat_lt (t k).issue c || (nat_eq (t k).issue c && (nat_lt (phase (g.row k)) p || (nat_eq (phase (g.row k)) p && nat_lt k j)))) e).1
  where
    low : (nat_lt (t k).issue c || (nat_eq (t k).issue c && (nat_lt (phase (g.row k)) p || (nat_eq (phase (g.row k)) p && nat_lt k j)))) ≡ true → (t k).issue ≤ c
    low h = grind (arith, nat_tests, h)

pub sees_issue : (g : Input) (t : Table) (p j c k : ℕ) → (has_issued g t k c p j ≡ true → (sees g t p j c k).issue ≡ (t k).issue) × (has_issued g t k c p j ≡ false → (sees g t p j c k).issue ≡ c + 1)
sees_issue g t p j c k = ((λ e. rw e refl), (λ e. rw e refl))

pub sees_units : (g : Input) (t : Table) (p j c k : ℕ) → has_issued g t k c p j ≡ true → (sees g t p j c k).units ≡ (t k).units
sees_units g t p j c k e = rw e refl

taken_seen : (g : Input) (t : Table) (p j c k : ℕ) → has_issued g t k c p j ≡ true → taken_of g (sees g t p j c) k ≡ taken_of g t k
taken_seen g t p j c k e = rw (e) refl

pub row_finds : (g : Input) (t : Table) (p j c : ℕ) → AreUses g.machine (g.row j).uses → ((k : ℕ) → has_issued g t k c p j ≡ true → AllEnd c (taken_of g t k))
    → is_some (pick g (sees g t p j c) j c) ≡ true
unfolding pick
row_finds g t p j c met h = units_found g.machine (taken_below g (sees g t p j c) (c + 1)) c (g.row j).uses met
    (end_below g (sees g t p j c) c (c + 1) (λ k lt low. elim (cases_Bool (has_issued g t k c p j)) [
      | inl is ↦ subst (AllEnd c) (sym (taken_seen g t p j c k is)) (h k is)
      | inr not_yet ↦ (let e : (sees g t p j c k).issue ≡ c + 1 = (sees_issue g t p j c k).1 not_yet in absurd (omega (arith, e, low)))
    ]))

-- at two keys at which the same rows have issued, the same uses have taken units
pub lists_same : (g : Input) (t : Table) (p q j i a b : ℕ) → a ≤ b → ((k : ℕ) → has_issued g t k a p j ≡ has_issued g t k b q i) → taken_below g (sees g t p j a) (a + 1) ≡ taken_below g (sees g t q i b) (b + 1)
lists_same g t p q j i a b le same =
    let end : a + 1 + (b - a) ≡ b + 1 = omega arith in
    below_same g first second (a + 1) alike units ∙ sym (below_more g second (a + 1) (b - a) none_between) ∙ ap (taken_below g second) end
  where
    first : ℕ → Times
    first = sees g t p j a

    second : ℕ → Times
    second = sees g t q i b

    issue_a : (k : ℕ) → (((first k).issue ≡ (t k).issue) × ((second k).issue ≡ (t k).issue) × ((t k).issue ≤ a) × ((first k).units ≡ (second k).units)) ⊎ (((first k).issue ≡ a + 1) × ((second k).issue ≡ b + 1))
    issue_a k = elim (cases_Bool (has_issued g t k a p j)) [
      | inl is ↦ (let still : has_issued g t k b q i ≡ true = sym (same k) ∙ is in
          inl ((sees_issue g t p j a k).0 is, (sees_issue g t q i b k).0 still, issued_low g t k a p j is, sees_units g t p j a k is ∙ sym (sees_units g t q i b k still)))
      | inr not_yet ↦ inr ((sees_issue g t p j a k).1 not_yet, (sees_issue g t q i b k).1 (sym (same k) ∙ not_yet))
    ]

    differ : (x y z : ℕ) → x ≡ y → z < y → nat_eq x z ≡ false
    differ x y z e lt = grind (arith, nat_tests, e, lt)

    none_between : (k c : ℕ) → k < g.rows → a + 1 ≤ c → c < a + 1 + (b - a) → nat_eq (second k).issue c ≡ false
    none_between k c lt lo up = elim (issue_a k) [
      | inl (x, y, low, u) ↦ grind (arith, nat_tests, y, low, lo)
      | inr (x, y) ↦ differ _ (b + 1) c y (omega (arith, le, up))
    ]

    alike : (k c : ℕ) → k < g.rows → c < a + 1 → nat_eq (first k).issue c ≡ nat_eq (second k).issue c
    alike k c lt up = elim (issue_a k) [
      | inl (x, y, low, u) ↦ rw (x, y) refl
      | inr (x, y) ↦ differ _ (a + 1) c x up ∙ sym (differ _ (b + 1) c y (omega (arith, le, up)))
    ]

    units : (k : ℕ) → k < g.rows → (first k).issue < a + 1 → (first k).units ≡ (second k).units
    units k lt low = elim (issue_a k) [
      | inl (x, y, l, u) ↦ u
      | inr (x, y) ↦ absurd (omega (arith, x, low))
    ]

pub row_stays : (g : Input) (t : Table) (p q j a b : ℕ) → a ≤ b → ((k : ℕ) → has_issued g t k a p j ≡ has_issued g t k b q j)
    → ((k : ℕ) → has_issued g t k a p j ≡ true → NoChange g.machine a b (taken_of g t k)) → pick g (sees g t p j a) j a ≡ pick g (sees g t q j b) j b
unfolding pick
row_stays g t p q j a b le same quiet =
    ap (λ l. pick_units g.machine l a (g.row j).uses) lists ∙ units_stay g.machine (taken_below g (sees g t q j b) (b + 1)) a b (g.row j).uses le
    (subst (AllBegun a) lists (begun_below a g (sees g t p j a) (a + 1) (omega arith)))
    (λ c up to. subst (λ l. list_any (changes_at g.machine c) l ≡ false) lists (any_below (changes_at g.machine c) g (sees g t p j a) (a + 1) (λ k lt low. elim (cases_Bool (has_issued g t k a p j)) [
      | inl is ↦ subst (λ l. list_any (changes_at g.machine c) l ≡ false) (sym (taken_seen g t p j a k is)) (quiet k is c up to)
      | inr not_yet ↦ (let e : (sees g t p j a k).issue ≡ a + 1 = (sees_issue g t p j a k).1 not_yet in absurd (omega (arith, e, low)))
    ])))
  where
    lists : taken_below g (sees g t p j a) (a + 1) ≡ taken_below g (sees g t q j b) (b + 1)
    lists = lists_same g t p q j j a b le same

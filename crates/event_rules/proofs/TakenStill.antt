-- The uses that have taken units stay the same while no row issues, and none of them changes where no time of a row falls.
use Rattle.std.proofs.Common.{zero, suc, ◌≡◌, ℕ, ◌+◌, ◌-◌, ◌<◌, ◌≤◌, List, [], ◌∷◌, ◌++◌, arith, sym, ◌∙◌, ap, subst, refl, Bool, true, false, ◌&&◌, ◌||◌, append-nil, add-suc, add-zero}
use Rattle.std.specs.Prelude.{nat_lt, nat_le, nat_eq, if◌then◌else◌, Option, Some, None}
use Rattle.std.specs.List.{list_all, list_any}
use Rattle.std.proofs.lemmas.Bool.Decides.{nat_tests}
use Rattle.std.proofs.lemmas.Bool.{eqb-true, and_parts, le-leb, le-ltb, ltb-false}
use Rattle.std.proofs.lemmas.List.Folds.{list_any-append}
use Rattle.machine_model.specs.declared.facts.Use.{Use}
use Rattle.cycle_rules.specs.Row.{Input, Table, phase}
use Rattle.cycle_rules.specs.Pick.{Taken, taken_by, taken_in, taken_below, pick, pick_units}
use Rattle.cycle_rules.specs.Schedule.{Fall, Known}
use Rattle.cycle_rules.specs.Events.{cycle_or, known_of, table_of, in_cycle}
use Rattle.event_rules.specs.Due.{changes}
use Rattle.event_rules.proofs.Reached.{Early}
use Rattle.cycle_rules.proofs.UnitsEnd.{units_stay}
use Rattle.machine_model.specs.Meaning.{MachineMeaning}
use Rattle.cycle_rules.specs.Held.{changes_at}

-- two tables with the same issues in a cycle and the same units of those that issue there
pub record SameIssued (c : ℕ) (s t : Table) (k : ℕ) : Type 0 where
  pub there : nat_eq (s k).issue c ≡ nat_eq (t k).issue c
  pub units : (s k).units ≡ (t k).units

in_same : (g : Input) (s t : Table) (c p n : ℕ) → ((k : ℕ) → SameIssued c s t k) → taken_in g s c p n ≡ taken_in g t c p n
unfolding taken_in
in_same g s t c p zero h = refl
in_same g s t c p (suc n) h = rw (in_same g s t c p n h, (h n).there, (h n).units) refl

pub below_same : (g : Input) (s t : Table) (n : ℕ) → ((c k : ℕ) → c < n → SameIssued c s t k) → taken_below g s n ≡ taken_below g t n
unfolding taken_below
below_same g s t zero h = refl
below_same g s t (suc c) h =
    rw (below_same g s t c (λ b k lt. h b k (omega arith)), in_same g s t c 1 g.rows (λ k. h c k (omega arith)), in_same g s t c 2 g.rows (λ k. h c k (omega arith))) refl

none_in : (g : Input) (t : Table) (c p n : ℕ) → ((k : ℕ) → nat_eq (t k).issue c ≡ false) → taken_in g t c p n ≡ []
unfolding taken_in
none_in g t c p zero h = refl
none_in g t c p (suc n) h = rw (none_in g t c p n h, h n) (go (nat_eq (phase (g.row n)) p) (taken_by c (g.row n).uses (t n).units))
  where
    go : (x : Bool) (l : List Taken) → ([] ++ (if x && false then l else [])) ≡ []
    go true l = refl
    go false l = refl

none_next : (g : Input) (t : Table) (c : ℕ) → ((k : ℕ) → nat_eq (t k).issue c ≡ false) → taken_below g t (suc c) ≡ taken_below g t c
unfolding taken_below
none_next g t c none = rw (none_in g t c 1 g.rows none, none_in g t c 2 g.rows none) (append-nil _ ∙ append-nil _)

-- no row issues in the n cycles from a on
below_more : (g : Input) (t : Table) (a n : ℕ) → ((c k : ℕ) → a ≤ c → c < a + n → nat_eq (t k).issue c ≡ false) → taken_below g t (a + n) ≡ taken_below g t a
below_more g t a zero h = rw add-zero refl
below_more g t a (suc n) h = rw add-suc (none_next g t (a + n) (λ k. h (a + n) k (omega arith) (omega arith)) ∙ below_more g t a n (λ c k le lt. h c k le (omega arith)))

-- A test that none of the uses passes

any_in : (g : Input) (t : Table) (f : Taken → Bool) (c q n : ℕ) → ((k : ℕ) → k < n → (t k).issue ≡ c → list_any f (taken_by c (g.row k).uses (t k).units) ≡ false) → list_any f (taken_in g t c q n) ≡ false
unfolding taken_in
any_in g t f c q zero h = refl
any_in g t f c q (suc n) h = rw (list_any-append f (taken_in g t c q n), any_in g t f c q n (λ k lt. h k (omega arith))) (go (nat_eq (phase (g.row n)) q && nat_eq (t n).issue c) refl)
  where
    go : (x : Bool) → (nat_eq (phase (g.row n)) q && nat_eq (t n).issue c) ≡ x → (false || list_any f (if x then taken_by c (g.row n).uses (t n).units else [])) ≡ false
    go true e = h n (omega arith) (eqb-true _ _ (and_parts _ _ e).1)
    go false e = refl

pub any_taken : (g : Input) (t : Table) (f : Taken → Bool) (c : ℕ) → ((k : ℕ) → k < g.rows → (t k).issue < c → list_any f (taken_by (t k).issue (g.row k).uses (t k).units) ≡ false) → list_any f (taken_below g t c) ≡ false
unfolding taken_below
any_taken g t f zero h = refl
any_taken g t f (suc c) h =
    let now : (k : ℕ) → k < g.rows → (t k).issue ≡ c → list_any f (taken_by c (g.row k).uses (t k).units) ≡ false = λ k lt e. subst (λ i. list_any f (taken_by i (g.row k).uses (t k).units) ≡ false) e (h k lt (omega (arith, e))) in
    rw (list_any-append f (taken_below g t c ++ taken_in g t c 1 g.rows) (taken_in g t c 2 g.rows), list_any-append f (taken_below g t c) (taken_in g t c 1 g.rows), any_taken g t f c (λ k lt e. h k lt (omega arith)), any_in g t f c 1 g.rows now, any_in g t f c 2 g.rows now) refl

-- a use that begins after a cycle
abbrev begins_after : ℕ → Taken → Bool
begins_after b h = nat_lt b h.from

by_begins : (b c : ℕ) (uses : List Use) (us : List ℕ) → c ≤ b → list_any (begins_after b) (taken_by c uses us) ≡ false
unfolding taken_by
by_begins b c [] us le = refl
by_begins b c (w ∷ rest) [] le = refl
by_begins b c (w ∷ rest) (u ∷ us) le = go (nat_eq w.hold 0) (by_begins b c rest us le)
  where
    go : (x : Bool) → list_any (begins_after b) (taken_by c rest us) ≡ false → list_any (begins_after b) (if x then taken_by c rest us else record { resource = w.resource; hold = w.hold; unit = u; from = c } ∷ taken_by c rest us) ≡ false
    go true e = e
    go false e = rw (le-ltb b c le, e) refl

pub or_parts : (x y : Bool) → (x || y) ≡ false → (x ≡ false) × (y ≡ false)
or_parts false y e = (refl, e)
or_parts true y e = cc

none_after : (b : ℕ) (hs : List Taken) → list_any (begins_after b) hs ≡ false → list_all (λ h. nat_le h.from b) hs ≡ true
none_after b [] e = refl
none_after b (x ∷ hs) e = let q : (nat_lt b x.from ≡ false) × (list_any (begins_after b) hs ≡ false) = or_parts _ _ e in rw (le-leb x.from b (ltb-false _ _ q.0), none_after b hs q.1) refl

-- the uses of a row change in none of the cycles that are not among its changes
pub by_changes : (m : MachineMeaning) (x i : ℕ) (uses : List Use) (us : List ℕ) → list_any (nat_eq x) (changes i uses) ≡ false → list_any (changes_at m x) (taken_by i uses us) ≡ false
unfolding taken_by changes_at
by_changes m x i [] us h = refl
by_changes m x i (w ∷ rest) [] h = refl
by_changes m x i (w ∷ rest) (u ∷ us) h =
    let q : (nat_eq x (i + w.hold) ≡ false) × (list_any (nat_eq x) (changes i rest) ≡ false) = or_parts _ _ h in
    go (nat_eq w.hold 0) q.0 (by_changes m x i rest us q.1)
  where
    and_false : (b : Bool) → (b && false) ≡ false
    and_false true = refl
    and_false false = refl

    go : (b : Bool) → nat_eq x (i + w.hold) ≡ false → list_any (changes_at m x) (taken_by i rest us) ≡ false
        → list_any (changes_at m x) (if b then taken_by i rest us else record { resource = w.resource; hold = w.hold; unit = u; from = i } ∷ taken_by i rest us) ≡ false
    go true e f = f
    go false e f = rw (e, f, and_false (nat_lt 0 w.hold)) refl

-- Units of a row

issue_same : (g : Input) (known : Known (List ℕ)) (x y c k : ℕ) → c < x → c < y → SameIssued c (table_of g x known) (table_of g y known) k
issue_same g known x y c k lx ly = record { there = go (known_of g known (phase (g.row k)) k); units = refl }
  where
    go : (o : Option (Fall (List ℕ))) → nat_eq (cycle_or x o) c ≡ nat_eq (cycle_or y o) c
    go None = grind (arith, nat_tests)
    go (Some f) = refl

not_issued : (a x c : ℕ) (o : Option (Fall (List ℕ))) → Early a o → a ≤ c → c < x → nat_eq (cycle_or x o) c ≡ false
not_issued a x c None early le lt = grind (arith, nat_tests)
not_issued a x c (Some f) early le lt = let e : f.cycle < a = early f refl in grind (arith, nat_tests, e)

-- where all issues fell before a, no use takes a unit from a on, as far as b
pub taken_still : (g : Input) (known : Known (List ℕ)) (a b : ℕ) → a ≤ b → ((k : ℕ) → Early a (known_of g known (phase (g.row k)) k)) → taken_below g (in_cycle g a known) (a + 1) ≡ taken_below g (in_cycle g b known) (b + 1)
taken_still g known a b le early =
    let s : Table = in_cycle g a known in
    let t : Table = in_cycle g b known in
    let more : (x n : ℕ) → a + n ≤ x → taken_below g (table_of g x known) (a + n) ≡ taken_below g (table_of g x known) a
    = λ x n bound. below_more g (table_of g x known) a n (λ c k lo hi. not_issued a x c (known_of g known (phase (g.row k)) k) (early k) lo (omega arith)) in
    let in_a : taken_below g s (a + 1) ≡ taken_below g s a = more (a + 1) 1 (omega arith) in
    let sum : a + (b - a + 1) ≡ b + 1 = omega arith in
    let in_b : taken_below g t (b + 1) ≡ taken_below g s a = subst (λ n. taken_below g t n ≡ taken_below g t a) sum (more (b + 1) (b - a + 1) (omega arith)) ∙ below_same g t s a (λ c k lt. issue_same g known (b + 1) (a + 1) c k (omega arith) (omega arith)) in
    in_a ∙ sym in_b

-- where all issues fell before a and no use changes after it, as far as b, the units that a row would take are the same in a and in b
pub still_pick : (g : Input) (known : Known (List ℕ)) (a b j : ℕ) → a ≤ b → ((k : ℕ) → Early a (known_of g known (phase (g.row k)) k))
    → ((x k : ℕ) → a < x → x ≤ b → k < g.rows → (f : Fall (List ℕ)) → known_of g known (phase (g.row k)) k ≡ Some f → list_any (nat_eq x) (changes f.cycle (g.row k).uses) ≡ false)
    → pick g (in_cycle g a known) j a ≡ pick g (in_cycle g b known) j b
unfolding pick
still_pick g known a b j le early quiet =
    let s : Table = in_cycle g a known in
    let t : Table = in_cycle g b known in
    let base : List Taken = taken_below g s a in
    let more : (x n : ℕ) → a + n ≤ x → taken_below g (table_of g x known) (a + n) ≡ taken_below g (table_of g x known) a
    = λ x n bound. below_more g (table_of g x known) a n (λ c k lo hi. not_issued a x c (known_of g known (phase (g.row k)) k) (early k) lo (omega arith)) in
    let in_a : taken_below g s (a + 1) ≡ base = more (a + 1) 1 (omega arith) in
    let sum : a + (b - a + 1) ≡ b + 1 = omega arith in
    let in_b : taken_below g t (b + 1) ≡ base = subst (λ n. taken_below g t n ≡ taken_below g t a) sum (more (b + 1) (b - a + 1) (omega arith)) ∙ below_same g t s a (λ c k lt. issue_same g known (b + 1) (a + 1) c k (omega arith) (omega arith)) in
    let begun : list_all (λ h. nat_le h.from a) base ≡ true = none_after a base (any_taken g s (begins_after a) a (λ k lk lt. by_begins a (s k).issue (g.row k).uses (s k).units (omega arith))) in
    let still : (x : ℕ) → a < x → x ≤ b → list_any (changes_at g.machine x) base ≡ false = λ x lo hi. any_taken g s (changes_at g.machine x) a
    (λ k lk lt. by_changes g.machine x (s k).issue (g.row k).uses (s k).units (at_row x k lo hi lk (known_of g known (phase (g.row k)) k) refl lt)) in
    ap (λ l. pick_units g.machine l a (g.row j).uses) in_a ∙ units_stay g.machine base a b (g.row j).uses le begun still ∙ ap (λ l. pick_units g.machine l b (g.row j).uses) (sym in_b)
  where
    at_row : (x k : ℕ) → a < x → x ≤ b → k < g.rows → (o : Option (Fall (List ℕ))) → known_of g known (phase (g.row k)) k ≡ o → cycle_or (a + 1) o < a → list_any (nat_eq x) (changes (cycle_or (a + 1) o) (g.row k).uses) ≡ false
    at_row x k lo hi lk None is lt = absurd (omega (arith, lt))
    at_row x k lo hi lk (Some f) is lt = quiet x k lo hi lk f is

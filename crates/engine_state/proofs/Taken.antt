-- The list of the uses that have taken a unit grows at its end as rows issue.
use Rattle.std.proofs.Common.{zero, suc, ◌≡◌, ℕ, ◌+◌, ◌<◌, ◌≤◌, ◌⊎◌, inl, inr, List, [], ◌++◌, set, arith, sym, ◌∙◌, ap, subst, refl, add-one, Bool, true, false, ◌&&◌, cond, append_assoc, append-nil}
use Rattle.std.specs.Prelude.{nat_eq, if◌then◌else◌, Option, Some, None}
use Rattle.std.proofs.lemmas.Bool.Decides.{nat_tests}
use Rattle.std.proofs.lemmas.Bool.{cases_Bool, cases_lt, cases_eq}
use Rattle.cycle_rules.specs.Schedule.{event, known_at}
use Rattle.cycle_rules.specs.Row.{Input, Table, phase}
use Rattle.cycle_rules.specs.Pick.{Taken, taken_by, taken_in, taken_below}
use Rattle.cycle_rules.specs.Events.{events, cycle_or, known_of, units_or_none, rules_of}
use Rattle.engine_state.specs.State.{recorded_in, recorded, now, taken_now, at, IsState}
use Rattle.cycle_rules.specs.Row.{Row}
use Rattle.cycle_rules.specs.declared.times.Times.{Times}
use Rattle.cycle_rules.proofs.Exists.{came}
use Rattle.cycle_rules.proofs.Rows.{phase_reserved, phase_free}
use Rattle.cycle_rules.proofs.Sees.{known_in}
use Rattle.engine_state.proofs.State.{recorded_row, times_set_other}

-- what row k adds in a cycle and a phase
abbrev pub added : Input → Table → ℕ → ℕ → ℕ → List Taken
added g t c p k = if nat_eq (phase (g.row k)) p && nat_eq (t k).issue c then taken_by c (g.row k).uses (t k).units else []

added_other : (g : Input) (t : Table) (c p k : ℕ) → ((t k).issue ≡ c → ⊥) → added g t c p k ≡ []
added_other g t c p k ne = let test : nat_eq (t k).issue c ≡ false = grind (arith, nat_tests, ne) in rw test (nothing (nat_eq (phase (g.row k)) p))
  where
    nothing : (b : Bool) → ◌≡◌ {A = List Taken} (cond (b && false) (taken_by c (g.row k).uses (t k).units) []) []
    nothing true = refl
    nothing false = refl

added_phase : (g : Input) (t : Table) (c p k : ℕ) → (phase (g.row k) ≡ p → ⊥) → added g t c p k ≡ []
added_phase g t c p k ne = let test : nat_eq (phase (g.row k)) p ≡ false = grind (arith, nat_tests, ne) in rw test refl

added_here : (g : Input) (t : Table) (c p k : ℕ) → phase (g.row k) ≡ p → (t k).issue ≡ c → added g t c p k ≡ taken_by c (g.row k).uses (t k).units
added_here g t c p k e i =
    let one : nat_eq (phase (g.row k)) p ≡ true = grind (arith, nat_tests) in
    let two : nat_eq (t k).issue c ≡ true = grind (arith, nat_tests) in rw (one, two) refl

in_same : (g : Input) (s t : Table) (c p n : ℕ) → ((k : ℕ) → k < n → added g t c p k ≡ added g s c p k) → taken_in g t c p n ≡ taken_in g s c p n
unfolding taken_in
in_same g s t c p zero h = refl
in_same g s t c p (suc n) h = let rest : taken_in g t c p n ≡ taken_in g s c p n = in_same g s t c p n (λ k lt. h k (omega arith)) in rw (rest, h n (omega arith)) refl

in_none : (g : Input) (t : Table) (c p n : ℕ) → ((k : ℕ) → k < n → added g t c p k ≡ []) → taken_in g t c p n ≡ []
unfolding taken_in
in_none g t c p zero h = refl
in_none g t c p (suc n) h = let rest : taken_in g t c p n ≡ [] = in_none g t c p n (λ k lt. h k (omega arith)) in rw (rest, h n (omega arith)) refl

-- row j adds x, and no row above it adds
in_grows : (g : Input) (s t : Table) (c p j n : ℕ) (x : List Taken) → j < n → ((k : ℕ) → k < j → added g t c p k ≡ added g s c p k) → added g s c p j ≡ [] → added g t c p j ≡ x
    → ((k : ℕ) → j < k → k < n → (added g s c p k ≡ []) × (added g t c p k ≡ [])) → taken_in g t c p n ≡ taken_in g s c p n ++ x
unfolding taken_in
in_grows g s t c p j zero x lt same before after above = absurd (omega arith)
in_grows g s t c p j (suc n) x lt same before after above = elim (cases_lt j n) [
  | inl low ↦ (let rest : taken_in g t c p n ≡ taken_in g s c p n ++ x = in_grows g s t c p j n x low same before after (λ k more less. above k more (omega arith)) in
      let end : (added g s c p n ≡ []) × (added g t c p n ≡ []) = above n low (omega arith) in rw (rest, end.0, end.1) (simp append-nil))
  | inr last ↦ (let e : j ≡ n = omega arith in
      let rest : taken_in g t c p n ≡ taken_in g s c p n = in_same g s t c p n (λ k less. same k (omega (arith, less, e))) in
      let mine : added g s c p n ≡ [] = subst (λ i. added g s c p i ≡ []) e before in
      let theirs : added g t c p n ≡ x = subst (λ i. added g t c p i ≡ x) e after in rw (rest, mine, theirs) (simp append-nil))
]

below_same : (g : Input) (s t : Table) (c : ℕ) → ((b p k : ℕ) → b < c → k < g.rows → added g t b p k ≡ added g s b p k) → taken_below g t c ≡ taken_below g s c
unfolding taken_below
below_same g s t zero h = refl
below_same g s t (suc c) h =
    let rest : taken_below g t c ≡ taken_below g s c = below_same g s t c (λ b p k less lk. h b p k (omega arith) lk) in
    let one : taken_in g t c 1 g.rows ≡ taken_in g s c 1 g.rows = in_same g s t c 1 g.rows (λ k lk. h c 1 k (omega arith) lk) in
    let two : taken_in g t c 2 g.rows ≡ taken_in g s c 2 g.rows = in_same g s t c 2 g.rows (λ k lk. h c 2 k (omega arith) lk) in
    rw (rest, one, two) refl

pub phase_low : (b : Row) → phase b < 3
unfolding phase
phase_low b = grind arith

cases_option : {A : Type 0} (o : Option A) → (o ≡ None) ⊎ ((x : A) × (o ≡ Some x))
cases_option None = inl refl
cases_option (Some x) = inr (x, refl)

-- a row whose issue does not lie before the key is not read as issued in the cycle
not_issued : (g : Input) (n c k : ℕ) (xs : List Times) → IsState g n xs → k < g.rows → n ≤ at g c (phase (g.row k)) k → (now g c xs k).issue ≡ c → ⊥
not_issued g n c k xs h lt le is = elim (cases_option (recorded g xs (event g.rows (phase (g.row k)) k))) [
  | inl none ↦ omega (arith, sym (ap (cycle_or (c + 1)) (known_in g (recorded g xs) (phase (g.row k)) k lt ∙ none)) ∙ is)
  | inr x ↦ (
      let here : (x.0).cycle ≡ c = sym (ap (cycle_or (c + 1)) (known_in g (recorded g xs) (phase (g.row k)) k lt ∙ x.1)) ∙ is in
      let known : known_at (rules_of g) (events g) n (event g.rows (phase (g.row k)) k) ≡ Some x.0 = sym (ap (λ v. v (event g.rows (phase (g.row k)) k)) h.known) ∙ x.1 in
      let before : at g (x.0).cycle (phase (g.row k)) k < n = (came (rules_of g) (events g) n (event g.rows (phase (g.row k)) k) x.0 (omega (arith, lt)) known).before in
      let now_before : at g c (phase (g.row k)) k < n = subst (λ b. at g b (phase (g.row k)) k < n) here before in
      omega (arith, now_before, le))
]

-- another row is read as before
pub now_other : (g : Input) (c j k : ℕ) (xs : List Times) (v : Times) → k < g.rows → (k ≡ j → ⊥) → now g c (set xs j v) k ≡ now g c xs k
now_other g c j k xs v lt ne =
    let same : (q : ℕ) → q < 3 → known_of g (recorded g (set xs j v)) q k ≡ known_of g (recorded g xs) q k = λ q three.
    known_in g (recorded g (set xs j v)) q k lt ∙ recorded_row g (set xs j v) q k three lt ∙ ap (λ t. recorded_in (g.row k) t q) (times_set_other xs j k v ne) ∙ sym (known_in g (recorded g xs) q k lt ∙ recorded_row g xs q k three lt) in
    let retire : known_of g (recorded g (set xs j v)) 0 k ≡ known_of g (recorded g xs) 0 k = same 0 (omega arith) in
    let issue : known_of g (recorded g (set xs j v)) (phase (g.row k)) k ≡ known_of g (recorded g xs) (phase (g.row k)) k = same (phase (g.row k)) (phase_low (g.row k)) in
    let dispatch : known_of g (recorded g (set xs j v)) 2 k ≡ known_of g (recorded g xs) 2 k = same 2 (omega arith) in
    λ i. record { dispatch = cycle_or (c + 1) (dispatch i); issue = cycle_or (c + 1) (issue i); complete = cycle_or (c + 1) (issue i) + (g.row k).latency; retire = cycle_or (c + 1) (retire i); units = units_or_none (issue i) }

-- row j issues in cycle c, and no row that comes after it has
pub record Grows (g : Input) (s t : Table) (c j : ℕ) (units : List ℕ) : Type 0 where
  pub others : (k : ℕ) → k < g.rows → (k ≡ j → ⊥) → t k ≡ s k
  pub before : (s j).issue ≡ c + 1
  pub issue : (t j).issue ≡ c
  pub units_are : (t j).units ≡ units
  pub later : (k : ℕ) → k < g.rows → at g c (phase (g.row j)) j ≤ at g c (phase (g.row k)) k → (s k).issue ≡ c → ⊥

added_same : (g : Input) (s t : Table) (c j b p k : ℕ) (units : List ℕ) → Grows g s t c j units → k < g.rows → (k ≡ j → ⊥) → added g t b p k ≡ added g s b p k
added_same g s t c j b p k units h lk ne = ap (λ (x : Times). if nat_eq (phase (g.row k)) p && nat_eq x.issue b then taken_by b (g.row k).uses x.units else []) (h.others k lk ne)

-- in earlier cycles nothing changes
below_keeps : (g : Input) (s t : Table) (c j : ℕ) (units : List ℕ) → Grows g s t c j units → taken_below g t c ≡ taken_below g s c
below_keeps g s t c j units h = below_same g s t c (λ b p k less lk. elim (cases_eq k j) [
  | inr ne ↦ added_same g s t c j b p k units h lk ne
  | inl e ↦ subst (λ i. added g t b p i ≡ added g s b p i) (sym e) (added_other g t b p j (λ is. omega (arith, is, h.issue, less)) ∙ sym (added_other g s b p j (λ is. omega (arith, is, h.before, less))))
])

-- nor in the other phase
phase_keeps : (g : Input) (s t : Table) (c j p : ℕ) (units : List ℕ) → Grows g s t c j units → (phase (g.row j) ≡ p → ⊥) → taken_in g t c p g.rows ≡ taken_in g s c p g.rows
phase_keeps g s t c j p units h other = in_same g s t c p g.rows (λ k lk. elim (cases_eq k j) [
  | inr ne ↦ added_same g s t c j c p k units h lk ne
  | inl e ↦ subst (λ i. added g t c p i ≡ added g s c p i) (sym e) (added_phase g t c p j other ∙ sym (added_phase g s c p j other))
])

-- a row of a phase has not issued, if it comes after the key
after_key : (g : Input) (s t : Table) (c j p k : ℕ) (units : List ℕ) → Grows g s t c j units → k < g.rows → at g c (phase (g.row j)) j ≤ at g c p k → added g s c p k ≡ []
after_key g s t c j p k units h lk le = elim (cases_eq (phase (g.row k)) p) [
  | inl is ↦ added_other g s c p k (h.later k lk (subst (λ q. at g c (phase (g.row j)) j ≤ at g c q k) (sym is) le))
  | inr ne ↦ added_phase g s c p k ne
]

phase_grows : (g : Input) (s t : Table) (c j p : ℕ) (units : List ℕ) → Grows g s t c j units → j < g.rows → phase (g.row j) ≡ p → taken_in g t c p g.rows ≡ taken_in g s c p g.rows ++ taken_by c (g.row j).uses units
phase_grows g s t c j p units h lt is = in_grows g s t c p j g.rows (taken_by c (g.row j).uses units) lt
    (λ k less. added_same g s t c j c p k units h (omega (arith, less, lt)) (λ e. omega (arith, e, less)))
    (added_other g s c p j (λ e. omega (arith, e, h.before)))
    (added_here g t c p j is h.issue ∙ ap (taken_by c (g.row j).uses) h.units_are)
    (λ k more lk. let none : added g s c p k ≡ [] = after_key g s t c j p k units h lk (subst (λ q. at g c q j ≤ at g c p k) (sym is) (omega (arith, more))) in
    (none, added_same g s t c j c p k units h lk (λ e. omega (arith, e, more)) ∙ none))

joins_one : (a b x : List Taken) → a ++ (b ++ x) ++ [] ≡ (a ++ b ++ []) ++ x
joins_one a b x = simp (append-nil, append_assoc)

joins_two : (a b d x : List Taken) → a ++ b ++ (d ++ x) ≡ (a ++ b ++ d) ++ x
joins_two a b d x = simp (append-nil, append_assoc)

below_next : (g : Input) (t : Table) (c : ℕ) → taken_below g t (c + 1) ≡ taken_below g t c ++ taken_in g t c 1 g.rows ++ taken_in g t c 2 g.rows
unfolding taken_below
below_next g t c = rw add-one refl

pub phase_cases : (b : Row) → (phase b ≡ 1) ⊎ (phase b ≡ 2)
phase_cases b = elim (cases_Bool b.reserved) [ inl is ↦ inr (phase_reserved b is) | inr free ↦ inl (phase_free b free) ]

pub below_grows : (g : Input) (s t : Table) (c j : ℕ) (units : List ℕ) → Grows g s t c j units → j < g.rows → taken_below g t (c + 1) ≡ taken_below g s (c + 1) ++ taken_by c (g.row j).uses units
below_grows g s t c j units h lt =
    let x : List Taken = taken_by c (g.row j).uses units in
    elim (phase_cases (g.row j)) [
      | inl one ↦ (
          let empty : taken_in g s c 2 g.rows ≡ [] = in_none g s c 2 g.rows (λ k lk. after_key g s t c j 2 k units h lk (subst (λ q. at g c q j ≤ at g c 2 k) (sym one) (omega (arith, lt)))) in
          below_next g t c ∙ rw (below_keeps g s t c j units h, phase_grows g s t c j 1 units h lt one, phase_keeps g s t c j 2 units h (λ e. omega (arith, e, one)), below_next g s c, empty)
          (joins_one (taken_below g s c) (taken_in g s c 1 g.rows) x))
      | inr two ↦ below_next g t c ∙ rw (below_keeps g s t c j units h, phase_keeps g s t c j 1 units h (λ e. omega (arith, e, two)), phase_grows g s t c j 2 units h lt two, below_next g s c)
          (joins_two (taken_below g s c) (taken_in g s c 1 g.rows) (taken_in g s c 2 g.rows) x)
    ]

-- row j issues at its key: its uses come to the end of the list
pub taken_grows : (g : Input) (c j : ℕ) (xs : List Times) (v : Times) (units : List ℕ) → IsState g (at g c (phase (g.row j)) j) xs → j < g.rows
    → recorded g xs (event g.rows (phase (g.row j)) j) ≡ None
    → recorded g (set xs j v) (event g.rows (phase (g.row j)) j) ≡ Some (record { cycle = c; what = units })
    → taken_now g c (set xs j v) ≡ taken_now g c xs ++ taken_by c (g.row j).uses units
taken_grows g c j xs v units h lt open_now falls = below_grows g (now g c xs) (now g c (set xs j v)) c j units (record {
  others = λ k lk ne. now_other g c j k xs v lk ne;
  before = ap (cycle_or (c + 1)) (known_in g (recorded g xs) (phase (g.row j)) j lt ∙ open_now);
  issue = ap (cycle_or (c + 1)) (known_in g (recorded g (set xs j v)) (phase (g.row j)) j lt ∙ falls);
  units_are = ap units_or_none (known_in g (recorded g (set xs j v)) (phase (g.row j)) j lt ∙ falls);
  later = λ k lk le. not_issued g (at g c (phase (g.row j)) j) c k xs h lk le;
}) lt

-- where no issue is written, the list stays
pub taken_keeps : (g : Input) (c : ℕ) (xs ys : List Times) → ((k : ℕ) → k < g.rows → recorded g ys (event g.rows (phase (g.row k)) k) ≡ recorded g xs (event g.rows (phase (g.row k)) k)) → taken_now g c ys ≡ taken_now g c xs
taken_keeps g c xs ys same = below_same g (now g c xs) (now g c ys) (c + 1) (λ b p k less lk.
    ap (λ o. if nat_eq (phase (g.row k)) p && nat_eq (cycle_or (c + 1) o) b then taken_by b (g.row k).uses (units_or_none o) else []) (known_in g (recorded g ys) (phase (g.row k)) k lk ∙ same k lk ∙ sym (known_in g (recorded g xs) (phase (g.row k)) k lk)))

-- with a new cycle, the list stays
next_cycle_row : (g : Input) (c b p k : ℕ) (xs : List Times) → k < g.rows → b ≤ c → added g (now g (c + 1) xs) b p k ≡ added g (now g c xs) b p k
next_cycle_row g c b p k xs lt le = elim (cases_option (recorded g xs (event g.rows (phase (g.row k)) k))) [
  | inl none ↦ added_other g (now g (c + 1) xs) b p k (λ is. omega (arith, le, sym (ap (cycle_or (c + 1 + 1)) (known_in g (recorded g xs) (phase (g.row k)) k lt ∙ none)) ∙ is))
      ∙ sym (added_other g (now g c xs) b p k (λ is. omega (arith, le, sym (ap (cycle_or (c + 1)) (known_in g (recorded g xs) (phase (g.row k)) k lt ∙ none)) ∙ is)))
  | inr x ↦ ap (λ o. if nat_eq (phase (g.row k)) p && nat_eq (cycle_or (c + 1 + 1) o) b then taken_by b (g.row k).uses (units_or_none o) else []) (known_in g (recorded g xs) (phase (g.row k)) k lt ∙ x.1)
      ∙ sym (ap (λ o. if nat_eq (phase (g.row k)) p && nat_eq (cycle_or (c + 1) o) b then taken_by b (g.row k).uses (units_or_none o) else []) (known_in g (recorded g xs) (phase (g.row k)) k lt ∙ x.1))
]

joins_none : (a : List Taken) → a ++ [] ++ [] ≡ a
joins_none a = simp append-nil

pub taken_cycle : (g : Input) (c : ℕ) (xs : List Times) → IsState g (at g (c + 1) 0 0) xs → taken_now g (c + 1) xs ≡ taken_now g c xs
taken_cycle g c xs h =
    let none : (p : ℕ) → taken_in g (now g (c + 1) xs) (c + 1) p g.rows ≡ [] = λ p. in_none g (now g (c + 1) xs) (c + 1) p g.rows (λ k lk.
    added_other g (now g (c + 1) xs) (c + 1) p k (not_issued g (at g (c + 1) 0 0) (c + 1) k xs h lk (omega arith))) in
    below_next g (now g (c + 1) xs) (c + 1)
    ∙ rw (below_same g (now g c xs) (now g (c + 1) xs) (c + 1) (λ b p k less lk. next_cycle_row g c b p k xs lk (omega (arith, less))), none 1, none 2) (joins_none (taken_below g (now g c xs) (c + 1)))

-- at first no use has taken a unit
taken_zero : (g : Input) (t : Table) → taken_below g t 0 ≡ []
unfolding taken_below
taken_zero g t = refl

pub taken_start : (g : Input) (xs : List Times) → IsState g (at g 0 0 0) xs → taken_now g 0 xs ≡ []
taken_start g xs h =
    let none : (p : ℕ) → taken_in g (now g 0 xs) 0 p g.rows ≡ [] = λ p. in_none g (now g 0 xs) 0 p g.rows (λ k lk. added_other g (now g 0 xs) 0 p k (not_issued g (at g 0 0 0) 0 k xs h lk (omega arith))) in
    below_next g (now g 0 xs) 0 ∙ rw (taken_zero g (now g 0 xs), none 1, none 2) refl

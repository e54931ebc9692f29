-- What the taken uses tell of changes holds for all uses of the rows that have issued.
use Rattle.std.proofs.Common.{zero, suc, ◌≡◌, ℕ, ◌+◌, ◌-◌, ◌<◌, ◌≤◌, inl, inr, List, [], ◌∷◌, ◌++◌, length, replicate, length-append, arith, sym, ◌∙◌, ap, subst, refl, Bool, true, false, ◌&&◌, ◌||◌}
use Rattle.std.specs.Prelude.{nat_lt, nat_eq, if◌then◌else◌, Option, Some, None, is_some}
use Rattle.std.specs.List.{list_any}
use Rattle.std.proofs.lemmas.Bool.Decides.{nat_tests}
use Rattle.std.proofs.lemmas.Bool.{cases_Bool, cases_lt, eq-eqb}
use Rattle.std.proofs.lemmas.List.Folds.{list_any-append}
use Rattle.machine_model.specs.Meaning.{MachineMeaning}
use Rattle.machine_model.specs.declared.facts.Use.{Use}
use Rattle.cycle_rules.specs.Row.{Input, Table, phase}
use Rattle.cycle_rules.specs.Pick.{Taken, taken_by, taken_in, taken_below, pick, pick_unit, pick_units, prepend, add_front, padded, no_unit}
use Rattle.cycle_rules.specs.Issue.{can_start, can_issue}
use Rattle.cycle_rules.specs.Dispatch.{can_dispatch}
use Rattle.cycle_rules.specs.Schedule.{Fall, Known, key, known_at, event}
use Rattle.cycle_rules.specs.Events.{events, known_of, in_cycle, may_fall, rules_of}
use Rattle.event_rules.specs.Due.{changes}
use Rattle.cycle_rules.specs.Held.{changes_at}
use Rattle.event_rules.proofs.TakenStill.{or_parts}
use Rattle.cycle_rules.proofs.Exists.{Came, came}
use Rattle.cycle_rules.proofs.Falls.{second_true}
use Rattle.cycle_rules.proofs.Sees.{known_in}
use Rattle.cycle_rules.proofs.Rows.{allowed_at, takes_at, takes_units, phase_reserved, phase_free}

-- The uses of a row are among those that have been taken

in_row : (g : Input) (t : Table) (f : Taken → Bool) (c p n k : ℕ) → list_any f (taken_in g t c p n) ≡ false → k < n → phase (g.row k) ≡ p → (t k).issue ≡ c → list_any f (taken_by c (g.row k).uses (t k).units) ≡ false
unfolding taken_in
in_row g t f c p zero k none lt ph is = absurd (omega (arith, lt))
in_row g t f c p (suc n) k none lt ph is =
    let q : _ = or_parts _ _ (sym (list_any-append f (taken_in g t c p n) (if nat_eq (phase (g.row n)) p && nat_eq (t n).issue c then taken_by c (g.row n).uses (t n).units else [])) ∙ none) in
    elim (cases_lt k n) [
      | inl low ↦ in_row g t f c p n k q.0 low ph is
      | inr last ↦ (let s : n ≡ k = omega (arith, lt, last) in subst (λ x. list_any f (taken_by c (g.row x).uses (t x).units) ≡ false) s (here (eq-eqb _ _ (ap (λ x. phase (g.row x)) s ∙ ph)) (eq-eqb _ _ (ap (λ x. (t x).issue) s ∙ is)) q.1))
    ]
  where
    here : nat_eq (phase (g.row n)) p ≡ true → nat_eq (t n).issue c ≡ true → list_any f (if nat_eq (phase (g.row n)) p && nat_eq (t n).issue c then taken_by c (g.row n).uses (t n).units else []) ≡ false → list_any f (taken_by c (g.row n).uses (t n).units) ≡ false
    here a b h = rw (a, b) at h

of_row : (g : Input) (t : Table) (f : Taken → Bool) (n k : ℕ) → list_any f (taken_below g t n) ≡ false → k < g.rows → (t k).issue < n → list_any f (taken_by (t k).issue (g.row k).uses (t k).units) ≡ false
unfolding taken_below
of_row g t f zero k none lt early = absurd (omega (arith, early))
of_row g t f (suc c) k none lt early =
    let p : _ = or_parts _ _ (sym (list_any-append f (taken_below g t c ++ taken_in g t c 1 g.rows) (taken_in g t c 2 g.rows)) ∙ none) in
    let q : _ = or_parts _ _ (sym (list_any-append f (taken_below g t c) (taken_in g t c 1 g.rows)) ∙ p.0) in
    elim (cases_lt (t k).issue c) [
      | inl low ↦ of_row g t f c k q.0 lt low
      | inr last ↦ (let s : (t k).issue ≡ c = omega (arith, early, last) in
          subst (λ i. list_any f (taken_by i (g.row k).uses (t k).units) ≡ false) (sym s) (elim (cases_Bool (g.row k).reserved) [
            | inl reserved ↦ in_row g t f c 2 g.rows k p.1 lt (phase_reserved (g.row k) reserved) s
            | inr free ↦ in_row g t f c 1 g.rows k q.1 lt (phase_free (g.row k) free) s
          ]))
    ]

-- a change of a use is one of a taken use, where its unit is recorded
changes_taken : (m : MachineMeaning) (y i : ℕ) (uses : List Use) (us : List ℕ) → i < y → length uses ≤ length us → list_any (changes_at m y) (taken_by i uses us) ≡ false → list_any (nat_eq y) (changes i uses) ≡ false
unfolding taken_by changes_at
changes_taken m y i [] us lt long h = refl
changes_taken m y i (w ∷ rest) [] lt long h = absurd (omega (arith, long))
changes_taken m y i (w ∷ rest) (u ∷ us) lt long h = elim (cases_Bool (nat_eq w.hold 0)) [
  | inl none ↦ (let own : nat_eq y (i + w.hold) ≡ false = grind (arith, nat_tests, none, lt) in rw (own, changes_taken m y i rest us lt (omega (arith, long)) (rw none at h)) refl)
  | inr some ↦ (
      let q : ((nat_lt 0 w.hold && nat_eq y (i + w.hold)) ≡ false) × (list_any (changes_at m y) (taken_by i rest us) ≡ false) = or_parts _ _ (rest_of some h) in
      let own : nat_eq y (i + w.hold) ≡ false = held (nat_eq y (i + w.hold)) (some_hold some) q.0 in
      rw (own, changes_taken m y i rest us lt (omega (arith, long)) q.1) refl)
]
  where
    some_hold : nat_eq w.hold 0 ≡ false → nat_lt 0 w.hold ≡ true
    some_hold e = grind (arith, nat_tests, e)

    held : (b : Bool) → nat_lt 0 w.hold ≡ true → (nat_lt 0 w.hold && b) ≡ false → b ≡ false
    held b is e = rw is at e

    rest_of : nat_eq w.hold 0 ≡ false → list_any (changes_at m y) (if nat_eq w.hold 0 then taken_by i rest us else record { resource = w.resource; hold = w.hold; unit = u; from = i } ∷ taken_by i rest us) ≡ false
        → ((nat_lt 0 w.hold && nat_eq y (i + w.hold)) || list_any (changes_at m y) (taken_by i rest us)) ≡ false
    rest_of some h = rw some at h

-- A row that issues takes as many units as it has uses

front_length : (u n : ℕ) (o : Option (List ℕ)) → ((us : List ℕ) → o ≡ Some us → length us ≡ n) → (us : List ℕ) → add_front u o ≡ Some us → length us ≡ suc n
front_length u n None h us e = cc
front_length u n (Some vs) h us e = let s : (u ∷ vs) ≡ us = cc in ap length (sym s) ∙ ap suc (h vs refl)

pick_length : (m : MachineMeaning) (earlier : List Taken) (c : ℕ) (uses : List Use) (us : List ℕ) → pick_units m earlier c uses ≡ Some us → length us ≡ length uses
unfolding pick_units
pick_length m earlier c [] us e = let s : [] ≡ us = cc in ap length (sym s)
pick_length m earlier c (w ∷ rest) us e = elim (cases_Bool (nat_eq w.hold 0)) [
  | inl none ↦ front_length no_unit (length rest) (pick_units m earlier c rest) (λ vs h. pick_length m earlier c rest vs h) us (rw none at e)
  | inr some ↦ chosen (pick_unit m earlier c w.resource) (λ u vs h. pick_length m (earlier ++ record { resource = w.resource; hold = w.hold; unit = u; from = c } ∷ []) c rest vs h) (rw some at e)
]
  where
    next : ℕ → Option (List ℕ)
    next u = pick_units m (earlier ++ record { resource = w.resource; hold = w.hold; unit = u; from = c } ∷ []) c rest

    chosen : (o : Option ℕ) → ((u : ℕ) (vs : List ℕ) → next u ≡ Some vs → length vs ≡ length rest) → prepend o next ≡ Some us → length us ≡ suc (length rest)
    chosen None each h = cc
    chosen (Some u) each h = front_length u (length rest) (next u) (each u) us h

padded_length : (n : ℕ) (o : Option (List ℕ)) → is_some o ≡ true → ((us : List ℕ) → o ≡ Some us → length us ≡ n) → n ≤ length (padded o)
unfolding padded
padded_length n None some h = cc
padded_length n (Some us) some h = omega (arith, h us refl, length-append us (replicate (8 - length us) no_unit))

issue_picks : (g : Input) (t : Table) (j c : ℕ) → can_start g t j c ≡ true → is_some (pick g t j c) ≡ true
unfolding can_start
issue_picks g t j c h = second_true _ _ h

leave_picks : (g : Input) (t : Table) (j c : ℕ) → can_issue g t j c ≡ true → is_some (pick g t j c) ≡ true
unfolding can_issue
leave_picks g t j c h = issue_picks g t j c (second_true _ _ h)

dispatch_picks : (g : Input) (t : Table) (j c : ℕ) → (g.row j).reserved ≡ true → can_dispatch g t j c ≡ true → is_some (pick g t j c) ≡ true
unfolding can_dispatch
dispatch_picks g t j c reserved h = issue_picks g t j c (choose _ (second_true _ _ h))
  where
    choose : (b : Bool) → (if (g.row j).reserved then can_start g t j c else b) ≡ true → can_start g t j c ≡ true
    choose b e = rw reserved at e

may_pick : (g : Input) (known : Known (List ℕ)) (c j : ℕ) → may_fall g known c (phase (g.row j)) j ≡ true → is_some (pick g (in_cycle g c known) j c) ≡ true
may_pick g known c j h = elim (cases_Bool (g.row j).reserved) [
  | inl reserved ↦ dispatch_picks g _ j c reserved (subst (λ p. may_fall g known c p j ≡ true) (phase_reserved (g.row j) reserved) h)
  | inr free ↦ leave_picks g _ j c (second_true _ _ (subst (λ p. may_fall g known c p j ≡ true) (phase_free (g.row j) free) h))
]

phase_low : (g : Input) (k : ℕ) → phase (g.row k) < 3
unfolding phase
phase_low g k = grind arith

pub recorded_units : (g : Input) (n k : ℕ) (f : Fall (List ℕ)) → k < g.rows → known_of g (known_at (rules_of g) (events g) n) (phase (g.row k)) k ≡ Some f → length (g.row k).uses ≤ length f.what
unfolding pick
recorded_units g n k f lk is =
    let e : ℕ = event g.rows (phase (g.row k)) k in
    let c : Came (rules_of g) (events g) n e f = came (rules_of g) (events g) n e f (omega (arith, lk)) (sym (known_in g (known_at (rules_of g) (events g) n) (phase (g.row k)) k lk) ∙ is) in
    let early : Known (List ℕ) = known_at (rules_of g) (events g) (key (events g) f.cycle e) in
    let may : may_fall g early f.cycle (phase (g.row k)) k ≡ true = sym (allowed_at g early f.cycle (phase (g.row k)) k lk) ∙ c.allowed in
    let what : f.what ≡ padded (pick g (in_cycle g f.cycle early) k f.cycle) = c.what ∙ takes_at g early f.cycle (phase (g.row k)) k lk ∙ takes_units g early f.cycle (phase (g.row k)) k refl in
    rw what (padded_length (length (g.row k).uses) (pick g (in_cycle g f.cycle early) k f.cycle) (may_pick g early f.cycle k may) (λ us h. pick_length g.machine _ f.cycle (g.row k).uses us h))

-- where no taken use changes in a cycle, none of the uses of a row that has issued does
pub change_told : (g : Input) (n a y k : ℕ) (f : Fall (List ℕ)) → k < g.rows → known_of g (known_at (rules_of g) (events g) n) (phase (g.row k)) k ≡ Some f → f.cycle < y → f.cycle ≤ a
    → list_any (changes_at g.machine y) (taken_below g (in_cycle g a (known_at (rules_of g) (events g) n)) (a + 1)) ≡ false → list_any (nat_eq y) (changes f.cycle (g.row k).uses) ≡ false
change_told g n a y k f lk is late seen none =
    let t : Table = in_cycle g a (known_at (rules_of g) (events g) n) in
    let row : list_any (changes_at g.machine y) (taken_by (t k).issue (g.row k).uses (t k).units) ≡ false = of_row g t (changes_at g.machine y) (a + 1) k none lk (rw is (omega (arith, seen))) in
    changes_taken g.machine y f.cycle (g.row k).uses f.what late (recorded_units g n k f lk is) (rw is at row)

-- What was run can be shown.
use Rattle.std.proofs.Common.{zero, suc, ◌≡◌, ℕ, ◌+◌, ◌-◌, ◌*◌, ◌^◌, ◌<◌, ◌≤◌, List, [], ◌∷◌, ◌++◌, length, map, arith, ap, sym, subst, refl, ◌∙◌, Bool, true, false}
use Rattle.std.specs.Prelude.{nat_lt, nat_le, nat_eq, if◌then◌else◌, Option, Some, None, is_some}
use Rattle.std.proofs.lemmas.List.{length-map}
use Rattle.std.proofs.lemmas.Bool.Decides.{nat_tests}
use Rattle.std.proofs.lemmas.Bool.{and_parts}
use Rattle.machine_model.specs.Meaning.{MachineMeaning}
use Rattle.machine_model.specs.Valid.{IsValidMachine}
use Rattle.machine_model.specs.declared.facts.Use.{Use}
use Rattle.rv_isa.proofs.Spellable.{lawful_given, lawful_sets}
use Rattle.cycle_rules.specs.Below.{Least}
use Rattle.cycle_rules.specs.Bind.{IsBoundBy, IsBound, row_of}
use Rattle.cycle_rules.specs.CycleBound.{cycle_bound}
use Rattle.cycle_rules.specs.Dispatch.{can_dispatch, fits_buffers, follows}
use Rattle.cycle_rules.specs.Issue.{can_issue, can_start}
use Rattle.cycle_rules.specs.Pick.{Taken, pick, pick_unit, pick_units, add_front, prepend, padded, no_unit}
use Rattle.cycle_rules.specs.Retire.{can_retire}
use Rattle.cycle_rules.specs.Row.{Input, Table, times, phase}
use Rattle.cycle_rules.specs.Run.{IsRow, IsIssue, IsRunOf, total_of}
use Rattle.cycle_rules.specs.Seen.{sees, has_issued, is_seen, key_at}
use Rattle.cycle_rules.specs.Waits.{least_from, earliest, operands_at, memory_at}
use Rattle.cycle_rules.specs.declared.bound.Bound.{Bound}
use Rattle.cycle_rules.specs.declared.times.Times.{Times}
use Rattle.cycle_rules.proofs.BoundRows.{entry_is_bound, body_is_bound, input_is_bound}
use Rattle.cycle_rules.proofs.BoundLow.{bound_low}
use Rattle.cycle_rules.proofs.OneRun.{table_unique}
use Rattle.cycle_rules.proofs.Rows.{phase_reserved, phase_free}
use Rattle.cycle_rules.proofs.RunEnds.{run_ends}
use Rattle.cycle_rules.proofs.Tests.{or_true}
use Rattle.cycle_rules.proofs.UnitsFound.{pick_unit_some}
use Rattle.machine_model.specs.declared.answers.ClassAnswer.TheVariants.{Class}
use Rattle.mca_views.specs.Shown.{Shown, IsEntry, IsShown, WasRun, have_units, run_of}

-- The times of a row

-- a time that is seen, where one that is not would be too late
seen_before : (b : Bool) (x y c : ℕ) → nat_lt (if b then x else y) c ≡ true → c ≤ y → x < c
seen_before true x y c h le = grind (arith, nat_tests, h)
seen_before false x y c h le = absurd (grind (arith, nat_tests, h, le))

seen_by : (b : Bool) (x y c : ℕ) → nat_le (if b then x else y) c ≡ true → c < y → x ≤ c
seen_by true x y c h lt = grind (arith, nat_tests, h)
seen_by false x y c h lt = absurd (grind (arith, nat_tests, h, lt))

completes : (g : Input) (t : Table) (j : ℕ) → IsRow g t j → (t j).complete < (t j).retire
unfolding can_retire
completes g t j row = seen_before (has_issued g t j (t j).retire 0 j) (t j).complete _ (t j).retire (and_parts _ _ (and_parts _ _ row.retire.holds).0).0 (omega arith)

retires_after : (g : Input) (t : Table) (j k : ℕ) → IsRow g t j → k + 1 ≡ j → (t k).retire ≤ (t j).retire
unfolding can_retire follows
retires_after g t j k row next = go j next (t j).retire (and_parts _ _ (and_parts _ _ row.retire.holds).0).1
  where
    go : (i : ℕ) → k + 1 ≡ i → (c : ℕ) → follows (λ m. (sees g t 0 j c m).retire) i c ≡ true → (t k).retire ≤ c
    go zero e c h = absurd (omega (arith, e))
    go (suc i) e c h = let same : k ≡ i = omega (arith, e) in
        seen_by (is_seen g (key_at (t k).retire 0 k) (key_at c 0 j)) (t k).retire (c + 1) c (subst (λ m. nat_le (sees g t 0 j c m).retire c ≡ true) (sym same) h) (omega arith)

-- a row that is not reserved issues after its dispatch
issues_after : (g : Input) (t : Table) (j : ℕ) → Least (λ c. can_issue g (sees g t 1 j c) j c) (t j).issue → (t j).dispatch < (t j).issue
unfolding can_issue
issues_after g t j least = seen_before (is_seen g (key_at (t j).dispatch 2 j) (key_at (t j).issue 1 j)) (t j).dispatch _ (t j).issue (and_parts _ _ least.holds).0 (omega arith)

early : (g : Input) (t : Table) (j : ℕ) → IsRow g t j → ((t j).dispatch ≤ (t j).issue) × (earliest g t j ≤ (t j).issue)
early g t j row = go (g.row j).reserved row.issue
  where
    go : (b : Bool) → IsIssue g t j b → ((t j).dispatch ≤ (t j).issue) × ((if b then (t j).dispatch else (t j).dispatch + 1) ≤ (t j).issue)
    go true is = (omega (arith, is), omega (arith, is))
    go false least = let after : (t j).dispatch < (t j).issue = issues_after g t j least in (omega (arith, after), omega (arith, after))

least_low : (a n : ℕ) (p : ℕ → Bool) → least_from a n p ≤ a + n
least_low a zero p = omega arith
least_low a (suc n) p = go (p a) (least_low (a + 1) n p)
  where
    go : (b : Bool) → least_from (a + 1) n p ≤ a + 1 + n → (if b then a else least_from (a + 1) n p) ≤ a + suc n
    go true low = omega arith
    go false low = omega (arith, low)

waits_low : (g : Input) (t : Table) (j : ℕ) → earliest g t j ≤ (t j).issue → memory_at g t j ≤ (t j).issue
waits_low g t j from =
    let first : operands_at g t j ≤ earliest g t j + ((t j).issue - earliest g t j) = least_low _ _ _ in
    let second : memory_at g t j ≤ operands_at g t j + ((t j).issue - operands_at g t j) = least_low _ _ _ in
    omega (arith, from, first, second)

-- The units of a row

front : (u : ℕ) (o : Option (List ℕ)) (us : List ℕ) → add_front u o ≡ Some us → (vs : List ℕ) × (o ≡ Some vs) × (us ≡ u ∷ vs)
front u (Some vs) us h = (vs, refl, (let e : u ∷ vs ≡ us = some_same h in sym e))
  where
    some_same : {x y : List ℕ} → Some x ≡ Some y → x ≡ y
    some_same h = cc
front u None us h = cc

picked : (m : MachineMeaning) (earlier : List Taken) (c : ℕ) (uses : List Use) (us rest : List ℕ) → pick_units m earlier c uses ≡ Some us → have_units m uses (us ++ rest) ≡ true
unfolding pick_units
picked m earlier c [] us rest h = refl
picked m earlier c (w ∷ ws) us rest h = go (λ e vs. picked m e c ws vs rest) (nat_eq w.hold 0) refl h
  where
    taken : ℕ → List Taken
    taken u = earlier ++ record { resource = w.resource; hold = w.hold; unit = u; from = c } ∷ []

    Later : Type 0
    Later = (e : List Taken) (vs : List ℕ) → pick_units m e c ws ≡ Some vs → have_units m ws (vs ++ rest) ≡ true

    bare : Later → nat_eq w.hold 0 ≡ true → (vs : List ℕ) × (pick_units m earlier c ws ≡ Some vs) × (us ≡ no_unit ∷ vs) → have_units m (w ∷ ws) (us ++ rest) ≡ true
    bare later none (vs, found, is) = rw (is, none, later earlier vs found) refl

    held : Later → (u : ℕ) → m.units w.resource u ≡ true → (vs : List ℕ) × (pick_units m (taken u) c ws ≡ Some vs) × (us ≡ u ∷ vs) → have_units m (w ∷ ws) (us ++ rest) ≡ true
    held later u has (vs, found, is) = rw (is, has, or_true (nat_eq w.hold 0), later (taken u) vs found) refl

    one : Later → (o : Option ℕ) → pick_unit m earlier c w.resource ≡ o → prepend o (λ u. pick_units m (taken u) c ws) ≡ Some us → have_units m (w ∷ ws) (us ++ rest) ≡ true
    one later (Some u) e h = held later u (pick_unit_some m earlier c w.resource u e).1 (front u (pick_units m (taken u) c ws) us h)
    one later None e h = cc

    go : Later → (x : Bool) → nat_eq w.hold 0 ≡ x
        → (if x then prepend (Some no_unit) (λ _. pick_units m earlier c ws) else prepend (pick_unit m earlier c w.resource) (λ u. pick_units m (taken u) c ws)) ≡ Some us
        → have_units m (w ∷ ws) (us ++ rest) ≡ true
    go later true none h = bare later none (front no_unit (pick_units m earlier c ws) us h)
    go later false some h = one later (pick_unit m earlier c w.resource) refl h

-- a row finds units when it issues
finds : (g : Input) (t : Table) (j : ℕ) → IsRow g t j → is_some (pick g (sees g t (phase (g.row j)) j (t j).issue) j (t j).issue) ≡ true
unfolding can_issue can_dispatch can_start
finds g t j row = go (g.row j).reserved refl row.issue
  where
    go : (b : Bool) → (g.row j).reserved ≡ b → IsIssue g t j b → is_some (pick g (sees g t (phase (g.row j)) j (t j).issue) j (t j).issue) ≡ true
    go false is least = subst (λ p. is_some (pick g (sees g t p j (t j).issue) j (t j).issue) ≡ true) (sym (phase_free (g.row j) is))
        (and_parts _ _ (and_parts _ _ least.holds).1).1
    go true is same =
        let start : can_start g (sees g t 2 j (t j).dispatch) j (t j).dispatch ≡ true =
        subst (λ b. (if b then can_start g (sees g t 2 j (t j).dispatch) j (t j).dispatch else fits_buffers g (sees g t 2 j (t j).dispatch) j (t j).dispatch) ≡ true) is (and_parts _ _ row.dispatch.holds).1 in
        subst (λ p. is_some (pick g (sees g t p j (t j).issue) j (t j).issue) ≡ true) (sym (phase_reserved (g.row j) is))
        (subst (λ c. is_some (pick g (sees g t 2 j c) j c) ≡ true) (sym same) (and_parts _ _ start).1)

has_units : (g : Input) (t : Table) (j : ℕ) → IsRow g t j → have_units g.machine (g.row j).uses (t j).units ≡ true
unfolding pick padded
has_units g t j row = subst (λ us. have_units g.machine (g.row j).uses us ≡ true) (sym row.units) (go (pick g (sees g t (phase (g.row j)) j (t j).issue) j (t j).issue) refl (finds g t j row))
  where
    go : (o : Option (List ℕ)) → pick g (sees g t (phase (g.row j)) j (t j).issue) j (t j).issue ≡ o → is_some o ≡ true → have_units g.machine (g.row j).uses (padded o) ≡ true
    go (Some us) e some = picked g.machine _ (t j).issue (g.row j).uses us _ e
    go None e some = cc

-- The cycles of a run

never_falls : (n : ℕ) (r : ℕ → ℕ) → ((j k : ℕ) → j < n → k + 1 ≡ j → r k ≤ r j) → (d j : ℕ) → j + d < n → r j ≤ r (j + d)
never_falls n r steps zero j lt = let e : j + 0 ≡ j = omega arith in subst (λ k. r j ≤ r k) (sym e) (omega arith)
never_falls n r steps (suc d) j lt = omega (arith, never_falls n r steps d j (omega (arith, lt)), steps (j + suc d) (j + d) lt (omega arith))

total_low : (numbers size : ℕ) (s : Shown) → WasRun numbers size s → total_of s.table < 2 ^ 42
total_low numbers size s was =
    let same : length (map row_of s.body) ≡ length s.body = length-map s.body row_of in
    let run = run_ends numbers size s.machine s.body s.iterations was.machine was.bound in
    let table : s.table ≡ run.0 = table_unique (run_of s) s.table run.0 was.run run.1 in
    let few : s.iterations * length (map row_of s.body) ≤ 2 ^ 20 = subst (λ n. s.iterations * n ≤ 2 ^ 20) (sym same) was.few in
    let low : cycle_bound (run_of s) < 2 ^ 41 =
    bound_low numbers size (run_of s) was.machine (input_is_bound s.machine s.body s.iterations (body_is_bound numbers size s.machine s.body was.machine was.bound)) few in
    let total : total_of s.table ≤ cycle_bound (run_of s) = subst (λ t. total_of t ≤ cycle_bound (run_of s)) (sym table) run.2 in
    omega (arith, total, low)

retire_low : (g : Input) (t : List Times) → IsRunOf g t → total_of t < 2 ^ 42 → (j : ℕ) → j < length t → (times t j).retire < 2 ^ 42
retire_low g t run low j lt =
    let d : ℕ = length t - 1 - j in
    let e : j + d ≡ length t - 1 = omega (arith, lt) in
    let le : (times t j).retire ≤ (times t (j + d)).retire =
    never_falls (length t) (λ k. (times t k).retire) (λ i k low next. retires_after g (times t) i k (run.each i (subst (λ n. i < n) run.rows low)) next) d j (omega (arith, e, lt)) in
    omega (arith, low, subst (λ k. (times t j).retire ≤ (times t k).retire) e le)

-- What was run

entry_of : {numbers size : ℕ} (m : MachineMeaning) (b : Bound) → IsValidMachine numbers size m → IsBoundBy m b → IsEntry m b
entry_of m b valid is =
    let bound : IsBound m b = entry_is_bound m b valid is in
    let write : b.write ≡ is.classes.write = ap (λ (c : Bound). c.write) is.bound in
    record {
      classes = is.classes;
      runs = subst (λ o. m.class_of o ≡ Class is.classes) (sym (ap (λ (c : Bound). c.op) is.bound)) is.runs;
      write = write;
      uops = bound.row.numbers.uops;
      latency = bound.row.numbers.latency;
      use_count = ap (λ (c : Bound). c.use_count) is.bound ∙ ap (λ w. (m.class w).use_count) (sym write);
      uses = bound.row.numbers.uses;
      reads_few = bound.read_count;
      reads = bound.row.reads;
    }

pub run_is_shown : (numbers size : ℕ) (s : Shown) → WasRun numbers size s → IsShown s
run_is_shown numbers size s was = record {
  spellings = λ k d lt. record { named = was.named k d lt; given = lawful_given _ (was.lawful k d lt); sets = lawful_sets _ (was.lawful k d lt) };
  iterations = was.iterations;
  few = was.few;
  some = omega (arith, was.some, was.entries);
  entries = was.entries;
  entry = λ k d lt. entry_of s.machine _ was.machine (was.bound k d lt);
  rows = was.run.rows ∙ ap (λ n. s.iterations * n) (length-map s.body row_of);
  timed = λ j lt. (
      let row : IsRow (run_of s) (times s.table) j = was.run.each j (subst (λ n. j < n) was.run.rows lt) in
      let order : _ = early (run_of s) (times s.table) j row in
      record {
        issue = order.0;
        memory = waits_low (run_of s) (times s.table) j order.1;
        complete = omega (arith, row.complete);
        retire = completes (run_of s) (times s.table) j row;
        in_order = λ k next. retires_after (run_of s) (times s.table) j k row next;
        low = retire_low (run_of s) s.table was.run (total_low numbers size s was) j lt;
      });
  units = λ j lt. has_units (run_of s) (times s.table) j (was.run.each j (subst (λ n. j < n) was.run.rows lt));
}

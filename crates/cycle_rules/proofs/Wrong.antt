-- A table is the run where each field of each row is as the rules say, and is none where one is not.
use Rattle.std.proofs.Common.{zero, suc, ◌≡◌, ℕ, ◌+◌, ◌<◌, ◌≤◌, inl, inr, List, length, arith, sym, subst, refl}
use Rattle.std.specs.Prelude.{Option, Some, None, IfSome, IfNone, unwrap_or, replicate, map, ◌*◌, ◌↔◌}
use Rattle.machine_model.specs.Meaning.{MachineMeaning}
use Rattle.cycle_rules.specs.Bind.{row_of}
use Rattle.cycle_rules.specs.Given.{input_in}
use Rattle.cycle_rules.specs.declared.bound.Bound.{Bound}
use Rattle.std.proofs.lemmas.Bool.{cases_lt}
use Rattle.cycle_rules.specs.Judged.{IsRight, IsAsRuled, IsFirstWrong, order}
use Rattle.cycle_rules.specs.Pick.{padded, no_unit}
use Rattle.cycle_rules.specs.Row.{Input, Table, times, input}
use Rattle.cycle_rules.specs.Run.{IsRow, IsRunOf}
use Rattle.cycle_rules.specs.declared.place.Field.{Field}
use Rattle.cycle_rules.specs.declared.place.Field.TheVariants.{Dispatch, Issue, Complete, Retire, Units}
use Rattle.cycle_rules.specs.declared.place.Place.{Place}
use Rattle.cycle_rules.specs.declared.times.Times.{Times}

right_row : (g : Input) (t : Table) (j : ℕ) → IsRow g t j → (field : Field) → IsRight g t j field
right_row g t j r Dispatch = r.dispatch
right_row g t j r Issue = r.issue
right_row g t j r Complete = r.complete
right_row g t j r Retire = r.retire
right_row g t j r Units = r.units

row_right : (g : Input) (t : Table) (j : ℕ) → ((field : Field) → IsRight g t j field) → IsRow g t j
row_right g t j h = record { dispatch = h Dispatch; issue = h Issue; units = h Units; complete = h Complete; retire = h Retire }

pub wrong_no_run : (g : Input) (table : List Times) (place : Place) → IsFirstWrong g table place → IsRunOf g table → ⊥
wrong_no_run g table place w r =
    let low : place.row < g.rows = omega (arith, w.row, r.rows) in
    w.wrong (record { run = low; given = omega (arith, low, r.rows); right = right_row g (times table) place.row (r.each place.row low) place.field })

pub all_right : (g : Input) (table : List Times) (n : ℕ) → ((k : ℕ) (field : Field) → k < n → IsAsRuled g table k field) → n ≡ g.rows → length table ≤ n → IsRunOf g table
all_right g table n h e le = record {
  rows = long n h e le;
  each = λ j lt. row_right g (times table) j (λ field. (h j field (omega (arith, lt, e))).right);
}
  where
    long : (n : ℕ) → ((k : ℕ) (field : Field) → k < n → IsAsRuled g table k field) → n ≡ g.rows → length table ≤ n → length table ≡ g.rows
    long zero h e le = omega arith
    long (suc k) h e le = omega (arith, (h k Dispatch (omega arith)).given)

pub place_missing : (g : Input) (table : List Times) (j : ℕ) → ((k : ℕ) (field : Field) → k < j → IsAsRuled g table k field) → j < g.rows → length table ≤ j → IsFirstWrong g table (record { row = j; field = Dispatch })
place_missing g table j h lt le = record {
  row = omega arith;
  wrong = λ r. absurd (omega (arith, r.given));
  rows = λ k field low. h k field low;
  fields = λ field low. absurd (omega (arith, low));
}

pub place_extra : (g : Input) (table : List Times) (j : ℕ) → ((k : ℕ) (field : Field) → k < j → IsAsRuled g table k field) → j ≡ g.rows → j < length table → IsFirstWrong g table (record { row = j; field = Dispatch })
place_extra g table j h e lt = record {
  row = omega arith;
  wrong = λ r. absurd (omega (arith, r.run));
  rows = λ k field low. h k field low;
  fields = λ field low. absurd (omega (arith, low));
}

pub place_wrong : (g : Input) (table : List Times) (j : ℕ) (field : Field) → ((k : ℕ) (other : Field) → k < j → IsAsRuled g table k other) → j < g.rows → j < length table
    → (IsRight g (times table) j field → ⊥) → ((other : Field) → order other < order field → IsRight g (times table) j other) → IsFirstWrong g table (record { row = j; field = field })
place_wrong g table j field h run given wrong before = record {
  row = omega arith;
  wrong = λ r. wrong r.right;
  rows = h;
  fields = λ other low. record { run = run; given = given; right = before other low };
}

pub row_more : (g : Input) (table : List Times) (j : ℕ) → ((k : ℕ) (field : Field) → k < j → IsAsRuled g table k field) → j < g.rows → j < length table → ((field : Field) → IsRight g (times table) j field)
    → (k : ℕ) (field : Field) → k < j + 1 → IsAsRuled g table k field
row_more g table j h run given right k field lt = elim (cases_lt k j) [
  | inl low ↦ h k field low
  | inr last ↦ (let e : j ≡ k = omega arith in subst (λ i. IsAsRuled g table i field) e (record { run = run; given = given; right = right field }))
]

-- the units of a row, where a use may find none
pub units_are : (o p : Option (List ℕ)) → IfNone o (p ≡ None) → IfSome o (λ us. us ≡ padded p) → unwrap_or o (replicate 8 no_unit) ≡ padded p
unfolding padded
units_are (Some us) p none some = some
units_are None p none some = rw none refl

-- the same of the rows of a body, however they are counted

pub is_none : (m : MachineMeaning) (body : List Bound) (iterations n : ℕ) (table given : List Times) (result : Option Place) → n ≡ iterations * length (map row_of body) → table ≡ given
    → IfNone result (IsRunOf (input_in m body n) table) → IfSome result (IsFirstWrong (input_in m body n) table) → (result ≡ None) ↔ IsRunOf (input m (map row_of body) iterations) given
is_none m body iterations n table given None e same none some = (λ _. subst (λ k. IsRunOf (input_in m body k) given) e (subst (IsRunOf (input_in m body n)) same none), λ _. refl)
is_none m body iterations n table given (Some place) e same none some = (
  (λ h. absurd cc),
  (λ r. absurd (wrong_no_run (input_in m body n) table place some (subst (IsRunOf (input_in m body n)) (sym same) (subst (λ k. IsRunOf (input_in m body k) given) (sym e) r)))),
)

pub first_along : (m : MachineMeaning) (body : List Bound) (iterations n : ℕ) (table given : List Times) (result : Option Place) → n ≡ iterations * length (map row_of body) → table ≡ given
    → IfSome result (IsFirstWrong (input_in m body n) table) → IfSome result (IsFirstWrong (input m (map row_of body) iterations) given)
first_along m body iterations n table given None e same some = some
first_along m body iterations n table given (Some place) e same some = subst (λ k. IsFirstWrong (input_in m body k) given place) e (subst (λ (x : List Times). IsFirstWrong (input_in m body n) x place) same some)

-- What the parts tell together is where an engine may turn next.
use Rattle.std.proofs.Common.{◌≡◌, ℕ, ◌<◌, ◌≤◌, min, List, true, false, inl, inr, arith, refl, sym, ◌∙◌, ap, subst, not}
use Rattle.std.specs.Prelude.{Some, None, Option, nat_eq}
use Rattle.std.specs.List.{list_any}
use Rattle.std.proofs.lemmas.Bool.{cases_lt}
use Rattle.cycle_rules.specs.Row.{Input}
use Rattle.cycle_rules.specs.Schedule.{Known}
use Rattle.cycle_rules.specs.CycleBound.{cycle_bound}
use Rattle.event_rules.specs.Due.{all_times}
use Rattle.event_rules.specs.Clear.{IsClear}
use Rattle.event_rules.proofs.Turns.{some_row, not_not}
use Rattle.event_rules.proofs.Clears.{clear_cycles}
use Rattle.engine_steps.specs.Done.{known_below}
use Rattle.event_engine.specs.Turn.{IsTurn, IsBounded}
use Rattle.event_engine.specs.Tells.{earlier, Told, Until, is_time, IsTime, SomeTime, IsPast, TellsFall, TellsChange, TellsFront, TellsAgenda}
use Rattle.event_engine.proofs.Turning.{retired_by, not_past, turn_of_clear}

pub told_left : (c : ℕ) (a b : Option ℕ) (n : ℕ) → Told c a n → Told c (earlier a b) n
told_left c None None n h = h
told_left c None (Some y) n h = λ lo. absurd (omega (arith, h, lo))
told_left c (Some x) None n h = h
told_left c (Some x) (Some y) n h = λ lo. omega (arith, h lo)

pub told_right : (c : ℕ) (a b : Option ℕ) (n : ℕ) → Told c b n → Told c (earlier a b) n
told_right c None b n h = h
told_right c (Some x) None n h = λ lo. absurd (omega (arith, h, lo))
told_right c (Some x) (Some y) n h = λ lo. omega (arith, h lo)

until_left : (a b : Option ℕ) (y : ℕ) → Until (earlier a b) y → Until a y
until_left None b y h = tt
until_left (Some x) None y h = h
until_left (Some x) (Some z) y h = omega (arith, h)

until_right : (a b : Option ℕ) (y : ℕ) → Until (earlier a b) y → Until b y
until_right None b y h = h
until_right (Some x) None y h = tt
until_right (Some x) (Some z) y h = omega (arith, h)

pub time_told : (g : Input) (known : Known (List ℕ)) (c : ℕ) (a b : Option ℕ) → SomeTime g known c a → SomeTime g known c b → SomeTime g known c (earlier a b)
time_told g known c None b p q = q
time_told g known c (Some x) None p q = p
time_told g known c (Some x) (Some y) p q = elim (cases_lt x y) [
  | inl low ↦ (let e : x ≡ min x y = omega (arith, low) in subst (λ z. IsTime g known c z) e p)
  | inr high ↦ (let e : y ≡ min x y = omega (arith, high) in subst (λ z. IsTime g known c z) e q)
]

-- what the four tell together
abbrev pub all_of : Option ℕ → Option ℕ → Option ℕ → Option ℕ → Option ℕ
all_of s u r t = earlier (earlier s u) (earlier r t)

told_at : (c : ℕ) (o : Option ℕ) (x n : ℕ) → Told c o n → ((y : ℕ) → o ≡ Some y → x ≤ y) → c ≤ n → x ≤ n
told_at c None x n h le lo = absurd (omega (arith, h, lo))
told_at c (Some y) x n h le lo = omega (arith, le y refl, h lo)

until_at : (o : Option ℕ) (x y : ℕ) → ((z : ℕ) → o ≡ Some z → x ≤ z) → y < x → Until o y
until_at None x y le lt = tt
until_at (Some z) x y le lt = omega (arith, le z refl, lt)

-- rows are clear as far as what is told, and to any cycle where nothing is told
clear_of : (g : Input) (known : Known (List ℕ)) (c : ℕ) (s u r t : Option ℕ) (x : ℕ) → IsPast g known c → TellsFall g known c s → TellsChange g known c u → TellsFront g known c r → TellsAgenda g known c t
    → ((y : ℕ) → all_of s u r t ≡ Some y → x ≤ y) → (k : ℕ) → k < g.rows → IsClear g known c x k
clear_of g known c s u r t x idle falls changes front agenda le k lk = record {
  dispatched = λ f is lo. absurd (omega (arith, idle.dispatched k f lk is, lo));
  issued = λ f is lo. absurd (omega (arith, idle.issued k f lk is, lo));
  retired = λ f is lo. absurd (omega (arith, idle.retired k f lk is, lo));
  full = λ f is some. at_all _ (told_left c (earlier s u) (earlier r t) _ (told_left c s u _ (falls.full k f lk is some)));
  rest = λ f is some. at_all _ (told_left c (earlier s u) (earlier r t) _ (told_left c s u _ (falls.rest k f lk is some)));
  completes = λ f is here. at_all _ (told_right c (earlier s u) (earlier r t) _ (told_right c r t _ (agenda.completes k f lk is here)));
  completed = λ f is here. at_all _ (told_right c (earlier s u) (earlier r t) _ (told_left c r t _ (front.completed k f lk is here)));
  changed = λ f is y lo hi. changes.changed k f lk is y lo (until_right s u y (until_left (earlier s u) (earlier r t) y (until_at (all_of s u r t) x y le hi)));
  ready = λ waits n is. at_all n (told_right c (earlier s u) (earlier r t) n (told_right c r t n (agenda.ready k n lk waits is)));
}
  where
    at_all : (n : ℕ) → Told c (all_of s u r t) n → c ≤ n → x ≤ n
    at_all n told lo = told_at c (all_of s u r t) x n told le lo

turn_at_time : (g : Input) (c x : ℕ) → IsBounded g → c ≤ cycle_bound g → retired_by g (known_below g c) ≡ false → 0 < c → c ≤ x → is_time g (known_below g c) x ≡ true → ((k : ℕ) → k < g.rows → IsClear g (known_below g c) c x k) → IsTurn g c x
unfolding is_time
turn_at_time g c x b le more start later is clear =
    let row : (k : ℕ) × (k < g.rows) × (not (list_any (nat_eq x) (all_times g (known_below g c) k)) ≡ false) = some_row g.rows (λ k. not (list_any (nat_eq x) (all_times g (known_below g c) k))) is in
    turn_of_clear g c x b le more later start clear row.0 row.1 (not_not _ row.2)

-- in the cycle after an event
pub turn_now : (g : Input) (known : Known (List ℕ)) (c : ℕ) → IsBounded g → c ≤ cycle_bound g → known ≡ known_below g c → retired_by g known ≡ false → 0 < c → is_time g known c ≡ true → IsTurn g c c
turn_now g known c b le same more start is = turn_at_time g c c b le (subst (λ k. retired_by g k ≡ false) same more) start (omega arith) (subst (λ k. is_time g k c ≡ true) same is)
    (λ k lk. record {
      dispatched = λ f is lo. lo;
      issued = λ f is lo. lo;
      retired = λ f is lo. lo;
      full = λ f is some lo. lo;
      rest = λ f is some lo. lo;
      completes = λ f is here lo. lo;
      completed = λ f is here lo. lo;
      changed = λ f is y lo hi. absurd (omega (arith, lo, hi));
      ready = λ waits r is lo. lo;
    })

-- else where the parts tell
pub turn_told : (g : Input) (known : Known (List ℕ)) (c : ℕ) (s u r t : Option ℕ) (x : ℕ) → IsBounded g → c ≤ cycle_bound g → known ≡ known_below g c → retired_by g known ≡ false → 0 < c
    → IsPast g known c → TellsFall g known c s → TellsChange g known c u → TellsFront g known c r → TellsAgenda g known c t → all_of s u r t ≡ Some x → IsTurn g c x
turn_told g known c s u r t x b le same more start idle falls changes front agenda is =
    let time : IsTime g known c x = subst (λ o. SomeTime g known c o) is (time_told g known c (earlier s u) (earlier r t) (time_told g known c s u falls.time changes.time) (time_told g known c r t front.time agenda.time)) in
    let clear : (k : ℕ) → k < g.rows → IsClear g known c x k = clear_of g known c s u r t x idle falls changes front agenda (λ y e. some_same x y (sym is ∙ e)) in
    turn_at_time g c x b le (subst (λ k. retired_by g k ≡ false) same more) start time.later (subst (λ k. is_time g k x ≡ true) same time.set) (λ k lk. subst (λ v. IsClear g v c x k) same (clear k lk))
  where
    some_same : (x y : ℕ) → Some x ≡ Some y → x ≤ y
    some_same x y e = let s : x ≡ y = cc in omega (arith, s)

-- they tell of one, while not all rows have retired
pub some_told : (g : Input) (known : Known (List ℕ)) (c : ℕ) (s u r t : Option ℕ) → IsBounded g → c ≤ cycle_bound g → known ≡ known_below g c → retired_by g known ≡ false → 0 < c
    → IsPast g known c → TellsFall g known c s → TellsChange g known c u → TellsFront g known c r → TellsAgenda g known c t → all_of s u r t ≡ None → ⊥
some_told g known c s u r t b le same more start idle falls changes front agenda is =
    let clear : (k : ℕ) → k < g.rows → IsClear g known c (cycle_bound g) k = clear_of g known c s u r t (cycle_bound g) idle falls changes front agenda (λ y e. absurd (no_some y (sym is ∙ e))) in
    not_past g c b (subst (λ k. retired_by g k ≡ false) same more) (clear_cycles g c (cycle_bound g) le (λ e. absurd (omega (arith, e, start))) (λ k lk. subst (λ v. IsClear g v c (cycle_bound g) k) same (clear k lk)))
  where
    no_some : (y : ℕ) → None ≡ Some y → ⊥
    no_some y e = cc

pub joined : (s u r t a b o x : Option ℕ) → a ≡ earlier s u → b ≡ earlier r t → o ≡ earlier a b → o ≡ x → all_of s u r t ≡ x
joined s u r t a b o x p q e is = ap (λ z. earlier z (earlier r t)) (sym p) ∙ ap (earlier a) (sym q) ∙ sym e ∙ is

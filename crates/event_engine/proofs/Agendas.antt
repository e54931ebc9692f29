-- What the rows in flight tell.
use Rattle.std.proofs.Common.{zero, suc, ◌≡◌, ℕ, ◌+◌, ◌-◌, ◌^◌, ◌<◌, ◌≤◌, ◌⊎◌, inl, inr, List, arith, sym, ◌∙◌, ap, subst, refl, Bool, true, false, not, ◌&&◌}
use Rattle.std.specs.Prelude.{nat_lt, nat_eq, if◌then◌else◌, Option, Some, None, is_some, MatchOption}
use Rattle.std.specs.List.{list_any}
use Rattle.std.proofs.lemmas.Bool.Decides.{nat_tests}
use Rattle.std.proofs.lemmas.Bool.{cases_Bool, cases_eq, cases_lt}
use Rattle.cycle_rules.specs.Row.{Input, times, phase}
use Rattle.cycle_rules.specs.Schedule.{Fall, Known}
use Rattle.cycle_rules.specs.Events.{known_of}
use Rattle.cycle_rules.proofs.Falls.{first_true, second_true}
use Rattle.engine_state.specs.State.{at, never, recorded}
use Rattle.engine_state.proofs.Reading.{issued_by}
use Rattle.engine_state.proofs.Turn.{known_is_some, never_is_none}
use Rattle.row_sets.specs.Agenda.{time_of, IsFirst, NoneWaits}
use Rattle.row_sets.specs.declared.agenda.Agenda.{Agenda}
use Rattle.engine_steps.specs.Wake.{WaitsUntil, CompletesIn}
use Rattle.event_rules.specs.Due.{is_front, is_ordered, is_waiting, comes_next, ready_from, all_times}
use Rattle.engine_steps.specs.Flight.{IsFlight}
use Rattle.engine_steps.specs.declared.flight.Flight.{Flight}
use Rattle.event_engine.specs.Tells.{earlier, Told, is_time, SomeTime, TellsFront, TellsHead, TellsAgenda, coming, after_completion}
use Rattle.event_engine.proofs.Telling.{told_left, told_right, time_told}
use Rattle.event_engine.proofs.RowTimes.{row_dispatch, row_retire, issue_at, complete_at, unissued_none, issued_some, not_none, set_complete, set_completed, set_ready, time_of_row, IsAt}

-- A time that is told, where it does not lie before a cycle

pub told_coming : (c n : ℕ) (o : Option ℕ) → o ≡ Some n → Told c (coming c o) n
told_coming c n o is = subst (λ p. Told c (coming c p) n) (sym is) (elim (cases_lt n c) [
  | inl low ↦ (let test : nat_lt n c ≡ true = grind (arith, nat_tests, low) in rw test low)
  | inr high ↦ (let test : nat_lt n c ≡ false = grind (arith, nat_tests, high) in rw test (λ _. omega arith))
])

pub time_coming : (g : Input) (known : Known (List ℕ)) (c : ℕ) (o : Option ℕ) → ((x : ℕ) → o ≡ Some x → is_time g known x ≡ true) → SomeTime g known c (coming c o)
time_coming g known c None h = tt
time_coming g known c (Some x) h = elim (cases_lt x c) [
  | inl low ↦ (let test : nat_lt x c ≡ true = grind (arith, nat_tests, low) in rw test tt)
  | inr high ↦ (let test : nat_lt x c ≡ false = grind (arith, nat_tests, high) in rw test (record { later = high; set = h x refl }))
]

some_is : (x y : ℕ) → Some x ≡ Some y → x ≡ y
some_is x y e = cc

-- Rows that wait for nothing

-- a row that has not dispatched and is not reserved waits for nothing
free_waits : (g : Input) (f : Flight) (b n k : ℕ) → IsFlight g f b n → k < g.rows → f.head ≤ k → (g.row k).reserved ≡ false → is_waiting g (recorded g f.table.items) k ≡ true → ⊥
free_waits g f b n k h lt le free waits =
    let none : known_of g (recorded g f.table.items) 2 k ≡ None = row_dispatch g k f.table.items lt ∙ never_is_none (times f.table.items k).dispatch _ (h.flow.waiting k le lt) in
    go (g.row k).reserved _ (known_of g (recorded g f.table.items) 2 k) free none (second_true _ _ waits)
  where
    go : (d e : Bool) (o : Option (Fall (List ℕ))) → d ≡ false → o ≡ None → (if d then e else is_some o) ≡ true → ⊥
    go true e o p q r = cc
    go false e None p q r = cc
    go false e (Some x) p q r = cc

-- a row behind the next one that dispatches tells nothing
later_waits : (g : Input) (f : Flight) (b n k : ℕ) → IsFlight g f b n → k < g.rows → f.head < k → is_waiting g (recorded g f.table.items) k ≡ true → ⊥
later_waits g f b n k h lt late waits = elim (cases_Bool (g.row k).reserved) [
  | inr free ↦ free_waits g f b n k h lt (omega (arith, late)) free waits
  | inl reserved ↦ after_head k lt late (of_reserved (g.row k).reserved _ _ reserved (second_true _ _ waits))
]
  where
    of_reserved : (d x y : Bool) → d ≡ true → (if d then x else y) ≡ true → x ≡ true
    of_reserved true x y p q = q
    of_reserved false x y p q = cc

    known_none : (o : Option (Fall (List ℕ))) → o ≡ None → is_some o ≡ true → ⊥
    known_none None p q = cc
    known_none (Some x) p q = cc

    after_head : (j : ℕ) → j < g.rows → f.head < j → comes_next g (recorded g f.table.items) 2 j ≡ true → ⊥
    after_head zero lj l e = omega (arith, l)
    after_head (suc i) lj l e =
        let low : i < g.rows = omega (arith, lj) in
        known_none (known_of g (recorded g f.table.items) 2 i) (row_dispatch g i f.table.items low ∙ never_is_none (times f.table.items i).dispatch _ (h.flow.waiting i (omega (arith, l)) low)) e

issued_waits : (o : Option (Fall (List ℕ))) {q : Fall (List ℕ)} (d : Bool) → o ≡ Some q → (not (is_some o) && d) ≡ true → ⊥
issued_waits None d p e = cc
issued_waits (Some q) d p e = cc

-- a row that waits has not issued
waits_unissued : (g : Input) (f : Flight) (b n k : ℕ) → IsFlight g f b n → k < g.rows → is_waiting g (recorded g f.table.items) k ≡ true → (times f.table.items k).issue ≡ never
waits_unissued g f b n k h lt waits = elim (cases_eq (times f.table.items k).issue never) [
  | inl none ↦ none
  | inr ne ↦ absurd (issued_waits (known_of g (recorded g f.table.items) (phase (g.row k)) k) _ (issued_some g k f.table.items lt (h.state.kept k lt) ne) waits)
]

-- nor is it reserved, if it has dispatched
waits_free : (g : Input) (f : Flight) (b n k : ℕ) → IsFlight g f b n → k < g.rows → k < f.head → (times f.table.items k).issue ≡ never → (g.row k).reserved ≡ false
waits_free g f b n k h lt low none = elim (cases_Bool (g.row k).reserved) [
  | inr free ↦ free
  | inl reserved ↦ absurd (h.flow.dispatched k low (sym ((h.state.kept k lt).together reserved) ∙ none))
]

-- What the agenda and the next row tell

told_past : (c n : ℕ) (o : Option ℕ) → n < c → Told c o n
told_past c n None lt = lt
told_past c n (Some x) lt = λ le. absurd (omega (arith, lt, le))

-- a cycle that a row waits for on the agenda is told
told_first : (agenda : Agenda) (c k t : ℕ) (o : Option ℕ) → MatchOption o (NoneWaits agenda) (IsFirst agenda) → time_of agenda k ≡ Some t → Told c o t
told_first agenda c k t None none is = absurd (nothing (sym (none k) ∙ is))
  where
    nothing : None ≡ Some t → ⊥
    nothing e = cc
told_first agenda c k t (Some x) first is = λ le. first.least k t is

first_time : (g : Input) (f : Flight) (c n : ℕ) (o : Option ℕ) → 0 < c → IsFlight g f (c - 1) n → MatchOption o (NoneWaits f.wakeup.agenda) (IsFirst f.wakeup.agenda) → SomeTime g (recorded g f.table.items) c o
first_time g f c n None start h none = tt
first_time g f c n (Some x) start h first =
    let k : ℕ = first.row f.front in
    let after : c - 1 < x = h.later k x (first.waits f.front) in
    let own : (k < f.head) × (WaitsUntil g f.table.items k x ⊎ CompletesIn g f.table.items k x) = h.awake.exact k x (first.from f.front) (first.within f.front) (first.waits f.front) in
    let lt : k < g.rows = omega (arith, own.0, h.flow.within) in
    record { later = omega (arith, after, start); set = time_of_row g (recorded g f.table.items) k x lt (set_own k lt own.1) }
  where
    set_own : (k : ℕ) → k < g.rows → WaitsUntil g f.table.items k x ⊎ CompletesIn g f.table.items k x → list_any (nat_eq x) (all_times g (recorded g f.table.items) k) ≡ true
    set_own k lt (inl u) = set_ready g (recorded g f.table.items) k x u.operands
    set_own k lt (inr u) = set_complete g (recorded g f.table.items) k x _ (issued_some g k f.table.items lt (h.state.kept k lt) u.issued) (u.complete ∙ (h.state.kept k lt).complete u.issued)

pub agenda_tells : (g : Input) (f : Flight) (c : ℕ) (first next : Option ℕ) → 0 < c → IsFlight g f (c - 1) (at g c 0 0) → MatchOption first (NoneWaits f.wakeup.agenda) (IsFirst f.wakeup.agenda) → TellsHead g (recorded g f.table.items) f.head next
    → TellsAgenda g (recorded g f.table.items) c (earlier first (coming c next))
agenda_tells g f c first next start h is tells = record {
  completes = λ k q lt at ordered. subst (Told c (earlier first (coming c next))) (complete_at g k f.table.items q lt (h.state.kept k lt) at) (completes k q lt at ordered);
  ready = λ k r lt waits operands. ready k r lt waits operands;
  time = time_told g (recorded g f.table.items) c first (coming c next) (first_time g f c (at g c 0 0) first start h is) (time_coming g (recorded g f.table.items) c next tells.time);
}
  where
    past : (t : ℕ) → t ≤ c - 1 → Told c (earlier first (coming c next)) t
    past t le = told_past c t _ (omega (arith, le, start))

    on_agenda : (k t : ℕ) → time_of f.wakeup.agenda k ≡ Some t → Told c (earlier first (coming c next)) t
    on_agenda k t e = told_left c first (coming c next) t (told_first f.wakeup.agenda c k t first is e)

    completes : (k : ℕ) (q : Fall (List ℕ)) → k < g.rows → known_of g (recorded g f.table.items) (phase (g.row k)) k ≡ Some q → is_ordered (g.row k).kind ≡ true → Told c (earlier first (coming c next)) (times f.table.items k).complete
    completes k q lt at ordered =
        let ne : (times f.table.items k).issue ≡ never → ⊥ = λ none. not_none (unissued_none g k f.table.items lt (h.state.kept k lt) none) at in
        elim (cases_lt k f.front) [
          | inl old ↦ past (times f.table.items k).complete (h.completed k old)
          | inr young ↦ elim (cases_lt k f.head) [
            | inr late ↦ absurd (ne (h.flow.unissued k late lt))
            | inl low ↦ elim (h.awake.completes k (times f.table.items k).complete young low refl (record { ordered = ordered; issued = ne; complete = refl })) [
              | inl come ↦ past (times f.table.items k).complete come
              | inr waits ↦ on_agenda k (times f.table.items k).complete waits
            ]
          ]
        ]

    ready : (k r : ℕ) → k < g.rows → is_waiting g (recorded g f.table.items) k ≡ true → ready_from g (recorded g f.table.items) k ≡ Some r → Told c (earlier first (coming c next)) r
    ready k r lt waits operands =
        let none : (times f.table.items k).issue ≡ never = waits_unissued g f (c - 1) (at g c 0 0) k h lt waits in
        elim (cases_lt k f.front) [
          | inl old ↦ absurd (h.flow.issued k old none)
          | inr young ↦ elim (cases_lt k f.head) [
            | inl low ↦ elim (h.awake.ready k r young low refl (record { free = waits_free g f (c - 1) (at g c 0 0) k h lt low none; waits = none; operands = operands })) [
              | inl p ↦ past r p.0
              | inr p ↦ on_agenda k r p
            ]
            | inr late ↦ elim (cases_eq k f.head) [
              | inr ne ↦ absurd (later_waits g f (c - 1) (at g c 0 0) k h lt (omega (arith, late, ne)) waits)
              | inl here ↦ elim (cases_Bool (g.row k).reserved) [
                | inr free ↦ absurd (free_waits g f (c - 1) (at g c 0 0) k h lt late free waits)
                | inl reserved ↦ told_right c first (coming c next) r (told_coming c r next
                    (tells.ready (subst (λ i. i < g.rows) here lt) (subst (λ i. (g.row i).reserved ≡ true) here reserved) ∙ subst (λ i. ready_from g (recorded g f.table.items) i ≡ Some r) here operands))
              ]
            ]
          ]
        ]

-- what the next row tells
pub head_none : (g : Input) (known : Known (List ℕ)) (head : ℕ) → (head < g.rows → (g.row head).reserved ≡ true → ⊥) → TellsHead g known head None
head_none g known head never_so = record { ready = λ lt reserved. absurd (never_so lt reserved); time = λ x e. cc }

pub head_ready : (g : Input) (known : Known (List ℕ)) (head : ℕ) (o : Option ℕ) → head < g.rows → o ≡ ready_from g known head → TellsHead g known head o
head_ready g known head o lt is = record { ready = λ _ reserved. is; time = λ x e. time_of_row g known head x lt (set_ready g known head x (sym is ∙ e)) }

-- The oldest row in flight

front_is : (g : Input) (f : Flight) (b n k : ℕ) → IsFlight g f b n → k < g.rows → is_front g (recorded g f.table.items) k ≡ true → k ≡ f.front
front_is g f b n k h lt front =
    let ge : f.front ≤ k = elim (cases_lt k f.front) [
      | inl low ↦ absurd (retired (known_of g (recorded g f.table.items) 0 k) (row_retire g k f.table.items lt ∙ known_is_some (times f.table.items k).retire _ (h.flow.retired k low)) (first_true _ _ front))
      | inr high ↦ high
    ] in
    let le : k ≤ f.front = follows k lt (second_true _ _ front) in
    omega (arith, ge, le)
  where
    retired : (o : Option (Fall (List ℕ))) {q : Fall (List ℕ)} → o ≡ Some q → not (is_some o) ≡ true → ⊥
    retired None p e = cc
    retired (Some q) p e = cc

    none_retired : (o : Option (Fall (List ℕ))) → o ≡ None → is_some o ≡ true → ⊥
    none_retired None p e = cc
    none_retired (Some q) p e = cc

    follows : (j : ℕ) → j < g.rows → comes_next g (recorded g f.table.items) 0 j ≡ true → j ≤ f.front
    follows zero lj e = omega arith
    follows (suc i) lj e = elim (cases_lt i f.front) [
      | inl low ↦ omega (arith, low)
      | inr high ↦ (let low : i < g.rows = omega (arith, lj) in
          absurd (none_retired (known_of g (recorded g f.table.items) 0 i) (row_retire g i f.table.items low ∙ never_is_none (times f.table.items i).retire _ (h.flow.held i high low)) e))
    ]

pub front_tells : (g : Input) (f : Flight) (b n c : ℕ) → IsFlight g f b n → f.front < g.rows → TellsFront g (recorded g f.table.items) c (coming c (after_completion (times f.table.items f.front).issue (times f.table.items f.front).complete))
front_tells g f b n c h lt = record {
  completed = λ k q lk is front. (let here : k ≡ f.front = front_is g f b n k h lk front in
      told_coming c _ _ (subst (λ i. after_completion (times f.table.items i).issue (times f.table.items i).complete ≡ Some (q.cycle + (g.row k).latency + 1)) here (told k q lk is)));
  time = time_coming g (recorded g f.table.items) c _ (λ x e. time_of_row g (recorded g f.table.items) f.front x lt (elim (cases_eq (times f.table.items f.front).issue never) [
    | inl none ↦ (let test : nat_eq (times f.table.items f.front).issue never ≡ true = grind (arith, nat_tests, none) in absurd (nothing x (rw test at e)))
    | inr ne ↦ (let test : nat_eq (times f.table.items f.front).issue never ≡ false = grind (arith, nat_tests, ne) in
        set_completed g (recorded g f.table.items) f.front x _ (issued_some g f.front f.table.items lt (h.state.kept f.front lt) ne) (sym (some_is _ _ (rw test at e)) ∙ ap (λ m. m + 1) ((h.state.kept f.front lt).complete ne)))
  ]));
}
  where
    nothing : (x : ℕ) → None ≡ Some x → ⊥
    nothing x e = cc

    told : (k : ℕ) (q : Fall (List ℕ)) → k < g.rows → known_of g (recorded g f.table.items) (phase (g.row k)) k ≡ Some q → after_completion (times f.table.items k).issue (times f.table.items k).complete ≡ Some (q.cycle + (g.row k).latency + 1)
    told k q lk is =
        let here : IsAt (times f.table.items k).issue q = issue_at g k f.table.items q lk (h.state.kept k lk) is in
        let ne : (times f.table.items k).issue ≡ never → ⊥ = here.some in
        let test : nat_eq (times f.table.items k).issue never ≡ false = grind (arith, nat_tests, ne) in
        rw test (ap (λ m. Some (m + 1)) (complete_at g k f.table.items q lk (h.state.kept k lk) is))

-- The times that are recorded are low

pub issue_low : (g : Input) (f : Flight) (c k : ℕ) → IsFlight g f (c - 1) (at g c 0 0) → k < g.rows → c < 2 ^ 42 → ((times f.table.items k).issue ≡ never → ⊥) → (times f.table.items k).issue < 2 ^ 42
issue_low g f c k h lt low ne = let past : (times f.table.items k).issue ≤ c = issued_by g c 0 0 f.table.items k h.state (omega arith) (omega arith) lt ne in omega (arith, past, low)

pub complete_low : (g : Input) (f : Flight) (c k : ℕ) → IsFlight g f (c - 1) (at g c 0 0) → k < g.rows → c < 2 ^ 42 → ((times f.table.items k).issue ≡ never → ⊥) → (times f.table.items k).complete < 2 ^ 63
complete_low g f c k h lt low ne = omega (arith, issue_low g f c k h lt low ne, (h.state.kept k lt).complete ne, (h.ranges.bound k lt).latency)

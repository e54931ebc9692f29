-- What an engine may leave out of a cycle: rows that wait behind a row that may not retire, that have no operands, or that wait behind one that may not dispatch. And what an event changes.
use Rattle.std.specs.Prelude.{⊤, ℕ, ◌+◌, ◌≡◌, ◌≤◌, ◌<◌, List, Bool, true, false, not, ◌&&◌, Option, Some, None, is_some, nat_eq, if◌then◌else◌}
use Rattle.std.specs.List.{list_any}
use Rattle.cycle_rules.specs.Row.{Input, phase}
use Rattle.cycle_rules.specs.Schedule.{Fall, Known, key, known_at, made, event}
use Rattle.cycle_rules.specs.Events.{events, in_cycle, may_fall, units_taken, rules_of, known_of}
use Rattle.cycle_rules.specs.Dispatch.{can_dispatch}
use Rattle.cycle_rules.specs.Issue.{producer}
use Rattle.cycle_rules.specs.Retire.{can_retire}
use Rattle.event_rules.specs.Due.{ready_from, is_set}

-- what is known before row j has its turn in phase p of cycle c
abbrev pub known_before : Input → ℕ → ℕ → ℕ → Known (List ℕ)
known_before g c p j = known_at (rules_of g) (events g) (key (events g) c (event g.rows p j))

-- rows that have retired are passed over
abbrev pub SkipRetired : Type 0
SkipRetired = (g : Input) (c j : ℕ) → j ≤ g.rows → ((k : ℕ) → k < j → known_before g c 0 0 (event g.rows 0 k) ≡ None → ⊥) → known_before g c 0 j ≡ known_before g c 0 0

-- where a row may not retire, none behind it retires
abbrev pub SkipRetires : Type 0
SkipRetires = (g : Input) (c j : ℕ) → j ≤ g.rows → known_before g c 0 j (event g.rows 0 j) ≡ None → (j < g.rows → can_retire g (in_cycle g c (known_before g c 0 j)) j c ≡ false)
    → known_before g c 1 0 ≡ known_before g c 0 j

-- the last operand of a row is not ready in a cycle
abbrev pub Unready : ℕ → Option ℕ → Type 0
Unready c None = ⊤
Unready c (Some x) = c < x

-- rows of which none is ready are passed over
abbrev pub SkipUnready : Type 0
SkipUnready = (g : Input) (c j n : ℕ) → j + n ≤ g.rows
    → ((k : ℕ) → j ≤ k → k < j + n → (g.row k).reserved ≡ false → known_before g c 1 j (event g.rows 1 k) ≡ None → (f : Fall (List ℕ)) → known_before g c 1 j (event g.rows 2 k) ≡ Some f → Unready c (ready_from g (known_before g c 1 j) k))
    → known_before g c 1 (j + n) ≡ known_before g c 1 j

-- rows that have dispatched are passed over
abbrev pub SkipDispatched : Type 0
SkipDispatched = (g : Input) (c j : ℕ) → j ≤ g.rows → ((k : ℕ) → k < j → known_before g c 2 0 (event g.rows 2 k) ≡ None → ⊥) → known_before g c 2 j ≡ known_before g c 2 0

-- where a row may not dispatch, none behind it dispatches
abbrev pub SkipDispatches : Type 0
SkipDispatches = (g : Input) (c j : ℕ) → j ≤ g.rows → known_before g c 2 j (event g.rows 2 j) ≡ None → (j < g.rows → can_dispatch g (in_cycle g c (known_before g c 2 j)) j c ≡ false)
    → known_before g (c + 1) 0 0 ≡ known_before g c 2 j

-- An event that falls comes to be known, and one that may not fall does not

abbrev pub with_fall : ℕ → Fall (List ℕ) → Known (List ℕ) → Known (List ℕ)
with_fall e f known x = if nat_eq x e then Some f else known x

abbrev pub EventFalls : Type 0
EventFalls = (g : Input) (c p j : ℕ) → p < 3 → j < g.rows → known_before g c p j (event g.rows p j) ≡ None → may_fall g (known_before g c p j) c p j ≡ true
    → known_before g c p (j + 1) ≡ with_fall (event g.rows p j) (record { cycle = c; what = units_taken g (known_before g c p j) c p j }) (known_before g c p j)

abbrev pub EventWaits : Type 0
EventWaits = (g : Input) (c p j : ℕ) → p < 3 → j < g.rows → (known_before g c p j (event g.rows p j) ≡ None → may_fall g (known_before g c p j) c p j ≡ false) → known_before g c p (j + 1) ≡ known_before g c p j

-- Row j reads what row q writes

abbrev pub is_row : ℕ → Option ℕ → Bool
is_row q None = false
is_row q (Some k) = nat_eq k q

abbrev pub is_read_from : Input → ℕ → ℕ → Bool
is_read_from g j q = list_any (λ s. not (nat_eq s.reg 0) && is_row q (producer g j s.reg)) (g.row j).reads

-- the issue of row q changes the ready time of no row that does not read from it
abbrev pub ReadyStays : Type 0
ReadyStays = (g : Input) (known v : Known (List ℕ)) (j q : ℕ) → ((k : ℕ) → (k ≡ q → ⊥) → known_of g v (phase (g.row k)) k ≡ known_of g known (phase (g.row k)) k) → is_read_from g j q ≡ false → ready_from g v j ≡ ready_from g known j

-- where a row's ready time is not known, it reads from a row that has not issued
abbrev pub waits_for : Input → Known (List ℕ) → Option ℕ → Bool
waits_for g known None = false
waits_for g known (Some k) = not (is_some (known_of g known (phase (g.row k)) k))

abbrev pub ReadyUnknown : Type 0
ReadyUnknown = (g : Input) (known : Known (List ℕ)) (j : ℕ) → is_some (ready_from g known j) ≡ not (list_any (λ s. not (nat_eq s.reg 0) && waits_for g known (producer g j s.reg)) (g.row j).reads)

-- after an event in the cycle before, the next turn is counted
abbrev pub AfterEvent : Type 0
AfterEvent = (g : Input) (bound c p k : ℕ) (f : Fall (List ℕ)) → c + 1 ≤ bound → p < 3 → k < g.rows → made (rules_of g) (events g) (c + 1) (event g.rows p k) ≡ Some f → f.cycle ≡ c → is_set g (made (rules_of g) (events g) bound) (c + 1) ≡ true

-- The times at which something can change. In a cycle in which none of them falls, no event falls: so an engine may go from one of them to the next.
-- They are told by what is known of the events when all cycles below one are done, since an event that has not fallen sets no time.
use Rattle.std.specs.Prelude.{zero, suc, ℕ, ◌+◌, ◌-◌, ◌/◌, ◌%◌, ◌≤◌, ◌<◌, ◌≡◌, max, List, [], ◌∷◌, ◌++◌, Bool, true, false, not, ◌&&◌, ◌||◌, Option, Some, None, is_some, nat_lt, nat_le, nat_eq, if◌then◌else◌}
use Rattle.std.specs.List.{list_any, count_by}
use Rattle.machine_model.specs.declared.facts.Use.{Use}
use Rattle.rv_isa.specs.declared.facts.Kind.{Kind}
use Rattle.rv_isa.specs.declared.facts.Kind.TheVariants.{Plain}
use Rattle.cycle_rules.specs.Below.{sum_below, all_below, first_from}
use Rattle.cycle_rules.specs.Row.{Input, uops_of, phase, lead, advance_of}
use Rattle.cycle_rules.specs.Issue.{producer}
use Rattle.cycle_rules.specs.Schedule.{Fall, Known, made}
use Rattle.cycle_rules.specs.Events.{events, known_of, rules_of}
use Rattle.cycle_rules.specs.CycleBound.{turn_bound}
use Rattle.cycle_rules.specs.declared.bound.Source.{Source}

-- the times that an event sets, where it has fallen
abbrev pub following : Option (Fall (List ℕ)) → (ℕ → List ℕ) → List ℕ
following None times = []
following (Some f) times = times f.cycle

abbrev pub only_if : Bool → List ℕ → List ℕ
only_if b xs = if b then xs else []

-- the row before has had its event of a phase, where there is one
abbrev pub comes_next : Input → Known (List ℕ) → ℕ → ℕ → Bool
comes_next g known q zero = true
comes_next g known q (suc k) = is_some (known_of g known q k)

-- a row of the kind takes part in the order of memory
abbrev pub is_ordered : Kind → Bool
is_ordered Plain = false
is_ordered _ = true

-- Operands

-- so many cycles after an event
abbrev pub later_by : ℕ → Option (Fall (List ℕ)) → Option ℕ
later_by n None = None
later_by n (Some f) = Some (f.cycle + n)

-- the later of two times that are known
abbrev pub later : Option ℕ → Option ℕ → Option ℕ
later (Some x) (Some y) = Some (max x y)
later None _ = None
later _ None = None

abbrev pub read_after : Input → Known (List ℕ) → ℕ → Option ℕ → Option ℕ
read_after g known read None = Some 0
read_after g known read (Some k) = later_by (lead (g.row k).latency (advance_of g.machine read (g.row k).write)) (known_of g known (phase (g.row k)) k)

-- the first cycle in which a value can be read, where it is known: 0 for one that was there before
abbrev pub read_from : Input → Known (List ℕ) → ℕ → Source → Option ℕ
read_from g known j s = if nat_eq s.reg 0 then Some 0 else read_after g known s.read (producer g j s.reg)

-- the first cycle in which all of some values can be read, where it is known
abbrev pub all_read_from : Input → Known (List ℕ) → ℕ → List Source → Option ℕ
all_read_from g known j [] = Some 0
all_read_from g known j (s ∷ rest) = later (read_from g known j s) (all_read_from g known j rest)

-- the time at which the last operand of row j is ready
abbrev pub ready_from : Input → Known (List ℕ) → ℕ → Option ℕ
ready_from g known j = all_read_from g known j (g.row j).reads

abbrev pub listed : Option ℕ → List ℕ
listed None = []
listed (Some x) = x ∷ []

-- The times of a row

-- the cycles in which the uses of a row that issues in cycle i give their units back
abbrev pub changes : ℕ → List Use → List ℕ
changes i [] = []
changes i (w ∷ rest) = (i + w.hold) ∷ changes i rest

-- the cycle after the dispatch, and those in which the row's share of the width falls: to what is left over, and to nothing
abbrev pub dispatch_times : Input → ℕ → ℕ → List ℕ
dispatch_times g k d = (d + 1) ∷ only_if (nat_lt 0 (uops_of g k / g.machine.limits.width)) ((d + uops_of g k / g.machine.limits.width) ∷ []) ++ only_if (nat_lt 0 (uops_of g k % g.machine.limits.width)) ((d + uops_of g k / g.machine.limits.width + 1) ∷ [])

-- row k may be the next that retires
abbrev pub is_front : Input → Known (List ℕ) → ℕ → Bool
is_front g known k = not (is_some (known_of g known 0 k)) && comes_next g known 0 k

-- row k waits to issue; a reserved row waits so when it is the next that dispatches
abbrev pub is_waiting : Input → Known (List ℕ) → ℕ → Bool
is_waiting g known k = not (is_some (known_of g known (phase (g.row k)) k)) && (if (g.row k).reserved then comes_next g known 2 k else is_some (known_of g known 2 k))

-- the cycle after the issue; the completion, where other rows may wait for it in the order of memory; the cycle after it, where the row is the next that retires; and the changes of its uses
abbrev pub issue_times : Input → Known (List ℕ) → ℕ → ℕ → List ℕ
issue_times g known k i = (i + 1) ∷ only_if (is_ordered (g.row k).kind) ((i + (g.row k).latency) ∷ []) ++ only_if (is_front g known k) ((i + (g.row k).latency + 1) ∷ []) ++ changes i (g.row k).uses

unfoldable pub due_times : Input → Known (List ℕ) → ℕ → List ℕ
due_times g known k = following (known_of g known 2 k) (dispatch_times g k)
    ++ following (known_of g known (phase (g.row k)) k) (issue_times g known k)
    ++ following (known_of g known 0 k) (λ t. (t + 1) ∷ [])
    ++ only_if (is_waiting g known k) (listed (ready_from g known k))

-- no time of row k falls in cycle x
abbrev pub none_of : Input → Known (List ℕ) → ℕ → ℕ → Bool
none_of g known x k = not (list_any (nat_eq x) (due_times g known k))

-- something falls due in a cycle: cycle 0, or a time of a row
unfoldable pub is_due : Input → Known (List ℕ) → ℕ → Bool
is_due g known x = nat_eq x 0 || not (all_below g.rows (none_of g known x))

-- where nothing falls due from cycle c on, as far as below n, by what is known when all cycles below c are done, no event falls in these cycles
abbrev pub QuietCycles : Type 0
QuietCycles = (g : Input) (c n : ℕ) → c ≤ n → ((x : ℕ) → c ≤ x → x < n → is_due g (made (rules_of g) (events g) c) x ≡ false) → made (rules_of g) (events g) n ≡ made (rules_of g) (events g) c

-- The turns of an engine that turns only where something falls due

-- the first cycle from c on, below a bound, in which something falls due, by what is known when all cycles below c are done
abbrev pub next_due : Input → ℕ → ℕ → Option ℕ
next_due g bound c = first_from c (bound - c) (is_due g (made (rules_of g) (events g) c))

-- all times that row k sets in the end: eight beside those of its uses
abbrev pub dispatch_sets : Input → ℕ → ℕ → List ℕ
dispatch_sets g k d = (d + 1) ∷ (d + uops_of g k / g.machine.limits.width) ∷ (d + uops_of g k / g.machine.limits.width + 1) ∷ []

abbrev pub issue_sets : Input → ℕ → ℕ → List ℕ
issue_sets g k i = (i + 1) ∷ (i + (g.row k).latency) ∷ (i + (g.row k).latency + 1) ∷ changes i (g.row k).uses

unfoldable pub all_times : Input → Known (List ℕ) → ℕ → List ℕ
all_times g v k = following (known_of g v 2 k) (dispatch_sets g k) ++ following (known_of g v (phase (g.row k)) k) (issue_sets g k) ++ following (known_of g v 0 k) (λ t. (t + 1) ∷ []) ++ listed (ready_from g v k)

-- how many of them fall in a cycle or later
abbrev pub turns_left : Input → Known (List ℕ) → ℕ → ℕ
turns_left g v c = (if nat_eq c 0 then 1 else 0) + sum_below g.rows (λ k. count_by (nat_le c) (all_times g v k))

-- an engine has no more turns before it than the bound
abbrev pub FewTurns : Type 0
FewTurns = (g : Input) (v : Known (List ℕ)) → turns_left g v 0 ≤ turn_bound g

-- a cycle is cycle 0 or one of the times that the rows set in the end
unfoldable pub is_set : Input → Known (List ℕ) → ℕ → Bool
is_set g v x = nat_eq x 0 || not (all_below g.rows (λ k. not (list_any (nat_eq x) (all_times g v k))))

-- and fewer after a turn at such a cycle, x, after all cycles below c are done
abbrev pub EachTurn : Type 0
EachTurn = (g : Input) (v : Known (List ℕ)) (c x : ℕ) → c ≤ x → is_set g v x ≡ true → turns_left g v (x + 1) + 1 ≤ turns_left g v c

-- where something falls due there is such a cycle
abbrev pub DueIsSet : Type 0
DueIsSet = (g : Input) (bound c x : ℕ) → c ≤ bound → is_due g (made (rules_of g) (events g) c) x ≡ true → is_set g (made (rules_of g) (events g) bound) x ≡ true

-- the first cycle in which something falls due: no event falls before it
pub record IsNext (g : Input) (c bound x : ℕ) : Type 0 where
  pub later : c ≤ x
  pub before : x < bound
  pub due : is_due g (made (rules_of g) (events g) c) x ≡ true
  pub same : made (rules_of g) (events g) x ≡ made (rules_of g) (events g) c

abbrev pub NextTurn : Type 0
NextTurn = (g : Input) (bound c x : ℕ) → next_due g bound c ≡ Some x → IsNext g c bound x

-- where there is none below a bound, no event falls as far as the bound
abbrev pub NoTurn : Type 0
NoTurn = (g : Input) (bound c : ℕ) → c ≤ bound → next_due g bound c ≡ None → made (rules_of g) (events g) bound ≡ made (rules_of g) (events g) c

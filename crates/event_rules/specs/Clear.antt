-- What an engine has to know of each row before it goes on to a later cycle: none of the times that the row sets falls before.
use Rattle.std.specs.Prelude.{ℕ, ◌+◌, ◌/◌, ◌%◌, ◌≡◌, ◌≤◌, ◌<◌, List, true, false, Some, nat_eq}
use Rattle.std.specs.List.{list_any}
use Rattle.cycle_rules.specs.Row.{Input, phase, uops_of}
use Rattle.cycle_rules.specs.Schedule.{Fall, Known, made}
use Rattle.cycle_rules.specs.Events.{events, known_of, rules_of}
use Rattle.event_rules.specs.Due.{changes, is_front, is_ordered, is_waiting, ready_from, all_times, is_set}

-- a time does not fall from c on, as far as below x
abbrev pub Outside : ℕ → ℕ → ℕ → Type 0
Outside c x n = c ≤ n → x ≤ n

pub record IsClear (g : Input) (known : Known (List ℕ)) (c x k : ℕ) : Type 0 where
  -- nothing has happened in the cycle before c, where x is above c
  pub dispatched : (f : Fall (List ℕ)) → known_of g known 2 k ≡ Some f → Outside c x (f.cycle + 1)
  pub issued : (f : Fall (List ℕ)) → known_of g known (phase (g.row k)) k ≡ Some f → Outside c x (f.cycle + 1)
  pub retired : (f : Fall (List ℕ)) → known_of g known 0 k ≡ Some f → Outside c x (f.cycle + 1)
  -- its share of the width does not fall: the dispatch unit tells
  pub full : (f : Fall (List ℕ)) → known_of g known 2 k ≡ Some f → 0 < uops_of g k / g.machine.limits.width → Outside c x (f.cycle + uops_of g k / g.machine.limits.width)
  pub rest : (f : Fall (List ℕ)) → known_of g known 2 k ≡ Some f → 0 < uops_of g k % g.machine.limits.width → Outside c x (f.cycle + uops_of g k / g.machine.limits.width + 1)
  -- a row of the order of memory does not complete: the agenda tells
  pub completes : (f : Fall (List ℕ)) → known_of g known (phase (g.row k)) k ≡ Some f → is_ordered (g.row k).kind ≡ true → Outside c x (f.cycle + (g.row k).latency)
  -- the row at the front of the reorder buffer has not just completed
  pub completed : (f : Fall (List ℕ)) → known_of g known (phase (g.row k)) k ≡ Some f → is_front g known k ≡ true → Outside c x (f.cycle + (g.row k).latency + 1)
  -- none of its uses gives its unit back: the units tell
  pub changed : (f : Fall (List ℕ)) → known_of g known (phase (g.row k)) k ≡ Some f → (y : ℕ) → c ≤ y → y < x → list_any (nat_eq y) (changes f.cycle (g.row k).uses) ≡ false
  -- a row that waits does not become ready: the agenda tells
  pub ready : is_waiting g known k ≡ true → (r : ℕ) → ready_from g known k ≡ Some r → Outside c x r

-- where all rows are clear no event falls before x
abbrev pub ClearCycles : Type 0
ClearCycles = (g : Input) (c x : ℕ) → c ≤ x → (c ≡ 0 → x ≡ 0) → ((k : ℕ) → k < g.rows → IsClear g (made (rules_of g) (events g) c) c x k) → made (rules_of g) (events g) x ≡ made (rules_of g) (events g) c

-- and a turn at x is counted where x is a time that a row has set
abbrev pub SetTime : Type 0
SetTime = (g : Input) (bound c x k : ℕ) → c ≤ bound → k < g.rows → list_any (nat_eq x) (all_times g (made (rules_of g) (events g) c) k) ≡ true → is_set g (made (rules_of g) (events g) bound) x ≡ true

-- What the parts of an engine tell of the next cycle in which something can change. Each tells of its own times the first from c on, or that there is none.
use Rattle.std.specs.Prelude.{⊤, ℕ, ◌+◌, ◌/◌, ◌%◌, ◌≡◌, ◌≤◌, ◌<◌, min, List, Bool, true, false, not, Option, Some, None, nat_lt, nat_eq, if◌then◌else◌}
use Rattle.std.specs.List.{list_any}
use Rattle.cycle_rules.specs.Below.{all_below}
use Rattle.cycle_rules.specs.Row.{Input, phase, uops_of}
use Rattle.cycle_rules.specs.Schedule.{Fall, Known}
use Rattle.cycle_rules.specs.Events.{known_of}
use Rattle.engine_state.specs.State.{never}
use Rattle.event_rules.specs.Due.{changes, is_front, is_ordered, is_waiting, ready_from, all_times}

-- the earlier of two times, where there are any
abbrev pub earlier : Option ℕ → Option ℕ → Option ℕ
earlier None b = b
earlier (Some x) None = Some x
earlier (Some x) (Some y) = Some (min x y)

-- a time is past, or no earlier than what is told
abbrev pub Told : ℕ → Option ℕ → ℕ → Type 0
Told c None n = n < c
Told c (Some x) n = c ≤ n → x ≤ n

-- a cycle before what is told
abbrev pub Until : Option ℕ → ℕ → Type 0
Until None y = ⊤
Until (Some x) y = y < x

-- a time that some row has set
unfoldable pub is_time : Input → Known (List ℕ) → ℕ → Bool
is_time g known x = not (all_below g.rows (λ k. not (list_any (nat_eq x) (all_times g known k))))

-- what is told is a time that a row has set, from c on
pub record IsTime (g : Input) (known : Known (List ℕ)) (c x : ℕ) : Type 0 where
  pub later : c ≤ x
  pub set : is_time g known x ≡ true

abbrev pub SomeTime : Input → Known (List ℕ) → ℕ → Option ℕ → Type 0
SomeTime g known c None = ⊤
SomeTime g known c (Some x) = IsTime g known c x

-- the dispatch unit tells when a share of the width falls
pub record TellsFall (g : Input) (known : Known (List ℕ)) (c : ℕ) (o : Option ℕ) : Type 0 where
  pub full : (k : ℕ) (f : Fall (List ℕ)) → k < g.rows → known_of g known 2 k ≡ Some f → 0 < uops_of g k / g.machine.limits.width → Told c o (f.cycle + uops_of g k / g.machine.limits.width)
  pub rest : (k : ℕ) (f : Fall (List ℕ)) → k < g.rows → known_of g known 2 k ≡ Some f → 0 < uops_of g k % g.machine.limits.width → Told c o (f.cycle + uops_of g k / g.machine.limits.width + 1)
  pub time : SomeTime g known c o

-- the units tell when a use gives its unit back
pub record TellsChange (g : Input) (known : Known (List ℕ)) (c : ℕ) (o : Option ℕ) : Type 0 where
  pub changed : (k : ℕ) (f : Fall (List ℕ)) → k < g.rows → known_of g known (phase (g.row k)) k ≡ Some f → (y : ℕ) → c ≤ y → Until o y → list_any (nat_eq y) (changes f.cycle (g.row k).uses) ≡ false
  pub time : SomeTime g known c o

-- the front of the reorder buffer tells when its row has completed
pub record TellsFront (g : Input) (known : Known (List ℕ)) (c : ℕ) (o : Option ℕ) : Type 0 where
  pub completed : (k : ℕ) (f : Fall (List ℕ)) → k < g.rows → known_of g known (phase (g.row k)) k ≡ Some f → is_front g known k ≡ true → Told c o (f.cycle + (g.row k).latency + 1)
  pub time : SomeTime g known c o

-- the rows in flight tell when the operands of one that waits are there, and when one that takes part in the order of memory completes; so does the row that dispatches next, where it is reserved
pub record TellsAgenda (g : Input) (known : Known (List ℕ)) (c : ℕ) (o : Option ℕ) : Type 0 where
  pub completes : (k : ℕ) (f : Fall (List ℕ)) → k < g.rows → known_of g known (phase (g.row k)) k ≡ Some f → is_ordered (g.row k).kind ≡ true → Told c o (f.cycle + (g.row k).latency)
  pub ready : (k r : ℕ) → k < g.rows → is_waiting g known k ≡ true → ready_from g known k ≡ Some r → Told c o r
  pub time : SomeTime g known c o

-- when the operands of the row that dispatches next are there, be it past or not, where it is reserved
pub record TellsHead (g : Input) (known : Known (List ℕ)) (head : ℕ) (o : Option ℕ) : Type 0 where
  pub ready : head < g.rows → (g.row head).reserved ≡ true → o ≡ ready_from g known head
  pub time : (x : ℕ) → o ≡ Some x → is_time g known x ≡ true

-- a time, where it does not lie before cycle c
abbrev pub coming : ℕ → Option ℕ → Option ℕ
coming c None = None
coming c (Some x) = if nat_lt x c then None else Some x

-- all that is known fell before the cycle before c
pub record IsPast (g : Input) (known : Known (List ℕ)) (c : ℕ) : Type 0 where
  pub dispatched : (k : ℕ) (f : Fall (List ℕ)) → k < g.rows → known_of g known 2 k ≡ Some f → f.cycle + 1 < c
  pub issued : (k : ℕ) (f : Fall (List ℕ)) → k < g.rows → known_of g known (phase (g.row k)) k ≡ Some f → f.cycle + 1 < c
  pub retired : (k : ℕ) (f : Fall (List ℕ)) → k < g.rows → known_of g known 0 k ≡ Some f → f.cycle + 1 < c

-- the cycle after a completion, where the row has issued
abbrev pub after_completion : ℕ → ℕ → Option ℕ
after_completion issue complete = if nat_eq issue never then None else Some (complete + 1)

-- What the engine keeps when it comes to a key: the table of what is recorded, and for each part the rows that it stands for.
use Rattle.std.specs.Prelude.{◌≡◌, ℕ, ◌-◌, ◌<◌, ◌≤◌, Bool, false, List}
use Rattle.circular_buffer.specs.Buffer.{buffer}
use Rattle.dispatch_unit.specs.Kept.{StandsFor as GroupStandsFor, width_of, cycle_of}
use Rattle.reg_files.specs.Held.{StandsFor as FilesStandFor}
use Rattle.issue_queues.specs.Waiting.{Waiting}
use Rattle.issue_queues.specs.Queues.{StandsFor as QueuesStandFor}
use Rattle.issue_queues.specs.Flight.{rows_from as waiting_from}
use Rattle.mem_queues.specs.Order.{MemRow}
use Rattle.mem_queues.specs.declared.queues.MemQueues.{MemQueues}
use Rattle.machine_model.specs.declared.limits.Limits.{Limits}
use Rattle.mem_queues.specs.Queues.{StandsFor as MemoryStandsFor}
use Rattle.mem_queues.specs.Flight.{rows_from as accesses_from}
use Rattle.cycle_rules.specs.Row.{Input, times}
use Rattle.cycle_rules.specs.declared.times.Times.{Times}
use Rattle.engine_state.specs.State.{now, IsState}
use Rattle.engine_state.specs.Flight.{IsFlow, window}
use Rattle.engine_state.specs.Parts.{dispatched_row, entry_of, write_of}
use Rattle.engine_steps.specs.Ranges.{AreRanges}
use Rattle.engine_steps.specs.Wake.{AreAwake, AllLater, none_out}
use Rattle.engine_steps.specs.declared.flight.Flight.{Flight}

-- no row is marked as ready in the queues
abbrev pub none_ready : ℕ → Bool
none_ready k = false

-- the rows in flight that wait to issue, and those that access memory, as they stand in cycle c
abbrev pub waiting : Input → ℕ → List Times → ℕ → ℕ → List Waiting
waiting g c table front head = waiting_from g (now g c table) none_ready c front (head - front)

abbrev pub accesses : Input → ℕ → List Times → ℕ → ℕ → List MemRow
accesses g c table front head = accesses_from g (now g c table) c front (head - front)

-- the memory queues stand for rows since a cycle that is not above c
pub record AreAccesses (limits : Limits) (memory : MemQueues) (c : ℕ) (rows : List MemRow) : Type 0 where
  pub since : ℕ
  pub low : since ≤ c
  pub stand : MemoryStandsFor limits memory since rows

pub record IsFlight (g : Input) (f : Flight) (cycle key : ℕ) : Type 0 where
  pub ranges : AreRanges g
  pub state : IsState g key f.table.items
  pub flow : IsFlow g f.table.items f.front f.head
  pub completed : (k : ℕ) → k < f.front → (times f.table.items k).complete ≤ cycle
  pub group : GroupStandsFor f.group (window (dispatched_row g f.table.items) 0 f.head)
  pub width : width_of f.group ≡ g.machine.limits.width
  pub cycle_is : cycle_of f.group ≡ cycle
  pub rob : f.rob ≡ buffer (window (entry_of g) f.front (f.head - f.front)) g.machine.limits.reorder
  pub files : FilesStandFor g.machine f.files (window (write_of g) f.front (f.head - f.front))
  pub queues : QueuesStandFor g.machine f.queues (waiting g cycle f.table.items f.front f.head)
  pub memory : AreAccesses g.machine.limits f.memory cycle (accesses g cycle f.table.items f.front f.head)
  pub awake : AreAwake g f.table.items f.wakeup f.front f.head cycle none_out
  pub later : AllLater f.wakeup.agenda cycle

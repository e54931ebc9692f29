-- All cycles below one are done: the events that fall in them are recorded and no others, and the parts of the machine are as in the last of them.
use Rattle.std.specs.Prelude.{◌≡◌, ℕ, ◌+◌, ◌-◌, ◌<◌, List, Bool, Some, is_some, nat_le}
use Rattle.machine_model.specs.Meaning.{MachineMeaning}
use Rattle.cycle_rules.specs.Below.{count_below}
use Rattle.cycle_rules.specs.Row.{Input}
use Rattle.cycle_rules.specs.Schedule.{Fall, Known, made, event}
use Rattle.cycle_rules.specs.Events.{events, rules_of}
use Rattle.resource_units.specs.Stand.{StandsFor as UnitsStandFor, machine_of}
use Rattle.resource_units.specs.declared.units.Units.{Units}
use Rattle.engine_state.specs.State.{at, taken_now}
use Rattle.engine_steps.specs.Flight.{IsFlight}
use Rattle.engine_steps.specs.declared.flight.Flight.{Flight}

-- what the rules give below cycle n
abbrev pub known_below : Input → ℕ → Known (List ℕ)
known_below g n = made (rules_of g) (events g) n

-- no event falls in the cycles from a on, below b
abbrev pub IsIdle : Input → ℕ → ℕ → Type 0
IsIdle g a b = known_below g b ≡ known_below g a

-- an event falls in cycle c
pub record Falls (g : Input) (c : ℕ) : Type 0 where
  pub phase : ℕ
  pub row : ℕ
  pub in_phases : phase < 3
  pub in_rows : row < g.rows
  pub fall : Fall (List ℕ)
  pub there : known_below g (c + 1) (event g.rows phase row) ≡ Some fall
  pub then_is : fall.cycle ≡ c

-- all rows retire below cycle n
abbrev pub all_retired : Input → ℕ → Bool
all_retired g n = nat_le g.rows (count_below g.rows (λ j. is_some (known_below g n (event g.rows 0 j))))

-- the units and the rows in flight, as in a cycle, with what is recorded at a key
pub record AreParts {M Mask : Type 0} {g : _} {h : _} (meaning : M → MachineMeaning) (holds : Mask → ℕ → Bool) (run : Input) (units : Units M Mask g h) (f : Flight) (cycle key : ℕ) : Type 0 where
  pub machine : machine_of meaning units ≡ run.machine
  pub taken : UnitsStandFor meaning holds cycle units (taken_now run cycle f.table.items)
  pub flight : IsFlight run f cycle key

-- all cycles below n are done; the parts are as in the last of them, and at first as in cycle 0
abbrev pub HasDone : {M Mask : Type 0} {g : _} {h : _} → (M → MachineMeaning) → (Mask → ℕ → Bool) → Input → Units M Mask g h → Flight → ℕ → Type 0
HasDone meaning holds run units f n = AreParts meaning holds run units f (n - 1) (at run n 0 0)

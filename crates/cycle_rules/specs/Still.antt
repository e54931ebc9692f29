-- When nothing changes from one cycle to another for a row that looks whether it may take a step.
use Rattle.std.specs.Prelude.{◌≡◌, ℕ, ◌+◌, Option, Some, None, nat_le, ⊤}
use Rattle.machine_model.specs.Valid.{no_class}
use Rattle.cycle_rules.specs.Held.{NoChange, taken_of}
use Rattle.cycle_rules.specs.Row.{Input, Table, lead, advance_of}
use Rattle.cycle_rules.specs.declared.bound.Source.{Source}

-- a time has come in both cycles, or in neither
abbrev pub IsStill : ℕ → ℕ → ℕ → Type 0
IsStill x a b = nat_le x a ≡ nat_le x b

-- no time of row k falls due
pub record IsRowStill (g : Input) (t : Table) (a b k : ℕ) : Type 0 where
  pub dispatch : IsStill (t k).dispatch a b
  pub dispatched : IsStill ((t k).dispatch + 1) a b
  pub issue : IsStill (t k).issue a b
  pub issued : IsStill ((t k).issue + 1) a b
  pub complete : IsStill (t k).complete a b
  pub retire : IsStill (t k).retire a b
  pub units : NoChange g.machine a b (taken_of g t k)

abbrev pub no_source : Source
no_source = record { reg = 0; read = no_class }

-- nor does the time from which a read can read the value of a row
abbrev pub IsReadStill : Input → Table → ℕ → ℕ → Source → Option ℕ → Type 0
IsReadStill g t a b s None = ⊤
IsReadStill g t a b s (Some k) = IsStill ((t k).issue + lead (g.row k).latency (advance_of g.machine s.read (g.row k).write)) a b

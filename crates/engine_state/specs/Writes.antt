-- What the event of a row writes of its times.
use Rattle.std.specs.Prelude.{◌≡◌, ℕ, ◌+◌, List, Bool, true, false}
use Rattle.cycle_rules.specs.Row.{Input, times}
use Rattle.cycle_rules.specs.Pick.{pick, padded}
use Rattle.cycle_rules.specs.declared.times.Times.{Times}
use Rattle.engine_state.specs.State.{now}

-- row j retires in cycle c: nothing else of it changes
pub record IsRetired (table : List Times) (j c : ℕ) (new : Times) : Type 0 where
  pub dispatch : new.dispatch ≡ (times table j).dispatch
  pub issue : new.issue ≡ (times table j).issue
  pub complete : new.complete ≡ (times table j).complete
  pub units : new.units ≡ (times table j).units
  pub retire : new.retire ≡ c

-- row j issues in cycle c, with the units that it picks there
pub record IsIssued (g : Input) (table : List Times) (j c : ℕ) (new : Times) : Type 0 where
  pub dispatch : new.dispatch ≡ (times table j).dispatch
  pub issue : new.issue ≡ c
  pub complete : new.complete ≡ c + (g.row j).latency
  pub units : new.units ≡ padded (pick g (now g c table) j c)
  pub retire : new.retire ≡ (times table j).retire

-- as row j dispatches in cycle c, it issues where it is reserved, and else does not
abbrev pub IsIssuedWith : Input → List Times → ℕ → ℕ → Times → Bool → Type 0
IsIssuedWith g table j c new true = (new.issue ≡ c) × (new.complete ≡ c + (g.row j).latency) × (new.units ≡ padded (pick g (now g c table) j c))
IsIssuedWith g table j c new false = (new.issue ≡ (times table j).issue) × (new.complete ≡ (times table j).complete) × (new.units ≡ (times table j).units)

pub record IsDispatched (g : Input) (table : List Times) (j c : ℕ) (new : Times) : Type 0 where
  pub dispatch : new.dispatch ≡ c
  pub issue : IsIssuedWith g table j c new (g.row j).reserved
  pub retire : new.retire ≡ (times table j).retire

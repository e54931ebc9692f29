-- What an engine runs, when its state is sound, and how many turns it has left at most.
use Rattle.std.specs.Prelude.{ℕ, ◌≡◌, ◌≤◌, Bool, true, not, Option, None, is_some, refl}
use Rattle.machine_model.specs.Meaning.{MachineMeaning}
use Rattle.cycle_rules.specs.CycleBound.{cycle_bound}
use Rattle.cycle_rules.specs.Row.{Input}
use Rattle.engine_steps.specs.Pipeline.{run_of, IsDone}
use Rattle.event_engine.specs.Turn.{left_at, IsNextTurn, IsBounded}
use Rattle.event_engine.specs.declared.engine.EventEngine.{EventEngine}

-- its machine, body and iterations
abbrev pub input_of : {M Mask : Type 0} {g : _} {h : _} → (M → MachineMeaning) → EventEngine M Mask g h → Input
input_of meaning e = run_of meaning e.pipeline

-- exactly the events below a cycle are recorded, and the next turn is none of an idle cycle
pub record IsSound {M Mask : Type 0} {g : _} {h : _} (meaning : M → MachineMeaning) (holds : Mask → ℕ → Bool) (e : EventEngine M Mask g h) : Type 0 where
  pub bounded : IsBounded (input_of meaning e)
  pub low : e.from ≤ cycle_bound (input_of meaning e)
  pub done : IsDone meaning holds e.pipeline e.from
  pub turn : IsNextTurn (input_of meaning e) e.from e.next

-- the turns that are left at most
abbrev pub left_of : {M Mask : Type 0} {g : _} {h : _} → (M → MachineMeaning) → EventEngine M Mask g h → ℕ
left_of meaning e = left_at (input_of meaning e) e.from

-- there is no next turn
abbrev pub is_finished : {M Mask : Type 0} {g : _} {h : _} → EventEngine M Mask g h → Bool
is_finished e = not (is_some e.next)

pub ends_at : (o : Option ℕ) → o ≡ None → not (is_some o) ≡ true
ends_at o e = rw e refl

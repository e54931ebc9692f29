-- What a pipeline runs, and what it has done of it.
use Rattle.std.specs.Prelude.{ℕ, Bool, map}
use Rattle.machine_model.specs.Meaning.{MachineMeaning}
use Rattle.cycle_rules.specs.Bind.{row_of}
use Rattle.cycle_rules.specs.Row.{Input, input}
use Rattle.engine_steps.specs.Done.{HasDone}
use Rattle.engine_steps.specs.declared.pipeline.Pipeline.{Pipeline}

abbrev pub run_of : {M Mask : Type 0} {g : _} {h : _} → (M → MachineMeaning) → Pipeline M Mask g h → Input
run_of meaning p = input (meaning p.rows.machine.now) (map row_of p.rows.body.now) p.rows.iterations

-- all cycles below n are done
abbrev pub IsDone : {M Mask : Type 0} {g : _} {h : _} → (M → MachineMeaning) → (Mask → ℕ → Bool) → Pipeline M Mask g h → ℕ → Type 0
IsDone meaning holds p n = HasDone meaning holds (run_of meaning p) p.units p.flight n

-- What the units of a machine stand for.
use Rattle.std.specs.Prelude.{ℕ, Bool, List, slice_index}
use Rattle.machine_model.specs.Meaning.{MachineMeaning}
use Rattle.cycle_rules.specs.Pick.{Taken}
use Rattle.resource_units.specs.Kept.{IsKept, ShowsTaken}
use Rattle.resource_units.specs.declared.units.Units.{Units}

-- the machine whose units they are
abbrev pub machine_of : {M Mask : Type 0} {g : _} {h : _} → (M → MachineMeaning) → Units M Mask g h → MachineMeaning
machine_of meaning units = meaning units.machine.now

-- what is kept is right for cycle c and later
abbrev pub KeptFrom : {M Mask : Type 0} {g : _} {h : _} → (M → MachineMeaning) → (Mask → ℕ → Bool) → ℕ → Units M Mask g h → Type 0
KeptFrom meaning holds c units = IsKept (machine_of meaning units).unit_count c (holds units.search.held) (slice_index units.until.items) units.next

-- the units stand for a list of uses that took units in cycle c or before, in issue order
pub record StandsFor {M Mask : Type 0} {g : _} {h : _} (meaning : M → MachineMeaning) (holds : Mask → ℕ → Bool)
    (c : ℕ) (units : Units M Mask g h) (taken : List Taken) : Type 0 where
  pub kept : KeptFrom meaning holds c units
  pub shows : ShowsTaken (machine_of meaning units) c (slice_index units.until.items) (slice_index units.search.places) taken

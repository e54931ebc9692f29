-- Of which resources no unit is found any more in a phase of a cycle: units are only taken in it.
use Rattle.std.specs.Prelude.{◌≡◌, ℕ, List, [], ◌∷◌, true, false, None, nat_eq}
use Rattle.machine_model.specs.Meaning.{MachineMeaning}
use Rattle.machine_model.specs.declared.facts.Use.{Use}
use Rattle.unit_sets.specs.Members.{in_word}
use Rattle.cycle_rules.specs.Pick.{Taken, pick_unit}
use Rattle.cycle_rules.specs.Row.{Row}

-- the resources in a set are such, after uses that took units; the class of all other rows is no resource
pub record AreRefused (m : MachineMeaning) (taken : List Taken) (c refused : ℕ) : Type 0 where
  pub none : (r : ℕ) → in_word refused r ≡ true → pick_unit m taken c r ≡ None
  pub others : in_word refused 63 ≡ false

-- a row has one use, of a resource, which holds its unit
pub record HasOneUse (row : Row) (r : ℕ) : Type 0 where
  pub use_of : Use
  pub uses : row.uses ≡ use_of ∷ []
  pub holds : nat_eq use_of.hold 0 ≡ false
  pub resource : use_of.resource ≡ r

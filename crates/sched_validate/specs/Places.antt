-- Places that are told among resources.
use Rattle.std.specs.Prelude.{◌≡◌, ℕ, ◌<◌, List, [], Some}
use Rattle.std.specs.declared.option.Option.{Option}
use Rattle.sched_resolve.specs.declared.entry.Makeup.{Makeup}
use Rattle.sched_resolve.specs.declared.entry.Makeup.TheVariants as makeup

abbrev pub members_of : Makeup → List (Option ℕ)
members_of (makeup.Units n) = []
members_of (makeup.Group ms) = ms

abbrev pub IsPlace : ℕ → Option ℕ → Type 0
IsPlace n o = (p : ℕ) → o ≡ Some p → p < n

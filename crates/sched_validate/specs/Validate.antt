-- Why a table is refused.
use Rattle.std.specs.Prelude.{◌≡◌, ⊤, Some}
use Rattle.std.specs.declared.option.Option.{Option}
use Rattle.sched_checks.specs.declared.illness.IllKind.{IllKind}
use Rattle.sched_checks.specs.declared.illness.IllKind.TheVariants.{Memory}
use Rattle.sched_checks.specs.declared.illness.TableIllness.{TableIllness}

-- a kind stands in the input, unless it is want of memory
abbrev pub UnlessMemory : IllKind → Type 0 → Type 0
UnlessMemory Memory cause = ⊤
UnlessMemory _ cause = cause

-- the illness that a table has, or want of memory
abbrev pub IsIll : Option TableIllness → TableIllness → Type 0
IsIll illness f = UnlessMemory f.kind (illness ≡ Some f)

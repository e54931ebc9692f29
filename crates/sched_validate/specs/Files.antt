-- The registers that the register files hold, and what a write of one costs.
use Rattle.std.specs.Prelude.{◌≡◌, ◌↔◌, ℕ, ◌+◌, ◌<◌, ◌^◌, All, ℤ, List, [], ◌∷◌, length, slice_get, nat_eq, true, false, Some, None, if◌then◌else◌}
use Rattle.std.specs.List.{position_or_len}
use Rattle.std.specs.Option.{option_or}
use Rattle.std.specs.declared.option.Option.{Option}
use Rattle.machine_model.specs.Meaning.{MachineMeaning}
use Rattle.machine_model.specs.declared.facts.FileShare.{FileShare}
use Rattle.sched_checks.specs.Checks.{class_has, file_has}
use Rattle.sched_checks.specs.Resources.{count_of}
use Rattle.sched_resolve.specs.declared.entry.File.{File}
use Rattle.sched_resolve.specs.declared.entry.Registers.{Registers}
use Rattle.sched_resolve.specs.declared.entry.Registers.TheVariants as registers

abbrev pub cost : ℕ → ℕ → Option FileShare
cost file n = Some (record { file = file; cost = n })

-- the share of a register by the classes of a file and their costs; 1 without costs
abbrev pub share_by : ℕ → ℕ → List Registers → List ℤ → Option FileShare
share_by file r [] costs = None
share_by file r (c ∷ cs) [] = if class_has r c then cost file 1 else share_by file r cs []
share_by file r (c ∷ cs) (n ∷ ns) = if class_has r c then cost file (count_of n) else share_by file r cs ns

-- a file without classes holds x1 to x31
abbrev pub share_in : ℕ → ℕ → File → Option FileShare
share_in file r f = if nat_eq (length f.classes) 0 then share_by file r (registers.General ∷ []) [] else share_by file r f.classes f.costs

-- the share of a register, of the files from a number on
abbrev pub share_from : ℕ → ℕ → List File → Option FileShare
share_from file r [] = None
share_from file r (f ∷ fs) = option_or (share_in file r f) (share_from (file + 1) r fs)

-- a cost that is given; 1 where there is none
abbrev pub cost_or_one : Option ℤ → ℕ
cost_or_one None = 1
cost_or_one (Some n) = count_of n

-- a file's numbers are those of a machine
pub record IsSmallFile (f : File) : Type 0 where
  pub size : count_of f.size < 2 ^ 32
  pub costs : All (λ c. count_of c < 2 ^ 32) f.costs

-- what a write of a register costs in a file that holds it: what is given at the place of the class that has the register, or 1
abbrev pub cost_of : ℕ → File → ℕ
cost_of r f = cost_or_one (slice_get f.costs (position_or_len (class_has r) f.classes))

-- a register is in a file exactly where the file holds it, at what it costs there
pub record HasFiles (fs : List File) (m : MachineMeaning) : Type 0 where
  pub told : (r k : ℕ) (f : File) → slice_get fs k ≡ Some f → file_has r f ≡ true → m.file_of r ≡ cost k (cost_of r f)
  pub held : (r : ℕ) (s : FileShare) → m.file_of r ≡ Some s → (f : File) × (slice_get fs s.file ≡ Some f) × (file_has r f ≡ true) × (s.cost ≡ cost_of r f)
  pub none : (r : ℕ) → (m.file_of r ≡ None) ↔ ((k : ℕ) (f : File) → slice_get fs k ≡ Some f → file_has r f ≡ false)

-- The register files: whether a write has room beside the writes in flight, which are a list of the registers that they write.
use Rattle.std.specs.Prelude.{ℕ, List, [], ◌∷◌, Bool, true, ◌&&◌, ◌||◌, Option, Some, None, nat_lt, nat_eq, if◌then◌else◌}
use Rattle.std.specs.List.{sum_by, count_by}
use Rattle.machine_model.specs.Meaning.{MachineMeaning}
use Rattle.machine_model.specs.declared.facts.FileShare.{FileShare}
use Rattle.reg_files.specs.Shape.{fits, cost_of}

-- what a write of a register holds; register 0 is never written
abbrev pub share_of : MachineMeaning → ℕ → Option FileShare
share_of m r = if nat_eq r 0 then None else m.file_of r

-- what writes of registers cost in a file
abbrev pub cost_in : MachineMeaning → ℕ → List ℕ → ℕ
cost_in m file writes = sum_by (λ r. cost_of file (share_of m r)) writes

-- those of registers other than 0, which alone count
abbrev pub in_flight : List ℕ → ℕ
in_flight writes = count_by (λ r. nat_lt 0 r) writes

-- the file of a share has room for it
abbrev pub has_share : MachineMeaning → List ℕ → Option FileShare → Bool
has_share m writes None = true
has_share m writes (Some s) = fits (m.file_size s.file) (cost_in m s.file writes) s.cost

-- a write of a register has room beside those that are held
abbrev pub has_room : MachineMeaning → List ℕ → ℕ → Bool
has_room m writes r = nat_eq r 0 || (fits m.limits.registers (in_flight writes) 1 && has_share m writes (share_of m r))

-- the writes without the oldest of a register
abbrev pub without : ℕ → List ℕ → List ℕ
without r [] = []
without r (x ∷ writes) = if nat_eq x r then writes else x ∷ without r writes

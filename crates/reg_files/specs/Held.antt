-- What the files keep of the writes in flight, and so which writes they stand for.
use Rattle.std.specs.Prelude.{◌≡◌, ℕ, ◌<◌, ◌≤◌, List, length, get_or, Option, Some, None, nat_eq}
use Rattle.std.specs.List.{count_by}
use Rattle.machine_model.specs.Meaning.{MachineMeaning}
use Rattle.machine_model.specs.declared.facts.FileShare.{FileShare}
use Rattle.reg_files.specs.Files.{share_of, cost_in, in_flight}
use Rattle.reg_files.specs.declared.files.Files.{Files}

-- the numbers of the machine, and of the writes: their cost in each file, how many are of each register, and how many are of registers other than 0
pub record AreHeld (m : MachineMeaning) (limit : ℕ) (of_register : List (Option FileShare)) (of_file taken counts : List ℕ)
    (count : ℕ) (writes : List ℕ) : Type 0 where
  pub limit_is : limit ≡ m.limits.registers
  pub share : (r : ℕ) → r < 32 → get_or of_register r None ≡ share_of m r
  pub cheap : (r : ℕ) (s : FileShare) → m.file_of r ≡ Some s → s.cost ≤ 8
  pub size : (f : ℕ) → f < length taken → get_or of_file f 0 ≡ m.file_size f
  pub cost : (f : ℕ) → f < length taken → get_or taken f 0 ≡ cost_in m f writes
  pub each : (r : ℕ) → r < 32 → get_or counts r 0 ≡ count_by (λ x. nat_eq x r) writes
  pub flying : count ≡ in_flight writes

-- the writes that the files of a machine stand for
abbrev pub StandsFor : MachineMeaning → Files → List ℕ → Type 0
StandsFor m files writes = AreHeld m files.bound files.shares.items files.sizes.items files.used.items files.held.items files.in_flight writes

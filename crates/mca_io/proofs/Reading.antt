-- A content read piece by piece.
use Rattle.std.proofs.Common.{◌≡◌, ℕ, List, ◌++◌, None, Some}
use Rattle.std.specs.Prelude.{⊤}
use Rattle.std.specs.declared.option.Option.{Option}
use Rattle.mca_io.specs.Devices.{Told}

-- the bytes so far, and then the rest, are the content, where it is told
abbrev pub Reads : Told → Option (List ℕ) → List ℕ → Type 0
Reads None rest bytes = ⊤
Reads (Some None) rest bytes = ⊥
Reads (Some (Some content)) None bytes = ⊥
Reads (Some (Some content)) (Some rest) bytes = content ≡ bytes ++ rest

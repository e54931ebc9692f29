-- The regions of a program, and the instructions of each.
use Rattle.std.specs.Prelude.{ℕ, List, [], take, drop, slice_index_or}
use Rattle.rv_isa.specs.declared.instr.Instr.{Instr}
use Rattle.region_marks.specs.declared.region.Region.{Region}
use Rattle.mca_run.specs.declared.program.Program.{Program}

-- no region
abbrev pub no_region : Region
no_region = record { name = []; first = 0; count = 0 }

-- a region, by its number from 0
abbrev pub region_at : Program → ℕ → Region
region_at p k = slice_index_or p.regions k no_region

-- the instructions of a region among those of the program
abbrev pub code_in : List Instr → Region → List Instr
code_in code r = take r.count (drop r.first code)

-- the instructions of a region, by its number
abbrev pub code_at : Program → ℕ → List Instr
code_at p k = code_in p.code (region_at p k)

-- What this crate prints.
use Rattle.std.specs.Prelude.{ℕ, List, codes}
use Rattle.mca_fixed.specs.declared.memory.NoMemory.{NoMemory}

abbrev pub no_memory_text : NoMemory → List ℕ
no_memory_text wanted = codes "out of memory"

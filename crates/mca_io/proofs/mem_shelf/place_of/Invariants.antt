use Rattle.mca_io.specs.MemShelf.{NoneBefore}
use Rattle.mca_io.proofs.mem_shelf.place_of.Given as goal

abbrev pub invariant-loop-place : goal.invariant-loop-place
invariant-loop-place l = NoneBefore l.files l.name l.place

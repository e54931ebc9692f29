use Rattle.std.proofs.Common.{◌≡◌, ℕ, List, ◌≤◌, ◌-◌, ◌+◌, true, if◌then◌else◌, vec_len}
use Rattle.std.specs.Io.KnownBytes.{IsAtEnd}
use Rattle.mca_io.proofs.Reading.{Reads}
use Rattle.mca_io.proofs.read.read_named.Given as goal

abbrev pub invariant-loop-ended : goal.invariant-loop-ended
invariant-loop-ended g l = record {
  short : vec_len l.bytes ≤ l.limit;
  chosen : g.F.Shelf.chosen l.shelf ≡ true;
  told : (n : List ℕ) → g.F.Shelf.told l.shelf n ≡ g.F.Shelf.told l.fn.shelf n;
  later : (n : List ℕ) → g.F.Shelf.faults l.fn.shelf n ≤ g.F.Shelf.faults l.shelf n;
  still : (n : List ℕ) → g.F.Shelf.faults l.shelf n ≡ g.F.Shelf.faults l.fn.shelf n;
  reads : Reads (g.F.Shelf.told l.fn.shelf l.name) (g.F.Shelf.rest l.shelf) l.bytes.items;
  ended : l.ended ≡ true → IsAtEnd (g.F.Shelf.rest l.shelf);
}

abbrev pub decreases-loop-ended : goal.decreases-loop-ended
decreases-loop-ended g l = (if l.ended then 0 else 1) + (l.limit - vec_len l.bytes)

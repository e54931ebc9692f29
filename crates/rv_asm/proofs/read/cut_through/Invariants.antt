use Rattle.std.proofs.Common.{◌≡◌, ◌+◌, ◌≤◌, List, length}
use Rattle.rv_asm.specs.Pieces.{Piece, IsCut, ArePieces, joined}
use Rattle.rv_asm.specs.Steps.{start, run}
use Rattle.rv_asm.proofs.read.cut_through.Given as goal

-- whatever pieces the rest has, the whole text has pieces that come to the same
abbrev pub invariant-loop-rest : goal.invariant-loop-rest
invariant-loop-rest l = record {
  line : l.state.line + length l.rest ≤ length l.text + 1;
  names : length l.state.names + length l.rest ≤ length l.text;
  goes_on : (more : List Piece) → ArePieces l.state.text more → joined more ≡ l.rest → (pieces : List Piece) × IsCut l.text pieces × (run l.state more ≡ run start pieces);
}

abbrev pub decreases-loop-rest : goal.decreases-loop-rest
decreases-loop-rest l = length l.rest

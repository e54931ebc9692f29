use Rattle.std.proofs.Common.{◌≡◌, drop}
use Rattle.rv_isa.specs.Opcodes.{op_in}
use Rattle.rv_isa.proofs.table.op_in.Given as goal

-- none of the rows so far has that mnemonic
abbrev pub invariant-loop-row : goal.invariant-loop-row
invariant-loop-row l = op_in (drop l.row-index l.rows) l.text ≡ op_in l.rows l.text

use Rattle.std.proofs.Common.{◌≡◌, drop, pos}
use Rattle.rv_expand.specs.Value.{value_from}
use Rattle.rv_expand.proofs.value.value_from.Given as goal

-- the rest of the list makes of the number so far what the whole makes of 0
abbrev pub invariant-loop-instr : goal.invariant-loop-instr
invariant-loop-instr l = value_from l.rd l.number (drop l.instr-index l.list) ≡ value_from l.rd (pos 0) l.list

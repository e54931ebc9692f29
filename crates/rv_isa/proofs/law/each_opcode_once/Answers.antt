use Rattle.rv_isa.proofs.OpNumbers.{at_its_number}
use Rattle.rv_isa.proofs.law.each_opcode_once.Goals as goal

pub returns-clause-place : goal.returns-clause-place
returns-clause-place c = at_its_number

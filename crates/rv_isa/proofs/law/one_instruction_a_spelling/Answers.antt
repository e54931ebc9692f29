use Rattle.rv_isa.proofs.OneSpelling.{one_spelling}
use Rattle.rv_isa.proofs.law.one_instruction_a_spelling.Goals as goal

pub returns : goal.returns
returns c = one_spelling

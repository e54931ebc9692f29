use Rattle.rv_asm.proofs.Cut.{some_cut_of, cut_unique}
use Rattle.rv_asm.proofs.laws.one_cut.Goals as goal

pub returns-clause-some : goal.returns-clause-some
returns-clause-some c = some_cut_of

pub returns-clause-one : goal.returns-clause-one
returns-clause-one c = cut_unique

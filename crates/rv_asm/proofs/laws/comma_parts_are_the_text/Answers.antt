use Rattle.rv_asm.proofs.CommaParts.{joined_is, commas_inside}
use Rattle.rv_asm.proofs.laws.comma_parts_are_the_text.Goals as goal

pub returns-clause-joined : goal.returns-clause-joined
returns-clause-joined c = joined_is 0

pub returns-clause-inside : goal.returns-clause-inside
returns-clause-inside c = commas_inside

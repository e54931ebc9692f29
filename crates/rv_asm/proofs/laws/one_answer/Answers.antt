use Rattle.rv_asm.proofs.Answer.{some_answer, one_items, one_names, one_fault, not_both}
use Rattle.rv_asm.proofs.laws.one_answer.Goals as goal

pub returns-clause-some : goal.returns-clause-some
returns-clause-some c = some_answer

pub returns-clause-items : goal.returns-clause-items
returns-clause-items c = one_items

pub returns-clause-names : goal.returns-clause-names
returns-clause-names c = one_names

pub returns-clause-fault : goal.returns-clause-fault
returns-clause-fault c = one_fault

pub returns-clause-not_both : goal.returns-clause-not_both
returns-clause-not_both c = not_both

use Rattle.mca_words.proofs.OneAnswer.{is_answer, one_answer}
use Rattle.mca_words.proofs.laws.one_answer.Goals as goal

pub returns-clause-some : goal.returns-clause-some
returns-clause-some c = is_answer

pub returns-clause-one : goal.returns-clause-one
returns-clause-one c = one_answer

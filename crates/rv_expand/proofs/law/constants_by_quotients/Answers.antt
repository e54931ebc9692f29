use Rattle.rv_expand.proofs.Values.{constant_by_quotient}
use Rattle.rv_expand.proofs.law.constants_by_quotients.Goals as goal

pub returns : goal.returns
returns c = constant_by_quotient

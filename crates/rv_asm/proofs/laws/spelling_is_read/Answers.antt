use Rattle.rv_asm.proofs.RoundTrip.{spelled_back}
use Rattle.rv_asm.proofs.laws.spelling_is_read.Goals as goal

pub returns : goal.returns
returns c = spelled_back

use Rattle.std.proofs.Common.{arith}
use Rattle.cycle_rules.proofs.Stills.{uses_still}
use Rattle.cycle_rules.proofs.next.nearer_of_uses.Goals as goal

pub returns-clause-still : goal.returns-clause-still
returns-clause-still c = λ m units b le lt. uses_still m c.args.from c.args.c b c.args.uses.now units (λ i low. c.loop-used.invariant.still b i le lt (omega arith))

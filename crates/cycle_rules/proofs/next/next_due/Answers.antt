use Rattle.std.proofs.Common.{arith}
use Rattle.cycle_rules.proofs.next.next_due.Goals as goal

pub returns-clause-rows : goal.returns-clause-rows
returns-clause-rows g c = λ b k le lt run given. c.nearer_of_rows-nearest.ensures.still (g.M.Machine.meaning c.args.machine.now) b k le (omega (arith, lt, c.nearer_of_reads.ensures.low)) run given

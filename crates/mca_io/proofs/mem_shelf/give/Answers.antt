use Rattle.std.proofs.Common.{arith}
use Rattle.std.proofs.lemmas.Grind.{common_steps}
use Rattle.mca_io.proofs.Pieces.{rest_read}
use Rattle.mca_io.proofs.mem_shelf.give.Goals as goal

pub returns-clause-consumes : goal.returns-clause-consumes
returns-clause-consumes c = rest_read c.args.bytes.now c.args.buf.now c.copy_from_slice.new.self c.args.at c.min-n.result (grind (arith, common_steps)) (omega arith)

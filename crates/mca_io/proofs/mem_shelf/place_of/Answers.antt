use Rattle.std.proofs.Common.{arith}
use Rattle.std.proofs.lemmas.Grind.{common_steps}
use Rattle.mca_io.proofs.Files.{content_at, content_nowhere}
use Rattle.mca_io.proofs.mem_shelf.place_of.Goals as goal

pub returns-then-eq-clause-content : goal.returns-then-eq-clause-content
returns-then-eq-clause-content c = content_at c.args.files.now c.args.name.now c.loop-place.place (omega arith) (grind (arith, common_steps)) c.loop-place.invariant

pub returns-clause-content : goal.returns-clause-content
returns-clause-content c = content_nowhere c.args.files.now c.args.name.now (λ k below. c.loop-place.invariant k (omega arith))

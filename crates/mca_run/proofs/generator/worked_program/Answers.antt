use Rattle.std.proofs.Common.{refl}
use Rattle.std.specs.Fmt.{digits}
use Rattle.mca_run.specs.Load.{generated}
use Rattle.mca_run.proofs.generator.worked_program.Goals as goal

pub returns : goal.returns
unfolding generated digits
returns c = refl

use Rattle.sched_validate.proofs.FileOf.{has_files}
use Rattle.sched_validate.proofs.law.files_are_told.Goals as goal

pub returns : goal.returns
returns c = has_files

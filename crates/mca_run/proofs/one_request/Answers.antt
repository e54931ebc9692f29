use Rattle.mca_run.proofs.Causes.{load_not_files, word_fault_load, load_same}
use Rattle.mca_run.proofs.one_request.Goals as goal

pub returns-clause-files_or_load : goal.returns-clause-files_or_load
returns-clause-files_or_load c = load_not_files

pub returns-clause-refused : goal.returns-clause-refused
returns-clause-refused c = word_fault_load

pub returns-clause-one_load : goal.returns-clause-one_load
returns-clause-one_load c = load_same

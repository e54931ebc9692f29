use Rattle.mca_run.proofs.Causes.{none_is_some, word_fault_asked, asm_no_input, table_no_machine, ill_no_machine, machine_there}
use Rattle.mca_run.proofs.nothing_set_up.Goals as goal

pub returns-clause-words : goal.returns-clause-words
returns-clause-words c = λ words contents o p m fault h is. word_fault_asked words fault o h is.asked

pub returns-clause-assembly : goal.returns-clause-assembly
returns-clause-assembly c = λ words contents o p m s h is. asm_no_input contents o s p h is.input

pub returns-clause-no_assembly : goal.returns-clause-no_assembly
returns-clause-no_assembly c = λ words contents o p m none is. none_is_some (contents o.input) is.input.text none is.input.there

pub returns-clause-table : goal.returns-clause-table
returns-clause-table c = λ words contents o p m s none h is. table_no_machine contents o s m none h is.machine

pub returns-clause-illness : goal.returns-clause-illness
returns-clause-illness c = λ words contents o p m records f none table ill is. ill_no_machine contents o records f m none table ill is.machine

pub returns-clause-no_table : goal.returns-clause-no_table
returns-clause-no_table c = λ words contents o p m none absent is. machine_there contents o m is.machine none absent

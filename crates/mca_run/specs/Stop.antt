-- The statuses that tell why there is no report: a refusal, a read fault or want of memory; a word of private contracts alone.
use Rattle.std.specs.Prelude.{Bool, true, false}
use Rattle.mca_words.specs.declared.fault.WordKind.{WordKind}
use Rattle.mca_words.specs.declared.fault.WordKind.TheVariants as word
use Rattle.rv_asm.specs.declared.fault.AsmKind.{AsmKind}
use Rattle.rv_asm.specs.declared.fault.AsmKind.TheVariants as asm
use Rattle.sched_checks.specs.declared.illness.IllKind.{IllKind}
use Rattle.sched_checks.specs.declared.illness.IllKind.TheVariants as ill
use Rattle.sched_records.specs.declared.refusal.TableKind.{TableKind}
use Rattle.sched_records.specs.declared.refusal.TableKind.TheVariants as table
use Rattle.mca_run.specs.declared.status.Status.{Status}
use Rattle.mca_run.specs.declared.status.Status.TheVariants.{Done, Words, Assembly, Table, Machine, Limit, ReadFault, WriteFault, Memory}
use Rattle.mca_run.specs.declared.status.MachineRefusal.TheVariants as machine

abbrev pub is_of_words : WordKind → Bool
is_of_words word.Memory = false
is_of_words _ = true

abbrev pub is_of_assembly : AsmKind → Bool
is_of_assembly asm.Memory = false
is_of_assembly _ = true

abbrev pub is_of_table : TableKind → Bool
is_of_table table.Memory = false
is_of_table _ = true

abbrev pub is_of_record : IllKind → Bool
is_of_record ill.Memory = false
is_of_record _ = true

-- neither Done nor WriteFault, and no want of memory inside a refusal
abbrev pub is_stop : Status → Bool
is_stop Done = false
is_stop WriteFault = false
is_stop (Words fault) = is_of_words fault.kind
is_stop (Assembly refusal) = is_of_assembly refusal.kind
is_stop (Table refusal) = is_of_table refusal.kind
is_stop (Machine (machine.Record number kind)) = is_of_record kind
is_stop (Machine (machine.Opcode op kind)) = true
is_stop (Limit kind n) = true
is_stop ReadFault = true
is_stop Memory = true

-- What a status is that tells why there is no report.
use Rattle.std.proofs.Common.{◌≡◌, true, false, subst}
use Rattle.mca_words.specs.declared.fault.WordKind.{WordKind}
use Rattle.mca_words.specs.declared.fault.WordKind.TheVariants as word
use Rattle.rv_asm.specs.declared.fault.AsmKind.{AsmKind}
use Rattle.rv_asm.specs.declared.fault.AsmKind.TheVariants as asm
use Rattle.sched_checks.specs.declared.illness.IllKind.{IllKind}
use Rattle.sched_checks.specs.declared.illness.IllKind.TheVariants as ill
use Rattle.sched_records.specs.declared.refusal.TableKind.{TableKind}
use Rattle.sched_records.specs.declared.refusal.TableKind.TheVariants as table
use Rattle.mca_run.specs.Outcome.{HoldsNoMemory}
use Rattle.mca_run.specs.Refusal.{IfRefused}
use Rattle.mca_run.specs.Stop.{is_stop, is_of_words, is_of_assembly, is_of_table, is_of_record}
use Rattle.mca_run.specs.declared.status.MachineRefusal.TheVariants as machine
use Rattle.mca_run.specs.declared.status.Status.{Status}
use Rattle.mca_run.specs.declared.status.Status.TheVariants.{Done, Words, Assembly, Table, Machine, Limit, ReadFault, WriteFault, Memory}

pub refused_along : (P Q : Status → Type 0) → ((s : Status) → P s → Q s) → (s : Status) → IfRefused P s → IfRefused Q s
refused_along P Q along Done h = tt
refused_along P Q along (Words fault) h = along (Words fault) h
refused_along P Q along (Assembly refusal) h = along (Assembly refusal) h
refused_along P Q along (Table refusal) h = along (Table refusal) h
refused_along P Q along (Machine refusal) h = along (Machine refusal) h
refused_along P Q along (Limit kind n) h = along (Limit kind n) h
refused_along P Q along ReadFault h = tt
refused_along P Q along WriteFault h = tt
refused_along P Q along Memory h = tt

false_true : false ≡ true → ⊥
false_true e = cc

words_plain : (k : WordKind) → is_of_words k ≡ true → k ≡ word.Memory → ⊥
words_plain k h e = let bad : is_of_words word.Memory ≡ true = subst (λ x. is_of_words x ≡ true) e h in false_true bad

assembly_plain : (k : AsmKind) → is_of_assembly k ≡ true → k ≡ asm.Memory → ⊥
assembly_plain k h e = let bad : is_of_assembly asm.Memory ≡ true = subst (λ x. is_of_assembly x ≡ true) e h in false_true bad

table_plain : (k : TableKind) → is_of_table k ≡ true → k ≡ table.Memory → ⊥
table_plain k h e = let bad : is_of_table table.Memory ≡ true = subst (λ x. is_of_table x ≡ true) e h in false_true bad

record_plain : (k : IllKind) → is_of_record k ≡ true → k ≡ ill.Memory → ⊥
record_plain k h e = let bad : is_of_record ill.Memory ≡ true = subst (λ x. is_of_record x ≡ true) e h in false_true bad

pub stop_plain : (s : Status) → is_stop s ≡ true → HoldsNoMemory s
stop_plain Done h = tt
stop_plain (Words fault) h = words_plain fault.kind h
stop_plain (Assembly refusal) h = assembly_plain refusal.kind h
stop_plain (Table refusal) h = table_plain refusal.kind h
stop_plain (Machine (machine.Record number kind)) h = record_plain kind h
stop_plain (Machine (machine.Opcode op kind)) h = tt
stop_plain (Limit kind n) h = tt
stop_plain ReadFault h = tt
stop_plain WriteFault h = tt
stop_plain Memory h = tt

pub stop_not_done : (s : Status) → is_stop s ≡ true → s ≡ Done → ⊥
stop_not_done s h e = let bad : is_stop Done ≡ true = subst (λ x. is_stop x ≡ true) e h in false_true bad

pub stop_not_write : (s : Status) → is_stop s ≡ true → s ≡ WriteFault → ⊥
stop_not_write s h e = let bad : is_stop WriteFault ≡ true = subst (λ x. is_stop x ≡ true) e h in false_true bad

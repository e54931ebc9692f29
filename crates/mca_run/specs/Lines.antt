-- The number of each status, and the one line of error that tells it.
use Rattle.std.specs.Prelude.{ℕ, List, [], ◌++◌, codes, decimal}
use Rattle.mca_words.specs.Kinds.{kind_name as word_kind_name}
use Rattle.rv_asm.specs.KindNames.{kind_name}
use Rattle.rv_isa.specs.Opcodes.{facts_of}
use Rattle.sched_checks.specs.Names.{ill_name}
use Rattle.sched_records.specs.KindNames.{kind_name as table_kind_name}
use Rattle.mca_run.specs.declared.status.Status.{Status}
use Rattle.mca_run.specs.declared.status.Status.TheVariants.{Done, Words, Assembly, Table, Machine, Limit, ReadFault, WriteFault, Memory}
use Rattle.mca_run.specs.declared.status.MachineRefusal.{MachineRefusal}
use Rattle.mca_run.specs.declared.status.MachineRefusal.TheVariants as machine
use Rattle.mca_run.specs.declared.status.OpKind.{OpKind}
use Rattle.mca_run.specs.declared.status.OpKind.TheVariants as op_kind
use Rattle.mca_run.specs.declared.status.LimitKind.{LimitKind}
use Rattle.mca_run.specs.declared.status.LimitKind.TheVariants.{AssemblyBytes, TableBytes, RunSize, ReportBytes}

abbrev pub number_of : Status → ℕ
number_of Done = 0
number_of (Words fault) = 1
number_of (Assembly refusal) = 2
number_of (Table refusal) = 3
number_of (Machine refusal) = 4
number_of (Limit kind n) = 5
number_of ReadFault = 6
number_of WriteFault = 7
number_of Memory = 8

abbrev pub limit_kind_name : LimitKind → List ℕ
limit_kind_name AssemblyBytes = codes "AssemblyBytes"
limit_kind_name TableBytes = codes "TableBytes"
limit_kind_name RunSize = codes "RunSize"
limit_kind_name ReportBytes = codes "ReportBytes"

abbrev pub op_kind_name : OpKind → List ℕ
op_kind_name op_kind.NoWriteRes = codes "NoWriteRes"
op_kind_name op_kind.UnsupportedOp = codes "UnsupportedOp"

abbrev pub machine_line : MachineRefusal → List ℕ
machine_line (machine.Record number kind) = codes "mca: machine record " ++ decimal number ++ codes ": " ++ ill_name kind ++ codes "\n"
machine_line (machine.Opcode op kind) = codes "mca: machine opcode " ++ (facts_of op).mnemonic ++ codes ": " ++ op_kind_name kind ++ codes "\n"

abbrev pub line_of : Status → List ℕ
line_of Done = []
line_of (Words fault) = codes "mca: word " ++ decimal fault.word ++ codes ": " ++ word_kind_name fault.kind ++ codes "\n"
line_of (Assembly refusal) = codes "mca: assembly line " ++ decimal refusal.line ++ codes ": " ++ kind_name refusal.kind ++ codes "\n"
line_of (Table refusal) = codes "mca: table line " ++ decimal refusal.line ++ codes ": " ++ table_kind_name refusal.kind ++ codes "\n"
line_of (Machine refusal) = machine_line refusal
line_of (Limit kind n) = codes "mca: limit " ++ limit_kind_name kind ++ codes ": " ++ decimal n ++ codes "\n"
line_of ReadFault = codes "mca: read fault\n"
line_of WriteFault = codes "mca: write fault\n"
line_of Memory = codes "mca: out of memory\n"

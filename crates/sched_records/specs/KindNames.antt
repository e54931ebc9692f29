-- How a refusal is printed: the number of its line, and the name of its kind.
use Rattle.std.specs.Prelude.{ℕ, List, ◌++◌, codes, decimal}
use Rattle.sched_records.specs.declared.refusal.TableKind.{TableKind}
use Rattle.sched_records.specs.declared.refusal.TableKind.TheVariants as faults
use Rattle.sched_records.specs.declared.refusal.TableRefusal.{TableRefusal}

abbrev pub kind_name : TableKind → List ℕ
kind_name faults.Syntax = codes "Syntax"
kind_name faults.NotFlat = codes "NotFlat"
kind_name faults.UnknownRecord = codes "UnknownRecord"
kind_name faults.UnknownField = codes "UnknownField"
kind_name faults.BadValue = codes "BadValue"
kind_name faults.RepeatedField = codes "RepeatedField"
kind_name faults.RepeatedName = codes "RepeatedName"
kind_name faults.TooMany = codes "TooMany"
kind_name faults.Memory = codes "Memory"

abbrev pub refusal_text : TableRefusal → List ℕ
refusal_text f = codes "line " ++ decimal f.line ++ codes ": " ++ kind_name f.kind

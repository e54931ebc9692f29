-- The classes of records: their names, arguments and fields.
use Rattle.std.specs.Prelude.{ℕ, List, [], ◌∷◌, codes, nat_eq, Bool, find}
use Rattle.std.specs.Cmp.Lexicographic.{pointwise}
use Rattle.std.specs.List.{list_any}
use Rattle.std.specs.declared.option.Option.{Option}
use Rattle.sched_records.specs.declared.class.Class.{Class}
use Rattle.sched_records.specs.declared.class.Class.TheVariants as class
use Rattle.sched_records.specs.declared.class.ValueForm.{ValueForm}
use Rattle.sched_records.specs.declared.class.ValueForm.TheVariants as forms
use Rattle.sched_records.specs.declared.class.AtomForm.TheVariants as atom_form
use Rattle.sched_records.specs.declared.field.Field.{Field}
use Rattle.sched_records.specs.declared.field.Field.TheVariants as field
use Rattle.sched_records.specs.Fields.{field_number}

abbrev pub class_name : Class → List ℕ
class_name class.SchedMachineModel = codes "SchedMachineModel"
class_name class.ProcResource = codes "ProcResource"
class_name class.ProcResGroup = codes "ProcResGroup"
class_name class.WriteRes = codes "WriteRes"
class_name class.SchedWriteRes = codes "SchedWriteRes"
class_name class.ReadAdvance = codes "ReadAdvance"
class_name class.RegisterFile = codes "RegisterFile"
class_name class.RetireControlUnit = codes "RetireControlUnit"
class_name class.LoadQueue = codes "LoadQueue"
class_name class.StoreQueue = codes "StoreQueue"
class_name class.InstRW = codes "InstRW"
class_name class.SchedWrite = codes "SchedWrite"
class_name class.SchedRead = codes "SchedRead"

abbrev pub classes : List Class
classes = class.SchedMachineModel ∷ class.ProcResource ∷ class.ProcResGroup ∷ class.WriteRes ∷ class.SchedWriteRes ∷ class.ReadAdvance ∷ class.RegisterFile ∷ class.RetireControlUnit ∷ class.LoadQueue ∷ class.StoreQueue ∷ class.InstRW ∷ class.SchedWrite ∷ class.SchedRead ∷ []

-- the class of a name
unfoldable pub class_of : List ℕ → Option Class
class_of name = find (λ c. pointwise nat_eq name (class_name c)) classes

-- the forms of the arguments, in order
abbrev pub arguments : Class → List ValueForm
arguments class.SchedMachineModel = []
arguments class.ProcResource = forms.One atom_form.Number ∷ []
arguments class.ProcResGroup = forms.Each atom_form.Name ∷ []
arguments class.WriteRes = forms.One atom_form.Name ∷ forms.Each atom_form.Name ∷ []
arguments class.SchedWriteRes = forms.Each atom_form.Name ∷ []
arguments class.ReadAdvance = forms.One atom_form.Name ∷ forms.One atom_form.Number ∷ forms.Each atom_form.Name ∷ []
arguments class.RegisterFile = forms.One atom_form.Number ∷ forms.Each atom_form.Name ∷ forms.Each atom_form.Number ∷ forms.Each atom_form.Truth ∷ forms.One atom_form.Number ∷ forms.One atom_form.Truth ∷ []
arguments class.RetireControlUnit = forms.One atom_form.Number ∷ forms.One atom_form.Number ∷ []
arguments class.LoadQueue = forms.One atom_form.Name ∷ []
arguments class.StoreQueue = forms.One atom_form.Name ∷ []
arguments class.InstRW = forms.Each atom_form.Name ∷ forms.Instrs ∷ []
arguments class.SchedWrite = []
arguments class.SchedRead = []

-- how many of the arguments have to be there
abbrev pub needed : Class → ℕ
needed class.SchedMachineModel = 0
needed class.ProcResource = 1
needed class.ProcResGroup = 1
needed class.WriteRes = 2
needed class.SchedWriteRes = 1
needed class.ReadAdvance = 2
needed class.RegisterFile = 1
needed class.RetireControlUnit = 2
needed class.LoadQueue = 1
needed class.StoreQueue = 1
needed class.InstRW = 2
needed class.SchedWrite = 0
needed class.SchedRead = 0

-- the fields of a write
abbrev pub write_fields : List Field
write_fields = field.BeginGroup ∷ field.EndGroup ∷ field.Latency ∷ field.NumMicroOps ∷ field.ReleaseAtCycles ∷ field.RetireOOO ∷ field.SchedModel ∷ field.SingleIssue ∷ field.Unsupported ∷ []

-- the fields, in the byte order of their names
abbrev pub fields : Class → List Field
fields class.SchedMachineModel = field.CompleteModel ∷ field.EnableIntervals ∷ field.FullInstRWOverlapCheck ∷ field.HighLatency ∷ field.IssueWidth ∷ field.LoadLatency ∷ field.LoopMicroOpBufferSize ∷ field.MicroOpBufferSize ∷ field.MispredictPenalty ∷ field.NoModel ∷ field.PostRAScheduler ∷ field.UnsupportedFeatures ∷ []
fields class.ProcResource = field.BufferSize ∷ field.SchedModel ∷ []
fields class.ProcResGroup = field.BufferSize ∷ field.SchedModel ∷ []
fields class.WriteRes = write_fields
fields class.SchedWriteRes = write_fields
fields class.ReadAdvance = field.SchedModel ∷ field.Unsupported ∷ []
fields class.RegisterFile = field.SchedModel ∷ []
fields class.RetireControlUnit = field.SchedModel ∷ []
fields class.LoadQueue = field.SchedModel ∷ []
fields class.StoreQueue = field.SchedModel ∷ []
fields class.InstRW = field.SchedModel ∷ []
fields class.SchedWrite = []
fields class.SchedRead = []

abbrev pub has_field : Class → Field → Bool
has_field c f = list_any (λ g. nat_eq (field_number f) (field_number g)) (fields c)

-- The fields of records: their names, and the forms of their values.
use Rattle.std.specs.Prelude.{ℕ, List, [], ◌∷◌, codes, nat_eq, find}
use Rattle.std.specs.Cmp.Lexicographic.{pointwise}
use Rattle.std.specs.declared.option.Option.{Option}
use Rattle.sched_records.specs.declared.class.ValueForm.{ValueForm}
use Rattle.sched_records.specs.declared.class.ValueForm.TheVariants as forms
use Rattle.sched_records.specs.declared.class.AtomForm.TheVariants as atom_form
use Rattle.sched_records.specs.declared.field.Field.{Field}
use Rattle.sched_records.specs.declared.field.Field.TheVariants as field

abbrev pub field_name : Field → List ℕ
field_name field.BeginGroup = codes "BeginGroup"
field_name field.BufferSize = codes "BufferSize"
field_name field.CompleteModel = codes "CompleteModel"
field_name field.EnableIntervals = codes "EnableIntervals"
field_name field.EndGroup = codes "EndGroup"
field_name field.FullInstRWOverlapCheck = codes "FullInstRWOverlapCheck"
field_name field.HighLatency = codes "HighLatency"
field_name field.IssueWidth = codes "IssueWidth"
field_name field.Latency = codes "Latency"
field_name field.LoadLatency = codes "LoadLatency"
field_name field.LoopMicroOpBufferSize = codes "LoopMicroOpBufferSize"
field_name field.MicroOpBufferSize = codes "MicroOpBufferSize"
field_name field.MispredictPenalty = codes "MispredictPenalty"
field_name field.NoModel = codes "NoModel"
field_name field.NumMicroOps = codes "NumMicroOps"
field_name field.PostRAScheduler = codes "PostRAScheduler"
field_name field.ReleaseAtCycles = codes "ReleaseAtCycles"
field_name field.RetireOOO = codes "RetireOOO"
field_name field.SchedModel = codes "SchedModel"
field_name field.SingleIssue = codes "SingleIssue"
field_name field.Unsupported = codes "Unsupported"
field_name field.UnsupportedFeatures = codes "UnsupportedFeatures"

-- the place in the byte order of the names
abbrev pub field_number : Field → ℕ
field_number field.BeginGroup = 0
field_number field.BufferSize = 1
field_number field.CompleteModel = 2
field_number field.EnableIntervals = 3
field_number field.EndGroup = 4
field_number field.FullInstRWOverlapCheck = 5
field_number field.HighLatency = 6
field_number field.IssueWidth = 7
field_number field.Latency = 8
field_number field.LoadLatency = 9
field_number field.LoopMicroOpBufferSize = 10
field_number field.MicroOpBufferSize = 11
field_number field.MispredictPenalty = 12
field_number field.NoModel = 13
field_number field.NumMicroOps = 14
field_number field.PostRAScheduler = 15
field_number field.ReleaseAtCycles = 16
field_number field.RetireOOO = 17
field_number field.SchedModel = 18
field_number field.SingleIssue = 19
field_number field.Unsupported = 20
field_number field.UnsupportedFeatures = 21

abbrev pub all_fields : List Field
all_fields = field.BeginGroup ∷ field.BufferSize ∷ field.CompleteModel ∷ field.EnableIntervals ∷ field.EndGroup ∷ field.FullInstRWOverlapCheck ∷ field.HighLatency ∷ field.IssueWidth ∷ field.Latency ∷ field.LoadLatency ∷ field.LoopMicroOpBufferSize ∷ field.MicroOpBufferSize ∷ field.MispredictPenalty ∷ field.NoModel ∷ field.NumMicroOps ∷ field.PostRAScheduler ∷ field.ReleaseAtCycles ∷ field.RetireOOO ∷ field.SchedModel ∷ field.SingleIssue ∷ field.Unsupported ∷ field.UnsupportedFeatures ∷ []

-- the field of a name
unfoldable pub field_of : List ℕ → Option Field
field_of name = find (λ f. pointwise nat_eq name (field_name f)) all_fields

abbrev pub form_of : Field → ValueForm
form_of field.BeginGroup = forms.One atom_form.Truth
form_of field.BufferSize = forms.One atom_form.Number
form_of field.CompleteModel = forms.Any
form_of field.EnableIntervals = forms.Any
form_of field.EndGroup = forms.One atom_form.Truth
form_of field.FullInstRWOverlapCheck = forms.Any
form_of field.HighLatency = forms.Any
form_of field.IssueWidth = forms.One atom_form.Number
form_of field.Latency = forms.One atom_form.Number
form_of field.LoadLatency = forms.Any
form_of field.LoopMicroOpBufferSize = forms.Any
form_of field.MicroOpBufferSize = forms.One atom_form.Number
form_of field.MispredictPenalty = forms.Any
form_of field.NoModel = forms.Any
form_of field.NumMicroOps = forms.One atom_form.Number
form_of field.PostRAScheduler = forms.Any
form_of field.ReleaseAtCycles = forms.Each atom_form.Number
form_of field.RetireOOO = forms.One atom_form.Truth
form_of field.SchedModel = forms.One atom_form.Name
form_of field.SingleIssue = forms.One atom_form.Truth
form_of field.Unsupported = forms.One atom_form.Truth
form_of field.UnsupportedFeatures = forms.Any

-- The names of the kinds of illness.
use Rattle.std.specs.Prelude.{ℕ, List, codes}
use Rattle.sched_checks.specs.declared.illness.IllKind.{IllKind}
use Rattle.sched_checks.specs.declared.illness.IllKind.TheVariants as ill

abbrev pub ill_name : IllKind → List ℕ
ill_name ill.NoModel = codes "NoModel"
ill_name ill.TwoModels = codes "TwoModels"
ill_name ill.UnknownName = codes "UnknownName"
ill_name ill.NoUnits = codes "NoUnits"
ill_name ill.GroupOfGroup = codes "GroupOfGroup"
ill_name ill.ListLengths = codes "ListLengths"
ill_name ill.ZeroMicroOps = codes "ZeroMicroOps"
ill_name ill.OutOfRange = codes "OutOfRange"
ill_name ill.InOrderModel = codes "InOrderModel"
ill_name ill.MoveElimination = codes "MoveElimination"
ill_name ill.TwoFilesOneRegister = codes "TwoFilesOneRegister"
ill_name ill.FileTooSmall = codes "FileTooSmall"
ill_name ill.TwoWrites = codes "TwoWrites"
ill_name ill.TwoAdvances = codes "TwoAdvances"
ill_name ill.TwoQueues = codes "TwoQueues"
ill_name ill.UseCannotBeMet = codes "UseCannotBeMet"
ill_name ill.Memory = codes "Memory"

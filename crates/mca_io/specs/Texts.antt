-- Models how faults are printed.
use Rattle.std.specs.Prelude.{List, ℕ, codes}
use Rattle.mca_io.specs.declared.failed.Failed.{Failed}
use Rattle.mca_io.specs.declared.read.ReadFault.{ReadFault}
use Rattle.mca_io.specs.declared.read.ReadFault.TheVariants as fault

abbrev pub failed_text : Failed → List ℕ
failed_text failed = codes "a device failed"

abbrev pub fault_text : ReadFault → List ℕ
fault_text fault.Failed = codes "the shelf failed"
fault_text fault.TooLong = codes "the content is too long"
fault_text fault.Memory = codes "out of memory"

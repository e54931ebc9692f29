-- Models how a fault of the words is printed.
use Rattle.std.specs.Prelude.{List, ℕ, ◌++◌, codes, decimal}
use Rattle.mca_words.specs.declared.fault.WordFault.{WordFault}
use Rattle.mca_words.specs.declared.fault.WordKind.{WordKind}
use Rattle.mca_words.specs.declared.fault.WordKind.TheVariants as kind

-- a kind is printed as its name
abbrev pub kind_name : WordKind → List ℕ
kind_name kind.UnknownOption = codes "UnknownOption"
kind_name kind.Repeated = codes "Repeated"
kind_name kind.MissingValue = codes "MissingValue"
kind_name kind.BadNumber = codes "BadNumber"
kind_name kind.OutOfRange = codes "OutOfRange"
kind_name kind.UnknownMachine = codes "UnknownMachine"
kind_name kind.TwoMachines = codes "TwoMachines"
kind_name kind.NotTogether = codes "NotTogether"
kind_name kind.TooManyInputs = codes "TooManyInputs"
kind_name kind.NoInput = codes "NoInput"
kind_name kind.NoMachine = codes "NoMachine"
kind_name kind.Memory = codes "Memory"

-- a fault is printed with the number of its word
abbrev pub fault_text : WordFault → List ℕ
fault_text fault = codes "word " ++ decimal fault.word ++ codes ": " ++ kind_name fault.kind

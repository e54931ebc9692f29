-- the faults of a text, and which of them comes first
use Rattle.std.specs.Prelude.{◌≡◌, ℕ, ◌+◌, ◌*◌, ◌<◌, ◌≤◌, List, [], ◌∷◌, ◌++◌, nat_lt, Option, Some, None, if◌then◌else◌}
use Rattle.std.specs.List.{AllByRecursion}
use Rattle.rv_asm.specs.declared.fault.Fault.{Fault}
use Rattle.rv_asm.specs.declared.fault.Cause.{Cause}
use Rattle.rv_asm.specs.declared.fault.Cause.TheVariants as cause
use Rattle.rv_asm.specs.declared.fault.AsmKind.{AsmKind}
use Rattle.rv_asm.specs.declared.fault.AsmKind.TheVariants as told
use Rattle.rv_asm.specs.declared.fault.AsmRefusal.{AsmRefusal}

-- the order of the faults in a line; a comment that is refused ends its line, so it stands behind the
-- statements that begin in it
abbrev pub rank : Cause → ℕ
rank cause.LongLine = 0
rank cause.BadByte = 1
rank cause.Directive = 2
rank cause.Compressed = 2
rank cause.UnknownMnemonic = 2
rank cause.OperandCount = 2
rank cause.BadOperand = 2
rank cause.ImmediateRange = 2
rank cause.Instrument = 3
rank cause.OpenComment = 4

-- by line, then by rank
abbrev pub key : Fault → ℕ
key f = 5 * f.line + rank f.cause

-- the fault among all that comes first: by line, then by rank, then by place
pub record IsFirst (all : List Fault) (f : Fault) : Type 0 where
  pub before : List Fault
  pub after : List Fault
  pub among : all ≡ before ++ f ∷ after
  pub below_before : AllByRecursion (λ g. key f < key g) before
  pub below_after : AllByRecursion (λ g. key f ≤ key g) after

-- of two faults the first one
abbrev pub earlier : Option Fault → Option Fault → Option Fault
earlier None b = b
earlier (Some a) None = Some a
earlier (Some a) (Some b) = if nat_lt (key b) (key a) then Some b else Some a

-- the first of a list
abbrev pub least : List Fault → Option Fault
least [] = None
least (f ∷ fs) = earlier (Some f) (least fs)

-- how a cause is told
abbrev pub kind_of : Cause → AsmKind
kind_of cause.LongLine = told.LongLine
kind_of cause.BadByte = told.BadByte
kind_of cause.Directive = told.RefusedDirective
kind_of cause.Compressed = told.Compressed
kind_of cause.UnknownMnemonic = told.UnknownMnemonic
kind_of cause.OperandCount = told.OperandCount
kind_of cause.BadOperand = told.BadOperand
kind_of cause.ImmediateRange = told.ImmediateRange
kind_of cause.Instrument = told.RefusedDirective
kind_of cause.OpenComment = told.OpenComment

abbrev pub refusal_of : Fault → AsmRefusal
refusal_of f = record { line = f.line; kind = kind_of f.cause }

abbrev pub IsMemory : AsmKind → Type 0
IsMemory k = k ≡ told.Memory

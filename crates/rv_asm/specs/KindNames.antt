-- the names of the kinds of refusal, as an error line prints them
use Rattle.std.specs.Prelude.{ℕ, List, codes}
use Rattle.rv_asm.specs.declared.fault.AsmKind.{AsmKind}
use Rattle.rv_asm.specs.declared.fault.AsmKind.TheVariants as told

abbrev pub kind_name : AsmKind → List ℕ
kind_name told.LongLine = codes "LongLine"
kind_name told.BadByte = codes "BadByte"
kind_name told.OpenComment = codes "OpenComment"
kind_name told.RefusedDirective = codes "RefusedDirective"
kind_name told.Compressed = codes "Compressed"
kind_name told.UnknownMnemonic = codes "UnknownMnemonic"
kind_name told.OperandCount = codes "OperandCount"
kind_name told.BadOperand = codes "BadOperand"
kind_name told.ImmediateRange = codes "ImmediateRange"
kind_name told.BeginInside = codes "BeginInside"
kind_name told.TooManyRegions = codes "TooManyRegions"
kind_name told.EndWithoutBegin = codes "EndWithoutBegin"
kind_name told.WrongName = codes "WrongName"
kind_name told.NoInstruction = codes "NoInstruction"
kind_name told.RegionTooLong = codes "RegionTooLong"
kind_name told.NeverEnded = codes "NeverEnded"
kind_name told.Memory = codes "Memory"

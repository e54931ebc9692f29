-- comments to the end of a line: those that mark regions, and those that are refused
use Rattle.std.specs.Prelude.{ℕ, ◌-◌, List, [], ◌∷◌, length, take, drop, nat_eq, slice_index, Bool, ◌&&◌, ◌||◌, if◌then◌else◌, codes}
use Rattle.std.specs.List.{starts_with}
use Rattle.rv_asm.specs.declared.class.ByteClass.TheVariants as class
use Rattle.rv_asm.specs.declared.mark.Remark.{Remark}
use Rattle.rv_asm.specs.declared.mark.Remark.TheVariants as remark
use Rattle.rv_asm.specs.declared.item.Item.{Item}
use Rattle.rv_asm.specs.declared.item.Item.TheVariants as item
use Rattle.rv_asm.specs.declared.fault.Fault.{Fault}
use Rattle.rv_asm.specs.declared.fault.Cause.TheVariants as cause
use Rattle.rv_asm.specs.Statement.{skip, begins_in, begins_with, is_empty}
use Rattle.rv_asm.specs.Operands.{trimmed}

-- a carriage return at the end counts as nothing
abbrev pub without_return : List ℕ → List ℕ
without_return text = if nat_eq (slice_index text (length text - 1)) 13 then take (length text - 1) text else text

-- a comment's text, without `#` or `//` and the blanks before it
abbrev pub comment_text : List ℕ → List ℕ
comment_text bytes = skip class.Blank (without_return (if begins_with 35 bytes then drop 1 bytes else drop 2 bytes))

abbrev pub ends_word : List ℕ → Bool
ends_word text = is_empty text || begins_in class.Blank text

-- what is said behind `LLVM-MCA-`
abbrev pub remark_at : List ℕ → Remark
remark_at text =
    if starts_with nat_eq text (codes "BEGIN") && ends_word (drop 5 text) then remark.Begin else
    if starts_with nat_eq text (codes "END") && ends_word (drop 3 text) then remark.End else remark.Refused

abbrev pub remark_of : List ℕ → Remark
remark_of text = if starts_with nat_eq text (codes "LLVM-MCA-") then remark_at (drop 9 text) else remark.Plain

-- the mark that a comment of a line is
abbrev pub mark_at : ℕ → Remark → List ℕ → List Item
mark_at line remark.Begin text = item.Begin line (trimmed (drop 14 text)) ∷ []
mark_at line remark.End text = item.End line (trimmed (drop 12 text)) ∷ []
mark_at line remark.Plain text = []
mark_at line remark.Refused text = []

abbrev pub mark_of : ℕ → List ℕ → List Item
mark_of line bytes = mark_at line (remark_of (comment_text bytes)) (comment_text bytes)

-- a comment for the analyser that is no mark
abbrev pub refused_at : ℕ → Remark → List Fault
refused_at line remark.Refused = record { line = line; cause = cause.Instrument } ∷ []
refused_at line remark.Plain = []
refused_at line remark.Begin = []
refused_at line remark.End = []

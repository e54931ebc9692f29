-- the program of a text: its statements, their items and names, and the faults that leave a text without one
use Rattle.std.specs.Prelude.{◌≡◌, ℕ, ◌+◌, List, [], ◌∷◌, ◌++◌, drop, nat_eq, nat_le, Bool, ◌&&◌, ◌||◌, Option, Result, if◌then◌else◌}
use Rattle.std.specs.List.{flat_map}
use Rattle.rv_asm.specs.declared.class.ByteClass.TheVariants as class
use Rattle.rv_asm.specs.declared.fault.AsmRefusal.{AsmRefusal}
use Rattle.rv_asm.specs.declared.fault.Cause.{Cause}
use Rattle.rv_asm.specs.declared.fault.Cause.TheVariants as cause
use Rattle.rv_asm.specs.declared.fault.Fault.{Fault}
use Rattle.rv_asm.specs.declared.item.Item.{Item}
use Rattle.rv_asm.specs.declared.pieces.PieceKind.{PieceKind}
use Rattle.rv_asm.specs.declared.pieces.PieceKind.TheVariants as kind
use Rattle.rv_asm.specs.Statement.{skip, is_empty, behind_labels}
use Rattle.rv_asm.specs.Pieces.{Piece, IsCut, has_close, separates, left}
use Rattle.rv_asm.specs.Extents.{feeds}
use Rattle.rv_asm.specs.Operands.{with_front}
use Rattle.rv_asm.specs.Forms.{Fit}
use Rattle.rv_asm.specs.Meaning.{meaning}
use Rattle.rv_asm.specs.Marks.{mark_of, refused_at, remark_of, comment_text}
use Rattle.rv_asm.specs.Items.{items_at, names_at, faults_at}
use Rattle.rv_asm.specs.Faults.{IsFirst, refusal_of}
use Rattle.rv_asm.specs.LongLines.{lines_of, long_in}

-- ---- statements

-- a piece of a statement, and the line where it begins
pub record Placed : Type 0 where
  pub line : ℕ
  pub kind : PieceKind
  pub bytes : List ℕ

abbrev pub placed : ℕ → Piece → Placed
placed n p = record { line = n; kind = p.kind; bytes = p.bytes }

-- the statements of pieces from line n on: what stands between two separators
abbrev pub statements : ℕ → List Piece → List (List Placed)
statements n [] = [] ∷ []
statements n (p ∷ ps) = if separates p.kind then [] ∷ statements (n + feeds p.bytes) ps else with_front (placed n p ∷ []) (statements (n + feeds p.bytes) ps)

abbrev pub text_of : List Placed → List ℕ
text_of s = flat_map (λ p. left p.kind p.bytes) s

-- the line of the first byte that is not blank, 0 where there is none
abbrev pub line_of : List Placed → ℕ
line_of [] = 0
line_of (p ∷ ps) = if is_empty (skip class.Blank (left p.kind p.bytes)) then line_of ps else p.line

abbrev pub meaning_of : List Placed → Result (Option Fit) Cause
meaning_of s = meaning (behind_labels (text_of s))

-- what a piece marks
abbrev pub marked : ℕ → PieceKind → List ℕ → List Item
marked n kind.Line bytes = mark_of n bytes
marked n kind.Block bytes = []
marked n kind.Quoted bytes = []
marked n kind.Feed bytes = []
marked n kind.Semi bytes = []
marked n kind.Return bytes = []
marked n kind.Byte bytes = []

abbrev pub marks_of : List Placed → List Item
marks_of s = flat_map (λ p. marked p.line p.kind p.bytes) s

-- the items of statements, where these names have appeared before: of each its instructions, then its marks
abbrev pub items_from : List (List ℕ) → List (List Placed) → List Item
items_from names [] = []
items_from names (s ∷ ss) = items_at (line_of s) names (meaning_of s) ++ marks_of s ++ items_from (names_at names (meaning_of s)) ss

-- the names that have appeared behind them
abbrev pub names_from : List (List ℕ) → List (List Placed) → List (List ℕ)
names_from names [] = names
names_from names (s ∷ ss) = names_from (names_at names (meaning_of s)) ss

-- ---- faults

abbrev pub own_of : List Placed → List Fault
own_of s = faults_at (line_of s) (meaning_of s)

-- a tab, and the printable bytes
abbrev pub is_plain_byte : ℕ → Bool
is_plain_byte b = nat_eq b 9 || (nat_le 32 b && nat_le b 126)

-- a byte that may stand in no statement
abbrev pub bad_of : ℕ → PieceKind → List ℕ → List Fault
bad_of n kind.Line bytes = []
bad_of n kind.Block bytes = []
bad_of n kind.Quoted bytes = []
bad_of n kind.Feed bytes = []
bad_of n kind.Semi bytes = []
bad_of n kind.Return bytes = []
bad_of n kind.Byte bytes = flat_map (λ b. if is_plain_byte b then [] else record { line = n; cause = cause.BadByte } ∷ []) bytes

-- a comment for the analyser that is no mark
abbrev pub comment_of : ℕ → PieceKind → List ℕ → List Fault
comment_of n kind.Line bytes = refused_at n (remark_of (comment_text bytes))
comment_of n kind.Block bytes = []
comment_of n kind.Quoted bytes = []
comment_of n kind.Feed bytes = []
comment_of n kind.Semi bytes = []
comment_of n kind.Return bytes = []
comment_of n kind.Byte bytes = []

-- a block comment that is never closed
abbrev pub unclosed_of : ℕ → PieceKind → List ℕ → List Fault
unclosed_of n kind.Line bytes = []
unclosed_of n kind.Block bytes = if has_close (drop 2 bytes) then [] else record { line = n; cause = cause.OpenComment } ∷ []
unclosed_of n kind.Quoted bytes = []
unclosed_of n kind.Feed bytes = []
unclosed_of n kind.Semi bytes = []
unclosed_of n kind.Return bytes = []
unclosed_of n kind.Byte bytes = []

-- what each piece gives, from line n on
abbrev pub of_each : (ℕ → PieceKind → List ℕ → List Fault) → ℕ → List Piece → List Fault
of_each f n [] = []
of_each f n (p ∷ ps) = f n p.kind p.bytes ++ of_each f (n + feeds p.bytes) ps

-- all faults; those of one rank in the order of their places
abbrev pub faults_of : List ℕ → List Piece → List Fault
faults_of text pieces = long_in 1 (lines_of text) ++ of_each bad_of 1 pieces ++ flat_map own_of (statements 1 pieces) ++ of_each comment_of 1 pieces ++ of_each unclosed_of 1 pieces

-- ---- a text's one answer

pub record IsProgram (text : List ℕ) (all : List Item) (symbols : List (List ℕ)) : Type 0 where
  pub pieces : List Piece
  pub cut : IsCut text pieces
  pub no_fault : faults_of text pieces ≡ []
  pub items : all ≡ items_from [] (statements 1 pieces)
  pub names : symbols ≡ names_from [] (statements 1 pieces)

pub record IsFault (text : List ℕ) (r : AsmRefusal) : Type 0 where
  pub pieces : List Piece
  pub cut : IsCut text pieces
  pub fault : Fault
  pub first : IsFirst (faults_of text pieces) fault
  pub told : r ≡ refusal_of fault

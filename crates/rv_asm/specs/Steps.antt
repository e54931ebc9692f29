-- what is known of a text up to a place, and what each piece adds to it
use Rattle.std.specs.Prelude.{ℕ, ◌+◌, List, [], ◌∷◌, ◌++◌, drop, nat_eq, ◌&&◌, not, Option, Some, None, Result, is_some, if◌then◌else◌}
use Rattle.rv_asm.specs.declared.class.ByteClass.TheVariants as class
use Rattle.rv_asm.specs.declared.fault.Cause.{Cause}
use Rattle.rv_asm.specs.declared.fault.Cause.TheVariants as cause
use Rattle.rv_asm.specs.declared.fault.Fault.{Fault}
use Rattle.rv_asm.specs.declared.item.Item.{Item}
use Rattle.rv_asm.specs.declared.pieces.PieceKind.{PieceKind}
use Rattle.rv_asm.specs.declared.pieces.PieceKind.TheVariants as kind
use Rattle.rv_asm.specs.Statement.{skip, is_empty, behind}
use Rattle.rv_asm.specs.Pieces.{Piece}
use Rattle.rv_asm.specs.Extents.{close_from, feeds}
use Rattle.rv_asm.specs.Forms.{Fit}
use Rattle.rv_asm.specs.Meaning.{meaning}
use Rattle.rv_asm.specs.Marks.{mark_at, refused_at, remark_of, comment_text}
use Rattle.rv_asm.specs.Items.{items_at, names_at, faults_at}
use Rattle.rv_asm.specs.Faults.{earlier, least}
use Rattle.rv_asm.specs.Program.{is_plain_byte}

pub record Known : Type 0 where
  pub line : ℕ
  pub begun : ℕ
  pub text : List ℕ
  pub marks : List Item
  pub names : List (List ℕ)
  pub items : List Item
  pub bad : Option Fault
  pub own : Option Fault
  pub comment : Option Fault
  pub unclosed : Option Fault

abbrev pub start : Known
start = record { line = 1; begun = 0; text = []; marks = []; names = []; items = []; bad = None; own = None; comment = None; unclosed = None }

-- the statement goes on with these bytes
abbrev pub put : Known → List ℕ → Known
put s bytes = record s { begun = if nat_eq s.begun 0 && not (is_empty (skip class.Blank bytes)) then s.line else s.begun; text = behind s.text bytes }

abbrev pub with_byte : Known → List ℕ → Known
with_byte s [] = s
with_byte s (b ∷ bs) = put (record s { bad = if is_plain_byte b then s.bad else earlier s.bad (Some (record { line = s.line; cause = cause.BadByte })) }) (b ∷ bs)

abbrev pub with_line : Known → List ℕ → Known
with_line s bytes = put (record s { marks = s.marks ++ mark_at s.line (remark_of (comment_text bytes)) (comment_text bytes); comment = earlier s.comment (least (refused_at s.line (remark_of (comment_text bytes)))) }) (32 ∷ [])

abbrev pub with_block : Known → List ℕ → Known
with_block s bytes = put (record s { unclosed = if is_some (close_from 0 (drop 2 bytes)) then s.unclosed else earlier s.unclosed (Some (record { line = s.line; cause = cause.OpenComment })) }) (32 ∷ [])

-- the statement ends, which means this
abbrev pub shut : Known → Result (Option Fit) Cause → Known
shut s found = record s {
  begun = 0;
  text = [];
  marks = [];
  names = names_at s.names found;
  items = s.items ++ items_at s.begun s.names found ++ s.marks;
  own = earlier s.own (least (faults_at s.begun found));
}

abbrev pub ended : Known → Known
ended s = shut s (meaning s.text)

abbrev pub taken : Known → PieceKind → List ℕ → Known
taken s kind.Line bytes = with_line s bytes
taken s kind.Block bytes = with_block s bytes
taken s kind.Quoted bytes = put s bytes
taken s kind.Feed bytes = ended s
taken s kind.Semi bytes = ended s
taken s kind.Return bytes = s
taken s kind.Byte bytes = with_byte s bytes

abbrev pub step : Known → Piece → Known
step s p = record (taken s p.kind p.bytes) { line = s.line + feeds p.bytes }

abbrev pub run : Known → List Piece → Known
run s [] = ended s
run s (p ∷ ps) = run (step s p) ps

-- the first of all faults, where that of the long lines is known
abbrev pub first_of : Option Fault → Known → Option Fault
first_of long s = earlier (earlier (earlier (earlier long s.bad) s.own) s.comment) s.unclosed

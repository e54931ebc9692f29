-- The tokens of a text with their lines.
use Rattle.std.specs.Prelude.{ℕ, ◌+◌, ◌-◌, List, [], ◌∷◌, take, drop, nat_eq, Bool, true, false, zero, suc, count_by, if◌then◌else◌}
use Rattle.sched_records.specs.declared.piece.TokenKind.{TokenKind}
use Rattle.sched_records.specs.declared.piece.TokenKind.TheVariants as kinds
use Rattle.sched_records.specs.declared.piece.Piece.{Piece}
use Rattle.sched_records.specs.Pieces.{piece_at}

-- a token, its line counted from 1, and its bytes
pub record Lexeme : Type 0 where
  pub line : ℕ
  pub kind : TokenKind
  pub bytes : List ℕ

abbrev pub feeds : List ℕ → ℕ
feeds text = count_by (λ b. nat_eq b 10) text

abbrev pub is_quoted : TokenKind → Bool
is_quoted kinds.Quoted = true
is_quoted _ = false

abbrev pub is_cut : TokenKind → Bool
is_cut kinds.Cut = true
is_cut _ = false

abbrev pub is_gap : TokenKind → Bool
is_gap kinds.Gap = true
is_gap _ = false

-- the bytes of a piece at the front of a text; those of a string without its `"`
abbrev pub bytes_of : Piece → List ℕ → List ℕ
bytes_of p text = if is_quoted p.kind then drop 1 (take (p.size - 1) text) else take p.size text

-- a comment or a string that is cut off is missed where the text ends
abbrev pub line_of : Piece → ℕ → List ℕ → ℕ
line_of p line text = if is_cut p.kind then line + feeds text else line

abbrev pub lexeme : Piece → ℕ → List ℕ → Lexeme
lexeme p line text = record { line = line_of p line text; kind = p.kind; bytes = bytes_of p text }

-- the tokens of a text from a line on, after so many bytes that are of a piece before; the last is the end
abbrev pub tokens_from : List ℕ → ℕ → ℕ → List Lexeme
tokens_from [] skip line = lexeme (piece_at []) line [] ∷ []
tokens_from (b ∷ bs) (suc skip) line = tokens_from bs skip (if nat_eq b 10 then line + 1 else line)
tokens_from (b ∷ bs) zero line =
    if is_gap (piece_at (b ∷ bs)).kind
    then tokens_from bs ((piece_at (b ∷ bs)).size - 1) (if nat_eq b 10 then line + 1 else line)
    else lexeme (piece_at (b ∷ bs)) line (b ∷ bs) ∷ tokens_from bs ((piece_at (b ∷ bs)).size - 1) (if nat_eq b 10 then line + 1 else line)

abbrev pub tokens_of : List ℕ → List Lexeme
tokens_of text = tokens_from text 0 1

-- the token that stands first; behind the end there is only the end again
abbrev pub first_of : List Lexeme → Lexeme
first_of [] = record { line = 0; kind = kinds.End; bytes = [] }
first_of (t ∷ ts) = t

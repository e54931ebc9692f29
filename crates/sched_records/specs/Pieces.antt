-- How the text of a table is cut from the left: into gaps, which are blanks and comments, and tokens.
use Rattle.std.specs.Prelude.{ℕ, ◌+◌, ◌-◌, List, [], ◌∷◌, length, take, drop, nat_eq, nat_le, nat_lt, Bool, ◌&&◌, ◌||◌, not, Some, None, codes, if◌then◌else◌}
use Rattle.std.specs.Cmp.Lexicographic.{pointwise}
use Rattle.std.specs.List.{starts_with, prefix_len}
use Rattle.std.specs.declared.option.Option.{Option}
use Rattle.sched_records.specs.declared.piece.TokenKind.{TokenKind}
use Rattle.sched_records.specs.declared.piece.TokenKind.TheVariants as kinds
use Rattle.sched_records.specs.declared.piece.Piece.{Piece}

-- ---- bytes

abbrev pub is_space : ℕ → Bool
is_space b = nat_eq b 32 || nat_eq b 9 || nat_eq b 13 || nat_eq b 10

abbrev pub is_letter : ℕ → Bool
is_letter b = (nat_le 65 b && nat_le b 90) || (nat_le 97 b && nat_le b 122) || nat_eq b 95

abbrev pub is_digit : ℕ → Bool
is_digit b = nat_le 48 b && nat_le b 57

abbrev pub is_name_byte : ℕ → Bool
is_name_byte b = is_letter b || is_digit b

abbrev pub is_binary : ℕ → Bool
is_binary b = nat_eq b 48 || nat_eq b 49

abbrev pub is_hex : ℕ → Bool
is_hex b = is_digit b || (nat_le 97 b && nat_le b 102) || (nat_le 65 b && nat_le b 70)

-- `: ; , = < > [ ] { } ( )`
abbrev pub is_sign : ℕ → Bool
is_sign b = nat_eq b 58 || nat_eq b 59 || nat_eq b 44 || nat_eq b 61 || nat_eq b 60 || nat_eq b 62 || nat_eq b 91 || nat_eq b 93 || nat_eq b 123 || nat_eq b 125 || nat_eq b 40 || nat_eq b 41

-- `! # ?`, which TableGen has and a flat table has not
abbrev pub is_operator : ℕ → Bool
is_operator b = nat_eq b 33 || nat_eq b 35 || nat_eq b 63

-- ---- how far things go

abbrev pub opens : ℕ → ℕ → Bool
opens a b = nat_eq a 47 && nat_eq b 42

abbrev pub closes : ℕ → ℕ → Bool
closes a b = nat_eq a 42 && nat_eq b 47

-- behind a block comment that is depth deep at the place k; each further `/*` needs a `*/` of its own
abbrev pub comment_end : ℕ → ℕ → List ℕ → Option ℕ
comment_end k depth [] = None
comment_end k depth (a ∷ []) = None
comment_end k depth (a ∷ b ∷ bs) =
    if opens a b then comment_end (k + 2) (depth + 1) bs else
    if closes a b then (if nat_eq depth 1 then Some (k + 2) else comment_end (k + 2) (depth - 1) bs) else
    comment_end (k + 1) depth (b ∷ bs)

-- behind a string that began before the place k: behind the next `"`
abbrev pub string_end : ℕ → List ℕ → Option ℕ
string_end k [] = None
string_end k (b ∷ bs) = if nat_eq b 34 then Some (k + 1) else string_end (k + 1) bs

-- a sign before the digits of a number
abbrev pub sign_len : List ℕ → ℕ
sign_len [] = 0
sign_len (b ∷ bs) = if nat_eq b 43 || nat_eq b 45 then 1 else 0

-- the digits: `0x` and hexadecimal ones, `0b` and binary ones, else decimal ones
abbrev pub digits_len : List ℕ → ℕ
digits_len text =
    if starts_with nat_eq text (codes "0x") && nat_lt 0 (prefix_len is_hex (drop 2 text)) then prefix_len is_hex (drop 2 text) + 2 else
    if starts_with nat_eq text (codes "0b") && nat_lt 0 (prefix_len is_binary (drop 2 text)) then prefix_len is_binary (drop 2 text) + 2 else
    prefix_len is_digit text

-- the number that begins a text, 0 where none does
abbrev pub number_len : List ℕ → ℕ
number_len text = if nat_eq (digits_len (drop (sign_len text) text)) 0 then 0 else sign_len text + digits_len (drop (sign_len text) text)

-- ---- the piece that begins a text

abbrev pub piece : TokenKind → ℕ → Piece
piece kind size = record { kind = kind; size = size }

-- a comment or a string; one that never ends takes the rest of the text
abbrev pub closed : TokenKind → List ℕ → Option ℕ → Piece
closed kind text None = piece kinds.Cut (length text)
closed kind text (Some size) = piece kind size

-- the block comment that begins a text, and the string that does
abbrev pub comment : List ℕ → Piece
comment text = closed kinds.Gap text (comment_end 2 1 (drop 2 text))

abbrev pub string : List ℕ → Piece
string text = closed kinds.Quoted text (string_end 1 (drop 1 text))

-- `instregex` is TableGen's own work wherever it stands
abbrev pub name_kind : List ℕ → TokenKind
name_kind name = if pointwise nat_eq name (codes "instregex") then kinds.Operator else kinds.Name

-- a byte that stands for itself
abbrev pub byte_kind : ℕ → TokenKind
byte_kind b = if is_sign b then kinds.Sign b else if is_operator b then kinds.Operator else kinds.Stray

-- the token that is no string
abbrev pub token_from : ℕ → List ℕ → Piece
token_from first text =
    if is_letter first then piece (name_kind (take (prefix_len is_name_byte text) text)) (prefix_len is_name_byte text) else
    if nat_lt 0 (number_len text) then piece kinds.Number (number_len text) else
    piece (byte_kind first) 1

abbrev pub piece_from : ℕ → List ℕ → Piece
piece_from first text =
    if is_space first then piece kinds.Gap (prefix_len is_space text) else
    if starts_with nat_eq text (codes "//") then piece kinds.Gap (prefix_len (λ b. not (nat_eq b 10)) text) else
    if starts_with nat_eq text (codes "/*") then comment text else
    if nat_eq first 34 then string text else
    token_from first text

-- nothing but the end stands in an empty text
abbrev pub piece_at : List ℕ → Piece
piece_at [] = piece kinds.End 0
piece_at (b ∷ bs) = piece_from b (b ∷ bs)

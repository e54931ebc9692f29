-- the lawful cut of an assembly text into pieces
use Rattle.std.specs.Prelude.{◌≡◌, ◌≢◌, ℕ, ◌⊎◌, List, [], ◌∷◌, ◌++◌, length, nat_eq, Bool, true, false, ◌&&◌, ◌||◌, not, if◌then◌else◌}
use Rattle.std.specs.List.{AllByRecursion}
use Rattle.rv_asm.specs.declared.pieces.PieceKind.{PieceKind}
use Rattle.rv_asm.specs.declared.pieces.PieceKind.TheVariants as kind
use Rattle.rv_asm.specs.Statement.{begins_with, behind, takes_strings}

pub record Piece : Type 0 where
  pub kind : PieceKind
  pub bytes : List ℕ

-- the text begins with these two bytes
abbrev pub begins : ℕ → ℕ → List ℕ → Bool
begins a b [] = false
begins a b (x ∷ []) = false
begins a b (x ∷ y ∷ rest) = nat_eq x a && nat_eq y b

-- a carriage return that a line feed or the end of the text follows
abbrev pub is_return : List ℕ → Bool
is_return [] = false
is_return (b ∷ []) = nat_eq b 13
is_return (b ∷ c ∷ rest) = nat_eq b 13 && nat_eq c 10

-- what stands at a place: the first of these that fits; a `"` is one only where strings are taken
abbrev pub kind_at : Bool → List ℕ → PieceKind
kind_at strings text =
    if begins_with 35 text then kind.Line else
    if begins 47 47 text then kind.Line else
    if begins 47 42 text then kind.Block else
    if strings && begins_with 34 text then kind.Quoted else
    if begins_with 10 text then kind.Feed else
    if begins_with 59 text then kind.Semi else
    if is_return text then kind.Return else kind.Byte

-- whether `*/` stands in the text
abbrev pub has_close : List ℕ → Bool
has_close [] = false
has_close (b ∷ bs) = begins 42 47 (b ∷ bs) || has_close bs

-- the line ends here, or the text does
abbrev pub EndsLine : List ℕ → Type 0
EndsLine [] = Unit {0}
EndsLine (b ∷ bs) = b ≡ 10

-- what a block comment has behind its `/*`: it goes to the first `*/`, or to the end where there is none
abbrev pub IsBody : List ℕ → List ℕ → Type 0
IsBody body rest = ((front : List ℕ) × (body ≡ front ++ 42 ∷ 47 ∷ []) × (has_close (front ++ 42 ∷ []) ≡ false)) ⊎ ((has_close body ≡ false) × (rest ≡ []))

-- a `"` with no backslash before it
abbrev pub closes : ℕ → ℕ → Bool
closes prev b = nat_eq b 34 && not (nat_eq prev 92)

-- what a string has behind its first byte: it goes to the byte that closes it, or to the end of the line
abbrev pub IsQuoted : ℕ → List ℕ → List ℕ → Type 0
IsQuoted prev [] rest = EndsLine rest
IsQuoted prev (b ∷ bs) rest = ((closes prev b ≡ true) × (bs ≡ [])) ⊎ ((closes prev b ≡ false) × (b ≢ 10) × IsQuoted b bs rest)

-- how far a piece of a kind goes in front of a rest
abbrev pub Reaches : PieceKind → List ℕ → List ℕ → Type 0
Reaches kind.Line bytes rest = AllByRecursion (λ b. b ≢ 10) bytes × EndsLine rest
Reaches kind.Block bytes rest = (body : List ℕ) × (bytes ≡ 47 ∷ 42 ∷ body) × IsBody body rest
Reaches kind.Quoted bytes rest = (body : List ℕ) × (bytes ≡ 34 ∷ body) × IsQuoted 34 body rest
Reaches kind.Feed bytes rest = length bytes ≡ 1
Reaches kind.Semi bytes rest = length bytes ≡ 1
Reaches kind.Return bytes rest = length bytes ≡ 1
Reaches kind.Byte bytes rest = length bytes ≡ 1

pub record IsPiece (strings : Bool) (p : Piece) (rest : List ℕ) : Type 0 where
  pub first : p.kind ≡ kind_at strings (p.bytes ++ rest)
  pub reaches : Reaches p.kind p.bytes rest

abbrev pub joined : List Piece → List ℕ
joined [] = []
joined (p ∷ ps) = p.bytes ++ joined ps

-- a line feed or a `;` stands between two statements
abbrev pub separates : PieceKind → Bool
separates kind.Line = false
separates kind.Block = false
separates kind.Quoted = false
separates kind.Feed = true
separates kind.Semi = true
separates kind.Return = false
separates kind.Byte = false

-- what a piece is to its statement: a comment counts as one space, a carriage return as nothing
abbrev pub left : PieceKind → List ℕ → List ℕ
left kind.Line bytes = 32 ∷ []
left kind.Block bytes = 32 ∷ []
left kind.Quoted bytes = bytes
left kind.Feed bytes = []
left kind.Semi bytes = []
left kind.Return bytes = []
left kind.Byte bytes = bytes

-- what the statement has behind its labels after a piece
abbrev pub after : List ℕ → PieceKind → List ℕ → List ℕ
after kept k bytes = if separates k then [] else behind kept (left k bytes)

-- each piece is what stands at its place, in a statement that has this much behind its labels
abbrev pub ArePieces : List ℕ → List Piece → Type 0
ArePieces kept [] = Unit {0}
ArePieces kept (p ∷ ps) = IsPiece (takes_strings kept) p (joined ps) × ArePieces (after kept p.kind p.bytes) ps

pub record IsCut (text : List ℕ) (pieces : List Piece) : Type 0 where
  pub joined : joined pieces ≡ text
  pub first : ArePieces [] pieces

-- where a piece ends, as a place that is counted from its first byte
use Rattle.std.specs.Prelude.{ℕ, ◌+◌, List, [], ◌∷◌, length, drop, nat_eq, count_by, Option, Some, None, if◌then◌else◌}
use Rattle.rv_asm.specs.declared.pieces.PieceKind.{PieceKind}
use Rattle.rv_asm.specs.declared.pieces.PieceKind.TheVariants as kind
use Rattle.rv_asm.specs.Pieces.{begins, closes}

-- the place of the first line feed, or the end
abbrev pub feed_from : ℕ → List ℕ → ℕ
feed_from k [] = k
feed_from k (b ∷ bs) = if nat_eq b 10 then k else feed_from (k + 1) bs

-- the place behind the first `*/`
abbrev pub close_from : ℕ → List ℕ → Option ℕ
close_from k [] = None
close_from k (b ∷ bs) = if begins 42 47 (b ∷ bs) then Some (k + 2) else close_from (k + 1) bs

-- the place where a string ends whose byte before this place is prev
abbrev pub quote_from : ℕ → ℕ → List ℕ → ℕ
quote_from k prev [] = k
quote_from k prev (b ∷ bs) = if nat_eq b 10 then k else if closes prev b then k + 1 else quote_from (k + 1) b bs

-- a body's end, behind the two bytes that open it
abbrev pub or_end : List ℕ → Option ℕ → ℕ
or_end text None = length text
or_end text (Some k) = k + 2

-- the length of the piece of a kind at the front of a text
abbrev pub len_of : PieceKind → List ℕ → ℕ
len_of kind.Line text = feed_from 0 text
len_of kind.Block text = or_end text (close_from 0 (drop 2 text))
len_of kind.Quoted text = quote_from 0 34 (drop 1 text) + 1
len_of kind.Feed text = 1
len_of kind.Semi text = 1
len_of kind.Return text = 1
len_of kind.Byte text = 1

abbrev pub feeds : List ℕ → ℕ
feeds text = count_by (λ b. nat_eq b 10) text

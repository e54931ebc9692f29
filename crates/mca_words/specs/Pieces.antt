-- Models how the words of the command line are cut, from the left, into inputs and options with values.
use Rattle.std.specs.Prelude.{List, [], ◌∷◌, ℕ, ◌+◌, Bool, true, false, ◌&&◌, codes, drop, length, nat_eq, nat_lt, Some, None, is_none, if◌then◌else◌}
use Rattle.std.specs.List.{starts_with, before_first, after_first, position_or_len}
use Rattle.std.specs.Option.{option_or}
use Rattle.std.specs.declared.option.Option.{Option}
use Rattle.mca_words.specs.declared.table.ValueForm.{ValueForm}
use Rattle.mca_words.specs.declared.table.ValueForm.TheVariants.{TruthValue}
use Rattle.mca_words.specs.Table.{form_of}

-- a word, its number from 1, and the next word where that is its value
pub record Piece : Type 0 where
  pub number : ℕ
  pub word : List ℕ
  pub next : Option (List ℕ)

abbrev pub is_option : List ℕ → Bool
is_option word = starts_with nat_eq word (codes "-")

abbrev pub is_equals : ℕ → Bool
is_equals byte = nat_eq byte 61

abbrev pub without_dashes : List ℕ → List ℕ
without_dashes word = if starts_with nat_eq word (codes "--") then drop 2 word else drop 1 word

-- the name of a word's option: what stands between its one or two dashes and the first `=`
abbrev pub name_of : List ℕ → List ℕ
name_of word = without_dashes (before_first is_equals word)

-- the value in the word itself: what stands after the first `=`
abbrev pub own_value : List ℕ → Option (List ℕ)
own_value word = if nat_lt (position_or_len is_equals word) (length word) then Some (after_first is_equals word) else None

-- an option of this form takes the next word as its value
abbrev pub takes_word : Option ValueForm → Bool
takes_word None = false
takes_word (Some (TruthValue default)) = false
takes_word (Some form) = true

-- the word waits for its value
abbrev pub awaits_value : List ℕ → Bool
awaits_value word = is_option word && is_none (own_value word) && takes_word (form_of (name_of word))

-- the value of a piece's option
abbrev pub given_value : Piece → Option (List ℕ)
given_value piece = option_or (own_value piece.word) piece.next

abbrev pub piece : ℕ → List ℕ → Option (List ℕ) → Piece
piece number word next = record { number = number; word = word; next = next }

-- the pieces of words, of which the first has this number
abbrev pub pieces_from : ℕ → List (List ℕ) → List Piece
pieces_from n [] = []
pieces_from n (word ∷ []) = piece n word None ∷ []
pieces_from n (word ∷ next ∷ words) = if awaits_value word
    then piece n word (Some next) ∷ pieces_from (n + 2) words
    else piece n word None ∷ pieces_from (n + 1) (next ∷ words)

abbrev pub pieces_of : List (List ℕ) → List Piece
pieces_of words = pieces_from 1 words

-- Models what a command line is answered: its options, or the first fault of its least word.
use Rattle.std.specs.Prelude.{List, [], ◌∷◌, ◌++◌, ℕ, ◌+◌, not, ◌&&◌, codes, drop, length, slice_get, slice_index_or, Some, None, Ok, Err, if◌then◌else◌}
use Rattle.std.specs.List.{list_any}
use Rattle.std.specs.declared.option.Option.{Option}
use Rattle.std.specs.declared.result.Result.{Result}
use Rattle.mca_words.specs.declared.fault.WordFault.{WordFault}
use Rattle.mca_words.specs.declared.fault.WordKind.{WordKind}
use Rattle.mca_words.specs.declared.fault.WordKind.TheVariants.{NoInput, NoMachine}
use Rattle.mca_words.specs.declared.options.Options.{Options}
use Rattle.mca_words.specs.declared.settings.Setting.{Setting}
use Rattle.mca_words.specs.Options.{options_of}
use Rattle.mca_words.specs.Pieces.{Piece, pieces_from, pieces_of, awaits_value}
use Rattle.mca_words.specs.Settings.{set_by, stands, is_input}

abbrev pub fault : ℕ → WordKind → WordFault
fault number kind = record { word = number; kind = kind }

-- the fault that shows only after all words
abbrev pub end_fault : List Setting → Option WordKind
end_fault settings = if stands settings (codes "load") then None
    else if not (list_any is_input settings) then Some NoInput
    else if not (stands settings (codes "table")) && not (stands settings (codes "mcpu")) then Some NoMachine
    else None

-- what is answered after all words, where the next word would have this number
abbrev pub end_answer : ℕ → List Setting → Option WordKind → Result Options WordFault
end_answer number settings (Some kind) = Err (fault number kind)
end_answer number settings None = Ok (options_of settings)

-- a piece with a fault ends the reading; after one that sets something it goes on
abbrev pub then_on : ℕ → Result Setting WordKind → (Setting → Result Options WordFault) → Result Options WordFault
then_on number (Err kind) on = Err (fault number kind)
then_on number (Ok setting) on = on setting

-- what is answered where these pieces follow the settings; the next word would have the number `count`
abbrev pub answer_from : ℕ → List Setting → List Piece → Result Options WordFault
answer_from count settings [] = end_answer count settings (end_fault settings)
answer_from count settings (piece ∷ pieces) = then_on piece.number (set_by settings piece) (λ setting. answer_from count (settings ++ setting ∷ []) pieces)

abbrev pub answer_of : List (List ℕ) → Result Options WordFault
answer_of words = answer_from (length words + 1) [] (pieces_of words)

-- what is answered where the words from this place on follow the settings
abbrev pub rest_answer : List (List ℕ) → ℕ → List Setting → Result Options WordFault
rest_answer words place settings = answer_from (length words + 1) settings (pieces_from (place + 1) (drop place words))

-- the word after the one at this place, where it is that one's value
abbrev pub next_word : List (List ℕ) → ℕ → Option (List ℕ)
next_word words place = if awaits_value (slice_index_or words place []) then slice_get words (place + 1) else None

-- how many words a value takes
abbrev pub width : Option (List ℕ) → ℕ
width None = 0
width (Some next) = 1

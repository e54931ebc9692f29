-- Models what the pieces set, one after the other, and the first fault of a piece after those before it.
use Rattle.std.specs.Prelude.{List, ℕ, Bool, true, false, ◌&&◌, ◌||◌, not, codes, length, nat_eq, Some, None, Ok, Err, if◌then◌else◌}
use Rattle.std.specs.Cmp.Lexicographic.{pointwise}
use Rattle.std.specs.List.{list_any}
use Rattle.std.specs.declared.option.Option.{Option}
use Rattle.std.specs.declared.result.Result.{Result}
use Rattle.mca_words.specs.declared.fault.WordKind.{WordKind}
use Rattle.mca_words.specs.declared.fault.WordKind.TheVariants.{UnknownOption, Repeated, TwoMachines, NotTogether, TooManyInputs}
use Rattle.mca_words.specs.declared.settings.Setting.{Setting}
use Rattle.mca_words.specs.declared.settings.Setting.TheVariants.{Input, Named}
use Rattle.mca_words.specs.declared.table.ValueForm.{ValueForm}
use Rattle.mca_words.specs.declared.value.Value.{Value}
use Rattle.mca_words.specs.Pieces.{Piece, is_option, name_of, given_value}
use Rattle.mca_words.specs.Table.{form_of}
use Rattle.mca_words.specs.Values.{value_of}

abbrev pub is_input : Setting → Bool
is_input (Input text) = true
is_input (Named name value) = false

abbrev pub is_named : List ℕ → Setting → Bool
is_named name (Input text) = false
is_named name (Named own value) = pointwise nat_eq own name

-- the option stands among what was set
abbrev pub stands : List Setting → List ℕ → Bool
stands settings name = list_any (is_named name) settings

-- the other of the two options that choose the machine stands
abbrev pub has_other_machine : List Setting → List ℕ → Bool
has_other_machine settings name = (pointwise nat_eq name (codes "table") && stands settings (codes "mcpu"))
    || (pointwise nat_eq name (codes "mcpu") && stands settings (codes "table"))

-- `-load` stands, or is to stand beside what was set
abbrev pub is_beside_load : List Setting → List ℕ → Bool
is_beside_load settings name = stands settings (codes "load")
    || (pointwise nat_eq name (codes "load") && not (nat_eq (length settings) 0))

abbrev pub named : List Setting → List ℕ → Result Value WordKind → Result Setting WordKind
named settings name (Err kind) = Err kind
named settings name (Ok value) = if has_other_machine settings name then Err TwoMachines
    else if is_beside_load settings name then Err NotTogether
    else Ok (Named name value)

-- what an option sets, or its first fault
abbrev pub option_set : List Setting → List ℕ → Option (List ℕ) → Option ValueForm → Result Setting WordKind
option_set settings name value None = Err UnknownOption
option_set settings name value (Some form) = if stands settings name then Err Repeated else named settings name (value_of form value)

abbrev pub input_set : List Setting → List ℕ → Result Setting WordKind
input_set settings text = if stands settings (codes "load") then Err NotTogether
    else if list_any is_input settings then Err TooManyInputs
    else Ok (Input text)

-- what a piece sets after these settings, or its first fault in the order of the faults
abbrev pub set_by : List Setting → Piece → Result Setting WordKind
set_by settings piece = if is_option piece.word
    then option_set settings (name_of piece.word) (given_value piece) (form_of (name_of piece.word))
    else input_set settings piece.word

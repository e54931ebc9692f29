-- Models what the value of an option may be, and the faults of a value.
use Rattle.std.specs.Prelude.{List, [], ◌∷◌, ℕ, ◌+◌, ◌-◌, ◌*◌, Bool, true, false, ◌&&◌, ◌||◌, not, codes, length, nat_eq, nat_lt, Some, None, Ok, Err, if◌then◌else◌}
use Rattle.std.specs.Char.{is_ascii_digit}
use Rattle.std.specs.Cmp.Lexicographic.{pointwise}
use Rattle.std.specs.List.{list_all, list_any}
use Rattle.std.specs.declared.option.Option.{Option}
use Rattle.std.specs.declared.result.Result.{Result}
use Rattle.mca_words.specs.declared.fault.WordKind.{WordKind}
use Rattle.mca_words.specs.declared.fault.WordKind.TheVariants.{MissingValue, BadNumber, OutOfRange, UnknownMachine}
use Rattle.mca_words.specs.declared.table.ValueForm.{ValueForm}
use Rattle.mca_words.specs.declared.table.ValueForm.TheVariants.{FileName, MachineName, NumberUpTo, OptionalNumber, TruthValue}
use Rattle.mca_words.specs.declared.value.Value.{Value}
use Rattle.mca_words.specs.declared.value.Value.TheVariants.{Text, Number, Truth}

-- the built-in machines
abbrev pub machine_names : List (List ℕ)
machine_names = codes "tiny" ∷ codes "dual" ∷ codes "quad" ∷ []

abbrev pub is_machine : List ℕ → Bool
is_machine text = list_any (λ name. pointwise nat_eq text name) machine_names

-- one or more decimal digits
abbrev pub is_number : List ℕ → Bool
is_number text = not (nat_eq (length text) 0) && list_all is_ascii_digit text

-- the number that these digits continue
abbrev pub number_from : ℕ → List ℕ → ℕ
number_from n [] = n
number_from n (digit ∷ digits) = number_from (n * 10 + (digit - 48)) digits

abbrev pub number_of : List ℕ → ℕ
number_of digits = number_from 0 digits

abbrev pub truth_of : List ℕ → Option Bool
truth_of text = if pointwise nat_eq text (codes "true") || pointwise nat_eq text (codes "1") then Some true
    else if pointwise nat_eq text (codes "false") || pointwise nat_eq text (codes "0") then Some false
    else None

abbrev pub machine_value : List ℕ → Result Value WordKind
machine_value text = if is_machine text then Ok (Text text) else Err UnknownMachine

abbrev pub number_value : ℕ → List ℕ → Result Value WordKind
number_value most text = if not (is_number text) then Err BadNumber
    else if nat_lt most (number_of text) then Err OutOfRange
    else Ok (Number (number_of text))

abbrev pub truth_value : Option Bool → Result Value WordKind
truth_value None = Err BadNumber
truth_value (Some truth) = Ok (Truth truth)

-- the value of a form that needs one, read from a text that is not empty
abbrev pub value_of_text : ValueForm → List ℕ → Result Value WordKind
value_of_text FileName text = Ok (Text text)
value_of_text MachineName text = machine_value text
value_of_text (NumberUpTo most default) text = number_value most text
value_of_text (OptionalNumber most) text = number_value most text
value_of_text (TruthValue default) text = truth_value (truth_of text)

-- the value of an option, or the first fault of its value; a truth without a value is true
abbrev pub value_of : ValueForm → Option (List ℕ) → Result Value WordKind
value_of (TruthValue default) None = Ok (Truth true)
value_of (TruthValue default) (Some text) = truth_value (truth_of text)
value_of form None = Err MissingValue
value_of form (Some []) = Err MissingValue
value_of form (Some (byte ∷ bytes)) = value_of_text form (byte ∷ bytes)

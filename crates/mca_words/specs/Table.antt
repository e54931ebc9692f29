-- Models the options of the command line: each one's name, what its value is, and the value without it.
use Rattle.std.specs.Prelude.{List, [], ◌∷◌, ℕ, Bool, true, false, codes, nat_eq, Some, None, if◌then◌else◌}
use Rattle.std.specs.Cmp.Lexicographic.{pointwise}
use Rattle.std.specs.declared.option.Option.{Option}
use Rattle.mca_fixed.specs.declared.limits.TheConstants.{MOST_ROWS}
use Rattle.mca_words.specs.declared.table.ValueForm.{ValueForm}
use Rattle.mca_words.specs.declared.table.Row.{Row}
use Rattle.mca_words.specs.declared.table.ValueForm.TheVariants.{FileName, MachineName, NumberUpTo, OptionalNumber, TruthValue}

-- an option: its name without dashes, and the form of its value
pub record OptionRow : Type 0 where
  pub name : List ℕ
  pub form : ValueForm

abbrev pub row : List ℕ → ValueForm → OptionRow
row name form = record { name = name; form = form }

-- the greatest number, and the number where the option is not given; the truth where it is not given
abbrev pub option_table : List OptionRow
option_table = row (codes "table") FileName
    ∷ row (codes "mcpu") MachineName
    ∷ row (codes "iterations") (NumberUpTo MOST_ROWS 100)
    ∷ row (codes "dispatch") (NumberUpTo 64 0)
    ∷ row (codes "register-file-size") (NumberUpTo 65536 0)
    ∷ row (codes "lqueue") (NumberUpTo 4096 0)
    ∷ row (codes "squeue") (NumberUpTo 4096 0)
    ∷ row (codes "noalias") (TruthValue true)
    ∷ row (codes "instruction-info") (TruthValue true)
    ∷ row (codes "resource-pressure") (TruthValue true)
    ∷ row (codes "timeline") (TruthValue false)
    ∷ row (codes "timeline-max-iterations") (NumberUpTo MOST_ROWS 10)
    ∷ row (codes "timeline-max-cycles") (NumberUpTo 1000000 80)
    ∷ row (codes "bottleneck-analysis") (TruthValue false)
    ∷ row (codes "load") (OptionalNumber 4294967295)
    ∷ []

-- a row of the table in code
abbrev pub option_row : Row → OptionRow
option_row r = row r.name.now r.form

-- the form of the option with a name, where a table has it
abbrev pub form_in : List OptionRow → List ℕ → Option ValueForm
form_in [] name = None
form_in (option ∷ options) name = if pointwise nat_eq name option.name then Some option.form else form_in options name

abbrev pub form_of : List ℕ → Option ValueForm
form_of name = form_in option_table name

-- the number of an option that was not given
abbrev pub default_number : Option ValueForm → ℕ
default_number (Some (NumberUpTo most default)) = default
default_number _ = 0

-- the truth of an option that was not given
abbrev pub default_truth : Option ValueForm → Bool
default_truth (Some (TruthValue default)) = default
default_truth _ = false

-- Models the options that the settings of a command line give.
use Rattle.std.specs.Prelude.{List, [], ◌∷◌, ℕ, Bool, codes, nat_eq, Some, None, if◌then◌else◌}
use Rattle.std.specs.Cmp.Lexicographic.{pointwise}
use Rattle.std.specs.declared.option.Option.{Option}
use Rattle.mca_words.specs.declared.options.Options.{Options}
use Rattle.mca_words.specs.declared.settings.Setting.{Setting}
use Rattle.mca_words.specs.declared.settings.Setting.TheVariants.{Input, Named}
use Rattle.mca_words.specs.declared.value.Value.{Value}
use Rattle.mca_words.specs.declared.value.Value.TheVariants.{Text, Number, Truth}
use Rattle.mca_words.specs.Table.{form_of, default_number, default_truth}

-- the value of an option among the settings
abbrev pub setting_of : List Setting → List ℕ → Option Value
setting_of [] name = None
setting_of (Input text ∷ settings) name = setting_of settings name
setting_of (Named own value ∷ settings) name = if pointwise nat_eq own name then Some value else setting_of settings name

abbrev pub input_of : List Setting → List ℕ
input_of [] = []
input_of (Input text ∷ settings) = text
input_of (Named own value ∷ settings) = input_of settings

abbrev pub text_or_empty : Option Value → List ℕ
text_or_empty (Some (Text text)) = text
text_or_empty _ = []

abbrev pub number_or : ℕ → Option Value → ℕ
number_or default (Some (Number number)) = number
number_or default _ = default

abbrev pub number_or_none : Option Value → Option ℕ
number_or_none (Some (Number number)) = Some number
number_or_none _ = None

abbrev pub truth_or : Bool → Option Value → Bool
truth_or default (Some (Truth truth)) = truth
truth_or default _ = default

abbrev pub text_set : List Setting → List ℕ → List ℕ
text_set settings name = text_or_empty (setting_of settings name)

abbrev pub number_set : List Setting → List ℕ → ℕ
number_set settings name = number_or (default_number (form_of name)) (setting_of settings name)

abbrev pub number_given : List Setting → List ℕ → Option ℕ
number_given settings name = number_or_none (setting_of settings name)

abbrev pub truth_set : List Setting → List ℕ → Bool
truth_set settings name = truth_or (default_truth (form_of name)) (setting_of settings name)

-- each option's value, or its default
abbrev pub options_of : List Setting → Options
options_of settings = record {
  table = text_set settings (codes "table");
  mcpu = text_set settings (codes "mcpu");
  iterations = number_set settings (codes "iterations");
  dispatch = number_set settings (codes "dispatch");
  register_file_size = number_set settings (codes "register-file-size");
  lqueue = number_set settings (codes "lqueue");
  squeue = number_set settings (codes "squeue");
  noalias = truth_set settings (codes "noalias");
  instruction_info = truth_set settings (codes "instruction-info");
  resource_pressure = truth_set settings (codes "resource-pressure");
  timeline = truth_set settings (codes "timeline");
  timeline_max_iterations = number_set settings (codes "timeline-max-iterations");
  timeline_max_cycles = number_set settings (codes "timeline-max-cycles");
  bottleneck_analysis = truth_set settings (codes "bottleneck-analysis");
  load = number_given settings (codes "load");
  input = input_of settings;
}

-- what `-load` gives: this number, each other option's default, and no input
abbrev pub load_options : ℕ → Options
load_options seed = options_of (Named (codes "load") (Number seed) ∷ [])

-- What the words ask for: a report on files, or on the program that a number gives.
use Rattle.std.specs.Prelude.{◌≡◌, ℕ, List, nat_eq, Ok, Err, Some, None, if◌then◌else◌}
use Rattle.mca_words.specs.Answer.{answer_of}
use Rattle.mca_words.specs.declared.fault.WordFault.{WordFault}
use Rattle.mca_words.specs.declared.options.Options.{Options}

-- the words are refused by their first fault
abbrev pub IsWordFault : List (List ℕ) → WordFault → Type 0
IsWordFault words fault = answer_of words ≡ Err fault

-- the words ask for the report on files, with these options
pub record IsAsked (words : List (List ℕ)) (o : Options) : Type 0 where
  pub options : answer_of words ≡ Ok o
  pub of_files : o.load ≡ None

-- the words ask for the report on the program that a number gives
pub record IsLoadAsked (words : List (List ℕ)) (seed : ℕ) : Type 0 where
  pub options : Options
  pub answer : answer_of words ≡ Ok options
  pub load : options.load ≡ Some seed

-- how often a region is repeated: 0 means 100
abbrev pub iterations_of : Options → ℕ
iterations_of o = if nat_eq o.iterations 0 then 100 else o.iterations

-- Models want of memory: the one answer that may stand in for any other.
use Rattle.std.specs.Prelude.{◌≡◌, ◌≢◌, Ok, Err, MatchResult}
use Rattle.std.specs.declared.result.Result.{Result}
use Rattle.mca_words.specs.declared.fault.WordFault.{WordFault}
use Rattle.mca_words.specs.declared.fault.WordKind.{WordKind}
use Rattle.mca_words.specs.declared.fault.WordKind.TheVariants.{Memory}

-- the result is the answer, or want of memory
abbrev pub Gives : {A : Type 0} → Result A WordKind → Result A WordKind → Type 0
Gives answer result = MatchResult result (λ value. answer ≡ Ok value) (λ kind. kind ≢ Memory → answer ≡ Err kind)

-- the same of an answer whose faults have a word
abbrev pub Answers : {A : Type 0} → Result A WordFault → Result A WordFault → Type 0
Answers answer result = MatchResult result (λ value. answer ≡ Ok value) (λ fault. fault.kind ≢ Memory → answer ≡ Err fault)

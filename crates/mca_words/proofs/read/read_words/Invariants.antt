use Rattle.std.proofs.Common.{◌≡◌, ◌≤◌, ◌-◌, length, map, string_bytes}
use Rattle.mca_words.specs.Answer.{answer_of, rest_answer}
use Rattle.mca_words.proofs.read.read_words.Given as goal

abbrev pub invariant-loop-at : goal.invariant-loop-at
invariant-loop-at l = record {
  within : l.at ≤ length l.words;
  read : rest_answer (map string_bytes l.words) l.at l.settings.items ≡ answer_of (map string_bytes l.words);
}

abbrev pub decreases-loop-at : goal.decreases-loop-at
decreases-loop-at l = length l.words - l.at

use Rattle.std.proofs.Common.{◌≡◌, drop, map, nat_eq}
use Rattle.std.specs.List.{list_any}
use Rattle.std.specs.Cmp.Lexicographic.{pointwise}
use Rattle.sched_records.proofs.grammar.is_in.Given as goal

abbrev pub invariant-loop-word : goal.invariant-loop-word
invariant-loop-word l = list_any (λ w. pointwise nat_eq l.bytes w) (map (λ w. w.now) (drop l.word-index l.words)) ≡ list_any (λ w. pointwise nat_eq l.bytes w) (map (λ w. w.now) l.words)

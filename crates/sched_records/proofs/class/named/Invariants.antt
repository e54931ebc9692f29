use Rattle.std.proofs.Common.{◌≡◌, drop, nat_eq}
use Rattle.std.specs.List.{find}
use Rattle.std.specs.Cmp.Lexicographic.{pointwise}
use Rattle.sched_records.specs.Classes.{class_name}
use Rattle.sched_records.proofs.class.named.Given as goal

abbrev pub invariant-loop-class : goal.invariant-loop-class
invariant-loop-class l = find (λ x. pointwise nat_eq l.name (class_name x)) (drop l.class-index l.classes) ≡ find (λ x. pointwise nat_eq l.name (class_name x)) l.classes

use Rattle.std.proofs.Common.{◌≡◌, drop, nat_eq}
use Rattle.std.specs.List.{find}
use Rattle.std.specs.Cmp.Lexicographic.{pointwise}
use Rattle.sched_records.specs.Fields.{field_name}
use Rattle.sched_records.proofs.field.named.Given as goal

abbrev pub invariant-loop-field : goal.invariant-loop-field
invariant-loop-field l = find (λ x. pointwise nat_eq l.name (field_name x)) (drop l.field-index l.fields) ≡ find (λ x. pointwise nat_eq l.name (field_name x)) l.fields

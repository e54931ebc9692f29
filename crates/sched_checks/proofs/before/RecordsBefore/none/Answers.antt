use Rattle.std.proofs.Common.{rules, ap, ◌∙◌, false, get_or}
use Rattle.std.proofs.lemmas.List.{get_or-replicate}
use Rattle.std.specs.List.{list_any}
use Rattle.sched_checks.specs.Checks.{same_op}
use Rattle.sched_checks.proofs.before.RecordsBefore.none.Goals as goal

pub invariant_of-result : goal.invariant_of-result
invariant_of-result c = (
  c.none.ensures,
  record { places = search rules; same = λ r h. ap (λ held. get_or held r false) c.in_ok-from_array.ensures.items ∙ get_or-replicate 32 r false false h },
  record { same = λ o. ap (λ ops. list_any (same_op o) ops) c.new.ensures.items },
)

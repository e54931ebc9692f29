use Rattle.std.proofs.Common.{◌∙◌, ap, map}
use Rattle.std.proofs.lemmas.List.{map_push}
use Rattle.sched_checks.specs.Resources.{resource_in}
use Rattle.sched_resolve.specs.declared.entry.Entry.TheVariants as entry
use Rattle.sched_validate.proofs.Found.{is_resource_entry}
use Rattle.sched_validate.proofs.Loops.{no_kind, found_more, found_same}
use Rattle.sched_validate.proofs.lists.resources.Goals.{in-Resource+in_ok-push, in_default}
use Rattle.sched_validate.proofs.lists.resources.Goals as goal

pub loop-entry-preserved : goal.loop-entry-preserved
loop-entry-preserved c = elim c.match-entry.branch [
  | in-Resource+in_ok-push w ↦ found_more resource_in c.args.entries.now c.loop-entry.entry-index c.entry-item.result c.loop-entry.found.items c.match-entry.found.items w.in-Resource.one
      c.loop-entry-test.true c.entry-item.is (ap resource_in w.in-Resource.is) (ap (λ v. map (λ r. r.now) v.items) w.found-is ∙ ap (map (λ r. r.now)) w.in_ok-push.ensures.items ∙ map_push (λ r. r.now) c.loop-entry.found.items _) c.loop-entry.invariant
  | in_default w ↦ found_same resource_in c.args.entries.now c.loop-entry.entry-index c.entry-item.result c.loop-entry.found.items c.match-entry.found.items
      c.loop-entry-test.true c.entry-item.is (no_kind resource_in entry.Resource is_resource_entry c.entry-item.result w.in_default.not-Resource) (ap (λ v. v.items) w.found-is) c.loop-entry.invariant
]

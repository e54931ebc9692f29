use Rattle.std.proofs.Common.{◌∙◌, ap, map}
use Rattle.std.proofs.lemmas.List.{map_push}
use Rattle.sched_validate.specs.Classes.{write_in}
use Rattle.sched_resolve.specs.declared.entry.Entry.TheVariants as entry
use Rattle.sched_validate.proofs.Found.{is_write_entry}
use Rattle.sched_validate.proofs.Loops.{no_kind, found_more, found_same}
use Rattle.sched_validate.proofs.lists.writes.Goals.{in-Write+in_ok-push, in_default}
use Rattle.sched_validate.proofs.lists.writes.Goals as goal

pub loop-entry-preserved : goal.loop-entry-preserved
loop-entry-preserved c = elim c.match-entry.branch [
  | in-Write+in_ok-push w ↦ found_more write_in c.args.entries.now c.loop-entry.entry-index c.entry-item.result c.loop-entry.found.items c.match-entry.found.items w.in-Write.one
      c.loop-entry-test.true c.entry-item.is (ap write_in w.in-Write.is) (ap (λ v. map (λ r. r.now) v.items) w.found-is ∙ ap (map (λ r. r.now)) w.in_ok-push.ensures.items ∙ map_push (λ r. r.now) c.loop-entry.found.items _) c.loop-entry.invariant
  | in_default w ↦ found_same write_in c.args.entries.now c.loop-entry.entry-index c.entry-item.result c.loop-entry.found.items c.match-entry.found.items
      c.loop-entry-test.true c.entry-item.is (no_kind write_in entry.Write is_write_entry c.entry-item.result w.in_default.not-Write) (ap (λ v. v.items) w.found-is) c.loop-entry.invariant
]

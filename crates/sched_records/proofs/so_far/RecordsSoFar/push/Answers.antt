use Rattle.std.proofs.Common.{◌∙◌}
use Rattle.sched_records.proofs.NameSet.{one_more_name}
use Rattle.sched_records.proofs.so_far.RecordsSoFar.push.Goals as goal

pub invariant_of-self-2 : goal.invariant_of-self-2
invariant_of-self-2 c = λ n. rw (c.in_ok-insert.ensures.keys, c.in-Ok.ensures.items, c.reserve.ensures.items)
    (one_more_name (λ k. k.items) c.self.inside.names.keys c.in_ok-from_slice.field-0 c.args.new c.self.inside.records.items n
    (c.in_ok-from_slice.ensures.items ∙ c.as_bytes.ensures) (c.self.invariant n))

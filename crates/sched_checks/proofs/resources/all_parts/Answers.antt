use Rattle.sched_checks.proofs.PartsAt.{next_parts}
use Rattle.sched_checks.proofs.resources.all_parts.Goals as goal

pub loop-number-preserved : goal.loop-number-preserved
loop-number-preserved c = next_parts (λ r. r.now) (λ p. p.keys) c.args.list.now c.loop-number.number c.index-list-number.result c.loop-number.all.items c.push.new.self.items c.in_ok-parts_in.field-0 _
    c.loop-number-test.true c.index-list-number.is c.in_ok-push.ensures.items c.in_ok-parts_in.ensures c.loop-number.invariant

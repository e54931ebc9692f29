use mir.Val.{SFits, to_z, of_z}
use Rattle.std.proofs.Common.{◌≡◌, ◌∙◌, rules, w32}
use Rattle.std.proofs.lemmas.Int.{to_z-of_z}
use Rattle.sched_validate.specs.Buffers.{IsBuffered}
use Rattle.sched_validate.proofs.Loops.{all_here, map_more}
use Rattle.sched_validate.proofs.resources.buffers.Goals as goal

pub buffer-requires : goal.buffer-requires
buffer-requires c = all_here (λ r. IsBuffered r.now) c.args.resources.now c.loop-resource.resource-index c.resource-item.result c.loop-resource-test.true c.resource-item.is c.requires

pub loop-resource-preserved : goal.loop-resource-preserved
loop-resource-preserved c =
    let fits : SFits w32 c.buffer.result = search rules in
    let same : to_z w32 (of_z w32 c.buffer.result) ≡ c.buffer.result = to_z-of_z w32 c.buffer.result fits in
    c.in_ok-push.ensures.items
    ∙ map_more (λ r. r.now.buffer) c.args.resources.now c.loop-resource.resource-index c.resource-item.result c.loop-resource.buffers.items (to_z w32 (of_z w32 c.buffer.result))
    c.loop-resource-test.true c.resource-item.is c.loop-resource.invariant (same ∙ c.buffer.ensures)

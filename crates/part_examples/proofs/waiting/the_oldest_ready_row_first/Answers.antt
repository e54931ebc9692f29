use Rattle.std.proofs.Common.{◌≡◌, [], refl, ap, arith}
use Rattle.machine_model.specs.Meaning.{MachineMeaning}
use Rattle.cycle_rules.specs.declared.bound.Bound.{Bound}
use Rattle.issue_queues.specs.Queues.{IsNaming}
use Rattle.part_examples.proofs.waiting.the_oldest_ready_row_first.Goals as goal

naming : (m : MachineMeaning) (b : Bound) → b.use_count ≡ 0 → IsNaming m b
naming m b e = record { few = omega arith; within = λ i h. absurd (omega arith) }

pub enter-requires-2 : goal.enter-requires-2
enter-requires-2 c =
    let r = ap (λ l. l.reorder) c.limits.ensures in
    let b = naming _ c.no_use-b.result c.no_use-b.ensures in
    let s1 = c.enter.ensures.stands _ [] c.in_ok-queues.ensures.stands b (omega arith) refl in
    (_, _, s1, b, rw c.no_use-b.ensures refl, omega arith, refl)

pub ready-first-requires : goal.ready-first-requires
ready-first-requires c =
    let r = ap (λ l. l.reorder) c.limits.ensures in
    let b = naming _ c.no_use-b.result c.no_use-b.ensures in
    let s1 = c.enter.ensures.stands _ [] c.in_ok-queues.ensures.stands b (omega arith) refl in
    let s2 = c.enter-2.ensures.stands _ _ s1 b (omega arith) refl in
    (_, _, s2)

pub wake-requires : goal.wake-requires
wake-requires c =
    let r = ap (λ l. l.reorder) c.limits.ensures in
    let b = naming _ c.no_use-b.result c.no_use-b.ensures in
    let s1 = c.enter.ensures.stands _ [] c.in_ok-queues.ensures.stands b (omega arith) refl in
    let s2 = c.enter-2.ensures.stands _ _ s1 b (omega arith) refl in
    (_, _, s2, refl)

pub ready-second-requires : goal.ready-second-requires
ready-second-requires c =
    let r = ap (λ l. l.reorder) c.limits.ensures in
    let b = naming _ c.no_use-b.result c.no_use-b.ensures in
    let s1 = c.enter.ensures.stands _ [] c.in_ok-queues.ensures.stands b (omega arith) refl in
    let s2 = c.enter-2.ensures.stands _ _ s1 b (omega arith) refl in
    let s3 = c.wake.ensures.stands _ _ s2 refl in
    (_, _, s3)

pub leave-requires : goal.leave-requires
leave-requires c =
    let r = ap (λ l. l.reorder) c.limits.ensures in
    let b = naming _ c.no_use-b.result c.no_use-b.ensures in
    let s1 = c.enter.ensures.stands _ [] c.in_ok-queues.ensures.stands b (omega arith) refl in
    let s2 = c.enter-2.ensures.stands _ _ s1 b (omega arith) refl in
    let s3 = c.wake.ensures.stands _ _ s2 refl in
    (_, _, 0, s3, b, record { within = omega arith; row_is = refl; uses_are = refl })

pub ready-third-requires : goal.ready-third-requires
ready-third-requires c =
    let r = ap (λ l. l.reorder) c.limits.ensures in
    let b = naming _ c.no_use-b.result c.no_use-b.ensures in
    let s1 = c.enter.ensures.stands _ [] c.in_ok-queues.ensures.stands b (omega arith) refl in
    let s2 = c.enter-2.ensures.stands _ _ s1 b (omega arith) refl in
    let s3 = c.wake.ensures.stands _ _ s2 refl in
    let s4 = c.leave.ensures.stands _ _ 0 s3 b (record { within = omega arith; row_is = refl; uses_are = refl }) in
    (_, _, s4)

use Rattle.std.proofs.Common.{subst, map, take, refl}
use Rattle.sched_validate.specs.Advances.{IsSmallAdvance, StandsFor}
use Rattle.sched_validate.proofs.Loops.{all_here, map_more}
use Rattle.sched_validate.proofs.advances.kept_advances.Goals as goal

pub add-requires : goal.add-requires
add-requires c = all_here (λ a. IsSmallAdvance a.now) c.args.all.now c.loop-advance.advance-index c.advance-item.result c.loop-advance-test.true c.advance-item.is c.requires

pub loop-advance-preserved : goal.loop-advance-preserved
loop-advance-preserved c = subst (StandsFor c.add.new.self)
    (map_more (λ a. a.now) c.args.all.now c.loop-advance.advance-index c.advance-item.result _ c.advance-item.result.now c.loop-advance-test.true c.advance-item.is refl refl)
    (c.in_ok-add.ensures (map (λ a. a.now) (take c.loop-advance.advance-index c.args.all.now)) c.loop-advance.invariant)

use Rattle.critical_chain.proofs.order.place_below.Goals as goal
use Rattle.std.proofs.Common.{arith}
use Rattle.critical_chain.proofs.Orders.{place_less}

pub loop-i-preserved : goal.loop-i-preserved
loop-i-preserved c = place_less c.args.order.now c.args.v c.loop-i.i (omega (arith, c.loop-i.auto.i, c.requires.high)) c.loop-i.invariant c.if-order-i.false

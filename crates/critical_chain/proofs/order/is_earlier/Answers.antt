use Rattle.std.proofs.Common.{◌≡◌, ◌<◌, ◌≤◌, ◌-◌, length, arith}
use Rattle.std.proofs.lemmas.Bool.Decides.{nat_tests}
use Rattle.critical_chain.specs.Graph.{place}
use Rattle.critical_chain.proofs.Orders.{place_less, place_just}
use Rattle.critical_chain.proofs.order.is_earlier.Goals as goal

pub returns-then-order-i-2 : goal.returns-then-order-i-2
returns-then-order-i-2 c =
    let order = c.args.order.now in
    let low : c.loop-i.i ≤ length order = omega (arith, c.loop-i.auto.i, c.requires.high) in
    let a : place order c.args.a < c.loop-i.i - 1 = place_less order c.args.a c.loop-i.i low c.loop-i.invariant.0 c.if-order-i.false in
    let b : place order c.args.b ≡ c.loop-i.i - 1 = place_just order c.args.b c.loop-i.i c.requires.order low c.loop-i-test.true c.if-order-i-2.true in
    grind (arith, nat_tests, a, b)

pub loop-i-preserved : goal.loop-i-preserved
loop-i-preserved c =
    let order = c.args.order.now in
    let low : c.loop-i.i ≤ length order = omega (arith, c.loop-i.auto.i, c.requires.high) in
    (place_less order c.args.a c.loop-i.i low c.loop-i.invariant.0 c.if-order-i.false, place_less order c.args.b c.loop-i.i low c.loop-i.invariant.1 c.if-order-i-2.false)

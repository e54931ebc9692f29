use Rattle.std.proofs.Common.{◌≡◌, arith, subst}
use Rattle.mca_views.specs.Shown.{shown}
use Rattle.mca_views.specs.Sums.{AreAll}
use Rattle.mca_views.proofs.sums.sums_of.Goals as goal

pub returns : goal.returns
returns g c =
    let end : c.loop-j.j ≡ c.args.rows = omega (arith, c.loop-j-test.false, c.loop-j.auto.j-end) in
    subst (λ n. AreAll (shown g.M.Machine.meaning c.args.v.now) n c.loop-j.sums) end c.loop-j.invariant.sums

use Rattle.std.proofs.Common.{◌≡◌, arith, true, false}
use Rattle.std.specs.Prelude.{◌%◌}
use Rattle.dep_graph.proofs.waits.earliest.Goals as goal

pub returns : goal.returns
returns c cycle true is = let e : c.args.slot % 2 ≡ 1 = omega (arith, is) in omega (arith, e)
returns c cycle false is = let e : c.args.slot % 2 ≡ 0 = omega (arith, is) in omega (arith, e)

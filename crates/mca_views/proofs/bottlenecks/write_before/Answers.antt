use Rattle.std.proofs.Common.{◌-◌, length, drop, arith}
use Rattle.std.proofs.lemmas.Grind.{common_steps}
use Rattle.mca_views.proofs.Tags.{drop_behind}
use Rattle.mca_views.proofs.bottlenecks.write_before.Goals as goal

pub returns-clause-written : goal.returns-clause-written
returns-clause-written c = grind (arith, common_steps)

pub returns-clause-behind : goal.returns-clause-behind
returns-clause-behind c = drop_behind (c.args.end - length c.args.bytes.now) c.args.end _ c.args.bytes.now (drop c.args.end c.args.buf.now) (omega (arith, c.requires.low)) (returns-clause-written c)

use Rattle.std.proofs.Common.{arith}
use Rattle.mca_views.proofs.Tags.{drop_more}
use Rattle.mca_views.proofs.bottlenecks.write_tag.Goals as goal

pub returns-clause-written : goal.returns-clause-written
returns-clause-written c = drop_more c.write_before.result c.args.tag.now.start c.write_before.new.buf c.args.tag.now.bytes _ (omega arith) c.write_before.ensures.written

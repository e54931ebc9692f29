use Rattle.std.proofs.Common.{arith}
use Rattle.unit_sets.proofs.Count.{ones-count}
use Rattle.unit_sets.proofs.word.count_in.Goals as goal

pub returns : goal.returns
returns c = ones-count c.args.word (omega arith)

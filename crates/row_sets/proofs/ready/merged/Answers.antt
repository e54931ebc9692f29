use Rattle.std.proofs.Common.{arith}
use Rattle.unit_sets.specs.Members.{in_word}
use Rattle.row_sets.proofs.Classes.{merged_start}
use Rattle.row_sets.proofs.ready.merged.Goals as goal

pub loop-pos-init : goal.loop-pos-init
loop-pos-init c = record { low = omega arith; merged = merged_start c.args.words.now c.args.base (in_word c.args.live) }

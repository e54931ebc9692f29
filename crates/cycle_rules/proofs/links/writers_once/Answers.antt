use Rattle.std.proofs.Common.{map}
use Rattle.cycle_rules.specs.Bind.{row_of}
use Rattle.cycle_rules.proofs.LastWriters.{wrote_first}
use Rattle.cycle_rules.proofs.links.writers_once.Goals as goal

pub loop-place-init : goal.loop-place-init
loop-place-init c = c.none-writers.ensures (map row_of c.args.body.now)

pub loop-place-preserved : goal.loop-place-preserved
loop-place-preserved c = c.note.ensures (map row_of c.args.body.now) (wrote_first c.args.body.now c.loop-place.place _ c.loop-place-test.true) c.loop-place.invariant

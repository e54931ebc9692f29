use Rattle.dep_graph.proofs.Blames.{note_none, note_one, unit_low}
use Rattle.std.proofs.Common.{length}
use Rattle.dep_graph.proofs.holders.note_use.Goals as goal

pub returns-then-used-eq0 : goal.returns-then-used-eq0
returns-then-used-eq0 c = note_none c.args.place c.args.c c.args.unit c.args.used c.args.last.now c.if-used-eq0.true

pub bounds-last-unit : goal.bounds-last-unit
bounds-last-unit c = unit_low (length c.args.last.now) c.args.c c.args.unit c.args.used c.if-used-eq0.false c.requires.known

pub returns : goal.returns
returns c = note_one c.args.place c.args.c c.args.unit c.args.used c.args.last.now c.if-used-eq0.false

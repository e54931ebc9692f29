use Rattle.std.proofs.Common.{◌-◌}
use Rattle.dep_graph.specs.Walk.{weight_of}
use Rattle.dep_graph.proofs.Pointers.{IsMoved}
use Rattle.dep_graph.proofs.window.Window.advance.Given as goal

abbrev pub invariant-loop-self : goal.invariant-loop-self
invariant-loop-self g l = IsMoved (weight_of (g.R.Rows.input l.rows) l.what) l.bound l.more l.j l.self.front l.self.held

abbrev pub decreases-loop-self : goal.decreases-loop-self
decreases-loop-self g l = l.j - l.self.front

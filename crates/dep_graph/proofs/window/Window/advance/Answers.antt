use Rattle.std.proofs.Common.{◌+◌, ◌-◌, ℕ, arith, subst, sym}
use Rattle.dep_graph.specs.Walk.{weight_of}
use Rattle.dep_graph.proofs.Pointers.{IsMoved, moved_some, moved_next}
use Rattle.dep_graph.proofs.window.Window.advance.Goals as goal

pub overflow_sub-self : goal.overflow_sub-self
overflow_sub-self g c =
    let w : ℕ → ℕ = weight_of (g.R.Rows.input c.args.rows.now) c.args.what in
    omega (arith, (c.weight.ensures c.loop-self.self.front c.instruction.ensures.row), (moved_next w c.args.bound c.args.more c.args.j c.loop-self.self.front c.loop-self.self.held c.loop-self.invariant c.requires.more c.loop-self-test.true).0)

pub overflow_add-self-in-loop-self : goal.overflow_add-self-in-loop-self
overflow_add-self-in-loop-self g c =
    let w : ℕ → ℕ = weight_of (g.R.Rows.input c.args.rows.now) c.args.what in
    omega (arith, c.ranges.j, moved_some w c.args.bound c.args.more c.args.j c.loop-self.self.front c.loop-self.self.held c.loop-self.invariant c.requires.more c.loop-self-test.true)

pub loop-self-smaller : goal.loop-self-smaller
loop-self-smaller g c =
    let w : ℕ → ℕ = weight_of (g.R.Rows.input c.args.rows.now) c.args.what in
    omega (arith, moved_some w c.args.bound c.args.more c.args.j c.loop-self.self.front c.loop-self.self.held c.loop-self.invariant c.requires.more c.loop-self-test.true)

pub loop-self-preserved : goal.loop-self-preserved
loop-self-preserved g c =
    let w : ℕ → ℕ = weight_of (g.R.Rows.input c.args.rows.now) c.args.what in
    subst (λ x. IsMoved w c.args.bound c.args.more c.args.j (c.loop-self.self.front + 1) (c.loop-self.self.held - x)) (sym (c.weight.ensures c.loop-self.self.front c.instruction.ensures.row))
    (moved_next w c.args.bound c.args.more c.args.j c.loop-self.self.front c.loop-self.self.held c.loop-self.invariant c.requires.more c.loop-self-test.true).1

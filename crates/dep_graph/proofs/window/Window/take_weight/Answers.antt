use Rattle.std.proofs.Common.{ℕ, arith, subst}
use Rattle.cycle_rules.specs.Row.{times}
use Rattle.dep_graph.specs.Thresholds.{IsPointer}
use Rattle.dep_graph.specs.Walk.{weight_of}
use Rattle.dep_graph.proofs.Windows.{window_over, window_taken, enough_from}
use Rattle.dep_graph.proofs.window.Window.take_weight.Goals as goal

pub returns-then-more-eq0-clause-window : goal.returns-then-more-eq0-clause-window
returns-then-more-eq0-clause-window g c = window_over (g.R.Rows.input c.args.rows.now) c.args.what c.args.bound c.args.j c.args.self.now (λ some. omega (arith, c.requires.more, c.if-more-eq0.true)) c.requires.window

pub returns-clause-window : goal.returns-clause-window
returns-clause-window g c = window_taken (g.R.Rows.input c.args.rows.now) c.args.what c.args.bound c.args.j c.args.more _ c.requires.more c.advance.ensures.pointer (omega (arith, c.advance.ensures.held))

pub returns-clause-from : goal.returns-clause-from
returns-clause-from g c = λ b.
    let w : ℕ → ℕ = weight_of (g.R.Rows.input c.args.rows.now) c.args.what in
    let p : IsPointer w c.args.bound (w c.args.j) c.args.j c.advance.new.self.front = subst (λ m. IsPointer w c.args.bound m c.args.j c.advance.new.self.front) c.requires.more c.advance.ensures.pointer in
    rw c.retired.ensures (enough_from (g.R.Rows.input c.args.rows.now) (times (g.R.Rows.table c.args.rows.now)) w c.args.bound c.args.j c.advance.new.self.front b c.requires.run.run.each c.requires.row
    (λ none. absurd (omega (arith, none, c.if-bound-eq0.false))) (λ none. absurd (omega (arith, none, c.requires.more, c.if-more-eq0.false))) p)

use Rattle.std.proofs.Common.{◌≡◌, ◌+◌, nat_eq, false, arith, sym, ◌∙◌}
use Rattle.std.proofs.lemmas.Bool.Decides.{nat_tests}
use Rattle.sched_records.proofs.Steps.{comment_step, comment_ends}
use Rattle.sched_records.proofs.piece.comment_end.Goals as goal

pub loop-k-preserved : goal.loop-k-preserved
loop-k-preserved c = record {
  within = omega arith;
  deep = omega arith;
  most = omega arith;
  same = let step = comment_step c.args.text.now c.loop-k.k (c.loop-k.k + 2) c.loop-k.depth (omega arith) in
      let other : nat_eq c.loop-k.depth 1 ≡ false = grind (arith, nat_tests) in
      sym (rw (← c.if-opens.ensures, ← c.if-not-closes.ensures, other) at step) ∙ c.loop-k.invariant.same;
}

pub returns-clause-end : goal.returns-clause-end
returns-clause-end c = sym (comment_ends c.args.text.now c.loop-k.k (c.loop-k.k + 2) c.loop-k.depth (omega arith)) ∙ c.loop-k.invariant.same

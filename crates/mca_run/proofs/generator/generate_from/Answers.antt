use Rattle.std.proofs.Common.{◌+◌, ◌-◌, ◌∷◌, [], ◌++◌, ◌∙◌, ap, arith}
use Rattle.mca_run.specs.Load.{generated_from, instruction_of}
use Rattle.mca_run.proofs.Generated.{one_more}
use Rattle.mca_run.proofs.generator.generate_from.Goals as goal

pub loop-preserved : goal.loop-preserved
loop-preserved c = record {
  within = omega (arith, c.loop-test.true);
  front =
      ap (λ items. items ++ generated_from (c.args.count - (c.loop.counter + 1)) c.next_number-x.result) c.in_ok-push.ensures.items
      ∙ ap (λ i. (c.loop.code.items ++ i ∷ []) ++ generated_from (c.args.count - (c.loop.counter + 1)) c.next_number-x.result) c.instruction_of.ensures
      ∙ ap (λ x. (c.loop.code.items ++ instruction_of x ∷ []) ++ generated_from (c.args.count - (c.loop.counter + 1)) x) c.next_number-x.ensures
      ∙ one_more c.args.count c.loop.counter c.loop.x c.loop.code.items (omega (arith, c.loop-test.true))
      ∙ c.loop.invariant.front;
}

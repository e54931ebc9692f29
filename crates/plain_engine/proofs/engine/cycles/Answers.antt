use Rattle.std.proofs.Common.{◌≡◌, ◌≤◌, ◌^◌, arith, refl, subst, sym, ◌∙◌}
use Rattle.std.proofs.lemmas.Bool.{le-leb}
use Rattle.cycle_rules.specs.Row.{Input}
use Rattle.cycle_rules.specs.Events.{retired_below}
use Rattle.engine_steps.specs.Pipeline.{run_of}
use Rattle.plain_engine.proofs.engine.cycles.Goals as goal

pub turn-requires-clause-done : goal.turn-requires-clause-done
turn-requires-clause-done g c = (c.loop-c.c, omega arith, refl, c.loop-c.invariant.done)

pub returns-then-is_over-clause-done : goal.returns-then-is_over-clause-done
returns-then-is_over-clause-done g c = (c.loop-c.c, c.loop-c.invariant.done, sym (c.is_over.ensures c.loop-c.c c.loop-c.invariant.done) ∙ c.if-is_over.true)

pub returns-clause-done : goal.returns-clause-done
returns-clause-done g c =
    let run : Input = run_of g.M.Machine.meaning c.loop-c.pipeline in
    let end : c.loop-c.c ≡ 2 ^ 41 = omega (arith, c.loop-c.auto.c-end, c.loop-c-test.false) in
    let ends : run.rows ≤ retired_below run c.loop-c.c = subst (λ n. run.rows ≤ retired_below run n) (sym end) (subst (λ (r : Input). r.rows ≤ retired_below r (2 ^ 41)) (sym c.loop-c.invariant.run) c.requires.ends) in
    (c.loop-c.c, c.loop-c.invariant.done, le-leb _ _ ends)

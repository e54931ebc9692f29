use Rattle.std.proofs.Common.{sym, ◌∙◌}
use Rattle.sched_checks.specs.Checks.{held_twice}
use Rattle.sched_checks.proofs.Walks.{number_passes, number_fails}
use Rattle.sched_checks.proofs.before.RecordsBefore.holds_any_twice.Goals as goal

pub loop-register-preserved : goal.loop-register-preserved
loop-register-preserved c = number_fails (held_twice c.args.self.now c.args.file.now) c.loop-register.register 32 _ c.loop-register-test.true
    (sym c.if-is_held_twice.false ∙ c.is_held_twice.ensures) c.loop-register.invariant

pub returns-then-is_held_twice : goal.returns-then-is_held_twice
returns-then-is_held_twice c = number_passes (held_twice c.args.self.now c.args.file.now) c.loop-register.register 32 _ c.loop-register-test.true
    (sym c.if-is_held_twice.true ∙ c.is_held_twice.ensures) c.loop-register.invariant

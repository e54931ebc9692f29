use Rattle.std.proofs.Common.{◌∙◌, ap}
use Rattle.sched_resolve.specs.Noted.{is_write_res}
use Rattle.sched_resolve.proofs.SeenSteps.{class_noted}
use Rattle.sched_resolve.proofs.earlier.note_class.Goals as goal

pub returns : goal.returns
returns c = λ n. class_noted (λ k. k.now) n c.args.one.now c.argument_word.result c.args.classes.now.keys c.insert.new.self.keys (c.if-not-is_write_res.ensures ∙ ap is_write_res c.class_in.ensures) c.argument_word.ensures c.in_ok-insert.ensures.keys

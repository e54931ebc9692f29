use Rattle.std.proofs.Common.{sym, ◌∙◌}
use Rattle.sched_checks.proofs.PartsAt.{part_put}
use Rattle.sched_checks.proofs.resources.put_part.Goals as goal

pub returns-in_ok-insert-in-Some : goal.returns-in_ok-insert-in-Some
returns-in_ok-insert-in-Some c = rw c.in-Some.is (part_put _ c.args.parts.now.keys c.insert.new.self.keys c.in-Some.number (sym c.if-plain_at.true ∙ c.plain_at.ensures) c.in_ok-insert-in-Some.ensures.keys)

use Rattle.std.proofs.Common.{◌≡◌, ◌∙◌, sym, true, false}
use Rattle.mem_queues.specs.Order.{is_plain}
use Rattle.engine_steps.proofs.memory.issue_memory.Goals as goal

pub returns-then-is_plain : goal.returns-then-is_plain
returns-then-is_plain c = λ limits since rows s low wait may. let plain : is_plain c.args.kind ≡ true = sym c.is_plain.ensures ∙ c.if-is_plain.true in rw plain s

pub issued-requires : goal.issued-requires
issued-requires c = let other : is_plain c.args.kind ≡ false = sym c.is_plain.ensures ∙ c.if-is_plain.false in (c.requires.0, c.requires.1, c.requires.2, c.requires.3, c.requires.4, c.requires.5 other, c.requires.6)

pub returns : goal.returns
returns c = λ limits since rows s low wait may. let other : is_plain c.args.kind ≡ false = sym c.is_plain.ensures ∙ c.if-is_plain.false in rw other (c.issued.ensures limits since rows s low (wait other) may)

use Rattle.std.proofs.Common.{◌≡◌, ◌∙◌, sym, true, false}
use Rattle.mem_queues.specs.Order.{is_plain}
use Rattle.engine_steps.proofs.memory.enter_memory.Goals as goal

pub returns-then-is_plain : goal.returns-then-is_plain
returns-then-is_plain c = λ limits since rows s few below. let plain : is_plain c.args.kind ≡ true = sym c.is_plain.ensures ∙ c.if-is_plain.true in rw plain s

pub enter-requires : goal.enter-requires
enter-requires c = let other : is_plain c.args.kind ≡ false = sym c.is_plain.ensures ∙ c.if-is_plain.false in (c.requires.0, c.requires.1, c.requires.2, c.requires.3, c.requires.4, other, c.requires.5, c.requires.6)

pub returns : goal.returns
returns c = λ limits since rows s few below. let other : is_plain c.args.kind ≡ false = sym c.is_plain.ensures ∙ c.if-is_plain.false in rw other (c.enter.ensures limits since rows s other few below)

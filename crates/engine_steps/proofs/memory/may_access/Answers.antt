use Rattle.std.proofs.Common.{◌≡◌, ◌∙◌, sym, ap, false}
use Rattle.mem_queues.specs.Order.{is_plain, may_go}
use Rattle.mem_queues.proofs.SameRule.{plain-is}
use Rattle.mem_queues.proofs.Going.{go-plain}
use Rattle.engine_steps.proofs.memory.may_access.Goals as goal

pub returns-then-is_plain : goal.returns-then-is_plain
returns-then-is_plain c = λ limits since rows s low wait kind.
    sym (ap (λ k. may_go k limits.no_alias c.args.row c.args.c rows) (plain-is c.args.kind (sym c.is_plain.ensures ∙ c.if-is_plain.true)) ∙ go-plain limits.no_alias c.args.row c.args.c rows)

pub returns : goal.returns
returns c = λ limits since rows s low wait kind.
    let other : is_plain c.args.kind ≡ false = sym c.is_plain.ensures ∙ c.if-is_plain.false in
    c.may_issue.ensures limits since rows s low (wait other) ∙ ap (λ k. may_go k limits.no_alias c.args.row c.args.c rows) kind

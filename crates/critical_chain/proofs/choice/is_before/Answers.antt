use Rattle.std.proofs.Common.{◌≢◌, arith, sym, ◌∙◌, ap}
use Rattle.std.specs.Prelude.{slice_index}
use Rattle.critical_chain.specs.Graph.{place}
use Rattle.critical_chain.specs.Chain.{kind_number}
use Rattle.critical_chain.proofs.Choices.{apart}
use Rattle.critical_chain.proofs.Orders.{place_at}
use Rattle.critical_chain.proofs.choice.is_before.Goals as goal

pub returns-clause-first : goal.returns-clause-first
returns-clause-first c =
    let order = c.args.order.now in let x = c.args.x in let y = c.args.y in
    let starts : place order x.from ≢ place order y.from
    = λ same. c.if-x-y.false (sym (place_at order x.from (omega (arith, c.requires.x, c.requires.to, c.requires.high))) ∙ ap (slice_index order) same ∙ place_at order y.from (omega (arith, c.requires.y, c.requires.to, c.requires.high))) in
    c.is_earlier.ensures ∙ apart (place order x.from) (place order y.from) (kind_number x.kind) (kind_number y.kind) starts

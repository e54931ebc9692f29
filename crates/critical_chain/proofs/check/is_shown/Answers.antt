use Rattle.std.proofs.Common.{arith, refl, sym, ◌∙◌}
use Rattle.critical_chain.specs.Graph.{edge_at}
use Rattle.critical_chain.specs.Search.{AreJoined}
use Rattle.critical_chain.proofs.check.is_shown.Goals as goal
use Rattle.std.proofs.lemmas.Bool.{false≢true}
use Rattle.critical_chain.proofs.Founds.{joined_chain, chain_has, chain_joined}

pub returns-then-not-are_joined : goal.returns-then-not-are_joined
returns-then-not-are_joined c = (λ e. absurd (false≢true e), λ is. sym c.if-not-are_joined.true ∙ c.are_joined.ensures.1 (chain_joined c.args.edges.now c.args.links.now is.chain.0 is.chain.1 is.chain.2))

pub returns-in_default : goal.returns-in_default
returns-in_default c = (λ e. absurd (false≢true e), λ is. absurd ((c.in_default.ensures).2 (chain_has c.args.edges.now c.args.links.now is.chain.0 is.chain.1 is.chain.2 (c.in_default.ensures).0 (c.in_default.ensures).1)))

pub returns : goal.returns
returns c =
    let edges = c.args.edges.now in let links = c.args.links.now in
    let joined : AreJoined links = c.are_joined.ensures.0 c.if-not-are_joined.false in
    let chain = joined_chain edges links joined c.in-Some.ensures.0 (edge_at links 0).from (λ _. refl) in (
      λ ok. record {
        chain = ((edge_at links 0).from, chain.0, chain.1);
        sum = sym c.if-sum-cost.false ∙ c.in-Some.ensures.1;
        rows = c.if-labels-rows.false;
        grows = c.do_grow.ensures.0 c.if-not-do_grow.false;
        most = λ v lt. c.are_within.ensures.0 ok v (omega (arith, lt, c.if-labels-rows.false));
      },
      λ is. c.are_within.ensures.1 (λ v lt. is.most v (omega (arith, lt, c.if-labels-rows.false))),
    )

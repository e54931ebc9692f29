use Rattle.mca_views.proofs.Loads.{uops_of_rows, uops_fit}
use Rattle.std.proofs.Common.{ap, ◌∙◌, ◌*◌}
use Rattle.mca_views.proofs.totals.total_uops.Goals as goal

pub overflow_mul-result : goal.overflow_mul-result
overflow_mul-result c = uops_fit _ _ _ c.body_uops.ensures.low c.requires.few

pub returns : goal.returns
returns c = λ m. ap (λ n. n * c.args.iterations) c.body_uops.ensures.is ∙ uops_of_rows m c.args.body.now c.args.iterations

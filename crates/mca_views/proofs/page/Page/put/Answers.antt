use Rattle.std.proofs.lemmas.Result.{err_from_is_err_and}
use Rattle.mca_views.proofs.Texts.{over_front}
use Rattle.mca_views.proofs.page.Page.put.Goals as goal

pub returns-in_err-put_bare-clause-long : goal.returns-in_err-put_bare-clause-long
returns-in_err-put_bare-clause-long c = let e = err_from_is_err_and c.from_residual.result c.from_residual.ensures.1 in
    rw (e.1, e.2) (over_front c.args.self.now c.args.bytes.now _ _ _ c.bare_len-n.ensures.split c.in_err-put_bare.ensures.long)

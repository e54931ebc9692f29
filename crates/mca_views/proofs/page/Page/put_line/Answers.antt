use Rattle.std.proofs.lemmas.Result.{err_from_is_err_and}
use Rattle.mca_views.proofs.Pages.{over_added, added_is}
use Rattle.mca_views.proofs.page.Page.put_line.Goals as goal

pub returns-in_err-close-clause-long : goal.returns-in_err-close-clause-long
returns-in_err-close-clause-long c = let e = err_from_is_err_and c.from_residual.result c.from_residual.ensures.1 in
    rw (e.1, e.2) (over_added _ _ c.self.inside.blanks _ _ c.args.bytes.now c.bare_len-n.result _ c.self.view_is c.bare_len-n.ensures.split c.bare_len-n.ensures.bare c.in_err-close.ensures.long)

pub returns-clause-ok : goal.returns-clause-ok
returns-clause-ok c = rw (c.in_ok-close.ensures.ok, c.clear.ensures.items)
    (added_is _ _ c.self.inside.blanks _ _ c.args.bytes.now c.bare_len-n.result c.self.view_is c.bare_len-n.ensures.split c.bare_len-n.ensures.bare)

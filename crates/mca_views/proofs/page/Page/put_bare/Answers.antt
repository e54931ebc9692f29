use Rattle.std.proofs.lemmas.Result.{err_from_is_err_and}
use Rattle.mca_views.proofs.Pages.{kept_bare, over_bare}
use Rattle.mca_views.proofs.page.Page.put_bare.Goals as goal

pub returns-in_err-store_all-clause-long : goal.returns-in_err-store_all-clause-long
returns-in_err-store_all-clause-long c = let p = err_from_is_err_and c.from_residual.result c.from_residual.ensures.1 in
    rw (p.1, p.2) (over_bare _ _ c.self.inside.blanks _ _ _ _ c.self.invariant c.self.view_is c.requires.some c.requires.bare (rw (← c.deref.ensures.value, ← c.left-room.ensures) c.in_err-store_all.ensures.long))

pub invariant_of-self-2 : goal.invariant_of-self-2
invariant_of-self-2 c = rw c.in_ok-store_all.ensures.ok (kept_bare _ _ _ _ _ c.self.invariant c.requires.some c.requires.bare (rw (← c.in_ok-store_all.ensures.ok, ← c.deref.ensures.value, ← c.left-room.ensures) c.in_ok-store_all.ensures.fits))

use Rattle.std.proofs.Common.{◌++◌, [], ◌∷◌, List, ℕ, length}
use Rattle.std.proofs.lemmas.Result.{err_from_is_err_and}
use Rattle.mca_views.specs.Lines.{listed}
use Rattle.mca_views.specs.Shown.{Shown, shown}
use Rattle.mca_views.specs.WaitTimes.{wait_head, wait_line, wait_total}
use Rattle.mca_views.proofs.Listed.{then_lines, over_last, over_longer}
use Rattle.mca_views.proofs.wait_times.put_waits.Goals as goal

pub returns-in_err-put_places-clause-long : goal.returns-in_err-put_places-clause-long
returns-in_err-put_places-clause-long g c = let p = err_from_is_err_and c.from_residual-in_err-put_places.result c.from_residual-in_err-put_places.ensures.1 in
    let s : Shown = shown g.M.Machine.meaning c.args.v.now in
    let rows : List (List ℕ) = listed (length s.body) (wait_line s c.args.o.now) in
    rw (p.1, p.2) (over_longer c.args.page.now (wait_head ++ rows) (wait_total s c.args.o.now ∷ []) _
    (over_last c.put_head.new.page c.args.page.now wait_head rows _ c.in_ok-put_head.ensures.ok c.in_err-put_places.ensures.long))

pub returns-in_err-put_total-clause-long : goal.returns-in_err-put_total-clause-long
returns-in_err-put_total-clause-long g c = let p = err_from_is_err_and c.from_residual-in_err-put_total.result c.from_residual-in_err-put_total.ensures.1 in
    let s : Shown = shown g.M.Machine.meaning c.args.v.now in
    let rows : List (List ℕ) = listed (length s.body) (wait_line s c.args.o.now) in
    rw (p.1, p.2) (over_last c.put_places.new.page c.args.page.now (wait_head ++ rows) (wait_total s c.args.o.now ∷ []) _
    (then_lines c.put_places.new.page c.put_head.new.page c.args.page.now wait_head rows c.in_ok-put_head.ensures.ok c.in_ok-put_places.ensures.ok) c.in_err-put_total.ensures.long)

pub returns-clause-ok : goal.returns-clause-ok
returns-clause-ok g c =
    let s : Shown = shown g.M.Machine.meaning c.args.v.now in
    let rows : List (List ℕ) = listed (length s.body) (wait_line s c.args.o.now) in
    then_lines c.put_total.new.page c.put_places.new.page c.args.page.now (wait_head ++ rows) (wait_total s c.args.o.now ∷ [])
    (then_lines c.put_places.new.page c.put_head.new.page c.args.page.now wait_head rows c.in_ok-put_head.ensures.ok c.in_ok-put_places.ensures.ok) c.in_ok-put_total.ensures.ok

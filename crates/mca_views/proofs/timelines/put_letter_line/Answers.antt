use Rattle.std.proofs.Common.{◌≡◌, ◌++◌, [], refl, sym, ap, ◌∙◌}
use Rattle.std.proofs.lemmas.Result.{err_from_is_err_and}
use Rattle.std.proofs.lemmas.List.{append_assoc, append-nil}
use Rattle.mca_views.specs.Lines.{listed}
use Rattle.mca_views.specs.Page.{more}
use Rattle.mca_views.proofs.Texts.{over_step, over_head, more_more}
use Rattle.mca_views.proofs.timelines.put_letter_line.Goals as goal

pub returns-in_err-put-clause-long : goal.returns-in_err-put-clause-long
returns-in_err-put-clause-long g c = let p = err_from_is_err_and c.from_residual.result c.from_residual.ensures.1 in
    let head = c.args.head.now in let letters = listed c.args.cycles (g.L.Letters.at c.args.letters.now) in
    rw (p.1, p.2) (over_head c.args.page.now head _ _ _ c.requires (append_assoc head letters c.args.tail.now) c.in_err-put.ensures.long)

pub returns-in_err-put_letters-clause-long : goal.returns-in_err-put_letters-clause-long
returns-in_err-put_letters-clause-long g c = let p = err_from_is_err_and c.from_residual-in_err-put_letters.result c.from_residual-in_err-put_letters.ensures.1 in
    let head = c.args.head.now in let letters = listed c.args.cycles (g.L.Letters.at c.args.letters.now) in
    rw (p.1, p.2) (over_head c.args.page.now (head ++ letters) _ _ _ c.requires refl
    (over_step c.put.new.self c.args.page.now head letters _ c.in_ok-put.ensures.ok c.in_err-put_letters.ensures.long))

pub returns-in_err-put-2-clause-long : goal.returns-in_err-put-2-clause-long
returns-in_err-put-2-clause-long g c = let p = err_from_is_err_and c.from_residual-in_err-put-2.result c.from_residual-in_err-put-2.ensures.1 in
    let head = c.args.head.now in let letters = listed c.args.cycles (g.L.Letters.at c.args.letters.now) in
    let lettered : c.put_letters.new.page ≡ more c.args.page.now (head ++ letters) = c.in_ok-put_letters.ensures.ok ∙ ap (λ q. more q letters) c.in_ok-put.ensures.ok ∙ more_more c.args.page.now head letters in
    rw (p.1, p.2) (over_head c.args.page.now (head ++ letters ++ c.args.tail.now) [] _ _ c.requires (sym (append-nil _))
    (over_step c.put_letters.new.page c.args.page.now (head ++ letters) c.args.tail.now _ lettered c.in_err-put-2.ensures.long))

use Rattle.std.proofs.Common.{◌≡◌, ◌-◌, ◌%◌, ◌∙◌, sym, ap, arith}
use Rattle.mca_views.proofs.Places.{place_within}
use Rattle.mca_views.proofs.past.place_of.Goals as goal

pub returns-then-back-place : goal.returns-then-back-place
returns-then-back-place c =
    let back = c.args.j - c.args.k in
    let row : c.args.j - back ≡ c.args.k = omega (arith, c.if-k-j.true) in
    ap (λ p. p - back) c.requires.place ∙ sym (place_within c.args.j c.args.size back c.requires.some (omega (arith, c.requires.place, c.if-back-place.true))) ∙ ap (λ k. k % c.args.size) row

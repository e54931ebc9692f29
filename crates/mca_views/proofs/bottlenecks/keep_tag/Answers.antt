use Rattle.std.proofs.Common.{◌≡◌, ℕ, List, ◌+◌, ◌-◌, ◌∙◌, take, drop, ap, arith}
use Rattle.std.proofs.lemmas.List.{drop-drop, drop-take}
use Rattle.mca_views.proofs.bottlenecks.keep_tag.Goals as goal

pub returns-clause-bytes : goal.returns-clause-bytes
returns-clause-bytes c =
    let b : List ℕ = c.args.buf.now in
    let at : ℕ = c.args.end - 23 in
    let n : ℕ = c.args.start + 23 - c.args.end in
    let m : ℕ = c.args.end - c.args.start in
    let size : c.args.end - at ≡ n + m = omega (arith, c.requires.low, c.requires.within, c.requires.short) in
    let place : at + n ≡ c.args.start = omega (arith, c.requires.low, c.requires.within, c.requires.short) in
    ap (drop n) c.copy_from_slice.ensures.after ∙ ap (λ k. drop n (take k (drop at b))) size ∙ drop-take n m (drop at b)
    ∙ ap (take m) (drop-drop n at b) ∙ ap (λ k. take m (drop k b)) place

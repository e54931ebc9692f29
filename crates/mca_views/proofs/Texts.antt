-- What a page has while bytes or lines are put on it one after another.
use Rattle.std.proofs.Common.{◌≡◌, ℕ, ◌+◌, ◌≤◌, ◌<◌, List, [], ◌∷◌, ◌++◌, length, take, drop, get_or, refl, sym, ap, ◌∙◌, arith, subst}
use Rattle.std.proofs.lemmas.List.{append-nil, append_assoc, length-append, take-append-drop, take_more}
use Rattle.mca_views.specs.declared.fault.ViewFault.{ViewFault}
use Rattle.mca_views.specs.Fault.{Over}
use Rattle.mca_views.specs.Lines.{trimmed, line, lines}
use Rattle.mca_views.specs.Page.{Written, size, more, added}
use Rattle.mca_views.proofs.Trims.{trimmed_more}
use Rattle.mca_views.proofs.Pages.{over_more}

pub size_more : (p : Written) (xs ys : List ℕ) → size (more p xs) ≤ size (more p (xs ++ ys))
size_more p xs ys = let e : length (trimmed (p.open_line ++ (xs ++ ys))) ≡ length (trimmed ((p.open_line ++ xs) ++ ys)) = ap (λ l. length (trimmed l)) (sym (append_assoc p.open_line xs ys)) in omega (arith, e, trimmed_more (p.open_line ++ xs) ys)

pub lines_append : (xs ys : List (List ℕ)) → lines (xs ++ ys) ≡ lines xs ++ lines ys
lines_append [] ys = refl
lines_append (x ∷ xs) ys = ap (λ l. line x ++ l) (lines_append xs ys) ∙ sym (append_assoc (line x) (lines xs) (lines ys))

pub lines_take : (ls : List (List ℕ)) (k : ℕ) → k < length ls → lines (take (k + 1) ls) ≡ lines (take k ls) ++ line (get_or ls k [])
lines_take ls k within = ap lines (take_more ls k [] within) ∙ lines_append (take k ls) (get_or ls k [] ∷ []) ∙ ap (λ l. lines (take k ls) ++ l) (append-nil (line (get_or ls k [])))

pub added_line : (p old : Written) (ls : List (List ℕ)) (k : ℕ) → k < length ls → p ≡ added old (lines (take k ls)) → added p (line (get_or ls k [])) ≡ added old (lines (take (k + 1) ls))
added_line p old ls k within is = subst (λ q. added q (line (get_or ls k [])) ≡ added old (lines (take (k + 1) ls))) (sym is)
    (ap (λ t. record { text = t; open_line = []; room = old.room }) (append_assoc old.text (lines (take k ls)) (line (get_or ls k [])) ∙ ap (λ l. old.text ++ l) (sym (lines_take ls k within))))

-- a line that is too much makes the whole too long
pub over_line : (p old : Written) (ls : List (List ℕ)) (k : ℕ) (f : ViewFault) → k < length ls → p ≡ added old (lines (take k ls)) →
    Over p.room (length (added p (line (get_or ls k []))).text) f → Over old.room (length (added old (lines ls)).text) f
over_line p old ls k f within is over =
    let room : p.room ≡ old.room = ap (λ q. q.room) is in
    let there : Over p.room (length (added old (lines (take (k + 1) ls))).text) f = subst (λ q. Over p.room (length q.text) f) (added_line p old ls k within is) over in
    let whole : lines ls ≡ lines (take (k + 1) ls) ++ lines (drop (k + 1) ls) = ap lines (sym (take-append-drop (k + 1) ls)) ∙ lines_append (take (k + 1) ls) (drop (k + 1) ls) in
    let le : length (added old (lines (take (k + 1) ls))).text ≤ length (added old (lines ls)).text = omega (arith, length-append old.text (lines (take (k + 1) ls)), length-append old.text (lines ls), ap length whole, length-append (lines (take (k + 1) ls)) (lines (drop (k + 1) ls))) in
    over_more old.room _ _ f (subst (λ r. Over r (length (added old (lines (take (k + 1) ls))).text) f) room there) le

pub more_more : (p : Written) (xs ys : List ℕ) → more (more p xs) ys ≡ more p (xs ++ ys)
more_more p xs ys = ap (λ l. record { text = p.text; open_line = l; room = p.room }) (append_assoc p.open_line xs ys)

-- what is too much behind a piece is too much with it
pub over_step : (p old : Written) (xs ys : List ℕ) (f : ViewFault) → p ≡ more old xs → Over p.room (size (more p ys)) f → Over old.room (size (more old (xs ++ ys))) f
over_step p old xs ys f is over =
    let there : Over old.room (size (more (more old xs) ys)) f = subst (λ q. Over q.room (size (more q ys)) f) is over in
    subst (λ q. Over old.room (size q) f) (more_more old xs ys) there

-- a piece at the head of a line that is too much makes the line too long
pub over_head : (p : Written) (xs ys whole : List ℕ) (f : ViewFault) → p.open_line ≡ [] → whole ≡ xs ++ ys → Over p.room (size (more p xs)) f → Over p.room (length (p.text ++ line whole)) f
over_head p xs ys whole f none is over =
    let here : length (trimmed (p.open_line ++ xs)) ≡ length (trimmed xs) = ap (λ l. length (trimmed (l ++ xs))) none in
    subst (λ l. Over p.room (length (p.text ++ line l)) f) (sym is)
    (over_more p.room _ _ f over (omega (arith, here, trimmed_more xs ys, length-append p.text (line (xs ++ ys)), length-append (trimmed (xs ++ ys)) (10 ∷ []))))

-- bytes at the front that are too much
pub over_front : (p : Written) (bs xs ys : List ℕ) (f : ViewFault) → bs ≡ xs ++ ys → Over p.room (size (more p xs)) f → Over p.room (size (more p bs)) f
over_front p bs xs ys f is over = subst (λ l. Over p.room (size (more p l)) f) (sym is) (over_more p.room _ _ f over (size_more p xs ys))

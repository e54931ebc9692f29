-- Lists that are written one after another.
use Rattle.std.proofs.Common.{◌≡◌, ◌≤◌, ◌<◌, ◌+◌, ◌-◌, [], ◌∷◌, ◌++◌, ℕ, zero, suc, List, length, sym, ap, ◌∙◌, subst, arith}
use Rattle.std.proofs.lemmas.List.{append-nil, append_assoc, length-append}
use Rattle.mca_views.specs.Page.{Written, size, more, added}
use Rattle.mca_views.specs.Fault.{Over}
use Rattle.mca_views.specs.Lines.{line, lines, listed}
use Rattle.mca_views.specs.declared.fault.ViewFault.{ViewFault}
use Rattle.mca_views.proofs.Pages.{over_more}
use Rattle.mca_views.proofs.Texts.{more_more, over_step, size_more, lines_append}

pub listed_none : (p : Written) (f : ℕ → ℕ) → p ≡ more p (listed 0 f)
unfolding listed
listed_none p f = ap (λ l. record { text = p.text; open_line = l; room = p.room }) (sym (append-nil p.open_line))

pub listed_more : {A : Type 0} (c : ℕ) (f : ℕ → A) → listed (c + 1) f ≡ listed c f ++ f c ∷ []
unfolding listed
listed_more c f = let e : c + 1 ≡ suc c = omega arith in ap (λ n. listed n f) e

pub listed_next : (p q : Written) (c : ℕ) (f : ℕ → ℕ) → q ≡ more p (listed c f) → more q (f c ∷ []) ≡ more p (listed (c + 1) f)
listed_next p q c f is = subst (λ q. more q (f c ∷ []) ≡ more p (listed (c + 1) f)) (sym is) (more_more p (listed c f) (f c ∷ []) ∙ ap (λ l. more p l) (sym (listed_more c f)))

-- the first of a list are a front of it
pub listed_front : {A : Type 0} (n k : ℕ) (f : ℕ → A) → (rest : List A) × (listed (n + k) f ≡ listed n f ++ rest)
listed_front n zero f = ([], (let e : n + 0 ≡ n = omega arith in ap (λ m. listed m f) e) ∙ sym (append-nil (listed n f)))
listed_front n (suc k) f = let r = listed_front n k f in let e : n + suc k ≡ (n + k) + 1 = omega arith in
    (r.0 ++ f (n + k) ∷ [], ap (λ m. listed m f) e ∙ listed_more (n + k) f ∙ ap (λ l. l ++ f (n + k) ∷ []) r.1 ∙ append_assoc (listed n f) r.0 (f (n + k) ∷ []))

pub over_listed : (p q : Written) (c n : ℕ) (f : ℕ → ℕ) (e : ViewFault) → c < n → q ≡ more p (listed c f) → Over q.room (size (more q (f c ∷ []))) e → Over p.room (size (more p (listed n f))) e
over_listed p q c n f e lt is over =
    let here : Over p.room (size (more p (listed (c + 1) f))) e = subst (λ l. Over p.room (size (more p l)) e) (sym (listed_more c f)) (over_step q p (listed c f) (f c ∷ []) e is over) in
    let r = listed_front (c + 1) (n - (c + 1)) f in
    let same : (c + 1) + (n - (c + 1)) ≡ n = omega (arith, lt) in
    let whole : listed n f ≡ listed (c + 1) f ++ r.0 = ap (λ m. listed m f) (sym same) ∙ r.1 in
    over_more p.room _ _ e here (subst (λ l. size (more p (listed (c + 1) f)) ≤ size (more p l)) (sym whole) (size_more p (listed (c + 1) f) r.0))

-- Lines that are put on a page one after another, behind others

pub lines_behind : (p old : Written) (xs ys : List (List ℕ)) → p ≡ added old (lines xs) → added p (lines ys) ≡ added old (lines (xs ++ ys))
lines_behind p old xs ys is = subst (λ q. added q (lines ys) ≡ added old (lines (xs ++ ys))) (sym is)
    (ap (λ t. record { text = t; open_line = []; room = old.room }) (append_assoc old.text (lines xs) (lines ys) ∙ ap (λ l. old.text ++ l) (sym (lines_append xs ys))))

-- lines that are too much make the whole too long
pub over_behind : (p old : Written) (xs ys zs : List (List ℕ)) (e : ViewFault) → p ≡ added old (lines xs) → Over p.room (length (added p (lines ys)).text) e
    → Over old.room (length (added old (lines (xs ++ (ys ++ zs)))).text) e
over_behind p old xs ys zs e is over =
    let room : p.room ≡ old.room = ap (λ q. q.room) is in
    let there : Over old.room (length (added old (lines (xs ++ ys))).text) e =
    subst (λ r. Over r (length (added old (lines (xs ++ ys))).text) e) room (subst (λ q. Over p.room (length q.text) e) (lines_behind p old xs ys is) over) in
    let whole : lines (xs ++ (ys ++ zs)) ≡ lines (xs ++ ys) ++ lines zs = ap lines (sym (append_assoc xs ys zs)) ∙ lines_append (xs ++ ys) zs in
    over_more old.room _ _ e there
    (omega (arith, length-append old.text (lines (xs ++ ys)), length-append old.text (lines (xs ++ (ys ++ zs))), ap length whole, length-append (lines (xs ++ ys)) (lines zs)))

-- a line as a list of lines
pub line_alone : (p : Written) (l : List ℕ) → added p (line l) ≡ added p (lines (l ∷ []))
line_alone p l = ap (λ t. record { text = p.text ++ t; open_line = []; room = p.room }) (sym (append-nil (line l)))

pub added_none : (p : Written) → p.open_line ≡ [] → p ≡ added p (lines [])
added_none p closed = λ i. record { text = sym (append-nil p.text) i; open_line = closed i; room = p.room }

-- the next of the lines of a list
pub next_line : (p old : Written) (k : ℕ) (f : ℕ → List ℕ) → p ≡ added old (lines (listed k f)) → added p (line (f k)) ≡ added old (lines (listed (k + 1) f))
next_line p old k f is = line_alone p (f k) ∙ lines_behind p old (listed k f) (f k ∷ []) is ∙ ap (λ l. added old (lines l)) (sym (listed_more k f))

pub no_line : (p : Written) (f : ℕ → List ℕ) → p.open_line ≡ [] → p ≡ added p (lines (listed 0 f))
unfolding listed
no_line p f closed = added_none p closed

pub over_next : (p old : Written) (k n : ℕ) (f : ℕ → List ℕ) (e : ViewFault) → k < n → p ≡ added old (lines (listed k f)) → Over p.room (length (added p (line (f k))).text) e
    → Over old.room (length (added old (lines (listed n f))).text) e
over_next p old k n f e lt is over =
    let r = listed_front (k + 1) (n - (k + 1)) f in
    let same : (k + 1) + (n - (k + 1)) ≡ n = omega (arith, lt) in
    let whole : listed n f ≡ listed k f ++ (f k ∷ [] ++ r.0) = ap (λ m. listed m f) (sym same) ∙ r.1 ∙ ap (λ l. l ++ r.0) (listed_more k f) ∙ append_assoc (listed k f) (f k ∷ []) r.0 in
    subst (λ l. Over old.room (length (added old (lines l)).text) e) (sym whole)
    (over_behind p old (listed k f) (f k ∷ []) r.0 e is (subst (λ q. Over p.room (length q.text) e) (line_alone p (f k)) over))

-- Lists of lines one after another

pub then_lines : (q p old : Written) (xs ys : List (List ℕ)) → p ≡ added old (lines xs) → q ≡ added p (lines ys) → q ≡ added old (lines (xs ++ ys))
then_lines q p old xs ys is more = more ∙ lines_behind p old xs ys is

pub over_longer : (old : Written) (xs zs : List (List ℕ)) (e : ViewFault) → Over old.room (length (added old (lines xs)).text) e → Over old.room (length (added old (lines (xs ++ zs))).text) e
over_longer old xs zs e over = over_more old.room _ _ e over
    (omega (arith, length-append old.text (lines xs), length-append old.text (lines (xs ++ zs)), ap length (lines_append xs zs), length-append (lines xs) (lines zs)))

pub over_last : (p old : Written) (xs ys : List (List ℕ)) (e : ViewFault) → p ≡ added old (lines xs) → Over p.room (length (added p (lines ys)).text) e
    → Over old.room (length (added old (lines (xs ++ ys))).text) e
over_last p old xs ys e is over = subst (λ q. Over q.room (length q.text) e) (lines_behind p old xs ys is) over

-- The parts of the report of a region, put on a page one after another.
use Rattle.std.proofs.Common.{◌≡◌, ℕ, List, ◌++◌, length}
use Rattle.mca_views.specs.Fault.{Over}
use Rattle.mca_views.specs.Lines.{lines}
use Rattle.mca_views.specs.Page.{Written, added}
use Rattle.mca_views.specs.declared.fault.ViewFault.{ViewFault}
use Rattle.mca_views.proofs.Listed.{then_lines, over_last, over_longer}

abbrev pub parts : (a b c d e f : List (List ℕ)) → List (List ℕ)
parts a b c d e f = a ++ b ++ c ++ d ++ e ++ f

-- the page after some of them, and after all
pub after_2 : (p q r : Written) (a b : List (List ℕ)) → q ≡ added p (lines a) → r ≡ added q (lines b) → r ≡ added p (lines (a ++ b))
after_2 p q r a b h1 h2 = then_lines r q p a b h1 h2

pub after_3 : (p q r s : Written) (a b c : List (List ℕ)) → q ≡ added p (lines a) → r ≡ added q (lines b) → s ≡ added r (lines c) → s ≡ added p (lines (a ++ b ++ c))
after_3 p q r s a b c h1 h2 h3 = then_lines s r p (a ++ b) c (after_2 p q r a b h1 h2) h3

pub after_4 : (p q r s t : Written) (a b c d : List (List ℕ)) → q ≡ added p (lines a) → r ≡ added q (lines b) → s ≡ added r (lines c) → t ≡ added s (lines d) → t ≡ added p (lines (a ++ b ++ c ++ d))
after_4 p q r s t a b c d h1 h2 h3 h4 = then_lines t s p (a ++ b ++ c) d (after_3 p q r s a b c h1 h2 h3) h4

pub after_5 : (p q r s t u : Written) (a b c d e : List (List ℕ)) → q ≡ added p (lines a) → r ≡ added q (lines b) → s ≡ added r (lines c) → t ≡ added s (lines d) → u ≡ added t (lines e) → u ≡ added p (lines (a ++ b ++ c ++ d ++ e))
after_5 p q r s t u a b c d e h1 h2 h3 h4 h5 = then_lines u t p (a ++ b ++ c ++ d) e (after_4 p q r s t a b c d h1 h2 h3 h4) h5

pub after_6 : (p q r s t u v : Written) (a b c d e f : List (List ℕ)) → q ≡ added p (lines a) → r ≡ added q (lines b) → s ≡ added r (lines c) → t ≡ added s (lines d) → u ≡ added t (lines e) → v ≡ added u (lines f) → v ≡ added p (lines (parts a b c d e f))
after_6 p q r s t u v a b c d e f h1 h2 h3 h4 h5 h6 = then_lines v u p (a ++ b ++ c ++ d ++ e) f (after_5 p q r s t u a b c d e h1 h2 h3 h4 h5) h6

-- the one that is too much makes the whole too long
pub over_1 : (p : Written) (a b c d e f : List (List ℕ)) (err : ViewFault) → Over p.room (length (added p (lines a)).text) err → Over p.room (length (added p (lines (parts a b c d e f))).text) err
over_1 p a b c d e f err over = over_longer p (a ++ b ++ c ++ d ++ e) f err (over_longer p (a ++ b ++ c ++ d) e err (over_longer p (a ++ b ++ c) d err (over_longer p (a ++ b) c err (over_longer p a b err over))))

pub over_2 : (p q : Written) (a b c d e f : List (List ℕ)) (err : ViewFault) → q ≡ added p (lines a) → Over q.room (length (added q (lines b)).text) err → Over p.room (length (added p (lines (parts a b c d e f))).text) err
over_2 p q a b c d e f err h1 over = over_longer p (a ++ b ++ c ++ d ++ e) f err (over_longer p (a ++ b ++ c ++ d) e err (over_longer p (a ++ b ++ c) d err (over_longer p (a ++ b) c err (over_last q p a b err h1 over))))

pub over_3 : (p q r : Written) (a b c d e f : List (List ℕ)) (err : ViewFault) → q ≡ added p (lines a) → r ≡ added q (lines b) → Over r.room (length (added r (lines c)).text) err → Over p.room (length (added p (lines (parts a b c d e f))).text) err
over_3 p q r a b c d e f err h1 h2 over = over_longer p (a ++ b ++ c ++ d ++ e) f err (over_longer p (a ++ b ++ c ++ d) e err (over_longer p (a ++ b ++ c) d err (over_last r p (a ++ b) c err (after_2 p q r a b h1 h2) over)))

pub over_4 : (p q r s : Written) (a b c d e f : List (List ℕ)) (err : ViewFault) → q ≡ added p (lines a) → r ≡ added q (lines b) → s ≡ added r (lines c) → Over s.room (length (added s (lines d)).text) err → Over p.room (length (added p (lines (parts a b c d e f))).text) err
over_4 p q r s a b c d e f err h1 h2 h3 over = over_longer p (a ++ b ++ c ++ d ++ e) f err (over_longer p (a ++ b ++ c ++ d) e err (over_last s p (a ++ b ++ c) d err (after_3 p q r s a b c h1 h2 h3) over))

pub over_5 : (p q r s t : Written) (a b c d e f : List (List ℕ)) (err : ViewFault) → q ≡ added p (lines a) → r ≡ added q (lines b) → s ≡ added r (lines c) → t ≡ added s (lines d) → Over t.room (length (added t (lines e)).text) err → Over p.room (length (added p (lines (parts a b c d e f))).text) err
over_5 p q r s t a b c d e f err h1 h2 h3 h4 over = over_longer p (a ++ b ++ c ++ d ++ e) f err (over_last t p (a ++ b ++ c ++ d) e err (after_4 p q r s t a b c d h1 h2 h3 h4) over)

pub over_6 : (p q r s t u : Written) (a b c d e f : List (List ℕ)) (err : ViewFault) → q ≡ added p (lines a) → r ≡ added q (lines b) → s ≡ added r (lines c) → t ≡ added s (lines d) → u ≡ added t (lines e) → Over u.room (length (added u (lines f)).text) err → Over p.room (length (added p (lines (parts a b c d e f))).text) err
over_6 p q r s t u a b c d e f err h1 h2 h3 h4 h5 over = over_last u p (a ++ b ++ c ++ d ++ e) f err (after_5 p q r s t u a b c d e h1 h2 h3 h4 h5) over

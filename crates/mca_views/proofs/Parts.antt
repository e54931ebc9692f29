-- Lists of lines that are put on a page one after another.
use Rattle.std.proofs.Common.{◌≡◌, ℕ, List, ◌++◌, length}
use Rattle.mca_views.specs.Fault.{Over}
use Rattle.mca_views.specs.Lines.{lines}
use Rattle.mca_views.specs.Page.{Written, added}
use Rattle.mca_views.specs.declared.fault.ViewFault.{ViewFault}
use Rattle.mca_views.proofs.Listed.{then_lines, over_last, over_longer}

abbrev pub parts : (a b c : List (List ℕ)) → List (List ℕ)
parts a b c = a ++ b ++ c

-- the page after some of them, and after all
pub after_2 : (p q r : Written) (a b : List (List ℕ)) → q ≡ added p (lines a) → r ≡ added q (lines b) → r ≡ added p (lines (a ++ b))
after_2 p q r a b one two = then_lines r q p a b one two

pub after_3 : (p q r s : Written) (a b c : List (List ℕ)) → q ≡ added p (lines a) → r ≡ added q (lines b) → s ≡ added r (lines c) → s ≡ added p (lines (parts a b c))
after_3 p q r s a b c one two three = then_lines s r p (a ++ b) c (after_2 p q r a b one two) three

-- the one that is too much makes the whole too long
pub over_1 : (p : Written) (a b c : List (List ℕ)) (e : ViewFault) → Over p.room (length (added p (lines a)).text) e → Over p.room (length (added p (lines (parts a b c))).text) e
over_1 p a b c e over = over_longer p (a ++ b) c e (over_longer p a b e over)

pub over_2 : (p q : Written) (a b c : List (List ℕ)) (e : ViewFault) → q ≡ added p (lines a) → Over q.room (length (added q (lines b)).text) e → Over p.room (length (added p (lines (parts a b c))).text) e
over_2 p q a b c e one over = over_longer p (a ++ b) c e (over_last q p a b e one over)

pub over_3 : (p q r : Written) (a b c : List (List ℕ)) (e : ViewFault) → q ≡ added p (lines a) → r ≡ added q (lines b) → Over r.room (length (added r (lines c)).text) e
    → Over p.room (length (added p (lines (parts a b c))).text) e
over_3 p q r a b c e one two over = over_last r p (a ++ b) c e (after_2 p q r a b one two) over

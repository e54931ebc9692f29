-- A view that is on, behind an empty line.
use Rattle.std.proofs.Common.{◌≡◌, List, ℕ, [], ◌∷◌, length, Bool, true, false, ◌∙◌}
use Rattle.mca_views.specs.Fault.{Over}
use Rattle.mca_views.specs.Lines.{line, lines}
use Rattle.mca_views.specs.Page.{Written, added}
use Rattle.mca_views.specs.Region.{part}
use Rattle.mca_views.specs.declared.fault.ViewFault.{ViewFault}
use Rattle.mca_views.proofs.Listed.{line_alone, then_lines, over_last}

pub part_on : (on : Bool) (p q r : Written) (ls : List (List ℕ)) → on ≡ true → q ≡ added p (line []) → r ≡ added q (lines ls) → r ≡ added p (lines (part on ls))
part_on true p q r ls e one two = then_lines r q p ([] ∷ []) ls (one ∙ line_alone p []) two
part_on false p q r ls e one two = cc

pub over_part : (on : Bool) (p q : Written) (ls : List (List ℕ)) (e : ViewFault) → on ≡ true → q ≡ added p (line []) → Over q.room (length (added q (lines ls)).text) e
    → Over p.room (length (added p (lines (part on ls))).text) e
over_part true p q ls e is one over = over_last q p ([] ∷ []) ls e (one ∙ line_alone p []) over
over_part false p q ls e is one over = cc

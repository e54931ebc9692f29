-- Lines that are put on a page row by row.
use Rattle.std.proofs.Common.{zero, suc, ◌≡◌, ℕ, ◌+◌, ◌-◌, ◌<◌, ◌/◌, ◌%◌, List, [], ◌++◌, length, true, sym, ap, ◌∙◌, arith, subst}
use Rattle.std.specs.Prelude.{nat_lt}
use Rattle.std.proofs.lemmas.List.{append-nil, append_assoc}
use Rattle.std.proofs.lemmas.Bool.{lt-ltb}
use Rattle.mca_fixed.specs.Padding.{spaces}
use Rattle.cycle_rules.specs.Row.{times}
use Rattle.mca_views.specs.declared.fault.ViewFault.{ViewFault}
use Rattle.mca_views.specs.Fault.{Over}
use Rattle.mca_views.specs.Lines.{cell, line, lines, listed}
use Rattle.mca_views.specs.Page.{Written, added}
use Rattle.mca_views.specs.Shown.{Shown, spelled}
use Rattle.mca_views.specs.Timeline.{letter, tag, row_line, lines_of_row, row_lines}
use Rattle.mca_views.proofs.Listed.{lines_behind, over_behind}

pub rows_more : (s : Shown) (cycles j : ℕ) → row_lines s cycles (j + 1) ≡ row_lines s cycles j ++ lines_of_row s cycles j
unfolding row_lines
rows_more s cycles j = let e : j + 1 ≡ suc j = omega arith in ap (λ n. row_lines s cycles n) e

pub rows_front : (s : Shown) (cycles n k : ℕ) → (rest : List (List ℕ)) × (row_lines s cycles (n + k) ≡ row_lines s cycles n ++ rest)
rows_front s cycles n zero = ([], (let e : n + 0 ≡ n = omega arith in ap (λ m. row_lines s cycles m) e) ∙ sym (append-nil (row_lines s cycles n)))
rows_front s cycles n (suc k) = let r = rows_front s cycles n k in let e : n + suc k ≡ (n + k) + 1 = omega arith in
    (r.0 ++ lines_of_row s cycles (n + k), ap (λ m. row_lines s cycles m) e ∙ rows_more s cycles (n + k) ∙ ap (λ l. l ++ lines_of_row s cycles (n + k)) r.1 ∙ append_assoc (row_lines s cycles n) r.0 (lines_of_row s cycles (n + k)))

pub rows_next : (p q : Written) (s : Shown) (cycles j : ℕ) → q ≡ added p (lines (row_lines s cycles j)) → added q (lines (lines_of_row s cycles j)) ≡ added p (lines (row_lines s cycles (j + 1)))
rows_next p q s cycles j is = lines_behind q p (row_lines s cycles j) (lines_of_row s cycles j) is ∙ ap (λ l. added p (lines l)) (sym (rows_more s cycles j))

pub over_rows : (p q : Written) (s : Shown) (cycles j n : ℕ) (f : ViewFault) → j < n → q ≡ added p (lines (row_lines s cycles j)) → Over q.room (length (added q (lines (lines_of_row s cycles j))).text) f
    → Over p.room (length (added p (lines (row_lines s cycles n))).text) f
over_rows p q s cycles j n f lt is over =
    let r = rows_front s cycles (j + 1) (n - (j + 1)) in
    let same : (j + 1) + (n - (j + 1)) ≡ n = omega (arith, lt) in
    let whole : row_lines s cycles n ≡ row_lines s cycles j ++ (lines_of_row s cycles j ++ r.0) =
    ap (λ m. row_lines s cycles m) (sym same) ∙ r.1 ∙ ap (λ l. l ++ r.0) (rows_more s cycles j) ∙ append_assoc (row_lines s cycles j) (lines_of_row s cycles j) r.0 in
    subst (λ l. Over p.room (length (added p (lines l)).text) f) (sym whole) (over_behind q p (row_lines s cycles j) (lines_of_row s cycles j) r.0 f is over)

pub row_some : (s : Shown) (cycles j : ℕ) (head tail : List ℕ) → (times s.table j).dispatch < cycles → head ≡ cell (tag (j / length s.body) (j % length s.body)) 10 → tail ≡ spaces 3 ++ spelled s (j % length s.body)
    → lines (lines_of_row s cycles j) ≡ line (head ++ listed cycles (letter (times s.table j)) ++ tail)
row_some s cycles j head tail early h t =
    let shown_ : nat_lt (times s.table j).dispatch cycles ≡ true = lt-ltb _ _ early in
    let letters : List ℕ = listed cycles (letter (times s.table j)) in
    rw shown_ (append-nil (line (row_line s cycles j)))
    ∙ ap line (append_assoc (cell (tag (j / length s.body) (j % length s.body)) 10 ++ letters) (spaces 3) (spelled s (j % length s.body))
    ∙ (λ i. sym h i ++ letters ++ sym t i))

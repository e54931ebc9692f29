-- How long the numbers of a tag are, and the pieces of a link's line.
use Rattle.std.proofs.Common.{◌≡◌, ℕ, ◌+◌, ◌/◌, ◌%◌, ◌^◌, ◌<◌, ◌≤◌, List, ◌++◌, length, drop, sym, ap, ◌∙◌, arith}
use Rattle.std.specs.Fmt.{decimal}
use Rattle.std.proofs.lemmas.Fmt.{length-decimal-le}
use Rattle.std.proofs.lemmas.List.{append_assoc, drop-drop, drop-append-le}
use Rattle.std.proofs.Math.Nat.{mod-le, div-le_self}
use Rattle.std.proofs.Math.Seq.{drop-append_seam}

pub short_place : (j n : ℕ) → j < 2 ^ 32 → length (decimal (j % n)) ≤ 10
short_place j n fits = let le = mod-le j n in length-decimal-le 10 (j % n) (omega arith) (omega (arith, fits, le)) (omega (arith, fits, le))

pub short_iteration : (j n : ℕ) → j < 2 ^ 32 → length (decimal (j / n)) ≤ 10
short_iteration j n fits = let le = div-le_self j n in length-decimal-le 10 (j / n) (omega arith) (omega (arith, fits, le)) (omega (arith, fits, le))

-- seven pieces, one behind another
pub pieces : (a b c d e f h : List ℕ) → a ++ b ++ c ++ d ++ e ++ f ++ h ≡ a ++ (b ++ (c ++ (d ++ (e ++ (f ++ h)))))
pieces a b c d e f h =
    append_assoc (a ++ b ++ c ++ d ++ e) f h
    ∙ append_assoc (a ++ b ++ c ++ d) e (f ++ h)
    ∙ append_assoc (a ++ b ++ c) d (e ++ (f ++ h))
    ∙ append_assoc (a ++ b) c (d ++ (e ++ (f ++ h)))
    ∙ append_assoc a b (c ++ (d ++ (e ++ (f ++ h))))

-- what is dropped of bytes at the front of others
pub drop_more : (at start : ℕ) (all bytes rest : List ℕ) → start ≤ length bytes → drop at all ≡ bytes ++ rest → drop (at + start) all ≡ drop start bytes ++ rest
drop_more at start all bytes rest le is = sym (drop-drop start at all) ∙ ap (drop start) is ∙ drop-append-le start bytes rest le

-- and what stands behind them
pub drop_behind : (at end : ℕ) (all bytes rest : List ℕ) → at + length bytes ≡ end → drop at all ≡ bytes ++ rest → drop end all ≡ rest
drop_behind at end all bytes rest ends is = ap (λ k. drop k all) (sym ends) ∙ sym (drop-drop (length bytes) at all) ∙ ap (drop (length bytes)) is ∙ drop-append_seam bytes rest

-- One step of each loop over bytes, as equations of lists.
use Rattle.std.proofs.Common.{◌≡◌, ℕ, ◌+◌, ◌-◌, ◌<◌, ◌≤◌, List, [], ◌∷◌, length, drop, get_or, suc, refl, arith, length-drop, add-one, drop-cons, nat_eq, if◌then◌else◌, Some, None}
use Rattle.sched_records.specs.Pieces.{comment_end, opens, closes}

pub comment_step : (text : List ℕ) (k n depth : ℕ) → k + 1 < length text →
    comment_end n depth (drop k text) ≡
    (if opens (get_or text k 0) (get_or text (k + 1) 0) then comment_end (n + 2) (depth + 1) (drop (k + 2) text) else
    if closes (get_or text k 0) (get_or text (k + 1) 0) then (if nat_eq depth 1 then Some (n + 2) else comment_end (n + 2) (depth - 1) (drop (k + 2) text)) else
    comment_end (n + 1) depth (drop (k + 1) text))
comment_step text k n depth h =
    let low : k < length text = omega arith in
    let first : drop k text ≡ get_or text k 0 ∷ drop (k + 1) text = rw (add-one, drop-cons text k 0) refl in
    let second : drop (k + 1) text ≡ get_or text (k + 1) 0 ∷ drop (k + 2) text = let e : suc (k + 1) ≡ k + 2 = omega arith in rw (drop-cons text (k + 1) 0, e) refl in
    rw (first, second) refl

-- a comment does not end within one byte
short_comment : (text : List ℕ) (n depth : ℕ) → length text ≤ 1 → comment_end n depth text ≡ None
short_comment [] n depth h = refl
short_comment (a ∷ []) n depth h = refl
short_comment (a ∷ b ∷ bs) n depth h = absurd (omega arith)

pub comment_ends : (text : List ℕ) (k n depth : ℕ) → length text ≤ k + 1 → comment_end n depth (drop k text) ≡ None
comment_ends text k n depth h = short_comment (drop k text) n depth (omega (arith, length-drop k text))

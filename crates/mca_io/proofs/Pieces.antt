-- Bytes appended piece by piece.
use Rattle.std.proofs.Common.{◌≡◌, ℕ, ◌+◌, ◌-◌, ◌≤◌, List, ◌++◌, length, take, drop, None, Some, sym, ◌∙◌, ap, subst, append_assoc, take-add, arith, length-drop, length-take}
use Rattle.std.proofs.lemmas.List.{take_all, take-append-le}
use Rattle.std.proofs.lemmas.Simd.{chunk-drop}
use Rattle.std.specs.declared.option.Option.{Option}
use Rattle.std.specs.Io.KnownBytes.{Appends}

-- two pieces one after the other are one
both : (a b c : Option (List ℕ)) (bytes : List ℕ) (at n : ℕ) → Appends a b (take at bytes) → Appends b c (take n (drop at bytes)) → Appends a c (take (at + n) bytes)
both None b c bytes at n p q = tt
both (Some xs) None c bytes at n p q = absurd p
both (Some xs) (Some ys) None bytes at n p q = absurd q
both (Some xs) (Some ys) (Some zs) bytes at n p q = q ∙ ap (λ s. s ++ take n (drop at bytes)) p ∙ append_assoc xs (take at bytes) (take n (drop at bytes)) ∙ ap (λ s. xs ++ s) (sym (take-add at n bytes))

-- the same where the second comes from the slice `bytes[at..]`
pub appends_more : (a b c : Option (List ℕ)) (bytes : List ℕ) (at n : ℕ) → Appends a b (take at bytes) → Appends b c (take n (take (length bytes - at) (drop at bytes))) → Appends a c (take (at + n) bytes)
appends_more a b c bytes at n p q = both a b c bytes at n p (subst (λ s. Appends b c (take n s)) (take_all (length bytes - at) (drop at bytes) (omega (arith, length-drop at bytes))) q)

-- what was put at the start of a buffer, and then what is left, is what was left before
pub rest_read : (bytes buffer front : List ℕ) (at n : ℕ) → front ≡ take n (drop at bytes) → at + n ≤ length bytes → drop at bytes ≡ take n (front ++ drop n buffer) ++ drop (at + n) bytes
rest_read bytes buffer front at n is within =
    let long : n ≤ length front = subst (λ s. n ≤ length s) (sym is) (omega (arith, length-take n (drop at bytes), length-drop at bytes)) in
    let short : length front ≤ n = subst (λ s. length s ≤ n) (sym is) (omega (arith, length-take n (drop at bytes))) in
    let own : take n (front ++ drop n buffer) ≡ take n (drop at bytes) = take-append-le n front (drop n buffer) long ∙ take_all n front short ∙ is in
    chunk-drop at n bytes ∙ ap (λ s. s ++ drop (at + n) bytes) (sym own)

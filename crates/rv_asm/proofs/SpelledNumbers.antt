-- a number that is spelled in decimal is read as that number
use Rattle.std.proofs.Common.{zero, suc, ◌≡◌, ℕ, ℤ, pos, negsuc, ◌+◌, ◌*◌, ◌/◌, ◌%◌, ◌^◌, ◌<◌, ◌≤◌, inl, inr, List, [], ◌∷◌, ◌++◌, None, Some, sym, ◌∙◌, ap, refl, arith, nat_eq, nat_lt, true, false}
use Rattle.std.specs.Prelude.{neg_ℤ, min}
use Rattle.std.specs.Option.{option_map}
use Rattle.std.specs.List.{AllByRecursion}
use Rattle.std.specs.Fmt.{decimal, signed_decimal}
use Rattle.std.proofs.lemmas.Bool.Decides.{nat_tests}
use Rattle.std.proofs.lemmas.Fmt.{decimal_digit, decimal_by_steps}
use Rattle.rv_asm.specs.Statement.{is_digit}
use Rattle.rv_asm.specs.Numbers.{digit_of, value_from, size_at, number_at}
use Rattle.rv_asm.proofs.Cut.{decided}

glyph_is : (d : ℕ) → d < 10 → is_digit (48 + d) ≡ true
glyph_is d lt = grind (arith, nat_tests)

glyph_value : (d : ℕ) → d < 10 → digit_of (48 + d) ≡ d
glyph_value d lt = rw (glyph_is d lt) (omega arith)

glyph_test : (d : ℕ) → d < 10 → nat_lt (digit_of (48 + d)) 10 ≡ true
glyph_test d lt = ap (λ k. nat_lt k 10) (glyph_value d lt) ∙ grind (arith, nat_tests, lt)

value_more : (ds : List ℕ) (v n d : ℕ) → value_from 10 v ds ≡ Some n → d < 10 → value_from 10 v (ds ++ (48 + d) ∷ []) ≡ Some (min (10 * n + d) (2 ^ 64))
value_more [] v n d e lt =
    let same : v ≡ n = cc in
    rw (glyph_test d lt) (λ i. Some (min (10 * same i + glyph_value d lt i) (2 ^ 64)))
value_more (b ∷ bs) v n d e lt = elim (decided (nat_lt (digit_of b) 10)) [
  | inl h ↦ (let more : value_from 10 (min (10 * v + digit_of b) (2 ^ 64)) bs ≡ Some n = rw h at e in rw h (value_more bs (min (10 * v + digit_of b) (2 ^ 64)) n d more lt))
  | inr h ↦ (let none : None ≡ Some n = rw h at e in absurd cc)
]

-- the value of the digits, the first of which is 0 only where there is no other
record IsSpelled (n : ℕ) (ds : List ℕ) : Type 0 where
  value : n < 2 ^ 64 → value_from 10 0 ds ≡ Some n
  first : ℕ
  rest : List ℕ
  whole : ds ≡ first ∷ rest
  digit : is_digit first ≡ true
  zero_first : first ≡ 48 → n ≡ 0

spelled_one : (n : ℕ) → n < 10 → IsSpelled n ((48 + n) ∷ [])
spelled_one n lt = record {
  value = λ _. value_more [] 0 0 n refl lt ∙ ap Some (omega arith);
  first = 48 + n;
  rest = [];
  whole = refl;
  digit = glyph_is n lt;
  zero_first = λ h. omega (arith, h);
}

spelled_more : (n : ℕ) (ds : List ℕ) → 10 ≤ n → IsSpelled (n / 10) ds → IsSpelled n (ds ++ (48 + n % 10) ∷ [])
spelled_more n ds ge s = record {
  value = λ lt. value_more ds 0 (n / 10) (n % 10) (s.value (omega (arith, lt))) (omega arith) ∙ ap Some (omega (arith, lt));
  first = s.first;
  rest = s.rest ++ (48 + n % 10) ∷ [];
  whole = ap (λ t. t ++ (48 + n % 10) ∷ []) s.whole;
  digit = s.digit;
  zero_first = λ h. (let none : n / 10 ≡ 0 = s.zero_first h in absurd (omega (arith, none, ge)));
}

spelled : (n : ℕ) → n < 2 ^ 64 → IsSpelled n (decimal n)
spelled n lt = decimal_by_steps IsSpelled spelled_one spelled_more n lt

-- digits that begin with no 0 are read in base 10
pub ten_size : (b : ℕ) (bs : List ℕ) → nat_eq b 48 ≡ false → size_at (b ∷ bs) ≡ value_from 10 0 (b ∷ bs)
ten_size b [] h = rw h refl
ten_size b (c ∷ cs) h = rw h refl

size_spelled : (n : ℕ) → n < 2 ^ 64 → size_at (decimal n) ≡ Some n
size_spelled zero lt = ap size_at (decimal_digit 0 (omega arith))
size_spelled (suc n) lt =
    let s : IsSpelled (suc n) (decimal (suc n)) = spelled (suc n) lt in
    let other : s.first ≡ 48 → ⊥ = λ h. (let none : suc n ≡ 0 = s.zero_first h in absurd (omega (arith, none))) in
    let test : nat_eq s.first 48 ≡ false = grind (arith, nat_tests, other) in
    ap size_at s.whole ∙ ten_size s.first s.rest test ∙ ap (value_from 10 0) (sym s.whole) ∙ s.value lt

not_signs : (b : ℕ) → is_digit b ≡ true → (nat_eq b 45 ≡ false) × (nat_eq b 43 ≡ false)
not_signs b h = (grind (arith, nat_tests, h), grind (arith, nat_tests, h))

pub number_unsigned : (b : ℕ) (bs : List ℕ) → is_digit b ≡ true → number_at (b ∷ bs) ≡ option_map pos (size_at (b ∷ bs))
number_unsigned b bs h = let two : (nat_eq b 45 ≡ false) × (nat_eq b 43 ≡ false) = not_signs b h in rw (two.0, two.1) refl

-- how far from 0 a number of 64 bits is
abbrev pub size_of : ℤ → ℕ
size_of (pos n) = n
size_of (negsuc n) = suc n

pub number_spelled : (z : ℤ) → size_of z < 2 ^ 64 → number_at (signed_decimal z) ≡ Some z
number_spelled (pos n) lt =
    let s : IsSpelled n (decimal n) = spelled n lt in
    ap number_at s.whole ∙ number_unsigned s.first s.rest s.digit ∙ ap (λ t. option_map pos (size_at t)) (sym s.whole) ∙ ap (option_map pos) (size_spelled n lt)
number_spelled (negsuc n) lt = ap (option_map (λ k. neg_ℤ (pos k))) (size_spelled (suc n) lt)

-- ---- what the bytes of a spelled number are

digits_more : (P : ℕ → Type 0) (ds : List ℕ) (d : ℕ) → AllByRecursion P ds → P d → AllByRecursion P (ds ++ d ∷ [])
digits_more P [] d all h = (h, tt)
digits_more P (b ∷ bs) d all h = (all.0, digits_more P bs d all.1 h)

pub decimal_digits : (n : ℕ) → n < 2 ^ 64 → AllByRecursion (λ b. is_digit b ≡ true) (decimal n)
decimal_digits n lt = decimal_by_steps (λ k ds. AllByRecursion (λ b. is_digit b ≡ true) ds) (λ k h. (glyph_is k h, tt)) (λ k ds ge all. digits_more (λ b. is_digit b ≡ true) ds (48 + k % 10) all (glyph_is (k % 10) (omega arith))) n lt

pub decimal_first : (n : ℕ) → n < 2 ^ 64 → (b : ℕ) × (bs : List ℕ) × (decimal n ≡ b ∷ bs) × (is_digit b ≡ true)
decimal_first n lt = let s : IsSpelled n (decimal n) = spelled n lt in (s.first, s.rest, s.whole, s.digit)

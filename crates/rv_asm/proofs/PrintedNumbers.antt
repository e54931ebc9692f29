-- a number that is printed in a base is read as that number
use Rattle.std.proofs.Common.{◌≡◌, ℕ, pos, ◌+◌, ◌*◌, ◌^◌, ◌<◌, ◌≤◌, inl, inr, List, [], ◌∷◌, length, get_or, Some, sym, ◌∙◌, ap, refl, subst, arith, nat_eq, nat_lt, true, false, Bool}
use Rattle.std.specs.Prelude.{neg_ℤ, min}
use Rattle.std.specs.Fmt.{digit_glyph}
use Rattle.std.specs.Int.Digits.{digits_of, number_from_digits, number_from_digits_after, AllBelowBase}
use Rattle.std.specs.Option.{option_map}
use Rattle.std.proofs.lemmas.Bool.Decides.{nat_tests}
use Rattle.std.proofs.lemmas.Int.Digits.{all_below_base_digits_of, first_digits_of, number_digits_of}
use Rattle.rv_asm.specs.Statement.{is_digit}
use Rattle.rv_asm.specs.Numbers.{digit_of, value_from, digits_at, size_at, number_at}
use Rattle.rv_asm.specs.Printed.{digits_shown, ArePrinted, IsPrinted, IsReadAs}
use Rattle.rv_asm.proofs.Cut.{decided}
use Rattle.rv_asm.proofs.SpelledNumbers.{ten_size, number_unsigned}

-- ---- one digit

low_glyph : (upper : Bool) (d : ℕ) → nat_lt d 10 ≡ true → digit_glyph upper d ≡ 48 + d
low_glyph upper d h = rw h refl

is_low : (d : ℕ) → nat_lt d 10 ≡ true → is_digit (48 + d) ≡ true
is_low d h = grind (arith, nat_tests, h)

low_value : (d : ℕ) → nat_lt d 10 ≡ true → digit_of (48 + d) ≡ d
low_value d h = rw (is_low d h) (omega arith)

small_value : (d : ℕ) → nat_lt d 10 ≡ false → d < 16 → digit_of (87 + d) ≡ d
small_value d h lt = grind (arith, nat_tests, h, lt)

large_value : (d : ℕ) → nat_lt d 10 ≡ false → d < 16 → digit_of (55 + d) ≡ d
large_value d h lt = grind (arith, nat_tests, h, lt)

glyph_value : (upper : Bool) (d : ℕ) → d < 16 → digit_of (digit_glyph upper d) ≡ d
glyph_value upper d lt = elim (decided (nat_lt d 10)) as (λ _. digit_of (digit_glyph upper d) ≡ d) [
  | inl h ↦ ap digit_of (low_glyph upper d h) ∙ low_value d h
  | inr h ↦ high upper h
]
  where
    high : (u : Bool) → nat_lt d 10 ≡ false → digit_of (digit_glyph u d) ≡ d
    high true h = rw h (large_value d h lt)
    high false h = rw h (small_value d h lt)

-- ---- all digits

-- a base whose digits the reader knows, where a value that is capped stays so
record IsBase (base : ℕ) : Type 0 where
  two : 2 ≤ base
  most : base ≤ 16
  capped : (v d : ℕ) → min (base * min v (2 ^ 64) + d) (2 ^ 64) ≡ min (v * base + d) (2 ^ 64)

value_printed : (base : ℕ) → IsBase base → (ds text : List ℕ) (v : ℕ) → ArePrinted ds text → AllBelowBase base ds
    → value_from base (min v (2 ^ 64)) text ≡ Some (min (number_from_digits_after base v ds) (2 ^ 64))
value_printed base is [] [] v all below = refl
value_printed base is [] (b ∷ bs) v all below = absurd all
value_printed base is (d ∷ ds) [] v all below = absurd all
value_printed base is (d ∷ ds) (b ∷ bs) v all below =
    let value : digit_of b ≡ d = ap digit_of all.0.1 ∙ glyph_value all.0.0 d (omega (arith, below.0, is.most)) in
    let test : nat_lt (digit_of b) base ≡ true = ap (λ k. nat_lt k base) value ∙ grind (arith, nat_tests, below.0) in
    let next : min (base * min v (2 ^ 64) + digit_of b) (2 ^ 64) ≡ min (v * base + d) (2 ^ 64) = ap (λ k. min (base * min v (2 ^ 64) + k) (2 ^ 64)) value ∙ is.capped v d in
    rw test (ap (λ k. value_from base k bs) next ∙ value_printed base is ds bs (v * base + d) all.1 below.1)

some_digits : (base n : ℕ) → nat_eq n 0 ≡ false → 2 ≤ base → 0 < length (digits_of base n)
some_digits base n h two = first_some (digits_of base n) (first_digits_of base n two (grind (arith, nat_tests, h)))
  where
    first_some : (ds : List ℕ) → 0 < get_or ds 0 0 → 0 < length ds
    first_some [] lt = absurd (omega (arith, lt))
    first_some (d ∷ ds) lt = omega arith

-- what the digits that are shown are
record IsShown (base n : ℕ) (ds : List ℕ) : Type 0 where
  some : 0 < length ds
  below : AllBelowBase base ds
  number : number_from_digits base ds ≡ n

shown : (base n : ℕ) → IsBase base → IsShown base n (digits_shown base n)
shown base n is = elim (decided (nat_eq n 0)) as (λ _. IsShown base n (digits_shown base n)) [
  | inl h ↦ (let none : n ≡ 0 = grind (arith, nat_tests, h) in
      let ds : digits_shown base n ≡ 0 ∷ [] = rw h refl in
      subst (IsShown base n) (sym ds) (record { some = omega arith; below = (omega (arith, is.two), tt); number = omega (arith, none) }))
  | inr h ↦ (let ds : digits_shown base n ≡ digits_of base n = rw h refl in
      subst (IsShown base n) (sym ds) (record { some = some_digits base n h is.two; below = all_below_base_digits_of base n is.two; number = number_digits_of base n is.two }))
]

value_shown : (base n : ℕ) (text : List ℕ) → IsBase base → IsPrinted base n text → value_from base 0 text ≡ Some (min n (2 ^ 64))
value_shown base n text is all =
    let s : IsShown base n (digits_shown base n) = shown base n is in
    value_printed base is (digits_shown base n) text 0 all s.below ∙ ap (λ k. Some (min k (2 ^ 64))) s.number

-- the first byte of the text, which is the first digit's
record Begins (base n : ℕ) (text : List ℕ) : Type 0 where
  byte : ℕ
  rest : List ℕ
  whole : text ≡ byte ∷ rest
  upper : Bool
  digit : ℕ
  is : byte ≡ digit_glyph upper digit
  below : digit < base
  first : digit ≡ get_or (digits_shown base n) 0 0

begins : (base n : ℕ) (text : List ℕ) → IsBase base → IsPrinted base n text → Begins base n text
begins base n text is all = let s : IsShown base n (digits_shown base n) = shown base n is in go (digits_shown base n) text refl all s.some s.below
  where
    go : (ds t : List ℕ) → digits_shown base n ≡ ds → ArePrinted ds t → 0 < length ds → AllBelowBase base ds → Begins base n t
    go [] t e printed some below = absurd (omega (arith, some))
    go (d ∷ ds) [] e printed some below = absurd printed
    go (d ∷ ds) (b ∷ bs) e printed some below = record {
      byte = b;
      rest = bs;
      whole = refl;
      upper = printed.0.0;
      digit = d;
      is = printed.0.1;
      below = below.0;
      first = ap (λ l. get_or l 0 0) (sym e);
    }

digits_read : (base n : ℕ) (text : List ℕ) → IsBase base → IsPrinted base n text → digits_at base text ≡ Some (min n (2 ^ 64))
digits_read base n text is all =
    let b : Begins base n text = begins base n text is all in
    ap (digits_at base) b.whole ∙ ap (value_from base 0) (sym b.whole) ∙ value_shown base n text is all

-- ---- the bases

ten : IsBase 10
ten = record { two = omega arith; most = omega arith; capped = λ v d. omega arith }

sixteen : IsBase 16
sixteen = record { two = omega arith; most = omega arith; capped = λ v d. omega arith }

two_base : IsBase 2
two_base = record { two = omega arith; most = omega arith; capped = λ v d. omega arith }

eight : IsBase 8
eight = record { two = omega arith; most = omega arith; capped = λ v d. omega arith }

with_signs : (n : ℕ) (text : List ℕ) → size_at text ≡ Some (min n (2 ^ 64)) → number_at text ≡ option_map pos (size_at text) → IsReadAs n text
with_signs n text size unsigned = record {
  alone = unsigned ∙ ap (option_map pos) size;
  negative = ap (option_map (λ k. neg_ℤ (pos k))) size;
  positive = ap (option_map pos) size;
}

pub hexadecimal_read : (n : ℕ) (text : List ℕ) → IsPrinted 16 n text → IsReadAs n (48 ∷ 120 ∷ text) × IsReadAs n (48 ∷ 88 ∷ text)
hexadecimal_read n text all =
    let size : digits_at 16 text ≡ Some (min n (2 ^ 64)) = digits_read 16 n text sixteen all in
    (with_signs n (48 ∷ 120 ∷ text) size refl, with_signs n (48 ∷ 88 ∷ text) size refl)

pub binary_read : (n : ℕ) (text : List ℕ) → IsPrinted 2 n text → IsReadAs n (48 ∷ 98 ∷ text) × IsReadAs n (48 ∷ 66 ∷ text)
binary_read n text all =
    let size : digits_at 2 text ≡ Some (min n (2 ^ 64)) = digits_read 2 n text two_base all in
    (with_signs n (48 ∷ 98 ∷ text) size refl, with_signs n (48 ∷ 66 ∷ text) size refl)

low_byte : (b d : ℕ) (upper : Bool) → b ≡ digit_glyph upper d → d < 10 → b ≡ 48 + d
low_byte b d upper is lt = is ∙ low_glyph upper d (grind (arith, nat_tests, lt))

zero_size : (b : ℕ) (bs : List ℕ) → b < 56 → size_at (48 ∷ b ∷ bs) ≡ value_from 8 0 (b ∷ bs)
zero_size b bs lt =
    let small_x : nat_eq b 120 ≡ false = grind (arith, nat_tests, lt) in
    let large_x : nat_eq b 88 ≡ false = grind (arith, nat_tests, lt) in
    let small_b : nat_eq b 98 ≡ false = grind (arith, nat_tests, lt) in
    let large_b : nat_eq b 66 ≡ false = grind (arith, nat_tests, lt) in
    rw (small_x, large_x, small_b, large_b) refl

pub octal_read : (n : ℕ) (text : List ℕ) → IsPrinted 8 n text → IsReadAs n (48 ∷ text)
octal_read n text all =
    let b : Begins 8 n text = begins 8 n text eight all in
    let byte : b.byte ≡ 48 + b.digit = low_byte b.byte b.digit b.upper b.is (omega (arith, b.below)) in
    let size : size_at (48 ∷ text) ≡ Some (min n (2 ^ 64)) =
    ap (λ t. size_at (48 ∷ t)) b.whole ∙ zero_size b.byte b.rest (omega (arith, byte, b.below)) ∙ ap (value_from 8 0) (sym b.whole) ∙ value_shown 8 n text eight all in
    with_signs n (48 ∷ text) size refl

decimal_size : (n : ℕ) (text : List ℕ) → IsPrinted 10 n text → size_at text ≡ Some (min n (2 ^ 64))
decimal_size n text all = elim (decided (nat_eq n 0)) as (λ _. size_at text ≡ Some (min n (2 ^ 64))) [
  | inl h ↦ (let none : n ≡ 0 = grind (arith, nat_tests, h) in let ds : digits_shown 10 n ≡ 0 ∷ [] = rw h refl in zero_text text (subst (λ l. ArePrinted l text) ds all) ∙ ap (λ k. Some (min k (2 ^ 64))) (sym none))
  | inr h ↦ (let b : Begins 10 n text = begins 10 n text ten all in
      let byte : b.byte ≡ 48 + b.digit = low_byte b.byte b.digit b.upper b.is b.below in
      let ds : digits_shown 10 n ≡ digits_of 10 n = rw h refl in
      let some : 0 < get_or (digits_of 10 n) 0 0 = first_digits_of 10 n (omega arith) (grind (arith, nat_tests, h)) in
      let there : b.digit ≡ get_or (digits_of 10 n) 0 0 = b.first ∙ ap (λ l. get_or l 0 0) ds in
      let test : nat_eq b.byte 48 ≡ false = not_zero b.byte b.digit byte (omega (arith, some, there)) in
      ap size_at b.whole ∙ ten_size b.byte b.rest test ∙ ap (value_from 10 0) (sym b.whole) ∙ value_shown 10 n text ten all)
]
  where
    not_zero : (b d : ℕ) → b ≡ 48 + d → 0 < d → nat_eq b 48 ≡ false
    not_zero b d e lt = grind (arith, nat_tests, e, lt)

    zero_text : (t : List ℕ) → ArePrinted (0 ∷ []) t → size_at t ≡ Some (min 0 (2 ^ 64))
    zero_text [] printed = absurd printed
    zero_text (b ∷ []) printed = let byte : b ≡ 48 = low_byte b 0 printed.0.0 printed.0.1 (omega arith) in ap (λ x. size_at (x ∷ [])) byte
    zero_text (b ∷ c ∷ cs) printed = absurd printed.1

pub decimal_read : (n : ℕ) (text : List ℕ) → IsPrinted 10 n text → IsReadAs n text
decimal_read n text all =
    let b : Begins 10 n text = begins 10 n text ten all in
    let byte : b.byte ≡ 48 + b.digit = low_byte b.byte b.digit b.upper b.is b.below in
    let digit : is_digit b.byte ≡ true = ap is_digit byte ∙ is_low b.digit (grind (arith, nat_tests, b.below)) in
    with_signs n text (decimal_size n text all) (ap number_at b.whole ∙ number_unsigned b.byte b.rest digit ∙ ap (λ t. option_map pos (size_at t)) (sym b.whole))

-- the texts of numbers, symbols, registers and sets: which bytes they lack, and that they tell their values apart
use Rattle.std.proofs.Common.{◌≡◌, ℕ, suc, ◌^◌, ◌<◌, ◌≤◌, ℤ, pos, negsuc, Bool, true, ◌||◌, not, nat_eq, List, [], ◌∷◌, ◌++◌, Option, Some, refl, sym, ap, ◌∙◌, subst, arith}
use Rattle.std.specs.Prelude.{decimal, unsigned_abs}
use Rattle.std.specs.Fmt.{signed_decimal}
use Rattle.std.specs.Char.{digit_value}
use Rattle.std.specs.List.{list_all}
use Rattle.std.specs.Str.Parse.{AllDigits, digits_value}
use Rattle.std.proofs.lemmas.Fmt.{decimal_is_IsNumeral}
use Rattle.std.proofs.lemmas.Str.Parse.{digit_from_value}
use Rattle.std.proofs.lemmas.Bool.Decides.{nat_tests}
use Rattle.rv_isa.specs.Registers.{name_of, place_from, register_named}
use Rattle.rv_isa.specs.Spelling.{set_of}
use Rattle.rv_isa.specs.Symbol.{IsSymbolText, plain, label, relocated, is_digit, is_first_byte, is_symbol_byte, is_word_byte}
use Rattle.rv_isa.proofs.Below.{below_passes}
use Rattle.rv_isa.proofs.Names.{is_own, own_is, register_named-name_of}
use Rattle.rv_isa.proofs.Cuts.{both, join, lacks, lacks-append}

-- ---- numbers

digit_range : (c : ℕ) → digit_value c < 10 → (48 ≤ c) × (c ≤ 57)
digit_range c h = let r = digit_from_value c h in (omega (arith, r), omega (arith, r))

digits_lack : (ds : List ℕ) → AllDigits 10 ds → lacks 44 ds ≡ true
digits_lack [] h = refl
digits_lack (d ∷ ds) h =
    let range = digit_range d h.0 in
    join (not (nat_eq d 44)) (lacks 44 ds) (grind (arith, nat_tests, range)) (digits_lack ds h.1)

decimal_digits : (n : ℕ) → n < 2 ^ 64 → AllDigits 10 (decimal n)
decimal_digits n h = (decimal_is_IsNumeral n h).0.1

decimal_same : (m n : ℕ) → m < 2 ^ 64 → n < 2 ^ 64 → decimal m ≡ decimal n → m ≡ n
decimal_same m n p q e = sym (decimal_is_IsNumeral m p).1 ∙ ap (digits_value 10) e ∙ (decimal_is_IsNumeral n q).1

-- a decimal number begins with a digit
decimal_first : (n c : ℕ) (rest : List ℕ) → n < 2 ^ 64 → decimal n ≡ c ∷ rest → (48 ≤ c) × (c ≤ 57)
decimal_first n c rest h e = digit_range c (subst (AllDigits 10) e (decimal_digits n h)).0

pub signed_lacks : (z : ℤ) → unsigned_abs z < 2 ^ 64 → lacks 44 (signed_decimal z) ≡ true
signed_lacks (pos n) h = digits_lack (decimal n) (decimal_digits n h)
signed_lacks (negsuc n) h = digits_lack (decimal (suc n)) (decimal_digits (suc n) h)

pub signed_same : (a b : ℤ) → unsigned_abs a < 2 ^ 64 → unsigned_abs b < 2 ^ 64 → signed_decimal a ≡ signed_decimal b → a ≡ b
signed_same (pos m) (pos n) p q e = ap pos (decimal_same m n p q e)
signed_same (negsuc m) (negsuc n) p q e =
    let tail : decimal (suc m) ≡ decimal (suc n) = cc in
    let same : suc m ≡ suc n = decimal_same (suc m) (suc n) p q tail in
    let less : m ≡ n = omega arith in
    ap negsuc less
signed_same (pos m) (negsuc n) p q e = absurd (omega (arith, decimal_first m 45 (decimal (suc n)) p e))
signed_same (negsuc m) (pos n) p q e = absurd (omega (arith, decimal_first n 45 (decimal (suc m)) q (sym e)))

-- ---- symbols

all_lack : (p : ℕ → Bool) → ((b : ℕ) → p b ≡ true → not (nat_eq b 44) ≡ true) → (bs : List ℕ) → list_all p bs ≡ true → lacks 44 bs ≡ true
all_lack p f [] h = refl
all_lack p f (b ∷ bs) h =
    let split = both (p b) (list_all p bs) h in
    join (not (nat_eq b 44)) (lacks 44 bs) (f b split.0) (all_lack p f bs split.1)

first_byte_lacks : (b : ℕ) → is_first_byte b ≡ true → not (nat_eq b 44) ≡ true
first_byte_lacks b h = grind (arith, nat_tests)

symbol_byte_lacks : (b : ℕ) → is_symbol_byte b ≡ true → not (nat_eq b 44) ≡ true
symbol_byte_lacks b h = grind (arith, nat_tests)

digit_lacks : (b : ℕ) → is_digit b ≡ true → not (nat_eq b 44) ≡ true
digit_lacks b h = grind (arith, nat_tests)

word_byte_lacks : (b : ℕ) → is_word_byte b ≡ true → not (nat_eq b 44) ≡ true
word_byte_lacks b h = grind (arith, nat_tests)

direction_lacks : (b : ℕ) → nat_eq b 98 || nat_eq b 102 ≡ true → not (nat_eq b 44) ≡ true
direction_lacks b h = grind (arith, nat_tests)

pub symbol_lacks : (text : List ℕ) → IsSymbolText text → lacks 44 text ≡ true
symbol_lacks text (plain b bs first rest own) =
    join (not (nat_eq b 44)) (lacks 44 bs) (first_byte_lacks b first) (all_lack is_symbol_byte symbol_byte_lacks bs rest)
symbol_lacks text (label d ds b digits last) =
    let each = both (not (nat_eq d 44)) (lacks 44 ds) (all_lack is_digit digit_lacks (d ∷ ds) digits) in
    join (not (nat_eq d 44)) (lacks 44 (ds ++ b ∷ [])) each.0
    (lacks-append 44 ds (b ∷ []) each.1 (join (not (nat_eq b 44)) true (direction_lacks b last) refl))
symbol_lacks text (relocated w ws inner word symbol) =
    let each = both (not (nat_eq w 44)) (lacks 44 ws) (all_lack is_word_byte word_byte_lacks (w ∷ ws) word) in
    join (not (nat_eq w 44)) (lacks 44 (ws ++ 40 ∷ (inner ++ 41 ∷ []))) each.0
    (lacks-append 44 ws (40 ∷ (inner ++ 41 ∷ [])) each.1 (lacks-append 44 inner (41 ∷ []) (symbol_lacks inner symbol) refl))

first_is_no_digit : (b : ℕ) → is_first_byte b ≡ true → 48 ≤ b → b ≤ 57 → ⊥
first_is_no_digit b h p q = grind (arith, nat_tests)

direction_is_no_digit : (b : ℕ) → nat_eq b 98 || nat_eq b 102 ≡ true → 48 ≤ b → b ≤ 57 → ⊥
direction_is_no_digit b h p q = grind (arith, nat_tests)

last_digit : (ds : List ℕ) (b : ℕ) → AllDigits 10 (ds ++ b ∷ []) → digit_value b < 10
last_digit [] b h = h.0
last_digit (d ∷ ds) b h = last_digit ds b h.1

-- no number is the text of a symbol
pub symbol_is_no_number : (text : List ℕ) → IsSymbolText text → (z : ℤ) → unsigned_abs z < 2 ^ 64 → signed_decimal z ≡ text → ⊥
symbol_is_no_number text (plain b bs first rest own) (pos n) h e = let r = decimal_first n b bs h e in first_is_no_digit b first r.0 r.1
symbol_is_no_number text (plain b bs first rest own) (negsuc n) h e =
    let same : 45 ≡ b = cc in
    let wrong : is_first_byte 45 ≡ true = subst (λ x. is_first_byte x ≡ true) (sym same) first in
    cc
symbol_is_no_number text (label d ds b digits last) (pos n) h e =
    let r = digit_range b (last_digit ds b (subst (AllDigits 10) e (decimal_digits n h)).1) in
    direction_is_no_digit b last r.0 r.1
symbol_is_no_number text (label d ds b digits last) (negsuc n) h e =
    let same : 45 ≡ d = cc in
    let wrong : is_digit 45 ≡ true = subst (λ x. is_digit x ≡ true) (sym same) (both (is_digit d) (list_all is_digit ds) digits).0 in
    cc
symbol_is_no_number text (relocated w ws inner word symbol) (pos n) h e = absurd (omega (arith, decimal_first n 37 (w ∷ (ws ++ 40 ∷ (inner ++ 41 ∷ []))) h e))
symbol_is_no_number text (relocated w ws inner word symbol) (negsuc n) h e = let same : ◌≡◌ {A = ℕ} 45 37 = cc in absurd (omega arith)

-- ---- registers

pub name_lacks_comma : (r : ℕ) → r < 32 → lacks 44 (name_of r) ≡ true
name_lacks_comma r h = below_passes (λ k. lacks 44 (name_of k)) 32 refl r h

pub name_lacks_opening : (r : ℕ) → r < 32 → lacks 40 (name_of r) ≡ true
name_lacks_opening r h = below_passes (λ k. lacks 40 (name_of k)) 32 refl r h

pub name_lacks_closing : (r : ℕ) → r < 32 → lacks 41 (name_of r) ≡ true
name_lacks_closing r h = below_passes (λ k. lacks 41 (name_of k)) 32 refl r h

pub name_same : (r s : ℕ) → r < 32 → s < 32 → name_of r ≡ name_of s → r ≡ s
name_same r s p q e =
    let same : Some r ≡ Some s = sym (register_named-name_of r p) ∙ ap register_named e ∙ register_named-name_of s q in
    cc

-- ---- the sets of a fence

abbrev sets_named : List ℕ → Option ℕ
sets_named text = place_from 0 (set_of 0 ∷ set_of 1 ∷ set_of 2 ∷ set_of 3 ∷ set_of 4 ∷ set_of 5 ∷ set_of 6 ∷ set_of 7 ∷ set_of 8 ∷ set_of 9 ∷ set_of 10 ∷ set_of 11 ∷ set_of 12 ∷ set_of 13 ∷ set_of 14 ∷ set_of 15 ∷ []) text

set_own : (s : ℕ) → s < 16 → sets_named (set_of s) ≡ Some s
set_own s h = own_is s (sets_named (set_of s)) (below_passes (λ k. is_own k (sets_named (set_of k))) 16 refl s h)

pub set_lacks : (s : ℕ) → s < 16 → lacks 44 (set_of s) ≡ true
set_lacks s h = below_passes (λ k. lacks 44 (set_of k)) 16 refl s h

pub set_same : (s t : ℕ) → s < 16 → t < 16 → set_of s ≡ set_of t → s ≡ t
set_same s t p q e =
    let same : Some s ≡ Some t = sym (set_own s p) ∙ ap sets_named e ∙ set_own t q in
    cc

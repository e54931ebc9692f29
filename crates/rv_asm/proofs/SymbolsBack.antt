-- a symbolic immediate as the instructions' symbols are defined is taken off by the reader
use Rattle.std.proofs.Common.{suc, ◌≡◌, ℕ, ◌+◌, ◌-◌, inl, inr, List, [], ◌∷◌, ◌++◌, length, take, drop, None, Some, sym, ◌∙◌, ap, refl, arith, nat_eq, true, false, Bool, append_assoc, length-append}
use Rattle.std.specs.Prelude.{◌&&◌, ◌||◌, not, is_some, option_and_then, reverse, take_while, codes, if◌then◌else◌}
use Rattle.std.specs.List.{AllByRecursion, list_all, starts_with, prefix_len}
use Rattle.std.specs.Cmp.Lexicographic.{pointwise}
use Rattle.std.proofs.lemmas.Bool.Decides.{nat_tests}
use Rattle.std.proofs.lemmas.List.{append-nil, reverse-append}
use Rattle.rv_isa.specs.Registers.{register_named}
use Rattle.rv_isa.specs.Symbol.{IsSymbolText, plain, label, relocated, is_first_byte, is_symbol_byte, is_word_byte, is_taken, is_digit as is_decimal}
use Rattle.rv_asm.specs.declared.class.ByteClass.{ByteClass}
use Rattle.rv_asm.specs.declared.class.ByteClass.TheVariants as class
use Rattle.rv_asm.specs.Statement.{is_in, skip, trailing, begins_in, begins_with, is_empty, begins_symbol}
use Rattle.rv_asm.specs.Pieces.{begins}
use Rattle.rv_asm.specs.Symbols.{is_plain, is_local, opened, core, is_core, is_symbolic}
use Rattle.rv_asm.proofs.SpelledSymbols.{both, either_true}

-- ---- the classes of bytes

starts_symbol : (b : ℕ) → is_first_byte b ≡ true → begins_symbol b ≡ true
starts_symbol b h = grind (arith, nat_tests, h)

in_symbol : (b : ℕ) → is_symbol_byte b ≡ true → is_in class.Operand b ≡ true
in_symbol b h = grind (arith, nat_tests, h)

first_in : (b : ℕ) → is_first_byte b ≡ true → is_in class.Operand b ≡ true
first_in b h = grind (arith, nat_tests, h)

in_word : (b : ℕ) → is_word_byte b ≡ true → is_in class.Word b ≡ true
in_word b h = grind (arith, nat_tests, h)

all_in : (c : ByteClass) (p : ℕ → Bool) → ((b : ℕ) → p b ≡ true → is_in c b ≡ true) → (text : List ℕ) → list_all p text ≡ true → AllByRecursion (λ b. is_in c b ≡ true) text
all_in c p h [] all = tt
all_in c p h (b ∷ bs) all = let two : (p b ≡ true) × (list_all p bs ≡ true) = both (p b) (list_all p bs) all in (h b two.0, all_in c p h bs two.1)

skip_over : (c : ByteClass) (front rest : List ℕ) → AllByRecursion (λ b. is_in c b ≡ true) front → skip c (front ++ rest) ≡ skip c rest
skip_over c [] rest all = refl
skip_over c (b ∷ bs) rest all = rw all.0 (skip_over c bs rest all.1)

-- ---- the parentheses at the end

last_first : (xs : List ℕ) (b : ℕ) → reverse (xs ++ b ∷ []) ≡ b ∷ reverse xs
last_first xs b = reverse-append xs (b ∷ [])

trailing_none : (xs : List ℕ) (b : ℕ) → nat_eq b 41 ≡ false → trailing class.Close (xs ++ b ∷ []) ≡ 0
trailing_none xs b h = ap (λ l. length (take_while (is_in class.Close) l)) (last_first xs b) ∙ rw h refl

trailing_more : (xs : List ℕ) → trailing class.Close (xs ++ 41 ∷ []) ≡ suc (trailing class.Close xs)
trailing_more xs =
    let n : ℕ = prefix_len (is_in class.Close) (reverse xs) in
    let one : 1 + n ≡ suc n = omega arith in
    ap (λ l. length (take_while (is_in class.Close) l)) (last_first xs 41) ∙ ap (λ k. length (take k (41 ∷ reverse xs))) one

-- a text whose last byte is no parenthesis that closes
abbrev EndsOpen : List ℕ → Type 0
EndsOpen text = (front : List ℕ) × (b : ℕ) × (text ≡ front ++ b ∷ []) × (nat_eq b 41 ≡ false)

no_trailing : (text : List ℕ) → EndsOpen text → (pre : List ℕ) → trailing class.Close (pre ++ text) ≡ 0
no_trailing text e pre = ap (λ t. trailing class.Close (pre ++ t)) e.2 ∙ ap (trailing class.Close) (sym (append_assoc pre e.0 (e.1 ∷ []))) ∙ trailing_none (pre ++ e.0) e.1 e.3

operand_open : (b : ℕ) → is_in class.Operand b ≡ true → nat_eq b 41 ≡ false
operand_open b h = grind (arith, nat_tests, h)

ends_open : (b : ℕ) (bs : List ℕ) → AllByRecursion (λ x. is_in class.Operand x ≡ true) (b ∷ bs) → EndsOpen (b ∷ bs)
ends_open b [] all = ([], b, refl, operand_open b all.0)
ends_open b (c ∷ cs) all = let more : EndsOpen (c ∷ cs) = ends_open c cs all.1 in (b ∷ more.0, more.1, ap (λ t. b ∷ t) more.2, more.3)

-- ---- a symbol without relocations

starts_back : (a b : ℕ) (text : List ℕ) → starts_with nat_eq text (a ∷ b ∷ []) ≡ false → begins a b text ≡ false
starts_back a b [] h = refl
starts_back a b (x ∷ []) h = refl
starts_back a b (x ∷ y ∷ rest) h = grind (arith, nat_tests, h)

none_of_four : (a b c d : Bool) → a || b || c || d ≡ false → (a ≡ false) × (b ≡ false) × (c ≡ false) × (d ≡ false)
none_of_four true b c d h = absurd cc
none_of_four false true c d h = absurd cc
none_of_four false false true d h = absurd cc
none_of_four false false false true h = absurd cc
none_of_four false false false false h = (refl, refl, refl, refl)

plain_is : (b : ℕ) (bs : List ℕ) → is_first_byte b ≡ true → AllByRecursion (λ x. is_in class.Operand x ≡ true) (b ∷ bs) → is_taken (b ∷ bs) ≡ false → is_plain (b ∷ bs) ≡ true
plain_is b bs first all taken =
    let text : List ℕ = b ∷ bs in
    let free : (is_some (register_named text) ≡ false) × (pointwise nat_eq text (codes ".") ≡ false) × (starts_with nat_eq text (codes ".+") ≡ false) × (starts_with nat_eq text (codes ".-") ≡ false) =
    none_of_four (is_some (register_named text)) (pointwise nat_eq text (codes ".")) (starts_with nat_eq text (codes ".+")) (starts_with nat_eq text (codes ".-")) taken in
    let empty : skip class.Operand text ≡ [] = ap (skip class.Operand) (sym (append-nil text)) ∙ skip_over class.Operand text [] all in
    let plus : begins 46 43 text ≡ false = starts_back 46 43 text free.2 in
    let minus : begins 46 45 text ≡ false = starts_back 46 45 text free.3 in
    λ i. starts_symbol b first i && is_empty (empty i) && not (free.0 i) && not (free.1 i || plus i || minus i)

label_ends : (b : ℕ) → nat_eq b 98 || nat_eq b 102 ≡ true → (is_in class.Digit b ≡ false) × (nat_eq b 41 ≡ false)
label_ends b h = (grind (arith, nat_tests, h), grind (arith, nat_tests, h))

label_end : (b : ℕ) → nat_eq b 98 || nat_eq b 102 ≡ true → pointwise nat_eq (b ∷ []) (codes "b") || pointwise nat_eq (b ∷ []) (codes "f") ≡ true
label_end b h = elim (either_true (nat_eq b 98) (nat_eq b 102) h) as (λ _. pointwise nat_eq (b ∷ []) (codes "b") || pointwise nat_eq (b ∷ []) (codes "f") ≡ true) [
  | inl g ↦ (let same : b ≡ 98 = grind (arith, nat_tests, g) in ap (λ x. pointwise nat_eq (x ∷ []) (codes "b") || pointwise nat_eq (x ∷ []) (codes "f")) same)
  | inr g ↦ (let same : b ≡ 102 = grind (arith, nat_tests, g) in ap (λ x. pointwise nat_eq (x ∷ []) (codes "b") || pointwise nat_eq (x ∷ []) (codes "f")) same)
]

local_is : (d : ℕ) (ds : List ℕ) (b : ℕ) → AllByRecursion (λ x. is_in class.Digit x ≡ true) (d ∷ ds) → nat_eq b 98 || nat_eq b 102 ≡ true → is_local (d ∷ (ds ++ b ∷ [])) ≡ true
local_is d ds b all end =
    let stop : is_in class.Digit b ≡ false = (label_ends b end).0 in
    let one : skip class.Digit (b ∷ []) ≡ b ∷ [] = rw stop refl in
    let rest : skip class.Digit (d ∷ (ds ++ b ∷ [])) ≡ b ∷ [] = skip_over class.Digit (d ∷ ds) (b ∷ []) all ∙ one in
    ap (λ t. begins_in class.Digit (d ∷ (ds ++ b ∷ [])) && (pointwise nat_eq t (codes "b") || pointwise nat_eq t (codes "f"))) rest ∙ (λ i. all.0 i && label_end b end i)

-- ---- relocations around it

word_opened : (w : ℕ) (ws rest : List ℕ) → AllByRecursion (λ x. is_in class.Word x ≡ true) (w ∷ ws) → opened (37 ∷ w ∷ (ws ++ 40 ∷ rest)) ≡ Some rest
word_opened w ws rest all =
    let behind : skip class.Word (w ∷ (ws ++ 40 ∷ rest)) ≡ 40 ∷ rest = skip_over class.Word (w ∷ ws) (40 ∷ rest) all in
    ap (λ t. if is_in class.Word w && begins_with 40 t then Some (drop 1 t) else None) behind ∙ ap (λ t. if t && true then Some rest else None) all.0

-- a text with as many relocations opened as there are parentheses at its end
record Closed (text : List ℕ) : Type 0 where
  count : ℕ
  front : List ℕ
  inner : List ℕ
  closing : List ℕ
  whole : text ≡ front ++ closing
  len : length closing ≡ count
  ends : (pre : List ℕ) → trailing class.Close (pre ++ text) ≡ count
  found : core count front ≡ Some inner
  is : is_plain inner || is_local inner ≡ true

bare : (text : List ℕ) → EndsOpen text → is_plain text || is_local text ≡ true → Closed text
bare text last is = record { count = 0; front = text; inner = text; closing = []; whole = sym (append-nil text); len = refl; ends = no_trailing text last; found = refl; is = is }

or_right : (a b : Bool) → b ≡ true → a || b ≡ true
or_right true b h = refl
or_right false b h = h

around : (w : ℕ) (ws text : List ℕ) → AllByRecursion (λ x. is_in class.Word x ≡ true) (w ∷ ws) → Closed text → Closed (37 ∷ w ∷ (ws ++ 40 ∷ (text ++ 41 ∷ [])))
around w ws text all c =
    let head : List ℕ = 37 ∷ w ∷ (ws ++ 40 ∷ []) in
    let split : 37 ∷ w ∷ (ws ++ 40 ∷ (text ++ 41 ∷ [])) ≡ head ++ (text ++ 41 ∷ []) = ap (λ u. 37 ∷ w ∷ u) (sym (append_assoc ws (40 ∷ []) (text ++ 41 ∷ []))) in
    record {
      count = suc c.count;
      front = 37 ∷ w ∷ (ws ++ 40 ∷ c.front);
      inner = c.inner;
      closing = c.closing ++ 41 ∷ [];
      whole = ap (λ u. 37 ∷ w ∷ u) (ap (λ u. ws ++ 40 ∷ u) (ap (λ x. x ++ 41 ∷ []) c.whole ∙ append_assoc c.front c.closing (41 ∷ [])) ∙ sym (append_assoc ws (40 ∷ c.front) (c.closing ++ 41 ∷ [])));
      len = omega (arith, length-append c.closing (41 ∷ []), c.len);
      ends = λ pre. ap (λ u. trailing class.Close (pre ++ u)) split ∙ ap (trailing class.Close) (sym (append_assoc pre head (text ++ 41 ∷ [])) ∙ sym (append_assoc (pre ++ head) text (41 ∷ [])))
          ∙ trailing_more ((pre ++ head) ++ text) ∙ ap suc (c.ends (pre ++ head));
      found = ap (option_and_then (core c.count)) (word_opened w ws c.front all) ∙ c.found;
      is = c.is;
    }

closed : (text : List ℕ) → IsSymbolText text → Closed text
closed _ (plain b bs first rest taken) =
    let all : AllByRecursion (λ x. is_in class.Operand x ≡ true) (b ∷ bs) = (first_in b first, all_in class.Operand is_symbol_byte in_symbol bs rest) in
    bare (b ∷ bs) (ends_open b bs all) (ap (λ t. t || is_local (b ∷ bs)) (plain_is b bs first all taken))
closed _ (label d ds b digits end) =
    let all : AllByRecursion (λ x. is_in class.Digit x ≡ true) (d ∷ ds) = all_in class.Digit is_decimal (λ x h. h) (d ∷ ds) digits in
    bare (d ∷ (ds ++ b ∷ [])) (d ∷ ds, b, refl, (label_ends b end).1) (or_right (is_plain (d ∷ (ds ++ b ∷ []))) (is_local (d ∷ (ds ++ b ∷ []))) (local_is d ds b all end))
closed _ (relocated w ws text word inside) = around w ws text (all_in class.Word is_word_byte in_word (w ∷ ws) word) (closed text inside)

take_front : (u closing : List ℕ) → take (length u) (u ++ closing) ≡ u
take_front [] closing = refl
take_front (b ∷ bs) closing = ap (λ t. b ∷ t) (take_front bs closing)

pub text_symbolic : (text : List ℕ) → IsSymbolText text → is_symbolic text ≡ true
text_symbolic text s =
    let c : Closed text = closed text s in
    let size : length text - c.count ≡ length c.front = omega (arith, ap length c.whole, length-append c.front c.closing, c.len) in
    ap (λ n. is_core (core n (take (length text - n) text))) (c.ends []) ∙ ap (λ n. is_core (core c.count (take n text))) size ∙ ap (λ u. is_core (core c.count (take (length c.front) u))) c.whole
    ∙ ap (λ u. is_core (core c.count u)) (take_front c.front c.closing) ∙ ap is_core c.found ∙ c.is

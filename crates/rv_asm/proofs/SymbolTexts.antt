-- a symbolic immediate as the reader takes it off is one as the instructions' symbols are defined
use Rattle.std.proofs.Common.{zero, suc, ◌≡◌, ℕ, ◌-◌, ◌<◌, ◌≤◌, inl, inr, List, [], ◌∷◌, ◌++◌, length, take, drop, None, Some, Option, sym, ◌∙◌, ap, refl, subst, arith, nat_eq, true, false, Bool, append_assoc}
use Rattle.std.specs.Prelude.{◌&&◌, ◌||◌, not, is_some, option_and_then, codes}
use Rattle.std.specs.List.{AllByRecursion, list_all, starts_with}
use Rattle.std.specs.Cmp.Lexicographic.{pointwise}
use Rattle.std.proofs.lemmas.Bool.Decides.{nat_tests}
use Rattle.std.proofs.lemmas.List.{append-nil, take-append-drop, length-drop}
use Rattle.rv_isa.specs.Registers.{register_named}
use Rattle.rv_isa.specs.Symbol.{IsSymbolText, plain, label, relocated, is_first_byte, is_symbol_byte, is_word_byte, is_taken, is_digit as is_decimal}
use Rattle.rv_asm.specs.declared.class.ByteClass.{ByteClass}
use Rattle.rv_asm.specs.declared.class.ByteClass.TheVariants as class
use Rattle.rv_asm.specs.Statement.{is_in, skip, begins_in, begins_with, is_empty, begins_symbol}
use Rattle.rv_asm.specs.Pieces.{begins}
use Rattle.rv_asm.specs.Symbols.{is_plain, is_local, opened_word, opened, core, is_core, is_symbolic}
use Rattle.rv_asm.proofs.Cut.{decided}
use Rattle.rv_asm.proofs.SpelledSymbols.{both, skip_split, empty_is, begins_is, either_true, inner_of, trailing_close, split_off}

-- ---- the classes of bytes

same_first : (b : ℕ) → begins_symbol b ≡ true → is_first_byte b ≡ true
same_first b h = grind (arith, nat_tests, h)

same_symbol : (b : ℕ) → is_in class.Operand b ≡ true → is_symbol_byte b ≡ true
same_symbol b h = grind (arith, nat_tests, h)

same_word : (b : ℕ) → is_in class.Word b ≡ true → is_word_byte b ≡ true
same_word b h = grind (arith, nat_tests, h)

all_pass : (c : ByteClass) (p : ℕ → Bool) → ((b : ℕ) → is_in c b ≡ true → p b ≡ true) → (text : List ℕ) → AllByRecursion (λ b. is_in c b ≡ true) text → list_all p text ≡ true
all_pass c p h [] all = refl
all_pass c p h (b ∷ bs) all = rw (h b all.0, all_pass c p h bs all.1) refl

-- ---- a symbol without relocations

starts_two : (a b : ℕ) (text : List ℕ) → begins a b text ≡ false → starts_with nat_eq text (a ∷ b ∷ []) ≡ false
starts_two a b [] h = refl
starts_two a b (x ∷ []) h = grind (arith, nat_tests, h)
starts_two a b (x ∷ y ∷ rest) h = grind (arith, nat_tests, h)

none_of : (a b c : Bool) → not (a || b || c) ≡ true → (a ≡ false) × (b ≡ false) × (c ≡ false)
none_of true b c h = absurd cc
none_of false true c h = absurd cc
none_of false false true h = absurd cc
none_of false false false h = (refl, refl, refl)

opposite : (t : Bool) → not t ≡ true → t ≡ false
opposite true h = absurd cc
opposite false h = refl

not_taken : (text : List ℕ) → not (is_some (register_named text)) ≡ true → not (pointwise nat_eq text (codes ".") || begins 46 43 text || begins 46 45 text) ≡ true → is_taken text ≡ false
not_taken text register place =
    let others : (pointwise nat_eq text (codes ".") ≡ false) × (begins 46 43 text ≡ false) × (begins 46 45 text ≡ false) = none_of (pointwise nat_eq text (codes ".")) (begins 46 43 text) (begins 46 45 text) place in
    (λ i. opposite (is_some (register_named text)) register i || others.0 i || starts_two 46 43 text others.1 i || starts_two 46 45 text others.2 i)

plain_text : (text : List ℕ) → is_plain text ≡ true → IsSymbolText text
plain_text [] h = absurd cc
plain_text (b ∷ bs) h =
    let text : List ℕ = b ∷ bs in
    let one : (begins_in class.Start text && is_empty (skip class.Operand text) && not (is_some (register_named text)) ≡ true) × (not (pointwise nat_eq text (codes ".") || begins 46 43 text || begins 46 45 text) ≡ true) =
    both (begins_in class.Start text && is_empty (skip class.Operand text) && not (is_some (register_named text))) (not (pointwise nat_eq text (codes ".") || begins 46 43 text || begins 46 45 text)) h in
    let two : (begins_in class.Start text && is_empty (skip class.Operand text) ≡ true) × (not (is_some (register_named text)) ≡ true) = both (begins_in class.Start text && is_empty (skip class.Operand text)) (not (is_some (register_named text))) one.0 in
    let three : (begins_symbol b ≡ true) × (is_empty (skip class.Operand text) ≡ true) = both (begins_symbol b) (is_empty (skip class.Operand text)) two.0 in
    let split : (front : List ℕ) × (text ≡ front ++ skip class.Operand text) × AllByRecursion (λ x. is_in class.Operand x ≡ true) front = skip_split class.Operand text in
    let whole : text ≡ split.0 = split.1 ∙ ap (λ t. split.0 ++ t) (empty_is (skip class.Operand text) three.1) ∙ append-nil split.0 in
    let all : AllByRecursion (λ x. is_in class.Operand x ≡ true) text = subst (AllByRecursion (λ x. is_in class.Operand x ≡ true)) (sym whole) split.2 in
    plain b bs (same_first b three.0) (all_pass class.Operand is_symbol_byte same_symbol bs all.1) (not_taken text two.1 one.1)

label_text : (ds : List ℕ) (b : ℕ) → AllByRecursion (λ x. is_in class.Digit x ≡ true) ds → 0 < length ds → nat_eq b 98 || nat_eq b 102 ≡ true → IsSymbolText (ds ++ b ∷ [])
label_text [] b all some end = absurd (omega (arith, some))
label_text (d ∷ ds) b all some end = label d ds b (all_pass class.Digit is_decimal (λ x h. h) (d ∷ ds) all) end

local_text : (text : List ℕ) → is_local text ≡ true → IsSymbolText text
local_text text h =
    let found : (ds : List ℕ) × (b : ℕ) × (text ≡ ds ++ b ∷ []) × AllByRecursion (λ x. is_in class.Digit x ≡ true) ds × (0 < length ds) × (nat_eq b 98 || nat_eq b 102 ≡ true) = inner_of text h in
    subst IsSymbolText (sym found.2) (label_text found.0 found.1 found.3 found.4 found.5)

-- ---- relocations around it

word_of : (text rest : List ℕ) → opened text ≡ Some rest → (w : ℕ) × (ws : List ℕ) × (text ≡ 37 ∷ w ∷ ws ++ 40 ∷ rest) × (list_all is_word_byte (w ∷ ws) ≡ true)
word_of text rest e = elim (decided (begins_with 37 text)) as (λ _. (w : ℕ) × (ws : List ℕ) × (text ≡ 37 ∷ w ∷ ws ++ 40 ∷ rest) × (list_all is_word_byte (w ∷ ws) ≡ true)) [
  | inr h ↦ absurd (let none : None ≡ Some rest = rw h at e in cc)
  | inl h ↦ (let word : opened_word (drop 1 text) ≡ Some rest = rw h at e in go (drop 1 text) word (begins_is 37 text h))
]
  where
    cut : (t front : List ℕ) → t ≡ front ++ 40 ∷ rest → begins_in class.Word t ≡ true → AllByRecursion (λ b. is_in class.Word b ≡ true) front → text ≡ 37 ∷ t
        → (w : ℕ) × (ws : List ℕ) × (text ≡ 37 ∷ w ∷ ws ++ 40 ∷ rest) × (list_all is_word_byte (w ∷ ws) ≡ true)
    cut t [] e begun all whole = absurd (let no : false ≡ true = ap (begins_in class.Word) (sym e) ∙ begun in cc)
    cut t (w ∷ ws) e begun all whole = (w, ws, whole ∙ ap (λ u. 37 ∷ u) e, all_pass class.Word is_word_byte same_word (w ∷ ws) all)

    go : (t : List ℕ) → opened_word t ≡ Some rest → text ≡ 37 ∷ t → (w : ℕ) × (ws : List ℕ) × (text ≡ 37 ∷ w ∷ ws ++ 40 ∷ rest) × (list_all is_word_byte (w ∷ ws) ≡ true)
    go t word whole =
        let split : (front : List ℕ) × (t ≡ front ++ skip class.Word t) × AllByRecursion (λ b. is_in class.Word b ≡ true) front = skip_split class.Word t in
        elim (decided (begins_in class.Word t && begins_with 40 (skip class.Word t))) as (λ _. (w : ℕ) × (ws : List ℕ) × (text ≡ 37 ∷ w ∷ ws ++ 40 ∷ rest) × (list_all is_word_byte (w ∷ ws) ≡ true)) [
          | inr g ↦ absurd (let none : None ≡ Some rest = rw g at word in cc)
          | inl g ↦ (let there : Some (drop 1 (skip class.Word t)) ≡ Some rest = rw g at word in
              let same : drop 1 (skip class.Word t) ≡ rest = cc in
              let tests : (begins_in class.Word t ≡ true) × (begins_with 40 (skip class.Word t) ≡ true) = both (begins_in class.Word t) (begins_with 40 (skip class.Word t)) g in
              let paren : skip class.Word t ≡ 40 ∷ rest = begins_is 40 (skip class.Word t) tests.1 ∙ ap (λ u. 40 ∷ u) same in
              cut t split.0 (split.1 ∙ ap (λ u. split.0 ++ u) paren) tests.0 split.2 whole)
        ]

-- parentheses in a row: the first may as well be the last
turned : (closing : List ℕ) → AllByRecursion (λ b. b ≡ 41) closing → 41 ∷ closing ≡ closing ++ 41 ∷ []
turned [] all = refl
turned (b ∷ bs) all = (λ i. 41 ∷ all.0 i ∷ bs) ∙ ap (λ t. 41 ∷ t) (turned bs all.1) ∙ (λ i. sym all.0 i ∷ bs ++ 41 ∷ [])

core_text : (k : ℕ) (text inner closing : List ℕ) → core k text ≡ Some inner → length closing ≡ k → AllByRecursion (λ b. b ≡ 41) closing → IsSymbolText inner → IsSymbolText (text ++ closing)
core_text zero text inner [] e len all is = let same : text ≡ inner = cc in subst IsSymbolText (sym (append-nil text ∙ same)) is
core_text zero text inner (b ∷ bs) e len all is = absurd (omega (arith, len))
core_text (suc k) text inner [] e len all is = absurd (omega (arith, len))
core_text (suc k) text inner (b ∷ bs) e len all is = go (opened text) refl e (λ rest h. core_text k rest inner bs h (omega (arith, len)) all.1 is)
  where
    go : (o : Option (List ℕ)) → opened text ≡ o → option_and_then (core k) o ≡ Some inner → ((rest : List ℕ) → core k rest ≡ Some inner → IsSymbolText (rest ++ bs)) → IsSymbolText (text ++ b ∷ bs)
    go None g h deep = absurd cc
    go (Some rest) g h deep =
        let word : (w : ℕ) × (ws : List ℕ) × (text ≡ 37 ∷ w ∷ ws ++ 40 ∷ rest) × (list_all is_word_byte (w ∷ ws) ≡ true) = word_of text rest g in
        let deeper : IsSymbolText (rest ++ bs) = deep rest h in
        let closing : b ∷ bs ≡ bs ++ 41 ∷ [] = (λ i. all.0 i ∷ bs) ∙ turned bs all.1 in
        let whole : text ++ b ∷ bs ≡ 37 ∷ word.0 ∷ (word.1 ++ 40 ∷ ((rest ++ bs) ++ 41 ∷ [])) =
        (λ i. word.2 i ++ closing i) ∙ ap (λ t. 37 ∷ word.0 ∷ t) (append_assoc word.1 (40 ∷ rest) (bs ++ 41 ∷ [])) ∙ ap (λ t. 37 ∷ word.0 ∷ (word.1 ++ 40 ∷ t)) (sym (append_assoc rest bs (41 ∷ []))) in
        subst IsSymbolText (sym whole) (relocated word.0 word.1 (rest ++ bs) word.3 deeper)

inner_text : (o : Option (List ℕ)) → is_core o ≡ true → (w : List ℕ) × (o ≡ Some w) × IsSymbolText w
inner_text None h = absurd cc
inner_text (Some w) h = (w, refl, elim (either_true (is_plain w) (is_local w) h) [ inl g ↦ plain_text w g | inr g ↦ local_text w g ])

pub symbol_text : (text : List ℕ) → is_symbolic text ≡ true → IsSymbolText text
symbol_text text h =
    let n : ℕ = length text - trailing_close text in
    let inner : (w : List ℕ) × (core (trailing_close text) (take n text) ≡ Some w) × IsSymbolText w = inner_text (core (trailing_close text) (take n text)) h in
    let off : AllByRecursion (λ b. b ≡ 41) (drop n text) × (trailing_close text ≤ length text) = split_off text in
    let len : length (drop n text) ≡ trailing_close text = omega (arith, length-drop n text, off.1) in
    subst IsSymbolText (take-append-drop n text) (core_text (trailing_close text) (take n text) inner.0 (drop n text) inner.1 len off.0 inner.2)

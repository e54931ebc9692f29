-- each operand of an instruction is read as it is spelled
use Rattle.std.proofs.Common.{suc, ◌≡◌, ℕ, ℤ, pos, negsuc, ◌+◌, ◌-◌, ◌^◌, ◌<◌, inl, inr, List, [], ◌∷◌, ◌++◌, length, take, drop, None, Some, sym, ◌∙◌, ap, refl, subst, arith, nat_eq, true, false, Bool, append_assoc, length-append}
use Rattle.std.specs.Prelude.{◌&&◌, not, option_and_then, codes, if◌then◌else◌}
use Rattle.std.specs.List.{AllByRecursion, list_all, ends_with}
use Rattle.std.specs.Fmt.{decimal, signed_decimal}
use Rattle.std.specs.declared.option.Option.{Option}
use Rattle.std.proofs.lemmas.Bool.Decides.{nat_tests}
use Rattle.std.proofs.Math.Seq.{take-append_seam, drop-append_seam}
use Rattle.rv_isa.specs.declared.facts.ImmRange.{ImmRange}
use Rattle.rv_isa.specs.declared.instr.Imm.TheVariants as imm
use Rattle.rv_isa.specs.Instruction.{is_within}
use Rattle.rv_isa.specs.Opcodes.{signed_12}
use Rattle.rv_isa.specs.Registers.{name_of, place_from, register_named}
use Rattle.rv_isa.specs.Spelling.{set_names, set_of}
use Rattle.rv_isa.proofs.Below.{below_passes}
use Rattle.rv_isa.proofs.Names.{register_named-name_of}
use Rattle.rv_asm.specs.declared.class.ByteClass.TheVariants as class
use Rattle.rv_asm.specs.Statement.{is_in, is_digit, is_empty}
use Rattle.rv_asm.specs.Symbols.{is_symbolic}
use Rattle.rv_asm.specs.Operands.{Operands, symbolic, number_or_symbol, immediate, displacement, last_open, based, offset}
use Rattle.rv_asm.proofs.Cut.{decided}
use Rattle.rv_asm.proofs.OneLine.{tame}
use Rattle.rv_asm.proofs.SpelledNumbers.{size_of, number_spelled, decimal_digits, decimal_first}
use Rattle.rv_asm.proofs.SpelledLine.{depth_over, IsOperand}
use Rattle.rv_asm.proofs.SpelledSymbols.{flat_operand, symbol_number, depth_join, all_join}

-- ---- texts of operand bytes, by a test

abbrev flat_test : List ℕ → Bool
flat_test [] = false
flat_test (b ∷ bs) = list_all (is_in class.Operand) (b ∷ bs)

both : (a b : Bool) → a && b ≡ true → (a ≡ true) × (b ≡ true)
both true b h = (refl, h)
both false b h = absurd cc

test_all : (p : ℕ → Bool) (text : List ℕ) → list_all p text ≡ true → AllByRecursion (λ b. p b ≡ true) text
test_all p [] h = tt
test_all p (b ∷ bs) h = let two : (p b ≡ true) × (list_all p bs ≡ true) = both (p b) (list_all p bs) h in (two.0, test_all p bs two.1)

flat_is : (text : List ℕ) → flat_test text ≡ true → IsOperand text
flat_is [] h = absurd cc
flat_is (b ∷ bs) h = flat_operand b bs (test_all (is_in class.Operand) (b ∷ bs) h)

register_test : (r : ℕ) → r < 32 → flat_test (name_of r) ≡ true
register_test r lt = below_passes (λ k. flat_test (name_of k)) 32 refl r lt

pub register_operand : (r : ℕ) → r < 32 → IsOperand (name_of r)
register_operand r lt = flat_is (name_of r) (register_test r lt)

pub set_operand : (s : ℕ) → s < 16 → IsOperand (set_of s)
set_operand s lt = flat_is (set_of s) (below_passes (λ k. flat_test (set_of k)) 16 refl s lt)

abbrev is_place : ℕ → Option ℕ → Bool
is_place k None = false
is_place k (Some n) = nat_eq n k

place_is : (k : ℕ) (o : Option ℕ) → is_place k o ≡ true → o ≡ Some k
place_is k None h = absurd cc
place_is k (Some n) h = let same : n ≡ k = grind (arith, nat_tests, h) in ap Some same

pub set_read : (s : ℕ) → s < 16 → place_from 0 set_names (set_of s) ≡ Some s
set_read s lt = place_is s (place_from 0 set_names (set_of s)) (below_passes (λ k. is_place k (place_from 0 set_names (set_of k))) 16 refl s lt)

-- ---- numbers

digit_operand : (b : ℕ) → is_digit b ≡ true → is_in class.Operand b ≡ true
digit_operand b h = grind (arith, nat_tests, h)

all_weaker : (P Q : ℕ → Type 0) → ((b : ℕ) → P b → Q b) → (text : List ℕ) → AllByRecursion P text → AllByRecursion Q text
all_weaker P Q h [] all = tt
all_weaker P Q h (b ∷ bs) all = (h b all.0, all_weaker P Q h bs all.1)

decimal_operands : (n : ℕ) → n < 2 ^ 64 → AllByRecursion (λ b. is_in class.Operand b ≡ true) (decimal n)
decimal_operands n lt = all_weaker (λ b. is_digit b ≡ true) (λ b. is_in class.Operand b ≡ true) digit_operand (decimal n) (decimal_digits n lt)

pub number_operand : (z : ℤ) → size_of z < 2 ^ 64 → IsOperand (signed_decimal z)
number_operand (pos n) lt =
    let first : (b : ℕ) × (bs : List ℕ) × (decimal n ≡ b ∷ bs) × (is_digit b ≡ true) = decimal_first n lt in
    subst IsOperand (sym first.2) (flat_operand first.0 first.1 (subst (AllByRecursion (λ b. is_in class.Operand b ≡ true)) first.2 (decimal_operands n lt)))
number_operand (negsuc n) lt = flat_operand 45 (decimal (suc n)) (refl, decimal_operands (suc n) lt)

-- ---- immediates

pub number_read : (b : ImmRange) (z : ℤ) (p : Operands) → size_of z < 2 ^ 64 → is_within b z ≡ true → immediate b (signed_decimal z) p ≡ Some (record p { imm = imm.Value z })
number_read b z p lt h = ap (number_or_symbol b (signed_decimal z) p) (number_spelled z lt) ∙ (rw h refl)

pub symbol_read : (b : ImmRange) (text : List ℕ) (p : Operands) → is_symbolic text ≡ true → immediate b text p ≡ Some (record p { imm = imm.Symbol 0; symbol = text })
symbol_read b text p h = ap (number_or_symbol b text p) (symbol_number text h) ∙ (rw h refl)

pub alone_read : (text : List ℕ) (p : Operands) → is_symbolic text ≡ true → symbolic text p ≡ Some (record p { imm = imm.Symbol 0; symbol = text })
alone_read text p h = rw h refl

-- ---- offsets

no_open : (k : ℕ) (last : Option ℕ) (text : List ℕ) → AllByRecursion (λ b. nat_eq b 40 ≡ false) text → last_open k last text ≡ last
no_open k last [] all = refl
no_open k last (b ∷ bs) all = rw all.0 (no_open (k + 1) last bs all.1)

open_found : (front back : List ℕ) (k : ℕ) (last : Option ℕ) → AllByRecursion (λ b. nat_eq b 40 ≡ false) back → last_open k last (front ++ 40 ∷ back) ≡ Some (k + length front)
open_found [] back k last all = no_open (k + 1) (Some k) back all ∙ ap Some (omega arith)
open_found (b ∷ bs) back k last all = open_found bs back (k + 1) (if nat_eq b 40 then Some k else last) all ∙ ap Some (omega arith)

register_closed : (r : ℕ) → r < 32 → AllByRecursion (λ b. nat_eq b 40 ≡ false) (name_of r)
register_closed r lt = all_weaker (λ b. not (nat_eq b 40) ≡ true) (λ b. nat_eq b 40 ≡ false) opposite (name_of r) (test_all (λ b. not (nat_eq b 40)) (name_of r) (below_passes (λ k. list_all (λ b. not (nat_eq b 40)) (name_of k)) 32 refl r lt))
  where
    opposite : (b : ℕ) → not (nat_eq b 40) ≡ true → nat_eq b 40 ≡ false
    opposite b h = elim (decided (nat_eq b 40)) as (λ _. nat_eq b 40 ≡ false) [ inl g ↦ absurd (let no : not true ≡ true = ap not (sym g) ∙ h in cc) | inr g ↦ g ]

-- an offset before a register in parentheses, as one list
abbrev pub offset_text : List ℕ → ℕ → List ℕ
offset_text text r = text ++ 40 ∷ (name_of r ++ 41 ∷ [])

regroup : (text name : List ℕ) → text ++ 40 ∷ (name ++ 41 ∷ []) ≡ (text ++ 40 ∷ name) ++ 41 ∷ []
regroup text name = sym (append_assoc text (40 ∷ name) (41 ∷ []))

front_is : (a : List ℕ) (x : ℕ) → take (length (a ++ x ∷ []) - 1) (a ++ x ∷ []) ≡ a
front_is a x = ap (λ n. take n (a ++ x ∷ [])) (omega (arith, length-append a (x ∷ []))) ∙ take-append_seam a (x ∷ [])

closes_it : (a : List ℕ) → ends_with nat_eq (a ++ 41 ∷ []) (codes ")") ≡ true
closes_it a =
    let len : length (a ++ 41 ∷ []) - 1 ≡ length a = omega (arith, length-append a (41 ∷ [])) in
    let end : drop (length (a ++ 41 ∷ []) - 1) (a ++ 41 ∷ []) ≡ 41 ∷ [] = ap (λ n. drop n (a ++ 41 ∷ [])) len ∙ drop-append_seam a (41 ∷ []) in
    rw end refl

behind_open : (a b : List ℕ) → drop (length a + 1) (a ++ 40 ∷ b) ≡ b
behind_open a b = ap (λ n. drop n (a ++ 40 ∷ b)) (sym (length-append a (40 ∷ []))) ∙ ap (drop (length (a ++ 40 ∷ []))) (sym (append_assoc a (40 ∷ []) b)) ∙ drop-append_seam (a ++ 40 ∷ []) b

some_text : (text : List ℕ) → IsOperand text → is_empty text ≡ false
some_text text is = ap is_empty is.whole ∙ grind (arith, nat_tests)

-- an offset that is read gives the whole operand
pub offset_read : (text : List ℕ) (r : ℕ) (p q : Operands) → r < 32 → IsOperand text → immediate signed_12 text (record p { rs1 = r }) ≡ Some q → offset (offset_text text r) p ≡ Some q
offset_read text r p q lt is e =
    let a : List ℕ = text ++ 40 ∷ name_of r in
    let found : last_open 0 None a ≡ Some (length text) = open_found text (name_of r) 0 None (register_closed r lt) ∙ ap Some (omega arith) in
    let reg : register_named (drop (length text + 1) a) ≡ Some r = ap register_named (behind_open text (name_of r)) ∙ register_named-name_of r lt in
    let front : take (length text) a ≡ text = take-append_seam text (40 ∷ name_of r) in
    let shown : displacement text (record p { rs1 = r }) ≡ Some q = rw (some_text text is) e in
    let inside : based a p (last_open 0 None a) ≡ Some q = ap (based a p) found ∙ ap (option_and_then (λ k. displacement (take (length text) a) (record p { rs1 = k }))) reg ∙ ap (λ t. displacement t (record p { rs1 = r })) front ∙ shown in
    ap (λ t. offset t p) (regroup text (name_of r)) ∙ (rw (closes_it a, front_is a 41) inside)

pub offset_operand : (text : List ℕ) (r : ℕ) → r < 32 → IsOperand text → IsOperand (offset_text text r)
offset_operand text r lt is =
    let reg : IsOperand (name_of r) = register_operand r lt in
    record {
      all = join text (40 ∷ (name_of r ++ 41 ∷ [])) is.all (refl, join (name_of r) (41 ∷ []) reg.all (refl, tt));
      keeps = λ d. depth_join text (40 ∷ (name_of r ++ 41 ∷ [])) d ∙ ap (λ k. depth_over (k + 1) (name_of r ++ 41 ∷ [])) (is.keeps d) ∙ depth_join (name_of r) (41 ∷ []) (d + 1) ∙ ap (λ k. k - 1) (reg.keeps (d + 1)) ∙ omega arith;
      first = is.first;
      rest = is.rest ++ 40 ∷ (name_of r ++ 41 ∷ []);
      whole = ap (λ t. t ++ 40 ∷ (name_of r ++ 41 ∷ [])) is.whole;
    }
  where
    join : (a b : List ℕ) → AllByRecursion (λ x. tame x ≡ true) a → AllByRecursion (λ x. tame x ≡ true) b → AllByRecursion (λ x. tame x ≡ true) (a ++ b)
    join a b pa pb = all_join (λ x. tame x ≡ true) a b pa pb

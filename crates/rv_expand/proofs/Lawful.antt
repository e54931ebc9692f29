-- the instructions for a constant are lawful, and there are few of them
use Rattle.std.proofs.Common.{◌≡◌, ℕ, zero, suc, ◌+◌, ◌*◌, ◌<◌, ◌≤◌, ℤ, pos, negsuc, ◌≤ℤ◌, Bool, true, false, cond, ◌&&◌, List, [], ◌∷◌, ◌++◌, length, length-append, refl, ◌∙◌, arith}
use Rattle.std.specs.Prelude.{FitsSigned}
use Rattle.std.specs.List.{list_all}
use Rattle.std.specs.Ordering.{int_eq}
use Rattle.std.specs.Int.{w64}
use Rattle.std.proofs.lemmas.Int.{ints}
use Rattle.std.proofs.lemmas.List.Folds.{list_all-append}
use Rattle.std.proofs.lemmas.Bool.Decides.{nat_tests}
use Rattle.rv_isa.specs.declared.op.Op.{Op}
use Rattle.rv_isa.specs.declared.op.Op.TheVariants as op
use Rattle.rv_isa.specs.declared.instr.Instr.{Instr}
use Rattle.rv_isa.specs.Instruction.{is_lawful}
use Rattle.rv_expand.specs.Constant.{added, high_part, is_word, low_bits, low_part, quotient_of, shift_of, shifted, word}
use Rattle.rv_expand.specs.Forms.{number}
use Rattle.rv_expand.proofs.Parts.{high_bits, quotient_fits, quotients, splits}

pub addi_lawful : (rd rs1 : ℕ) (n : ℤ) → rd < 32 → rs1 < 32 → negsuc 2047 ≤ℤ n → n ≤ℤ pos 2047 → is_lawful (number op.Addi rd rs1 n) ≡ true
addi_lawful rd rs1 n d s low high = grind (arith, nat_tests, ints)

pub addiw_lawful : (rd rs1 : ℕ) (n : ℤ) → rd < 32 → rs1 < 32 → negsuc 2047 ≤ℤ n → n ≤ℤ pos 2047 → is_lawful (number op.Addiw rd rs1 n) ≡ true
addiw_lawful rd rs1 n d s low high = grind (arith, nat_tests, ints)

pub lui_lawful : (rd n : ℕ) → rd < 32 → n < 1048576 → is_lawful (number op.Lui rd 0 (pos n)) ≡ true
lui_lawful rd n d h = grind (arith, nat_tests, ints)

pub slli_lawful : (rd n : ℕ) → rd < 32 → n < 64 → is_lawful (number op.Slli rd rd (pos n)) ≡ true
slli_lawful rd n d h = grind (arith, nat_tests, ints)

both : (a b : Bool) → a ≡ true → b ≡ true → a && b ≡ true
both a b p q = rw (p, q)

all_lawful-append : (front back : List Instr) → list_all is_lawful front ≡ true → list_all is_lawful back ≡ true → list_all is_lawful (front ++ back) ≡ true
all_lawful-append front back p q = list_all-append is_lawful front back ∙ both (list_all is_lawful front) (list_all is_lawful back) p q

-- the low part of a number, added
addi_low_lawful : (rd : ℕ) (v : ℤ) → rd < 32 → list_all is_lawful (added op.Addi rd (low_part v)) ≡ true
addi_low_lawful rd v d = go (int_eq (low_part v) (pos 0))
  where
    go : (b : Bool) → list_all is_lawful (cond b [] (number op.Addi rd rd (low_part v) ∷ [])) ≡ true
    go true = refl
    go false = both (is_lawful (number op.Addi rd rd (low_part v))) true (addi_lawful rd rd (low_part v) d d (splits v).low (splits v).high) refl

addiw_low_lawful : (rd : ℕ) (v : ℤ) → rd < 32 → list_all is_lawful (added op.Addiw rd (low_part v)) ≡ true
addiw_low_lawful rd v d = go (int_eq (low_part v) (pos 0))
  where
    go : (b : Bool) → list_all is_lawful (cond b [] (number op.Addiw rd rd (low_part v) ∷ [])) ≡ true
    go true = refl
    go false = both (is_lawful (number op.Addiw rd rd (low_part v))) true (addiw_lawful rd rd (low_part v) d d (splits v).low (splits v).high) refl

word_lawful : (rd : ℕ) (v : ℤ) → rd < 32 → list_all is_lawful (word rd v) ≡ true
word_lawful rd v d = go (int_eq (high_part v) (pos 0))
  where
    zero_below : 0 < 32
    zero_below = omega arith

    go : (b : Bool) → list_all is_lawful (cond b (number op.Addi rd 0 (low_part v) ∷ []) (number op.Lui rd 0 (high_part v) ∷ added op.Addiw rd (low_part v))) ≡ true
    go true = both (is_lawful (number op.Addi rd 0 (low_part v))) true (addi_lawful rd 0 (low_part v) d zero_below (splits v).low (splits v).high) refl
    go false =
        let h = high_bits v in
        let lui : is_lawful (number op.Lui rd 0 (high_part v)) ≡ true = rw h.is_high (lui_lawful rd h.bits d h.below) in
        both (is_lawful (number op.Lui rd 0 (high_part v))) (list_all is_lawful (added op.Addiw rd (low_part v))) lui (addiw_low_lawful rd v d)

low_bits_lawful : (rd : ℕ) (v : ℤ) → rd < 32 → shift_of v < 64 → list_all is_lawful (low_bits rd v) ≡ true
low_bits_lawful rd v d h =
    both (is_lawful (number op.Slli rd rd (pos (shift_of v)))) (list_all is_lawful (added op.Addi rd (low_part v))) (slli_lawful rd (shift_of v) d h) (addi_low_lawful rd v d)

pub shifted_lawful : (n rd : ℕ) (v : ℤ) → rd < 32 → FitsSigned w64 v → list_all is_lawful (shifted n rd v) ≡ true
shifted_lawful zero rd v d fits = word_lawful rd v d
shifted_lawful (suc n) rd v d fits = go (is_word v) refl (shifted_lawful n rd (quotient_of v) d)
  where
    go : (b : Bool) → is_word v ≡ b → (FitsSigned w64 (quotient_of v) → list_all is_lawful (shifted n rd (quotient_of v)) ≡ true)
        → list_all is_lawful (cond b (word rd v) (shifted n rd (quotient_of v) ++ low_bits rd v)) ≡ true
    go true e front = word_lawful rd v d
    go false e front =
        all_lawful-append (shifted n rd (quotient_of v)) (low_bits rd v) (front (quotient_fits v fits e)) (low_bits_lawful rd v d (quotients v fits e).shift)

-- each shift adds two instructions at most
length-added : (o : Op) (rd : ℕ) (low : ℤ) → length (added o rd low) ≤ 1
length-added o rd low = go (int_eq low (pos 0))
  where
    go : (b : Bool) → length (cond b [] (number o rd rd low ∷ [])) ≤ 1
    go true = omega arith
    go false = omega arith

length-word : (rd : ℕ) (v : ℤ) → length (word rd v) ≤ 2
length-word rd v = go (int_eq (high_part v) (pos 0))
  where
    go : (b : Bool) → length (cond b (number op.Addi rd 0 (low_part v) ∷ []) (number op.Lui rd 0 (high_part v) ∷ added op.Addiw rd (low_part v))) ≤ 2
    go true = omega arith
    go false = omega (arith, length-added op.Addiw rd (low_part v))

pub length-shifted : (n rd : ℕ) (v : ℤ) → length (shifted n rd v) ≤ 2 + 2 * n
length-shifted zero rd v = length-word rd v
length-shifted (suc n) rd v = go (is_word v) (length-shifted n rd (quotient_of v))
  where
    go : (b : Bool) → length (shifted n rd (quotient_of v)) ≤ 2 + 2 * n → length (cond b (word rd v) (shifted n rd (quotient_of v) ++ low_bits rd v)) ≤ 2 + 2 * suc n
    go true h = omega (arith, length-word rd v)
    go false h = rw length-append (omega (arith, h, length-added op.Addi rd (low_part v)))

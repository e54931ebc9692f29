-- the value of the instructions for a constant
use Rattle.std.proofs.Common.{◌≡◌, ℕ, zero, suc, ◌*◌, ◌^◌, ◌<◌, ◌≤◌, ℤ, pos, negsuc, ◌+ℤ◌, ◌*ℤ◌, Bool, true, false, cond, ◌&&◌, List, [], ◌∷◌, ◌++◌, Option, Some, None, sym, ap, refl, ◌∙◌, arith}
use Rattle.std.specs.Prelude.{FitsSigned, unsigned_abs, option_and_then, option_map, nat_eq}
use Rattle.std.specs.Ordering.{int_eq}
use Rattle.std.specs.Int.{int_wrap, w32, w64}
use Rattle.std.proofs.lemmas.Int.{ints, int_wrap_fits, int_wrap-add_left}
use Rattle.std.proofs.lemmas.Bool.Decides.{nat_tests, Decides-int_eq}
use Rattle.rv_isa.specs.declared.op.Op.{Op}
use Rattle.rv_isa.specs.declared.op.Op.TheVariants as op
use Rattle.rv_isa.specs.declared.instr.Imm.TheVariants as imm
use Rattle.rv_isa.specs.declared.instr.Instr.{Instr}
use Rattle.rv_isa.specs.Instruction.{is_lawful}
use Rattle.rv_expand.specs.Constant.{added, constant, high_part, is_word, low_bits, low_part, quotient_of, rest_of, shift_of, shifted, word}
use Rattle.rv_expand.specs.Forms.{number}
use Rattle.rv_expand.specs.Value.{after, held, is_on, result_of, value_from, value_of}
use Rattle.rv_expand.proofs.Lawful.{addi_lawful, addiw_lawful, lui_lawful, slli_lawful}
use Rattle.rv_expand.proofs.Parts.{High, Splits, highs, quotients, quotient_fits, rests, splits, is_word_from, word_bounds}

-- one list behind another goes on from the value of the first
and_then_assoc : (o : Option ℤ) (f g : ℤ → Option ℤ) → option_and_then (λ y. option_and_then g (f y)) o ≡ option_and_then g (option_and_then f o)
and_then_assoc None f g = refl
and_then_assoc (Some x) f g = refl

same_then : (o : Option ℤ) (f g : ℤ → Option ℤ) → ((y : ℤ) → f y ≡ g y) → option_and_then f o ≡ option_and_then g o
same_then None f g h = refl
same_then (Some x) f g h = h x

pub value_from-append : (rd : ℕ) (x : ℤ) (front back : List Instr) → value_from rd x (front ++ back) ≡ option_and_then (λ y. value_from rd y back) (value_from rd x front)
value_from-append rd x [] back = refl
value_from-append rd x (i ∷ front) back =
    same_then (after rd x i) (λ y. value_from rd y (front ++ back)) (λ y. option_and_then (λ z. value_from rd z back) (value_from rd y front)) (λ y. value_from-append rd y front back)
    ∙ and_then_assoc (after rd x i) (λ y. value_from rd y front) (λ z. value_from rd z back)

-- a register other than x0
pub record IsWritten (rd : ℕ) : Type 0 where
  pub some : 0 < rd
  pub below : rd < 32

held_is : (rd : ℕ) (y : ℤ) → 0 < rd → held rd y ≡ y
held_is rd y h = let other : nat_eq rd 0 ≡ false = grind (arith, nat_tests) in rw other

passes : (a b : Bool) (r : Option ℤ) (y : ℤ) (f : ℤ → ℤ) → a ≡ true → b ≡ true → r ≡ Some y → cond (a && b) (option_map f r) None ≡ Some (f y)
passes a b r y f p q e = rw (p, q, e)

-- an instruction that reads rd, or x0
on_self : (o : Op) (rd : ℕ) (n : ℤ) → is_on rd (number o rd rd n) ≡ true
on_self o rd n = grind (arith, nat_tests)

on_zero : (o : Op) (rd : ℕ) (n : ℤ) → is_on rd (number o rd 0 n) ≡ true
on_zero o rd n = grind (arith, nat_tests)

pub after_number : (o : Op) (rd rs1 : ℕ) (x n y : ℤ) → 0 < rd → is_lawful (number o rd rs1 n) ≡ true → is_on rd (number o rd rs1 n) ≡ true
    → result_of o (held rs1 x) (imm.Value n) ≡ Some y → after rd x (number o rd rs1 n) ≡ Some y
after_number o rd rs1 x n y some lawful on e =
    passes (is_lawful (number o rd rs1 n)) (is_on rd (number o rd rs1 n)) (result_of o (held rs1 x) (imm.Value n)) y (held rd) lawful on e
    ∙ ap Some (held_is rd y some)

-- the low part added to what rd holds
added_value : (o : Op) (rd : ℕ) (x y low : ℤ) → 0 < rd
    → (low ≡ pos 0 → x ≡ y) → is_lawful (number o rd rd low) ≡ true → result_of o x (imm.Value low) ≡ Some y
    → value_from rd x (added o rd low) ≡ Some y
added_value o rd x y low some none lawful e = go (int_eq low (pos 0)) refl
  where
    go : (b : Bool) → int_eq low (pos 0) ≡ b → value_from rd x (cond b [] (number o rd rd low ∷ [])) ≡ Some y
    go true t = ap Some (none ((Decides-int_eq low (pos 0)).0 t))
    go false t =
        ap (option_and_then (λ z. Some z))
        (after_number o rd rd x low y some lawful (on_self o rd low) (ap (λ z. result_of o z (imm.Value low)) (held_is rd x some) ∙ e))

-- a number of 32 bits
pub word_value : (rd : ℕ) (x v : ℤ) → 0 < rd → rd < 32 → is_word v ≡ true → value_from rd x (word rd v) ≡ Some v
word_value rd x v some below w = go (int_eq (high_part v) (pos 0)) refl
  where
    zero_below : 0 < 32
    zero_below = omega arith

    h : High v
    h = highs v w

    s : Splits v
    s = splits v

    upper : ℤ
    upper = int_wrap w32 (high_part v *ℤ pos 4096)

    back : int_wrap w32 (upper +ℤ low_part v) ≡ v
    back = int_wrap-add_left w32 (high_part v *ℤ pos 4096) (low_part v) ∙ ap (λ z. int_wrap w32 (z *ℤ pos 4096 +ℤ low_part v)) h.is_high ∙ h.back

    alone : low_part v ≡ pos 0 → upper ≡ v
    alone e =
        let same : high_part v *ℤ pos 4096 ≡ high_part v *ℤ pos 4096 +ℤ low_part v = omega (arith, ints) in
        ap (int_wrap w32) same ∙ ap (λ z. int_wrap w32 (z *ℤ pos 4096 +ℤ low_part v)) h.is_high ∙ h.back

    none_above : high_part v ≡ pos 0 → int_wrap w64 (pos 0 +ℤ low_part v) ≡ v
    none_above e =
        let bounds = word_bounds v w in
        let fits : FitsSigned w64 v = omega (arith, ints, bounds) in
        let no_bits : h.bits ≡ 0 = omega (arith, ints, e, h.is_high) in
        let same : pos 0 +ℤ low_part v ≡ v = omega (arith, ints, h.none no_bits) in
        ap (int_wrap w64) same ∙ int_wrap_fits w64 v fits

    lui : is_lawful (number op.Lui rd 0 (high_part v)) ≡ true
    lui = rw h.is_high (lui_lawful rd h.bits below h.below)

    go : (b : Bool) → int_eq (high_part v) (pos 0) ≡ b → value_from rd x (cond b (number op.Addi rd 0 (low_part v) ∷ []) (number op.Lui rd 0 (high_part v) ∷ added op.Addiw rd (low_part v))) ≡ Some v
    go true t =
        ap (option_and_then (λ z. Some z))
        (after_number op.Addi rd 0 x (low_part v) v some (addi_lawful rd 0 (low_part v) below zero_below s.low s.high) (on_zero op.Addi rd (low_part v))
        (ap Some (none_above ((Decides-int_eq (high_part v) (pos 0)).0 t))))
    go false t =
        ap (option_and_then (λ z. value_from rd z (added op.Addiw rd (low_part v)))) (after_number op.Lui rd 0 x (high_part v) upper some lui (on_zero op.Lui rd (high_part v)) refl)
        ∙ added_value op.Addiw rd upper v (low_part v) some alone (addiw_lawful rd rd (low_part v) below below s.low s.high) (ap Some back)

-- what so many shifts can reach
abbrev size : ℕ → ℕ
size zero = 134217728
size (suc n) = 4096 * size n

small_is_word : (v : ℤ) → unsigned_abs v ≤ 134217728 → is_word v ≡ true
small_is_word (pos n) h = is_word_from (pos n) (omega (arith, ints)) (omega (arith, ints))
small_is_word (negsuc n) h = is_word_from (negsuc n) (omega (arith, ints)) (omega (arith, ints))

-- the shift and the low part, behind the quotient
low_bits_value : (rd : ℕ) (v : ℤ) → 0 < rd → rd < 32 → FitsSigned w64 v → is_word v ≡ false → value_from rd (quotient_of v) (low_bits rd v) ≡ Some v
low_bits_value rd v some below fits long =
    let q = quotients v fits long in
    let r = rests v fits in
    let s = splits v in
    let in_range : FitsSigned w64 (rest_of v) = rw r.is_rest r.fits in
    let shifted_up : int_wrap w64 (quotient_of v *ℤ pos (2 ^ shift_of v)) ≡ rest_of v = ap (int_wrap w64) q.back ∙ int_wrap_fits w64 (rest_of v) in_range in
    let alone : low_part v ≡ pos 0 → rest_of v ≡ v = λ e.
    (let same : rest_of v ≡ rest_of v +ℤ low_part v = omega (arith, ints) in
    sym (int_wrap_fits w64 (rest_of v) in_range) ∙ ap (int_wrap w64) same ∙ r.back) in
    ap (option_and_then (λ z. value_from rd z (added op.Addi rd (low_part v))))
    (after_number op.Slli rd rd (quotient_of v) (pos (shift_of v)) (rest_of v) some (slli_lawful rd (shift_of v) below q.shift) (on_self op.Slli rd (pos (shift_of v)))
    (ap (λ z. result_of op.Slli z (imm.Value (pos (shift_of v)))) (held_is rd (quotient_of v) some) ∙ ap Some shifted_up))
    ∙ added_value op.Addi rd (rest_of v) v (low_part v) some alone (addi_lawful rd rd (low_part v) below below s.low s.high) (ap Some r.back)

pub shifted_value : (n rd : ℕ) (x v : ℤ) → 0 < rd → rd < 32 → FitsSigned w64 v → unsigned_abs v ≤ size n → value_from rd x (shifted n rd v) ≡ Some v
shifted_value zero rd x v some below fits h = word_value rd x v some below (small_is_word v h)
shifted_value (suc n) rd x v some below fits h = go (is_word v) refl (shifted_value n rd x (quotient_of v) some below)
  where
    go : (b : Bool) → is_word v ≡ b
        → (FitsSigned w64 (quotient_of v) → unsigned_abs (quotient_of v) ≤ size n → value_from rd x (shifted n rd (quotient_of v)) ≡ Some (quotient_of v))
        → value_from rd x (cond b (word rd v) (shifted n rd (quotient_of v) ++ low_bits rd v)) ≡ Some v
    go true e front = word_value rd x v some below e
    go false e front =
        value_from-append rd x (shifted n rd (quotient_of v)) (low_bits rd v)
        ∙ ap (option_and_then (λ y. value_from rd y (low_bits rd v))) (front (quotient_fits v fits e) ((quotients v fits e).small (size n) h))
        ∙ low_bits_value rd v some below fits e

-- a list that begins with an instruction on rd
abbrev Begins : ℕ → List Instr → Type 0
Begins rd list = (i : Instr) × (rest : List Instr) × (list ≡ i ∷ rest) × (i.rd ≡ rd)

word_begins : (rd : ℕ) (v : ℤ) → Begins rd (word rd v)
word_begins rd v = go (int_eq (high_part v) (pos 0))
  where
    go : (b : Bool) → Begins rd (cond b (number op.Addi rd 0 (low_part v) ∷ []) (number op.Lui rd 0 (high_part v) ∷ added op.Addiw rd (low_part v)))
    go true = (number op.Addi rd 0 (low_part v), [], refl, refl)
    go false = (number op.Lui rd 0 (high_part v), added op.Addiw rd (low_part v), refl, refl)

shifted_begins : (n rd : ℕ) (v : ℤ) → Begins rd (shifted n rd v)
shifted_begins zero rd v = word_begins rd v
shifted_begins (suc n) rd v = go (is_word v) (shifted_begins n rd (quotient_of v))
  where
    go : (b : Bool) → Begins rd (shifted n rd (quotient_of v)) → Begins rd (cond b (word rd v) (shifted n rd (quotient_of v) ++ low_bits rd v))
    go true front = word_begins rd v
    go false (i, rest, e, r) = (i, rest ++ low_bits rd v, ap (λ list. list ++ low_bits rd v) e, r)

begun_value : (rd : ℕ) (list : List Instr) → Begins rd list → value_of list ≡ value_from rd (pos 0) list
begun_value rd list (i, rest, e, r) = ap value_of e ∙ ap (λ k. value_from k (pos 0) (i ∷ rest)) r ∙ ap (value_from rd (pos 0)) (sym e)

size_at_64 : (v : ℤ) → FitsSigned w64 v → unsigned_abs v ≤ size 3
size_at_64 (pos n) fits = omega (arith, ints)
size_at_64 (negsuc n) fits = omega (arith, ints)

-- the instructions for a constant leave it in their register
pub value_of-constant : (rd : ℕ) (v : ℤ) → 0 < rd → rd < 32 → FitsSigned w64 v → value_of (constant rd v) ≡ Some v
value_of-constant rd v some below fits = begun_value rd (constant rd v) (shifted_begins 3 rd v) ∙ shifted_value 3 rd (pos 0) v some below fits (size_at_64 v fits)

-- one shift more is not taken
shifted-suc : (n rd : ℕ) (v : ℤ) → FitsSigned w64 v → unsigned_abs v ≤ size n → shifted n rd v ≡ shifted (suc n) rd v
shifted-suc zero rd v fits h = let short : is_word v ≡ true = small_is_word v h in rw short refl
shifted-suc (suc n) rd v fits h = go (is_word v) refl (shifted-suc n rd (quotient_of v))
  where
    go : (b : Bool) → is_word v ≡ b
        → (FitsSigned w64 (quotient_of v) → unsigned_abs (quotient_of v) ≤ size n → shifted n rd (quotient_of v) ≡ shifted (suc n) rd (quotient_of v))
        → cond b (word rd v) (shifted n rd (quotient_of v) ++ low_bits rd v) ≡ cond b (word rd v) (shifted (suc n) rd (quotient_of v) ++ low_bits rd v)
    go true e front = refl
    go false e front = ap (λ list. list ++ low_bits rd v) (front (quotient_fits v fits e) ((quotients v fits e).small (size n) h))

-- a constant that 32 bits do not hold is that of its quotient and the bits that this lacks
pub constant_by_quotient : (rd : ℕ) (v : ℤ) → FitsSigned w64 v → is_word v ≡ false → constant rd v ≡ constant rd (quotient_of v) ++ low_bits rd v
constant_by_quotient rd v fits long =
    let q = quotient_of v in
    let one : constant rd v ≡ shifted 2 rd q ++ low_bits rd v = rw long refl in
    one ∙ ap (λ list. list ++ low_bits rd v) (shifted-suc 2 rd q (quotient_fits v fits long) ((quotients v fits long).small (size 2) (size_at_64 v fits)))

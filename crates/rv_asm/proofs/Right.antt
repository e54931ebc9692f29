-- a form of the table takes only operands that its opcode or its pseudo-instruction takes
use Rattle.std.proofs.Common.{◌≡◌, ◌⊎◌, ℕ, ℤ, pos, ◌+◌, ◌*◌, ◌<◌, inl, inr, List, [], ◌∷◌, length, None, Some, Ok, Err, sym, ◌∙◌, ap, refl, subst, arith, nat_eq, nat_lt, true, false, Bool, ◌-◌, take, drop}
use Rattle.std.specs.Prelude.{◌&&◌, ◌||◌, not, is_some, option_and_then, if◌then◌else◌, codes}
use Rattle.std.specs.Option.{option_map, option_or}
use Rattle.std.specs.List.{list_all, starts_with, ends_with}
use Rattle.std.specs.Ordering.{int_eq}
use Rattle.std.specs.Cmp.Lexicographic.{pointwise}
use Rattle.std.specs.declared.option.Option.{Option}
use Rattle.std.specs.declared.result.Result.{Result}
use Rattle.std.proofs.lemmas.Bool.Decides.{nat_tests, Decides-int_eq}
use Rattle.rv_isa.specs.declared.op.Op.{Op}
use Rattle.rv_isa.specs.declared.op.Op.TheVariants as op
use Rattle.rv_isa.specs.declared.facts.ImmRange.{ImmRange}
use Rattle.rv_isa.specs.declared.facts.Form.{Form}
use Rattle.rv_isa.specs.declared.instr.Imm.{Imm}
use Rattle.rv_isa.specs.declared.instr.Imm.TheVariants as imm
use Rattle.rv_isa.specs.Instruction.{is_within, has_rd, has_rs1, has_rs2, takes_symbol, is_lawful_imm, is_lawful_number, is_lawful_register}
use Rattle.rv_isa.specs.Opcodes.{facts_of, upper, signed_12, shift_64, shift_32, jump, branch}
use Rattle.rv_isa.specs.Registers.{place_from, register_named, abi_names, numbered_names}
use Rattle.rv_expand.specs.declared.pseudo.Operand.{Operand}
use Rattle.rv_expand.specs.declared.pseudo.Operand.TheVariants as asks
use Rattle.rv_expand.specs.declared.pseudo.Operands.{Operands as Asked}
use Rattle.rv_expand.specs.Operands.{is_that, operands_of}
use Rattle.rv_asm.specs.declared.fault.Cause.{Cause}
use Rattle.rv_asm.specs.declared.fault.Cause.TheVariants as cause
use Rattle.rv_isa.proofs.Below.{below_passes}
use Rattle.rv_asm.specs.Table.{forms}
use Rattle.rv_asm.specs.Meaning.{fit_in}
use Rattle.rv_asm.specs.declared.form.Makes.{Makes}
use Rattle.rv_asm.specs.declared.form.Makes.TheVariants.{One, Several}
use Rattle.rv_asm.specs.declared.operand.Shape.{Shape}
use Rattle.rv_asm.specs.declared.operand.Shape.TheVariants as shape
use Rattle.rv_asm.specs.Numbers.{number_at}
use Rattle.rv_asm.specs.Symbols.{is_symbolic}
use Rattle.rv_asm.specs.Statement.{is_empty}
use Rattle.rv_asm.specs.Operands.{Operands, no_operands, symbolic, ranged, number_or_symbol, immediate, displacement, last_open, based, offset, is_wide, wrapped, wide, accept, accept_all}
use Rattle.rv_isa.specs.Spelling.{set_names}
use Rattle.rv_asm.specs.Forms.{Row, Fit, taken, fits, further, or_else, is_named, judged}
use Rattle.rv_asm.specs.Items.{is_right}
use Rattle.rv_asm.proofs.Cut.{decided}

-- ---- what the shapes of a form say of its operands

-- which registers there may be, and what the immediate is
pub record Slots : Type 0 where
  pub rd : Bool
  pub rs1 : Bool
  pub rs2 : Bool
  pub imm : Operand

abbrev no_slots : Slots
no_slots = record { rd = false; rs1 = false; rs2 = false; imm = asks.Nothing }

abbrev with_imm : Slots → Op → Slots
with_imm s o = record s { imm = asks.Of o }

abbrev slot_after : Shape → Slots → Slots
slot_after shape.Rd s = record s { rd = true }
slot_after shape.Rs1 s = record s { rs1 = true }
slot_after shape.Rs2 s = record s { rs2 = true }
slot_after shape.Upper s = with_imm s op.Lui
slot_after shape.Signed12 s = with_imm s op.Addi
slot_after shape.Shift64 s = with_imm s op.Slli
slot_after shape.Shift32 s = with_imm s op.Slliw
slot_after shape.Branch s = with_imm s op.Beq
slot_after shape.Jump s = with_imm s op.Jal
slot_after shape.Offset s = record s { rs1 = true; imm = asks.Of op.Jalr }
slot_after shape.Wide s = record s { imm = asks.AnyNumber }
slot_after shape.Symbol s = record s { imm = asks.Symbol }
slot_after shape.ThreadAdd s = record s { imm = asks.Symbol }
slot_after shape.Pred s = s
slot_after shape.Succ s = with_imm s op.Fence

abbrev slots_after : List Shape → Slots → Slots
slots_after [] s = s
slots_after (x ∷ xs) s = slots_after xs (slot_after x s)

-- what is so of the operands
record Sound (s : Slots) (p : Operands) : Type 0 where
  rd_low : p.rd < 32
  rs1_low : p.rs1 < 32
  rs2_low : p.rs2 < 32
  no_rd : s.rd ≡ false → p.rd ≡ 0
  no_rs1 : s.rs1 ≡ false → p.rs1 ≡ 0
  no_rs2 : s.rs2 ≡ false → p.rs2 ≡ 0
  pred_low : p.pred < 16
  imm_is : p.beyond ≡ false → is_that s.imm p.imm ≡ true

nothing_sound : Sound no_slots no_operands
nothing_sound = record { rd_low = omega arith; rs1_low = omega arith; rs2_low = omega arith; no_rd = λ _. refl; no_rs1 = λ _. refl; no_rs2 = λ _. refl; pred_low = omega arith; imm_is = λ _. refl }

-- ---- one operand

pub mapped : {X Y : Type 0} (f : X → Y) (o : Option X) (y : Y) → option_map f o ≡ Some y → (x : X) × (o ≡ Some x) × (f x ≡ y)
mapped f None y e = absurd cc
mapped f (Some x) y e = (x, refl, cc)

pub chained : {X Y : Type 0} (f : X → Option Y) (o : Option X) (y : Y) → option_and_then f o ≡ Some y → (x : X) × (o ≡ Some x) × (f x ≡ Some y)
chained f None y e = absurd cc
chained f (Some x) y e = (x, refl, e)

place_low : (n : ℕ) (names : List (List ℕ)) (text : List ℕ) (k : ℕ) → place_from n names text ≡ Some k → k < n + length names
place_low n [] text k e = absurd cc
place_low n (name ∷ names) text k e = elim (decided (pointwise nat_eq text name)) [
  | inl h ↦ (let here : Some n ≡ Some k = rw h at e in let same : n ≡ k = cc in omega (arith, same))
  | inr h ↦ (let more : place_from (n + 1) names text ≡ Some k = rw h at e in let low : k < n + 1 + length names = place_low (n + 1) names text k more in omega (arith, low))
]

either_low : (a b : Option ℕ) (k : ℕ) → ((j : ℕ) → a ≡ Some j → j < 32) → ((j : ℕ) → b ≡ Some j → j < 32) → option_or a b ≡ Some k → k < 32
either_low None b k la lb e = lb k e
either_low (Some j) b k la lb e = la k e

pub register_low : (text : List ℕ) (k : ℕ) → register_named text ≡ Some k → k < 32
register_low text k e = elim (decided (pointwise nat_eq text (102 ∷ 112 ∷ []))) [
  | inl h ↦ (let here : Some 8 ≡ Some k = rw h at e in let same : 8 ≡ k = cc in omega (arith, same))
  | inr h ↦ (let more : option_or (place_from 0 abi_names text) (place_from 0 numbered_names text) ≡ Some k = rw h at e in
      either_low (place_from 0 abi_names text) (place_from 0 numbered_names text) k (place_low 0 abi_names text) (place_low 0 numbered_names text) more)
]

-- the immediate is set, or out of range, and nothing else changes
record Sets (o : Operand) (p q : Operands) : Type 0 where
  rd : q.rd ≡ p.rd
  rs1 : q.rs1 ≡ p.rs1
  rs2 : q.rs2 ≡ p.rs2
  pred : q.pred ≡ p.pred
  imm_is : q.beyond ≡ false → is_that o q.imm ≡ true

symbolic_sets : (o : Operand) (text : List ℕ) (p q : Operands) → is_that o (imm.Symbol 0) ≡ true → symbolic text p ≡ Some q → Sets o p q
symbolic_sets o text p q ok e = elim (decided (is_symbolic text)) [
  | inl h ↦ (let r : Operands = record p { imm = imm.Symbol 0; symbol = text } in
      let there : Some r ≡ Some q = rw h at e in
      let same : r ≡ q = cc in
      subst (Sets o p) same (record { rd = refl; rs1 = refl; rs2 = refl; pred = refl; imm_is = λ _. ok }))
  | inr h ↦ (let none : None ≡ Some q = rw h at e in absurd cc)
]

ranged_sets : (o : Operand) (within : Bool) (n : ℤ) (p : Operands) → (within ≡ true → is_that o (imm.Value n) ≡ true) → Sets o p (ranged within n p)
ranged_sets o true n p ok = record { rd = refl; rs1 = refl; rs2 = refl; pred = refl; imm_is = λ _. ok refl }
ranged_sets o false n p ok = record { rd = refl; rs1 = refl; rs2 = refl; pred = refl; imm_is = λ h. absurd cc }

number_sets : (b : ImmRange) (o : Operand) (text : List ℕ) (p q : Operands) (r : Option ℤ) → ((n : ℤ) → is_that o (imm.Value n) ≡ is_within b n) → is_that o (imm.Symbol 0) ≡ true → number_or_symbol b text p r ≡ Some q → Sets o p q
number_sets b o text p q None value symbol e = symbolic_sets o text p q symbol e
number_sets b o text p q (Some n) value symbol e =
    let same : ranged (is_within b n) n p ≡ q = cc in
    subst (Sets o p) same (ranged_sets o (is_within b n) n p (λ h. value n ∙ h))

displacement_sets : (text : List ℕ) (p q : Operands) → displacement text p ≡ Some q → Sets (asks.Of op.Jalr) p q
displacement_sets text p q e = elim (decided (is_empty text)) [
  | inl h ↦ (let r : Operands = record p { imm = imm.Value (pos 0) } in
      let there : Some r ≡ Some q = rw h at e in
      let same : r ≡ q = cc in
      subst (Sets (asks.Of op.Jalr) p) same (record { rd = refl; rs1 = refl; rs2 = refl; pred = refl; imm_is = λ _. refl }))
  | inr h ↦ (let more : immediate signed_12 text p ≡ Some q = rw h at e in number_sets signed_12 (asks.Of op.Jalr) text p q (number_at text) (λ n. refl) refl more)
]

wide_sets : (text : List ℕ) (p q : Operands) → wide text p ≡ Some q → Sets asks.AnyNumber p q
wide_sets text p q e =
    let found : (n : ℤ) × (number_at text ≡ Some n) × (ranged (is_wide n) (wrapped n) p ≡ q) = mapped (λ n. ranged (is_wide n) (wrapped n) p) (number_at text) q e in
    subst (Sets asks.AnyNumber p) found.2 (ranged_sets asks.AnyNumber (is_wide found.0) (wrapped found.0) p (λ _. refl))

with_sets : (s : Slots) (o : Operand) (p q : Operands) → Sets o p q → Sound s p → Sound (record s { imm = o }) q
with_sets s o p q set so = record {
  rd_low = subst (λ r. r < 32) (sym set.rd) so.rd_low;
  rs1_low = subst (λ r. r < 32) (sym set.rs1) so.rs1_low;
  rs2_low = subst (λ r. r < 32) (sym set.rs2) so.rs2_low;
  no_rd = λ h. set.rd ∙ so.no_rd h;
  no_rs1 = λ h. set.rs1 ∙ so.no_rs1 h;
  no_rs2 = λ h. set.rs2 ∙ so.no_rs2 h;
  pred_low = subst (λ r. r < 16) (sym set.pred) so.pred_low;
  imm_is = set.imm_is;
}

rd_sound : (s : Slots) (p : Operands) (r : ℕ) → r < 32 → Sound s p → Sound (record s { rd = true }) (record p { rd = r })
rd_sound s p r lt so = record { rd_low = lt; rs1_low = so.rs1_low; rs2_low = so.rs2_low; no_rd = λ h. absurd cc; no_rs1 = so.no_rs1; no_rs2 = so.no_rs2; pred_low = so.pred_low; imm_is = so.imm_is }

rs1_sound : (s : Slots) (p : Operands) (r : ℕ) → r < 32 → Sound s p → Sound (record s { rs1 = true }) (record p { rs1 = r })
rs1_sound s p r lt so = record { rd_low = so.rd_low; rs1_low = lt; rs2_low = so.rs2_low; no_rd = so.no_rd; no_rs1 = λ h. absurd cc; no_rs2 = so.no_rs2; pred_low = so.pred_low; imm_is = so.imm_is }

rs2_sound : (s : Slots) (p : Operands) (r : ℕ) → r < 32 → Sound s p → Sound (record s { rs2 = true }) (record p { rs2 = r })
rs2_sound s p r lt so = record { rd_low = so.rd_low; rs1_low = so.rs1_low; rs2_low = lt; no_rd = so.no_rd; no_rs1 = so.no_rs1; no_rs2 = λ h. absurd cc; pred_low = so.pred_low; imm_is = so.imm_is }

pred_sound : (s : Slots) (p : Operands) (k : ℕ) → k < 16 → Sound s p → Sound s (record p { pred = k })
pred_sound s p k lt so = record { rd_low = so.rd_low; rs1_low = so.rs1_low; rs2_low = so.rs2_low; no_rd = so.no_rd; no_rs1 = so.no_rs1; no_rs2 = so.no_rs2; pred_low = lt; imm_is = so.imm_is }

-- a byte is a fence's number
fence_number : (n : ℕ) → n < 256 → is_that (asks.Of op.Fence) (imm.Value (pos n)) ≡ true
fence_number n lt = below_passes (λ k. is_that (asks.Of op.Fence) (imm.Value (pos k))) 256 refl n lt

succ_sound : (s : Slots) (p : Operands) (k : ℕ) → k < 16 → Sound s p → Sound (with_imm s op.Fence) (record p { imm = imm.Value (pos (16 * p.pred + k)) })
succ_sound s p k lt so = record { rd_low = so.rd_low; rs1_low = so.rs1_low; rs2_low = so.rs2_low; no_rd = so.no_rd; no_rs1 = so.no_rs1; no_rs2 = so.no_rs2; pred_low = so.pred_low; imm_is = λ _. fence_number (16 * p.pred + k) (omega (arith, so.pred_low, lt)) }

based_sound : (s : Slots) (text : List ℕ) (p q : Operands) (k : Option ℕ) → based text p k ≡ Some q → Sound s p → Sound (slot_after shape.Offset s) q
based_sound s text p q None e so = absurd cc
based_sound s text p q (Some k) e so =
    let found : (r : ℕ) × (register_named (drop (k + 1) text) ≡ Some r) × (displacement (take k text) (record p { rs1 = r }) ≡ Some q) =
    chained (λ r. displacement (take k text) (record p { rs1 = r })) (register_named (drop (k + 1) text)) q e in
    with_sets (record s { rs1 = true }) (asks.Of op.Jalr) (record p { rs1 = found.0 }) q (displacement_sets (take k text) (record p { rs1 = found.0 }) q found.2)
    (rs1_sound s p found.0 (register_low (drop (k + 1) text) found.0 found.1) so)

offset_sound : (s : Slots) (text : List ℕ) (p q : Operands) → offset text p ≡ Some q → Sound s p → Sound (slot_after shape.Offset s) q
offset_sound s text p q e so = elim (decided (ends_with nat_eq text (41 ∷ []))) [
  | inl h ↦ (let more : based (take (length text - 1) text) p (last_open 0 None (take (length text - 1) text)) ≡ Some q = rw h at e in based_sound s (take (length text - 1) text) p q (last_open 0 None (take (length text - 1) text)) more so)
  | inr h ↦ (let none : None ≡ Some q = rw h at e in absurd cc)
]

number_sound : (s : Slots) (o : Op) (b : ImmRange) (text : List ℕ) (p q : Operands) → ((n : ℤ) → is_that (asks.Of o) (imm.Value n) ≡ is_within b n) → is_that (asks.Of o) (imm.Symbol 0) ≡ true → immediate b text p ≡ Some q → Sound s p → Sound (with_imm s o) q
number_sound s o b text p q value symbol e so = with_sets s (asks.Of o) p q (number_sets b (asks.Of o) text p q (number_at text) value symbol e) so

thread_sound : (s : Slots) (text : List ℕ) (p q : Operands) → accept shape.ThreadAdd text p ≡ Some q → Sound s p → Sound (slot_after shape.ThreadAdd s) q
thread_sound s text p q e so = elim (decided (starts_with nat_eq text (codes "%tprel_add("))) [
  | inl h ↦ (let more : symbolic text p ≡ Some q = rw h at e in with_sets s asks.Symbol p q (symbolic_sets asks.Symbol text p q refl more) so)
  | inr h ↦ (let none : None ≡ Some q = rw h at e in absurd cc)
]

pub set_low : (text : List ℕ) (k : ℕ) → place_from 0 set_names text ≡ Some k → k < 16
set_low text k e = place_low 0 set_names text k e

accept_sound : (x : Shape) (s : Slots) (text : List ℕ) (p q : Operands) → accept x text p ≡ Some q → Sound s p → Sound (slot_after x s) q
accept_sound shape.Rd s text p q e so =
    let found : (r : ℕ) × (register_named text ≡ Some r) × (record p { rd = r } ≡ q) = mapped (λ r. record p { rd = r }) (register_named text) q e in
    subst (Sound (record s { rd = true })) found.2 (rd_sound s p found.0 (register_low text found.0 found.1) so)
accept_sound shape.Rs1 s text p q e so =
    let found : (r : ℕ) × (register_named text ≡ Some r) × (record p { rs1 = r } ≡ q) = mapped (λ r. record p { rs1 = r }) (register_named text) q e in
    subst (Sound (record s { rs1 = true })) found.2 (rs1_sound s p found.0 (register_low text found.0 found.1) so)
accept_sound shape.Rs2 s text p q e so =
    let found : (r : ℕ) × (register_named text ≡ Some r) × (record p { rs2 = r } ≡ q) = mapped (λ r. record p { rs2 = r }) (register_named text) q e in
    subst (Sound (record s { rs2 = true })) found.2 (rs2_sound s p found.0 (register_low text found.0 found.1) so)
accept_sound shape.Upper s text p q e so = number_sound s op.Lui upper text p q (λ n. refl) refl e so
accept_sound shape.Signed12 s text p q e so = number_sound s op.Addi signed_12 text p q (λ n. refl) refl e so
accept_sound shape.Shift64 s text p q e so = number_sound s op.Slli shift_64 text p q (λ n. refl) refl e so
accept_sound shape.Shift32 s text p q e so = number_sound s op.Slliw shift_32 text p q (λ n. refl) refl e so
accept_sound shape.Branch s text p q e so = number_sound s op.Beq branch text p q (λ n. refl) refl e so
accept_sound shape.Jump s text p q e so = number_sound s op.Jal jump text p q (λ n. refl) refl e so
accept_sound shape.Offset s text p q e so = offset_sound s text p q e so
accept_sound shape.Wide s text p q e so = with_sets s asks.AnyNumber p q (wide_sets text p q e) so
accept_sound shape.Symbol s text p q e so = with_sets s asks.Symbol p q (symbolic_sets asks.Symbol text p q refl e) so
accept_sound shape.ThreadAdd s text p q e so = thread_sound s text p q e so
accept_sound shape.Pred s text p q e so =
    let found : (k : ℕ) × (place_from 0 set_names text ≡ Some k) × (record p { pred = k } ≡ q) = mapped (λ k. record p { pred = k }) (place_from 0 set_names text) q e in
    subst (Sound s) found.2 (pred_sound s p found.0 (set_low text found.0 found.1) so)
accept_sound shape.Succ s text p q e so =
    let found : (k : ℕ) × (place_from 0 set_names text ≡ Some k) × (record p { imm = imm.Value (pos (16 * p.pred + k)) } ≡ q) = mapped (λ k. record p { imm = imm.Value (pos (16 * p.pred + k)) }) (place_from 0 set_names text) q e in
    subst (Sound (with_imm s op.Fence)) found.2 (succ_sound s p found.0 (set_low text found.0 found.1) so)

all_sound : (xs : List Shape) (s : Slots) (texts : List (List ℕ)) (p q : Operands) → accept_all xs texts p ≡ Some q → Sound s p → Sound (slots_after xs s) q
all_sound [] s texts p q e so = let same : p ≡ q = cc in subst (Sound s) same so
all_sound (x ∷ xs) s [] p q e so = absurd cc
all_sound (x ∷ xs) s (text ∷ texts) p q e so =
    let found : (r : Operands) × (accept x text p ≡ Some r) × (accept_all xs texts r ≡ Some q) = chained (accept_all xs texts) (accept x text p) q e in
    all_sound xs (slot_after x s) texts found.0 q found.2 (accept_sound x s text p found.0 found.1 so)

-- ---- a row of the table

abbrev same_bool : Bool → Bool → Bool
same_bool true b = b
same_bool false b = not b

abbrev same_range : Option ImmRange → Option ImmRange → Bool
same_range None None = true
same_range None (Some b) = false
same_range (Some a) None = false
same_range (Some a) (Some b) = int_eq a.low b.low && int_eq a.high b.high && same_bool a.even b.even

-- whatever immediate the one is, the other one is too
abbrev agrees : Operand → Operand → Bool
agrees asks.Nothing asks.Nothing = true
agrees asks.AnyNumber asks.AnyNumber = true
agrees asks.Symbol asks.Symbol = true
agrees asks.Nothing (asks.Of b) = not (is_some (facts_of b).range)
agrees (asks.Of a) (asks.Of b) = same_range (facts_of a).range (facts_of b).range && same_bool (takes_symbol (facts_of a).form) (takes_symbol (facts_of b).form)
agrees _ _ = false

abbrev implies : Bool → Bool → Bool
implies a b = not a || b

abbrev form_takes : Form → Slots → Bool
form_takes f s = implies s.rd (has_rd f) && implies s.rs1 (has_rs1 f) && implies s.rs2 (has_rs2 f)

abbrev pseudo_takes : Asked → Slots → Bool
pseudo_takes o s = implies s.rd o.rd && implies s.rs1 o.rs && implies s.rs2 o.rt

abbrev makes_right : Makes → Slots → Bool
makes_right (One o) s = form_takes (facts_of o).form s && agrees s.imm (asks.Of o)
makes_right (Several k) s = pseudo_takes (operands_of k) s && agrees s.imm (operands_of k).imm

abbrev row_right : Row → Bool
row_right r = makes_right r.makes (slots_after r.shapes no_slots)

both : (a b : Bool) → a && b ≡ true → (a ≡ true) × (b ≡ true)
both true b h = (refl, h)
both false b h = absurd cc

same_bool_is : (a b : Bool) → same_bool a b ≡ true → a ≡ b
same_bool_is true true h = refl
same_bool_is true false h = absurd cc
same_bool_is false true h = absurd cc
same_bool_is false false h = refl

int_same : (a b : ℤ) → int_eq a b ≡ true → a ≡ b
int_same a b h = grind (arith, Decides-int_eq a b)

same_range_is : (a b : Option ImmRange) → same_range a b ≡ true → a ≡ b
same_range_is None None h = refl
same_range_is None (Some b) h = absurd cc
same_range_is (Some a) None h = absurd cc
same_range_is (Some a) (Some b) h =
    let first : (int_eq a.low b.low && int_eq a.high b.high ≡ true) × (same_bool a.even b.even ≡ true) = both (int_eq a.low b.low && int_eq a.high b.high) (same_bool a.even b.even) h in
    let second : (int_eq a.low b.low ≡ true) × (int_eq a.high b.high ≡ true) = both (int_eq a.low b.low) (int_eq a.high b.high) first.0 in
    let low : a.low ≡ b.low = int_same a.low b.low second.0 in
    let high : a.high ≡ b.high = int_same a.high b.high second.1 in
    let even : a.even ≡ b.even = same_bool_is a.even b.even first.1 in
    λ i. Some (record { low = low i; high = high i; even = even i })

of_agrees : (a b : Op) (i : Imm) → agrees (asks.Of a) (asks.Of b) ≡ true → is_lawful_imm a i ≡ true → is_lawful_imm b i ≡ true
of_agrees a b i h =
    let parts : (same_range (facts_of a).range (facts_of b).range ≡ true) × (same_bool (takes_symbol (facts_of a).form) (takes_symbol (facts_of b).form) ≡ true) =
    both (same_range (facts_of a).range (facts_of b).range) (same_bool (takes_symbol (facts_of a).form) (takes_symbol (facts_of b).form)) h in
    let bounds : (facts_of a).range ≡ (facts_of b).range = same_range_is (facts_of a).range (facts_of b).range parts.0 in
    let symbol : takes_symbol (facts_of a).form ≡ takes_symbol (facts_of b).form = same_bool_is (takes_symbol (facts_of a).form) (takes_symbol (facts_of b).form) parts.1 in
    go i bounds symbol
  where
    go : (j : Imm) → (facts_of a).range ≡ (facts_of b).range → takes_symbol (facts_of a).form ≡ takes_symbol (facts_of b).form → is_lawful_imm a j ≡ true → is_lawful_imm b j ≡ true
    go imm.None bounds symbol g = ap (λ o. not (is_some o)) (sym bounds) ∙ g
    go (imm.Value n) bounds symbol g = ap (λ o. is_lawful_number o n) (sym bounds) ∙ g
    go (imm.Symbol k) bounds symbol g = sym symbol ∙ g

agrees_is : (a b : Operand) (i : Imm) → agrees a b ≡ true → is_that a i ≡ true → is_that b i ≡ true
agrees_is asks.Nothing asks.Nothing i h g = g
agrees_is asks.Nothing asks.AnyNumber i h g = absurd cc
agrees_is asks.Nothing asks.Symbol i h g = absurd cc
agrees_is asks.Nothing (asks.Of b) imm.None h g = h
agrees_is asks.Nothing (asks.Of b) (imm.Value n) h g = absurd cc
agrees_is asks.Nothing (asks.Of b) (imm.Symbol k) h g = absurd cc
agrees_is asks.AnyNumber asks.Nothing i h g = absurd cc
agrees_is asks.AnyNumber asks.AnyNumber i h g = g
agrees_is asks.AnyNumber asks.Symbol i h g = absurd cc
agrees_is asks.AnyNumber (asks.Of b) i h g = absurd cc
agrees_is asks.Symbol asks.Nothing i h g = absurd cc
agrees_is asks.Symbol asks.AnyNumber i h g = absurd cc
agrees_is asks.Symbol asks.Symbol i h g = g
agrees_is asks.Symbol (asks.Of b) i h g = absurd cc
agrees_is (asks.Of a) asks.Nothing i h g = absurd cc
agrees_is (asks.Of a) asks.AnyNumber i h g = absurd cc
agrees_is (asks.Of a) asks.Symbol i h g = absurd cc
agrees_is (asks.Of a) (asks.Of b) i h g = of_agrees a b i h g

register_right : (there slot : Bool) (r : ℕ) → implies slot there ≡ true → r < 32 → (slot ≡ false → r ≡ 0) → is_lawful_register there r ≡ true
register_right true slot r h low none = grind (arith, nat_tests, low)
register_right false true r h low none = absurd cc
register_right false false r h low none = let zero_is : r ≡ 0 = none refl in subst (λ n. nat_lt n 1 ≡ true) (sym zero_is) refl

pseudo_register : (there slot : Bool) (r : ℕ) → implies slot there ≡ true → (slot ≡ false → r ≡ 0) → there || nat_eq r 0 ≡ true
pseudo_register true slot r h none = refl
pseudo_register false true r h none = absurd cc
pseudo_register false false r h none = let zero_is : r ≡ 0 = none refl in subst (λ n. nat_eq n 0 ≡ true) (sym zero_is) refl

all_four : (a b c d : Bool) → a ≡ true → b ≡ true → c ≡ true → d ≡ true → a && b && c && d ≡ true
all_four a b c d ha hb hc hd = (λ i. ha i && hb i && hc i && hd i)

makes_is : (m : Makes) (s : Slots) (p : Operands) → makes_right m s ≡ true → p.beyond ≡ false → Sound s p → is_right m p p.imm ≡ true
makes_is (One o) s p h within so =
    let f : Form = (facts_of o).form in
    let two : (form_takes f s ≡ true) × (agrees s.imm (asks.Of o) ≡ true) = both (form_takes f s) (agrees s.imm (asks.Of o)) h in
    let three : (implies s.rd (has_rd f) && implies s.rs1 (has_rs1 f) ≡ true) × (implies s.rs2 (has_rs2 f) ≡ true) = both (implies s.rd (has_rd f) && implies s.rs1 (has_rs1 f)) (implies s.rs2 (has_rs2 f)) two.0 in
    let four : (implies s.rd (has_rd f) ≡ true) × (implies s.rs1 (has_rs1 f) ≡ true) = both (implies s.rd (has_rd f)) (implies s.rs1 (has_rs1 f)) three.0 in
    all_four (is_lawful_register (has_rd f) p.rd) (is_lawful_register (has_rs1 f) p.rs1) (is_lawful_register (has_rs2 f) p.rs2) (is_lawful_imm o p.imm)
    (register_right (has_rd f) s.rd p.rd four.0 so.rd_low so.no_rd) (register_right (has_rs1 f) s.rs1 p.rs1 four.1 so.rs1_low so.no_rs1) (register_right (has_rs2 f) s.rs2 p.rs2 three.1 so.rs2_low so.no_rs2)
    (agrees_is s.imm (asks.Of o) p.imm two.1 (so.imm_is within))
makes_is (Several k) s p h within so =
    let o : Asked = operands_of k in
    let two : (pseudo_takes o s ≡ true) × (agrees s.imm o.imm ≡ true) = both (pseudo_takes o s) (agrees s.imm o.imm) h in
    let three : (implies s.rd o.rd && implies s.rs1 o.rs ≡ true) × (implies s.rs2 o.rt ≡ true) = both (implies s.rd o.rd && implies s.rs1 o.rs) (implies s.rs2 o.rt) two.0 in
    let four : (implies s.rd o.rd ≡ true) × (implies s.rs1 o.rs ≡ true) = both (implies s.rd o.rd) (implies s.rs1 o.rs) three.0 in
    all_four (o.rd || nat_eq p.rd 0) (o.rs || nat_eq p.rs1 0) (o.rt || nat_eq p.rs2 0) (is_that o.imm p.imm)
    (pseudo_register o.rd s.rd p.rd four.0 so.no_rd) (pseudo_register o.rs s.rs1 p.rs1 four.1 so.no_rs1) (pseudo_register o.rt s.rs2 p.rs2 three.1 so.no_rs2)
    (agrees_is s.imm o.imm p.imm two.1 (so.imm_is within))

-- ---- what the table gives

pub chosen : (b : Bool) (x y z : Result Fit Cause) → (if b then x else y) ≡ z → ((b ≡ true) × (x ≡ z)) ⊎ ((b ≡ false) × (y ≡ z))
chosen true x y z e = inl (refl, e)
chosen false x y z e = inr (refl, e)

taken_right : (r : Row) (texts : List (List ℕ)) (o : Option Operands) (fit : Fit) → row_right r ≡ true → accept_all r.shapes texts no_operands ≡ o → taken r.makes o ≡ Ok fit → is_right fit.makes fit.operands fit.operands.imm ≡ true
taken_right r texts None fit h is e = absurd cc
taken_right r texts (Some p) fit h is e = elim (chosen p.beyond (Err cause.ImmediateRange) (Ok (record { makes = r.makes; operands = p })) (Ok fit) e) [
  | inl g ↦ absurd (let no : Err cause.ImmediateRange ≡ Ok fit = g.1 in cc)
  | inr g ↦ (let there : Ok (record { makes = r.makes; operands = p }) ≡ Ok fit = g.1 in
      let same : record { makes = r.makes; operands = p } ≡ fit = cc in
      subst (λ f. is_right f.makes f.operands f.operands.imm ≡ true) same (makes_is r.makes (slots_after r.shapes no_slots) p h g.0 (all_sound r.shapes no_slots texts no_operands p is nothing_sound)))
]

fits_right : (r : Row) (texts : List (List ℕ)) (fit : Fit) → row_right r ≡ true → fits r texts ≡ Ok fit → is_right fit.makes fit.operands fit.operands.imm ≡ true
fits_right r texts fit h e = elim (decided (nat_eq (length r.shapes) (length texts))) [
  | inl g ↦ (let there : taken r.makes (accept_all r.shapes texts no_operands) ≡ Ok fit = rw g at e in taken_right r texts (accept_all r.shapes texts no_operands) fit h refl there)
  | inr g ↦ (let no : Err cause.OperandCount ≡ Ok fit = rw g at e in absurd cc)
]

-- the first form that fits, or what the others give
first_right : (r : Row) (texts : List (List ℕ)) (o : Result Fit Cause) (others : Cause → Result Fit Cause) (fit : Fit) → row_right r ≡ true → fits r texts ≡ o → or_else o others ≡ Ok fit
    → ((c : Cause) → others c ≡ Ok fit → is_right fit.makes fit.operands fit.operands.imm ≡ true) → is_right fit.makes fit.operands fit.operands.imm ≡ true
first_right r texts (Ok x) others fit h is e more = fits_right r texts fit h (is ∙ e)
first_right r texts (Err c) others fit h is e more = more c e

judged_right : (rows : List Row) (best : Cause) (mnemonic : List ℕ) (texts : List (List ℕ)) (fit : Fit) → list_all row_right rows ≡ true → judged best rows mnemonic texts ≡ Ok fit → is_right fit.makes fit.operands fit.operands.imm ≡ true
judged_right [] best mnemonic texts fit h e = absurd cc
judged_right (r ∷ rs) best mnemonic texts fit h e =
    let here : (row_right r ≡ true) × (list_all row_right rs ≡ true) = both (row_right r) (list_all row_right rs) h in
    elim (decided (is_named r mnemonic)) [
      | inl g ↦ (let there : or_else (fits r texts) (λ c. judged (further best c) rs mnemonic texts) ≡ Ok fit = rw g at e in
          first_right r texts (fits r texts) (λ c. judged (further best c) rs mnemonic texts) fit here.0 refl there (λ c f. judged_right rs (further best c) mnemonic texts fit here.1 f))
      | inr g ↦ (let there : judged best rs mnemonic texts ≡ Ok fit = rw g at e in judged_right rs best mnemonic texts fit here.1 there)
    ]

table_right : list_all row_right forms ≡ true
table_right = refl

pub fit_right : (mnemonic : List ℕ) (texts : List (List ℕ)) (fit : Fit) → fit_in mnemonic texts ≡ Ok fit → is_right fit.makes fit.operands fit.operands.imm ≡ true
unfolding fit_in
fit_right mnemonic texts fit e = judged_right forms cause.UnknownMnemonic mnemonic texts fit table_right e

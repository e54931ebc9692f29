-- what the operands of every statement come to: registers, and an immediate that an instruction has room for
use Rattle.std.proofs.Common.{◌≡◌, ℕ, ℤ, pos, neg_ℤ, ◌+◌, ◌-◌, ◌*◌, ◌^◌, ◌<◌, inl, inr, List, [], ◌∷◌, length, take, drop, None, Some, Ok, Err, sym, ◌∙◌, refl, subst, arith, nat_eq, true, false, Bool}
use Rattle.std.specs.Prelude.{◌&&◌, FitsSigned, int_le, int_lt, ◌-ℤ◌, codes}
use Rattle.std.specs.Int.{w64}
use Rattle.std.specs.List.{starts_with, ends_with}
use Rattle.std.specs.declared.option.Option.{Option}
use Rattle.std.specs.declared.result.Result.{Result}
use Rattle.std.proofs.lemmas.Int.{ints}
use Rattle.rv_isa.specs.declared.facts.ImmRange.{ImmRange}
use Rattle.rv_isa.specs.declared.instr.Imm.{Imm}
use Rattle.rv_isa.specs.declared.instr.Imm.TheVariants as imm
use Rattle.rv_isa.specs.Instruction.{is_within}
use Rattle.rv_isa.specs.Opcodes.{upper, signed_12, shift_64, shift_32, jump, branch}
use Rattle.rv_isa.specs.Registers.{place_from, register_named}
use Rattle.rv_isa.specs.Spelling.{set_names}
use Rattle.rv_asm.specs.declared.fault.Cause.{Cause}
use Rattle.rv_asm.specs.declared.fault.Cause.TheVariants as cause
use Rattle.rv_asm.specs.declared.form.Makes.{Makes}
use Rattle.rv_asm.specs.declared.operand.Shape.{Shape}
use Rattle.rv_asm.specs.declared.operand.Shape.TheVariants as shape
use Rattle.rv_asm.specs.Numbers.{number_at}
use Rattle.rv_asm.specs.Statement.{is_empty}
use Rattle.rv_asm.specs.Symbols.{is_symbolic}
use Rattle.rv_asm.specs.Operands.{Operands, no_operands, symbolic, ranged, number_or_symbol, immediate, displacement, last_open, based, offset, is_wide, wrapped, wide, accept, accept_all}
use Rattle.rv_asm.specs.Forms.{Row, Fit, taken, fits, further, or_else, is_named, judged}
use Rattle.rv_asm.proofs.Cut.{decided}
use Rattle.rv_asm.proofs.Right.{mapped, chained, chosen, register_low, set_low}

abbrev pub HoldsImm : Imm → List ℕ → Type 0
HoldsImm imm.None symbol = Unit {0}
HoldsImm (imm.Value v) symbol = FitsSigned w64 v
HoldsImm (imm.Symbol k) symbol = is_symbolic symbol ≡ true

pub record Holds (p : Operands) : Type 0 where
  pub rd : p.rd < 32
  pub rs1 : p.rs1 < 32
  pub rs2 : p.rs2 < 32
  pub pred : p.pred < 16
  pub imm : HoldsImm p.imm p.symbol

with_imm : (p : Operands) (i : Imm) (symbol : List ℕ) → HoldsImm i symbol → Holds p → Holds (record p { imm = i; symbol = symbol })
with_imm p i symbol h so = record { rd = so.rd; rs1 = so.rs1; rs2 = so.rs2; pred = so.pred; imm = h }

-- a range whose numbers 64 bits hold
abbrev is_small : ImmRange → Bool
is_small b = int_le (neg_ℤ (pos 1048576)) b.low && int_le b.high (pos 1048576)

small_fits : (b : ImmRange) (n : ℤ) → is_small b ≡ true → is_within b n ≡ true → FitsSigned w64 n
small_fits b n small within = grind (arith, ints)

symbolic_holds : (text : List ℕ) (p q : Operands) → symbolic text p ≡ Some q → Holds p → Holds q
symbolic_holds text p q e so = elim (decided (is_symbolic text)) [
  | inl h ↦ (let there : Some (record p { imm = imm.Symbol 0; symbol = text }) ≡ Some q = rw h at e in
      let same : record p { imm = imm.Symbol 0; symbol = text } ≡ q = cc in
      subst Holds same (with_imm p (imm.Symbol 0) text h so))
  | inr h ↦ (let none : None ≡ Some q = rw h at e in absurd cc)
]

ranged_holds : (within : Bool) (n : ℤ) (p : Operands) → (within ≡ true → FitsSigned w64 n) → Holds p → Holds (ranged within n p)
ranged_holds true n p ok so = with_imm p (imm.Value n) p.symbol (ok refl) so
ranged_holds false n p ok so = record { rd = so.rd; rs1 = so.rs1; rs2 = so.rs2; pred = so.pred; imm = so.imm }

number_holds : (b : ImmRange) (text : List ℕ) (p q : Operands) (r : Option ℤ) → is_small b ≡ true → number_or_symbol b text p r ≡ Some q → Holds p → Holds q
number_holds b text p q None small e so = symbolic_holds text p q e so
number_holds b text p q (Some n) small e so =
    let same : ranged (is_within b n) n p ≡ q = cc in
    subst Holds same (ranged_holds (is_within b n) n p (small_fits b n small) so)

displacement_holds : (text : List ℕ) (p q : Operands) → displacement text p ≡ Some q → Holds p → Holds q
displacement_holds text p q e so = elim (decided (is_empty text)) [
  | inl h ↦ (let there : Some (record p { imm = imm.Value (pos 0) }) ≡ Some q = rw h at e in
      let same : record p { imm = imm.Value (pos 0) } ≡ q = cc in
      let nought : FitsSigned w64 (pos 0) = grind (arith, ints) in
      subst Holds same (with_imm p (imm.Value (pos 0)) p.symbol nought so))
  | inr h ↦ (let more : immediate signed_12 text p ≡ Some q = rw h at e in number_holds signed_12 text p q (number_at text) refl more so)
]

based_holds : (text : List ℕ) (p q : Operands) (k : Option ℕ) → based text p k ≡ Some q → Holds p → Holds q
based_holds text p q None e so = absurd cc
based_holds text p q (Some k) e so =
    let found : (r : ℕ) × (register_named (drop (k + 1) text) ≡ Some r) × (displacement (take k text) (record p { rs1 = r }) ≡ Some q) =
    chained (λ r. displacement (take k text) (record p { rs1 = r })) (register_named (drop (k + 1) text)) q e in
    displacement_holds (take k text) (record p { rs1 = found.0 }) q found.2
    (record { rd = so.rd; rs1 = register_low (drop (k + 1) text) found.0 found.1; rs2 = so.rs2; pred = so.pred; imm = so.imm })

offset_holds : (text : List ℕ) (p q : Operands) → offset text p ≡ Some q → Holds p → Holds q
offset_holds text p q e so = elim (decided (ends_with nat_eq text (41 ∷ []))) [
  | inl h ↦ (let more : based (take (length text - 1) text) p (last_open 0 None (take (length text - 1) text)) ≡ Some q = rw h at e in
      based_holds (take (length text - 1) text) p q (last_open 0 None (take (length text - 1) text)) more so)
  | inr h ↦ (let none : None ≡ Some q = rw h at e in absurd cc)
]

wrapped_fits : (n : ℤ) → is_wide n ≡ true → FitsSigned w64 (wrapped n)
wrapped_fits n h = elim (decided (int_lt n (pos (2 ^ 63)))) [
  | inl g ↦ (let same : wrapped n ≡ n = rw g refl in subst (FitsSigned w64) (sym same) (grind (arith, ints, h, g)))
  | inr g ↦ (let same : wrapped n ≡ n -ℤ pos (2 ^ 64) = rw g refl in subst (FitsSigned w64) (sym same) (grind (arith, ints, h, g)))
]

wide_holds : (text : List ℕ) (p q : Operands) → wide text p ≡ Some q → Holds p → Holds q
wide_holds text p q e so =
    let found : (n : ℤ) × (number_at text ≡ Some n) × (ranged (is_wide n) (wrapped n) p ≡ q) = mapped (λ n. ranged (is_wide n) (wrapped n) p) (number_at text) q e in
    subst Holds found.2 (ranged_holds (is_wide found.0) (wrapped found.0) p (wrapped_fits found.0) so)

sets_fit : (n : ℕ) → n < 256 → FitsSigned w64 (pos n)
sets_fit n lt = grind (arith, ints)

accept_holds : (x : Shape) (text : List ℕ) (p q : Operands) → accept x text p ≡ Some q → Holds p → Holds q
accept_holds shape.Rd text p q e so =
    let found : (r : ℕ) × (register_named text ≡ Some r) × (record p { rd = r } ≡ q) = mapped (λ r. record p { rd = r }) (register_named text) q e in
    subst Holds found.2 (record { rd = register_low text found.0 found.1; rs1 = so.rs1; rs2 = so.rs2; pred = so.pred; imm = so.imm })
accept_holds shape.Rs1 text p q e so =
    let found : (r : ℕ) × (register_named text ≡ Some r) × (record p { rs1 = r } ≡ q) = mapped (λ r. record p { rs1 = r }) (register_named text) q e in
    subst Holds found.2 (record { rd = so.rd; rs1 = register_low text found.0 found.1; rs2 = so.rs2; pred = so.pred; imm = so.imm })
accept_holds shape.Rs2 text p q e so =
    let found : (r : ℕ) × (register_named text ≡ Some r) × (record p { rs2 = r } ≡ q) = mapped (λ r. record p { rs2 = r }) (register_named text) q e in
    subst Holds found.2 (record { rd = so.rd; rs1 = so.rs1; rs2 = register_low text found.0 found.1; pred = so.pred; imm = so.imm })
accept_holds shape.Upper text p q e so = number_holds upper text p q (number_at text) refl e so
accept_holds shape.Signed12 text p q e so = number_holds signed_12 text p q (number_at text) refl e so
accept_holds shape.Shift64 text p q e so = number_holds shift_64 text p q (number_at text) refl e so
accept_holds shape.Shift32 text p q e so = number_holds shift_32 text p q (number_at text) refl e so
accept_holds shape.Branch text p q e so = number_holds branch text p q (number_at text) refl e so
accept_holds shape.Jump text p q e so = number_holds jump text p q (number_at text) refl e so
accept_holds shape.Offset text p q e so = offset_holds text p q e so
accept_holds shape.Wide text p q e so = wide_holds text p q e so
accept_holds shape.Symbol text p q e so = symbolic_holds text p q e so
accept_holds shape.ThreadAdd text p q e so = elim (decided (starts_with nat_eq text (codes "%tprel_add("))) [
  | inl h ↦ (let more : symbolic text p ≡ Some q = rw h at e in symbolic_holds text p q more so)
  | inr h ↦ (let none : None ≡ Some q = rw h at e in absurd cc)
]
accept_holds shape.Pred text p q e so =
    let found : (k : ℕ) × (place_from 0 set_names text ≡ Some k) × (record p { pred = k } ≡ q) = mapped (λ k. record p { pred = k }) (place_from 0 set_names text) q e in
    subst Holds found.2 (record { rd = so.rd; rs1 = so.rs1; rs2 = so.rs2; pred = set_low text found.0 found.1; imm = so.imm })
accept_holds shape.Succ text p q e so =
    let found : (k : ℕ) × (place_from 0 set_names text ≡ Some k) × (record p { imm = imm.Value (pos (16 * p.pred + k)) } ≡ q) = mapped (λ k. record p { imm = imm.Value (pos (16 * p.pred + k)) }) (place_from 0 set_names text) q e in
    let low : found.0 < 16 = set_low text found.0 found.1 in
    let high : p.pred < 16 = so.pred in
    subst Holds found.2 (with_imm p (imm.Value (pos (16 * p.pred + found.0))) p.symbol (sets_fit (16 * p.pred + found.0) (omega (arith, low, high))) so)

all_hold : (xs : List Shape) (texts : List (List ℕ)) (p q : Operands) → accept_all xs texts p ≡ Some q → Holds p → Holds q
all_hold [] texts p q e so = let same : p ≡ q = cc in subst Holds same so
all_hold (x ∷ xs) [] p q e so = absurd cc
all_hold (x ∷ xs) (text ∷ texts) p q e so =
    let found : (r : Operands) × (accept x text p ≡ Some r) × (accept_all xs texts r ≡ Some q) = chained (accept_all xs texts) (accept x text p) q e in
    all_hold xs texts found.0 q found.2 (accept_holds x text p found.0 found.1 so)

nothing_holds : Holds no_operands
nothing_holds = record { rd = omega arith; rs1 = omega arith; rs2 = omega arith; pred = omega arith; imm = tt }

taken_holds : (makes : Makes) (xs : List Shape) (texts : List (List ℕ)) (o : Option Operands) (fit : Fit) → accept_all xs texts no_operands ≡ o → taken makes o ≡ Ok fit → Holds fit.operands
taken_holds makes xs texts None fit is e = absurd cc
taken_holds makes xs texts (Some p) fit is e = elim (chosen p.beyond (Err cause.ImmediateRange) (Ok (record { makes = makes; operands = p })) (Ok fit) e) [
  | inl g ↦ absurd (let no : Err cause.ImmediateRange ≡ Ok fit = g.1 in cc)
  | inr g ↦ (let there : Ok (record { makes = makes; operands = p }) ≡ Ok fit = g.1 in
      let same : record { makes = makes; operands = p } ≡ fit = cc in
      subst (λ f. Holds f.operands) same (all_hold xs texts no_operands p is nothing_holds))
]

-- a form at these operands
fits_holds : (r : Row) (texts : List (List ℕ)) (fit : Fit) → fits r texts ≡ Ok fit → Holds fit.operands
fits_holds r texts fit e = elim (decided (nat_eq (length r.shapes) (length texts))) [
  | inl g ↦ (let there : taken r.makes (accept_all r.shapes texts no_operands) ≡ Ok fit = rw g at e in taken_holds r.makes r.shapes texts (accept_all r.shapes texts no_operands) fit refl there)
  | inr g ↦ (let no : Err cause.OperandCount ≡ Ok fit = rw g at e in absurd cc)
]

first_holds : (r : Row) (texts : List (List ℕ)) (o : Result Fit Cause) (others : Cause → Result Fit Cause) (fit : Fit) → fits r texts ≡ o → or_else o others ≡ Ok fit
    → ((c : Cause) → others c ≡ Ok fit → Holds fit.operands) → Holds fit.operands
first_holds r texts (Ok x) others fit is e more = fits_holds r texts fit (is ∙ e)
first_holds r texts (Err c) others fit is e more = more c e

pub judged_holds : (rows : List Row) (best : Cause) (mnemonic : List ℕ) (texts : List (List ℕ)) (fit : Fit) → judged best rows mnemonic texts ≡ Ok fit → Holds fit.operands
judged_holds [] best mnemonic texts fit e = absurd cc
judged_holds (r ∷ rs) best mnemonic texts fit e = elim (decided (is_named r mnemonic)) [
  | inl g ↦ (let there : or_else (fits r texts) (λ c. judged (further best c) rs mnemonic texts) ≡ Ok fit = rw g at e in
      first_holds r texts (fits r texts) (λ c. judged (further best c) rs mnemonic texts) fit refl there (λ c f. judged_holds rs (further best c) mnemonic texts fit f))
  | inr g ↦ (let there : judged best rs mnemonic texts ≡ Ok fit = rw g at e in judged_holds rs best mnemonic texts fit there)
]

-- an instruction that is spelled out is read as itself
use Rattle.std.proofs.Common.{◌≡◌, ℕ, ℤ, pos, negsuc, ◌+◌, ◌*◌, ◌/◌, ◌%◌, ◌^◌, ◌<◌, inl, inr, List, [], ◌∷◌, ◌++◌, length, None, Some, Ok, sym, ◌∙◌, ap, refl, subst, arith, nat_eq, true, false, Bool, append_assoc}
use Rattle.std.specs.Prelude.{◌&&◌, not, is_some, option_and_then, codes, int_le, neg_ℤ, slice_index_or, if◌then◌else◌}
use Rattle.std.specs.List.{AllByRecursion, starts_with}
use Rattle.std.specs.Option.{option_map}
use Rattle.std.specs.declared.option.Option.{Option}
use Rattle.std.proofs.lemmas.Bool.Decides.{nat_tests}
use Rattle.std.proofs.lemmas.Int.{ints}
use Rattle.rv_isa.specs.declared.op.Op.{Op}
use Rattle.rv_isa.specs.declared.op.Op.TheVariants as op
use Rattle.rv_isa.specs.declared.facts.ImmRange.{ImmRange}
use Rattle.rv_isa.specs.declared.facts.Form.{Form}
use Rattle.rv_isa.specs.declared.facts.Form.TheVariants as form
use Rattle.rv_isa.specs.declared.instr.Imm.{Imm}
use Rattle.rv_isa.specs.declared.instr.Imm.TheVariants as imm
use Rattle.rv_isa.specs.declared.instr.Instr.{Instr}
use Rattle.rv_isa.specs.Instruction.{is_within, takes_symbol, has_rd, has_rs1, has_rs2, is_lawful, is_lawful_imm, is_lawful_number, is_lawful_register}
use Rattle.rv_isa.specs.Opcodes.{facts_of, signed_12, sets}
use Rattle.rv_isa.specs.Registers.{name_of}
use Rattle.rv_isa.specs.Spelling.{set_of, sets_of, imm_of, offset_of, operands}
use Rattle.rv_isa.proofs.Names.{register_named-name_of}
use Rattle.rv_asm.specs.declared.fault.Cause.{Cause}
use Rattle.rv_asm.specs.declared.form.Makes.TheVariants.{One}
use Rattle.rv_asm.specs.declared.operand.Shape.{Shape}
use Rattle.rv_asm.specs.declared.operand.Shape.TheVariants as shape
use Rattle.rv_asm.specs.Operands.{Operands, no_operands, immediate, offset, accept, accept_all}
use Rattle.rv_asm.specs.Forms.{Row, Fit, fits, further, or_else, is_named, judged}
use Rattle.rv_asm.specs.Table.{forms}
use Rattle.rv_asm.specs.Items.{numbered, named}
use Rattle.rv_isa.specs.Symbol.{HasSymbolText}
use Rattle.rv_asm.specs.Symbols.{is_symbolic}
use Rattle.rv_asm.specs.Spelled.{symbol_in}
use Rattle.rv_asm.proofs.SymbolsBack.{text_symbolic}
use Rattle.rv_asm.proofs.Cut.{decided}
use Rattle.rv_asm.proofs.SpelledNumbers.{size_of}
use Rattle.rv_asm.proofs.SpelledLine.{IsOperand, IsMnemonic}
use Rattle.rv_asm.proofs.SpelledSymbols.{symbol_operand}
use Rattle.rv_asm.proofs.SpelledOperands.{register_operand, set_operand, set_read, number_operand, number_read, symbol_read, offset_read, offset_operand, offset_text}

-- ---- the opcodes' rows

abbrev pub imm_shape : Op → Shape
imm_shape op.Lui = shape.Upper
imm_shape op.Auipc = shape.Upper
imm_shape op.Slli = shape.Shift64
imm_shape op.Srli = shape.Shift64
imm_shape op.Srai = shape.Shift64
imm_shape op.Slliw = shape.Shift32
imm_shape op.Srliw = shape.Shift32
imm_shape op.Sraiw = shape.Shift32
imm_shape op.Jal = shape.Jump
imm_shape op.Beq = shape.Branch
imm_shape op.Bne = shape.Branch
imm_shape op.Blt = shape.Branch
imm_shape op.Bge = shape.Branch
imm_shape op.Bltu = shape.Branch
imm_shape op.Bgeu = shape.Branch
imm_shape _ = shape.Signed12

abbrev pub shapes_in : Form → Shape → List Shape
shapes_in form.RdImm s = shape.Rd ∷ s ∷ []
shapes_in form.RdRs1Imm s = shape.Rd ∷ shape.Rs1 ∷ s ∷ []
shapes_in form.RdRs1Rs2 s = shape.Rd ∷ shape.Rs1 ∷ shape.Rs2 ∷ []
shapes_in form.RdOffset s = shape.Rd ∷ shape.Offset ∷ []
shapes_in form.Rs2Offset s = shape.Rs2 ∷ shape.Offset ∷ []
shapes_in form.Rs1Rs2Imm s = shape.Rs1 ∷ shape.Rs2 ∷ s ∷ []
shapes_in form.Sets s = shape.Pred ∷ shape.Succ ∷ []
shapes_in form.Nothing s = []

abbrev pub row_for : Op → Row
row_for o = record { mnemonic = (facts_of o).mnemonic; shapes = shapes_in (facts_of o).form (imm_shape o); makes = One o }

-- the first row of a mnemonic
abbrev pub found : List Row → List ℕ → Option Row
found [] mnemonic = None
found (r ∷ rs) mnemonic = if is_named r mnemonic then Some r else found rs mnemonic

pub judged_first : (rows : List Row) (best : Cause) (mnemonic : List ℕ) (texts : List (List ℕ)) (r : Row) (fit : Fit) → found rows mnemonic ≡ Some r → fits r texts ≡ Ok fit → judged best rows mnemonic texts ≡ Ok fit
judged_first [] best mnemonic texts r fit h e = absurd cc
judged_first (x ∷ xs) best mnemonic texts r fit h e = elim (decided (is_named x mnemonic)) [
  | inl g ↦ (let there : Some x ≡ Some r = rw g at h in let same : x ≡ r = cc in rw g (ap (λ y. or_else (fits y texts) (λ c. judged (further best c) xs mnemonic texts)) same ∙ ap (λ y. or_else y (λ c. judged (further best c) xs mnemonic texts)) e))
  | inr g ↦ (let there : found xs mnemonic ≡ Some r = rw g at h in rw g (judged_first xs best mnemonic texts r fit there e))
]

-- the opcode's row is the first of its mnemonic
pub op_row : (o : Op) → found forms (facts_of o).mnemonic ≡ Some (row_for o)
op_row op.Lui = refl
op_row _ = refl

pub op_mnemonic : (o : Op) → IsMnemonic (facts_of o).mnemonic
op_mnemonic op.Lui = record { symbols = refl; some = refl; no_dot = refl }
op_mnemonic _ = record { symbols = refl; some = refl; no_dot = refl }

pub not_compressed : (o : Op) (rest : List ℕ) → starts_with nat_eq ((facts_of o).mnemonic ++ rest) (codes "c.") ≡ false
not_compressed op.Lui rest = refl
not_compressed _ rest = refl

-- ---- the immediates

abbrev or_none : Option ImmRange → ImmRange
or_none None = signed_12
or_none (Some b) = b

abbrev bounds_for : Op → ImmRange
bounds_for o = or_none (facts_of o).range

abbrev is_small : ImmRange → Bool
is_small b = int_le (neg_ℤ (pos 9223372036854775808)) b.low && int_le b.high (pos 9223372036854775808)

small_bounds : (o : Op) → is_small (bounds_for o) ≡ true
small_bounds op.Lui = refl
small_bounds _ = refl

small_number : (b : ImmRange) (n : ℤ) → is_small b ≡ true → is_within b n ≡ true → size_of n < 2 ^ 64
small_number b (pos n) small within = grind (arith, nat_tests, ints)
small_number b (negsuc n) small within = grind (arith, nat_tests, ints)

within_bounds : (o : Option ImmRange) (n : ℤ) → is_lawful_number o n ≡ true → is_within (or_none o) n ≡ true
within_bounds None n h = absurd cc
within_bounds (Some b) n h = h

imm_accept : (o : Op) → takes_symbol (facts_of o).form ≡ true → (text : List ℕ) (p : Operands) → accept (imm_shape o) text p ≡ immediate (bounds_for o) text p
imm_accept op.Lui h text p = refl
imm_accept _ h text p = cc

loads_bounds : (o : Op) → (facts_of o).form ≡ form.RdOffset → bounds_for o ≡ signed_12
loads_bounds op.Lui e = cc
loads_bounds _ e = cc

stores_bounds : (o : Op) → (facts_of o).form ≡ form.Rs2Offset → bounds_for o ≡ signed_12
stores_bounds op.Lui e = cc
stores_bounds _ e = cc

-- what the operands have with this immediate
abbrev with_imm : List (List ℕ) → Imm → Operands → Operands
with_imm names (imm.Symbol k) p = record p { imm = imm.Symbol 0; symbol = slice_index_or names k [] }
with_imm names (imm.Value n) p = record p { imm = imm.Value n }
with_imm names imm.None p = p

-- an immediate that its opcode takes is an operand, and is read as itself
record ReadsImm (b : ImmRange) (names : List (List ℕ)) (j : Imm) : Type 0 where
  operand : IsOperand (imm_of names j)
  read : (p : Operands) → immediate b (imm_of names j) p ≡ Some (with_imm names j p)

reads_imm : (o : Op) (names : List (List ℕ)) (j : Imm) → is_some (facts_of o).range ≡ true → is_lawful_imm o j ≡ true → HasSymbolText names j → ReadsImm (bounds_for o) names j
reads_imm o names imm.None there lawful symbol = absurd (none_there (is_some (facts_of o).range) there lawful)
  where
    none_there : (t : Bool) → t ≡ true → not t ≡ true → ⊥
    none_there true h g = cc
    none_there false h g = cc
reads_imm o names (imm.Value n) there lawful symbol =
    let within : is_within (bounds_for o) n ≡ true = within_bounds (facts_of o).range n lawful in
    let small : size_of n < 2 ^ 64 = small_number (bounds_for o) n (small_bounds o) within in
    record { operand = number_operand n small; read = λ p. number_read (bounds_for o) n p small within }
reads_imm o names (imm.Symbol k) there lawful symbol =
    let is : is_symbolic (slice_index_or names k []) ≡ true = text_symbolic (slice_index_or names k []) symbol in
    record { operand = symbol_operand (slice_index_or names k []) is; read = λ p. symbol_read (bounds_for o) (slice_index_or names k []) p is }

-- ---- the forms

pub record ReadsAll (i : Instr) (names : List (List ℕ)) (f : Form) : Type 0 where
  pub all : AllByRecursion IsOperand (operands names i f)
  pub read : Operands
  pub is_read : accept_all (shapes_in f (imm_shape i.op)) (operands names i f) no_operands ≡ Some read
  pub count : nat_eq (length (shapes_in f (imm_shape i.op))) (length (operands names i f)) ≡ true
  pub within : read.beyond ≡ false
  pub rd : read.rd ≡ i.rd
  pub rs1 : read.rs1 ≡ i.rs1
  pub rs2 : read.rs2 ≡ i.rs2
  pub imm_is : (before : List (List ℕ)) → numbered before read.symbol read.imm ≡ numbered before (symbol_in names i.imm) i.imm
  pub named_is : (before : List (List ℕ)) → named before read.symbol read.imm ≡ named before (symbol_in names i.imm) i.imm

low_register : (there : Bool) (r : ℕ) → is_lawful_register there r ≡ true → r < 32
low_register true r h = grind (arith, nat_tests, h)
low_register false r h = grind (arith, nat_tests, h)

no_register : (r : ℕ) → is_lawful_register false r ≡ true → 0 ≡ r
no_register r h = grind (arith, nat_tests, h)

-- what an immediate adds
record Adds (names : List (List ℕ)) (j : Imm) (p q : Operands) : Type 0 where
  within : q.beyond ≡ p.beyond
  rd : q.rd ≡ p.rd
  rs1 : q.rs1 ≡ p.rs1
  rs2 : q.rs2 ≡ p.rs2
  imm_is : (before : List (List ℕ)) → numbered before q.symbol q.imm ≡ numbered before (symbol_in names j) j
  named_is : (before : List (List ℕ)) → named before q.symbol q.imm ≡ named before (symbol_in names j) j

adds : (names : List (List ℕ)) (j : Imm) (p : Operands) → p.imm ≡ imm.None → Adds names j p (with_imm names j p)
adds names imm.None p e = record { within = refl; rd = refl; rs1 = refl; rs2 = refl; imm_is = λ before. ap (numbered before p.symbol) e; named_is = λ before. ap (named before p.symbol) e }
adds names (imm.Value n) p e = record { within = refl; rd = refl; rs1 = refl; rs2 = refl; imm_is = λ before. refl; named_is = λ before. refl }
adds names (imm.Symbol k) p e = record { within = refl; rd = refl; rs1 = refl; rs2 = refl; imm_is = λ before. refl; named_is = λ before. refl }

abbrev three_of : ℕ → ℕ → ℕ → Operands
three_of d s t = record { rd = d; rs1 = s; rs2 = t; imm = imm.None; symbol = []; pred = 0; beyond = false }

rd_read : (r : ℕ) (p : Operands) → r < 32 → accept shape.Rd (name_of r) p ≡ Some (record p { rd = r })
rd_read r p lt = ap (option_map (λ k. record p { rd = k })) (register_named-name_of r lt)

rs1_read : (r : ℕ) (p : Operands) → r < 32 → accept shape.Rs1 (name_of r) p ≡ Some (record p { rs1 = r })
rs1_read r p lt = ap (option_map (λ k. record p { rs1 = k })) (register_named-name_of r lt)

rs2_read : (r : ℕ) (p : Operands) → r < 32 → accept shape.Rs2 (name_of r) p ≡ Some (record p { rs2 = r })
rs2_read r p lt = ap (option_map (λ k. record p { rs2 = k })) (register_named-name_of r lt)

one_more : (xs : List Shape) (ts : List (List ℕ)) (o : Option Operands) (p : Operands) → o ≡ Some p → option_and_then (accept_all xs ts) o ≡ accept_all xs ts p
one_more xs ts o p e = ap (option_and_then (accept_all xs ts)) e

offset_is : (names : List (List ℕ)) (i : Instr) → offset_of names i ≡ offset_text (imm_of names i.imm) i.rs1
offset_is names i = append_assoc (imm_of names i.imm ++ 40 ∷ []) (name_of i.rs1) (41 ∷ []) ∙ append_assoc (imm_of names i.imm) (40 ∷ []) (name_of i.rs1 ++ 41 ∷ [])

-- the immediate in its place
record Takes (i : Instr) (names : List (List ℕ)) : Type 0 where
  operand : IsOperand (imm_of names i.imm)
  read : (p : Operands) → accept (imm_shape i.op) (imm_of names i.imm) p ≡ Some (with_imm names i.imm p)

takes : (i : Instr) (names : List (List ℕ)) → takes_symbol (facts_of i.op).form ≡ true → ReadsImm (bounds_for i.op) names i.imm → Takes i names
takes i names h r = record { operand = r.operand; read = λ p. imm_accept i.op h (imm_of names i.imm) p ∙ r.read p }

rd_imm : (i : Instr) (names : List (List ℕ)) → Takes i names → i.rd < 32 → 0 ≡ i.rs1 → 0 ≡ i.rs2 → ReadsAll i names form.RdImm
rd_imm i names k rd rs1 rs2 =
    let p : Operands = three_of i.rd 0 0 in
    let a : Adds names i.imm p (with_imm names i.imm p) = adds names i.imm p refl in
    record {
      all = (register_operand i.rd rd, (k.operand, tt));
      read = with_imm names i.imm p;
      is_read = one_more (imm_shape i.op ∷ []) (imm_of names i.imm ∷ []) _ p (rd_read i.rd no_operands rd) ∙ one_more [] [] _ (with_imm names i.imm p) (k.read p);
      count = refl;
      within = a.within;
      rd = a.rd;
      rs1 = a.rs1 ∙ rs1;
      rs2 = a.rs2 ∙ rs2;
      imm_is = a.imm_is;
      named_is = a.named_is;
    }

rd_rs1_imm : (i : Instr) (names : List (List ℕ)) → Takes i names → i.rd < 32 → i.rs1 < 32 → 0 ≡ i.rs2 → ReadsAll i names form.RdRs1Imm
rd_rs1_imm i names k rd rs1 rs2 =
    let p : Operands = three_of i.rd i.rs1 0 in
    let a : Adds names i.imm p (with_imm names i.imm p) = adds names i.imm p refl in
    record {
      all = (register_operand i.rd rd, (register_operand i.rs1 rs1, (k.operand, tt)));
      read = with_imm names i.imm p;
      is_read = one_more (shape.Rs1 ∷ imm_shape i.op ∷ []) (name_of i.rs1 ∷ imm_of names i.imm ∷ []) _ (three_of i.rd 0 0) (rd_read i.rd no_operands rd)
          ∙ one_more (imm_shape i.op ∷ []) (imm_of names i.imm ∷ []) _ p (rs1_read i.rs1 (three_of i.rd 0 0) rs1) ∙ one_more [] [] _ (with_imm names i.imm p) (k.read p);
      count = refl;
      within = a.within;
      rd = a.rd;
      rs1 = a.rs1;
      rs2 = a.rs2 ∙ rs2;
      imm_is = a.imm_is;
      named_is = a.named_is;
    }

rs1_rs2_imm : (i : Instr) (names : List (List ℕ)) → Takes i names → 0 ≡ i.rd → i.rs1 < 32 → i.rs2 < 32 → ReadsAll i names form.Rs1Rs2Imm
rs1_rs2_imm i names k rd rs1 rs2 =
    let p : Operands = three_of 0 i.rs1 i.rs2 in
    let a : Adds names i.imm p (with_imm names i.imm p) = adds names i.imm p refl in
    record {
      all = (register_operand i.rs1 rs1, (register_operand i.rs2 rs2, (k.operand, tt)));
      read = with_imm names i.imm p;
      is_read = one_more (shape.Rs2 ∷ imm_shape i.op ∷ []) (name_of i.rs2 ∷ imm_of names i.imm ∷ []) _ (three_of 0 i.rs1 0) (rs1_read i.rs1 no_operands rs1)
          ∙ one_more (imm_shape i.op ∷ []) (imm_of names i.imm ∷ []) _ p (rs2_read i.rs2 (three_of 0 i.rs1 0) rs2) ∙ one_more [] [] _ (with_imm names i.imm p) (k.read p);
      count = refl;
      within = a.within;
      rd = a.rd ∙ rd;
      rs1 = a.rs1;
      rs2 = a.rs2;
      imm_is = a.imm_is;
      named_is = a.named_is;
    }

rd_rs1_rs2 : (i : Instr) (names : List (List ℕ)) → i.imm ≡ imm.None → i.rd < 32 → i.rs1 < 32 → i.rs2 < 32 → ReadsAll i names form.RdRs1Rs2
rd_rs1_rs2 i names none rd rs1 rs2 =
    record {
      all = (register_operand i.rd rd, (register_operand i.rs1 rs1, (register_operand i.rs2 rs2, tt)));
      read = three_of i.rd i.rs1 i.rs2;
      is_read = one_more (shape.Rs1 ∷ shape.Rs2 ∷ []) (name_of i.rs1 ∷ name_of i.rs2 ∷ []) _ (three_of i.rd 0 0) (rd_read i.rd no_operands rd)
          ∙ one_more (shape.Rs2 ∷ []) (name_of i.rs2 ∷ []) _ (three_of i.rd i.rs1 0) (rs1_read i.rs1 (three_of i.rd 0 0) rs1) ∙ one_more [] [] _ (three_of i.rd i.rs1 i.rs2) (rs2_read i.rs2 (three_of i.rd i.rs1 0) rs2);
      count = refl;
      within = refl;
      rd = refl;
      rs1 = refl;
      rs2 = refl;
      imm_is = λ before. ap (λ j. numbered before (symbol_in names j) j) (sym none);
      named_is = λ before. ap (λ j. named before (symbol_in names j) j) (sym none);
    }

nothing : (i : Instr) (names : List (List ℕ)) → i.imm ≡ imm.None → 0 ≡ i.rd → 0 ≡ i.rs1 → 0 ≡ i.rs2 → ReadsAll i names form.Nothing
nothing i names none rd rs1 rs2 = record { all = tt; read = no_operands; is_read = refl; count = refl; within = refl; rd = rd; rs1 = rs1; rs2 = rs2; imm_is = λ before. ap (λ j. numbered before (symbol_in names j) j) (sym none); named_is = λ before. ap (λ j. named before (symbol_in names j) j) (sym none) }

offset_takes : (i : Instr) (names : List (List ℕ)) (p : Operands) → ReadsImm signed_12 names i.imm → i.rs1 < 32 → accept shape.Offset (offset_of names i) p ≡ Some (with_imm names i.imm (record p { rs1 = i.rs1 }))
offset_takes i names p r rs1 = ap (λ t. offset t p) (offset_is names i) ∙ offset_read (imm_of names i.imm) i.rs1 p (with_imm names i.imm (record p { rs1 = i.rs1 })) rs1 r.operand (r.read (record p { rs1 = i.rs1 }))

offset_stands : (i : Instr) (names : List (List ℕ)) → ReadsImm signed_12 names i.imm → i.rs1 < 32 → IsOperand (offset_of names i)
offset_stands i names r rs1 = subst IsOperand (sym (offset_is names i)) (offset_operand (imm_of names i.imm) i.rs1 rs1 r.operand)

rd_offset : (i : Instr) (names : List (List ℕ)) → ReadsImm signed_12 names i.imm → i.rd < 32 → i.rs1 < 32 → 0 ≡ i.rs2 → ReadsAll i names form.RdOffset
rd_offset i names r rd rs1 rs2 =
    let p : Operands = three_of i.rd i.rs1 0 in
    let a : Adds names i.imm p (with_imm names i.imm p) = adds names i.imm p refl in
    record {
      all = (register_operand i.rd rd, (offset_stands i names r rs1, tt));
      read = with_imm names i.imm p;
      is_read = one_more (shape.Offset ∷ []) (offset_of names i ∷ []) _ (three_of i.rd 0 0) (rd_read i.rd no_operands rd) ∙ one_more [] [] _ (with_imm names i.imm p) (offset_takes i names (three_of i.rd 0 0) r rs1);
      count = refl;
      within = a.within;
      rd = a.rd;
      rs1 = a.rs1;
      rs2 = a.rs2 ∙ rs2;
      imm_is = a.imm_is;
      named_is = a.named_is;
    }

rs2_offset : (i : Instr) (names : List (List ℕ)) → ReadsImm signed_12 names i.imm → 0 ≡ i.rd → i.rs1 < 32 → i.rs2 < 32 → ReadsAll i names form.Rs2Offset
rs2_offset i names r rd rs1 rs2 =
    let p : Operands = three_of 0 i.rs1 i.rs2 in
    let a : Adds names i.imm p (with_imm names i.imm p) = adds names i.imm p refl in
    record {
      all = (register_operand i.rs2 rs2, (offset_stands i names r rs1, tt));
      read = with_imm names i.imm p;
      is_read = one_more (shape.Offset ∷ []) (offset_of names i ∷ []) _ (three_of 0 0 i.rs2) (rs2_read i.rs2 no_operands rs2) ∙ one_more [] [] _ (with_imm names i.imm p) (offset_takes i names (three_of 0 0 i.rs2) r rs1);
      count = refl;
      within = a.within;
      rd = a.rd ∙ rd;
      rs1 = a.rs1;
      rs2 = a.rs2;
      imm_is = a.imm_is;
      named_is = a.named_is;
    }

pred_read : (k : ℕ) (p : Operands) → k < 16 → accept shape.Pred (set_of k) p ≡ Some (record p { pred = k })
pred_read k p lt = ap (option_map (λ s. record p { pred = s })) (set_read k lt)

succ_read : (k : ℕ) (p : Operands) → k < 16 → accept shape.Succ (set_of k) p ≡ Some (record p { imm = imm.Value (pos (16 * p.pred + k)) })
succ_read k p lt = ap (option_map (λ s. record p { imm = imm.Value (pos (16 * p.pred + s)) })) (set_read k lt)

two_sets : (i : Instr) (names : List (List ℕ)) (n : ℕ) → i.imm ≡ imm.Value (pos n) → n < 256 → 0 ≡ i.rd → 0 ≡ i.rs1 → 0 ≡ i.rs2 → ReadsAll i names form.Sets
two_sets i names n e lt rd rs1 rs2 =
    let high : n / 16 < 16 = omega (arith, lt) in
    let low : n % 16 < 16 = omega arith in
    let texts : sets_of i.imm ≡ set_of (n / 16) ∷ set_of (n % 16) ∷ [] = ap sets_of e in
    let p : Operands = record no_operands { pred = n / 16 } in
    let q : Operands = record p { imm = imm.Value (pos (16 * (n / 16) + n % 16)) } in
    let sum : 16 * (n / 16) + n % 16 ≡ n = omega arith in
    record {
      all = subst (AllByRecursion IsOperand) (sym texts) (set_operand (n / 16) high, (set_operand (n % 16) low, tt));
      read = q;
      is_read = ap (λ ts. accept_all (shape.Pred ∷ shape.Succ ∷ []) ts no_operands) texts ∙ one_more (shape.Succ ∷ []) (set_of (n % 16) ∷ []) _ p (pred_read (n / 16) no_operands high) ∙ one_more [] [] _ q (succ_read (n % 16) p low);
      count = ap (λ ts. nat_eq 2 (length ts)) texts;
      within = refl;
      rd = rd;
      rs1 = rs1;
      rs2 = rs2;
      imm_is = λ before. ap (λ k. imm.Value (pos k)) sum ∙ ap (λ j. numbered before (symbol_in names j) j) (sym e);
      named_is = λ before. ap (λ j. named before (symbol_in names j) j) (sym e);
    }

-- ---- any instruction

no_bounds : (o : Op) → (facts_of o).form ≡ form.RdRs1Rs2 → (facts_of o).range ≡ None
no_bounds op.Lui e = cc
no_bounds _ e = cc

nothing_bounds : (o : Op) → (facts_of o).form ≡ form.Nothing → (facts_of o).range ≡ None
nothing_bounds op.Lui e = cc
nothing_bounds _ e = cc

sets_bounds : (o : Op) → (facts_of o).form ≡ form.Sets → (facts_of o).range ≡ Some sets
sets_bounds op.Lui e = cc
sets_bounds _ e = cc

some_bounds : (o : Op) → takes_symbol (facts_of o).form ≡ true → is_some (facts_of o).range ≡ true
some_bounds op.Lui h = refl
some_bounds _ h = cc

imm_none : (o : Op) (j : Imm) → (facts_of o).range ≡ None → takes_symbol (facts_of o).form ≡ false → is_lawful_imm o j ≡ true → j ≡ imm.None
imm_none o imm.None b s h = refl
imm_none o (imm.Value n) b s h = absurd (let no : false ≡ true = ap (λ x. is_lawful_number x n) (sym b) ∙ h in cc)
imm_none o (imm.Symbol k) b s h = absurd (let no : false ≡ true = sym s ∙ h in cc)

sets_value : (o : Op) (j : Imm) → (facts_of o).range ≡ Some sets → takes_symbol (facts_of o).form ≡ false → is_lawful_imm o j ≡ true → (n : ℕ) × (j ≡ imm.Value (pos n)) × (n < 256)
sets_value o imm.None b s h = absurd (let no : false ≡ true = ap (λ x. not (is_some x)) (sym b) ∙ h in cc)
sets_value o (imm.Value (pos n)) b s h = (n, refl, (let there : is_within sets (pos n) ≡ true = ap (λ x. is_lawful_number x (pos n)) (sym b) ∙ h in grind (arith, nat_tests, ints, there)))
sets_value o (imm.Value (negsuc n)) b s h = absurd (let no : is_within sets (negsuc n) ≡ true = ap (λ x. is_lawful_number x (negsuc n)) (sym b) ∙ h in grind (arith, nat_tests, ints, no))
sets_value o (imm.Symbol k) b s h = absurd (let no : false ≡ true = sym s ∙ h in cc)

both : (a b : Bool) → a && b ≡ true → (a ≡ true) × (b ≡ true)
both true b h = (refl, h)
both false b h = absurd cc

by_form : (i : Instr) (names : List (List ℕ)) (f : Form) → (facts_of i.op).form ≡ f → is_lawful_register (has_rd f) i.rd ≡ true → is_lawful_register (has_rs1 f) i.rs1 ≡ true → is_lawful_register (has_rs2 f) i.rs2 ≡ true
    → is_lawful_imm i.op i.imm ≡ true → (takes_symbol f ≡ true → ReadsImm (bounds_for i.op) names i.imm) → ReadsAll i names f
by_form i names form.RdImm e d s t h r = rd_imm i names (takes i names (ap takes_symbol e) (r refl)) (low_register true i.rd d) (no_register i.rs1 s) (no_register i.rs2 t)
by_form i names form.RdRs1Imm e d s t h r = rd_rs1_imm i names (takes i names (ap takes_symbol e) (r refl)) (low_register true i.rd d) (low_register true i.rs1 s) (no_register i.rs2 t)
by_form i names form.RdRs1Rs2 e d s t h r = rd_rs1_rs2 i names (imm_none i.op i.imm (no_bounds i.op e) (ap takes_symbol e) h) (low_register true i.rd d) (low_register true i.rs1 s) (low_register true i.rs2 t)
by_form i names form.RdOffset e d s t h r = rd_offset i names (subst (λ b. ReadsImm b names i.imm) (loads_bounds i.op e) (r refl)) (low_register true i.rd d) (low_register true i.rs1 s) (no_register i.rs2 t)
by_form i names form.Rs2Offset e d s t h r = rs2_offset i names (subst (λ b. ReadsImm b names i.imm) (stores_bounds i.op e) (r refl)) (no_register i.rd d) (low_register true i.rs1 s) (low_register true i.rs2 t)
by_form i names form.Rs1Rs2Imm e d s t h r = rs1_rs2_imm i names (takes i names (ap takes_symbol e) (r refl)) (no_register i.rd d) (low_register true i.rs1 s) (low_register true i.rs2 t)
by_form i names form.Sets e d s t h r =
    let n : (n : ℕ) × (i.imm ≡ imm.Value (pos n)) × (n < 256) = sets_value i.op i.imm (sets_bounds i.op e) (ap takes_symbol e) h in
    two_sets i names n.0 n.1 n.2 (no_register i.rd d) (no_register i.rs1 s) (no_register i.rs2 t)
by_form i names form.Nothing e d s t h r = nothing i names (imm_none i.op i.imm (nothing_bounds i.op e) (ap takes_symbol e) h) (no_register i.rd d) (no_register i.rs1 s) (no_register i.rs2 t)

pub reads_all : (i : Instr) (names : List (List ℕ)) → is_lawful i ≡ true → HasSymbolText names i.imm → ReadsAll i names (facts_of i.op).form
reads_all i names h symbol =
    let f : Form = (facts_of i.op).form in
    let a : Bool = is_lawful_register (has_rd f) i.rd in
    let b : Bool = is_lawful_register (has_rs1 f) i.rs1 in
    let c : Bool = is_lawful_register (has_rs2 f) i.rs2 in
    let one : (a && b && c ≡ true) × (is_lawful_imm i.op i.imm ≡ true) = both (a && b && c) (is_lawful_imm i.op i.imm) h in
    let two : (a && b ≡ true) × (c ≡ true) = both (a && b) c one.0 in
    let three : (a ≡ true) × (b ≡ true) = both a b two.0 in
    by_form i names f refl three.0 three.1 two.1 one.1 (λ takes_it. reads_imm i.op names i.imm (some_bounds i.op takes_it) one.1 symbol)

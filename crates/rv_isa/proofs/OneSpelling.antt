-- two lawful instructions with one spelling are the same but for the symbols' numbers
use Rattle.std.proofs.Common.{◌≡◌, ℕ, ◌/◌, ◌%◌, ◌^◌, ◌<◌, ℤ, pos, negsuc, Bool, true, false, ◌&&◌, not, List, [], ◌∷◌, ◌++◌, Option, Some, None, length, codes, refl, sym, ap, ◌∙◌, subst, append_assoc, arith}
use Rattle.std.specs.Prelude.{is_some, int_le, unsigned_abs, slice_index_or}
use Rattle.std.specs.List.{list_all}
use Rattle.std.proofs.lemmas.Int.{ints}
use Rattle.std.proofs.lemmas.Bool.Decides.{nat_tests}
use Rattle.rv_isa.specs.declared.op.Op.{Op}
use Rattle.rv_isa.specs.declared.op.Op.TheVariants as op
use Rattle.rv_isa.specs.declared.facts.Form.{Form}
use Rattle.rv_isa.specs.declared.facts.Form.TheVariants.{RdImm, RdRs1Imm, RdRs1Rs2, RdOffset, Rs2Offset, Rs1Rs2Imm, Sets, Nothing}
use Rattle.rv_isa.specs.declared.facts.ImmRange.{ImmRange}
use Rattle.rv_isa.specs.declared.instr.Imm.{Imm}
use Rattle.rv_isa.specs.declared.instr.Imm.TheVariants as imm
use Rattle.rv_isa.specs.declared.instr.Instr.{Instr}
use Rattle.rv_isa.specs.Instruction.{has_rd, has_rs1, has_rs2, is_lawful, is_lawful_imm, is_lawful_number, is_lawful_register, is_lawful_with, takes_symbol}
use Rattle.rv_isa.specs.Opcodes.{facts_of, op_named, sets}
use Rattle.rv_isa.specs.Registers.{name_of}
use Rattle.rv_isa.specs.Spelling.{behind, imm_of, offset_of, operands, set_of, sets_of, spelling}
use Rattle.rv_isa.specs.Symbol.{HasSymbolText, IsSame, IsSameImm}
use Rattle.rv_isa.proofs.Cuts.{behind_same, both, cut_first, cut_last, join, lacks, lacks-append, until, until_all, until_cut, append_cancel}
use Rattle.rv_isa.proofs.Texts.{name_lacks_closing, name_lacks_comma, name_lacks_opening, name_same, set_lacks, set_same, signed_lacks, signed_same, symbol_is_no_number, symbol_lacks}

-- ---- what the table's rows have in common

abbrev has_imm : Form → Bool
has_imm RdRs1Rs2 = false
has_imm Nothing = false
has_imm _ = true

abbrev is_narrow : Option ImmRange → Bool
is_narrow None = true
is_narrow (Some b) = int_le (negsuc (2 ^ 20)) b.low && int_le b.high (pos (2 ^ 20))

-- what a form and a range have to do with each other
record IsRow (f : Form) (b : Option ImmRange) : Type 0 where
  some : is_some b ≡ has_imm f
  narrow : is_narrow b ≡ true
  sets : f ≡ Sets → b ≡ Some sets

row_some : (o : Op) → is_some (facts_of o).range ≡ has_imm (facts_of o).form
row_some op.Lui = refl
row_some _ = refl

row_narrow : (o : Op) → is_narrow (facts_of o).range ≡ true
row_narrow op.Lui = refl
row_narrow _ = refl

row_sets : (o : Op) → (facts_of o).form ≡ Sets → (facts_of o).range ≡ Some sets
row_sets op.Fence e = refl
row_sets _ e = cc

is_row : (o : Op) → IsRow (facts_of o).form (facts_of o).range
is_row o = record { some = row_some o; narrow = row_narrow o; sets = row_sets o }

mnemonic_lacks : (o : Op) → lacks 32 (facts_of o).mnemonic ≡ true
mnemonic_lacks op.Lui = refl
mnemonic_lacks _ = refl

mnemonic_own : (o : Op) → op_named (facts_of o).mnemonic ≡ Some o
mnemonic_own op.Lui = refl
mnemonic_own _ = refl

-- ---- what a lawful instruction is, by its form and range

abbrev lawful_imm : Form → Option ImmRange → Imm → Bool
lawful_imm f b imm.None = not (is_some b)
lawful_imm f b (imm.Value n) = is_lawful_number b n
lawful_imm f b (imm.Symbol k) = takes_symbol f

lawful_imm_is : (o : Op) (n : Imm) → is_lawful_imm o n ≡ lawful_imm (facts_of o).form (facts_of o).range n
lawful_imm_is o imm.None = refl
lawful_imm_is o (imm.Value n) = refl
lawful_imm_is o (imm.Symbol k) = refl

record IsPart (f : Form) (b : Option ImmRange) (names : List (List ℕ)) (i : Instr) : Type 0 where
  rd : is_lawful_register (has_rd f) i.rd ≡ true
  rs1 : is_lawful_register (has_rs1 f) i.rs1 ≡ true
  rs2 : is_lawful_register (has_rs2 f) i.rs2 ≡ true
  imm : lawful_imm f b i.imm ≡ true
  text : HasSymbolText names i.imm

is_part : (names : List (List ℕ)) (i : Instr) → is_lawful i ≡ true → HasSymbolText names i.imm → IsPart (facts_of i.op).form (facts_of i.op).range names i
is_part names i h text =
    let f = (facts_of i.op).form in
    let d = is_lawful_register (has_rd f) i.rd in
    let s = is_lawful_register (has_rs1 f) i.rs1 in
    let t = is_lawful_register (has_rs2 f) i.rs2 in
    let whole = both (is_lawful_with f i) (is_lawful_imm i.op i.imm) h in
    let registers = both (d && s) t whole.0 in
    let first = both d s registers.0 in
    record { rd = first.0; rs1 = first.1; rs2 = registers.1; imm = sym (lawful_imm_is i.op i.imm) ∙ whole.1; text = text }

there : (r : ℕ) → is_lawful_register true r ≡ true → r < 32
there r h = grind (arith, nat_tests)

absent : (r s : ℕ) → is_lawful_register false r ≡ true → is_lawful_register false s ≡ true → r ≡ s
absent r s h k = grind (arith, nat_tests)

-- ---- immediates

narrow_abs : (low high n : ℤ) → int_le (negsuc (2 ^ 20)) low ≡ true → int_le high (pos (2 ^ 20)) ≡ true → int_le low n ≡ true → int_le n high ≡ true → unsigned_abs n < 2 ^ 64
narrow_abs low high (pos n) p q r s = grind (arith, ints)
narrow_abs low high (negsuc n) p q r s = grind (arith, ints)

small : (b : Option ImmRange) (n : ℤ) → is_narrow b ≡ true → is_lawful_number b n ≡ true → unsigned_abs n < 2 ^ 64
small None n p h = cc
small (Some b) n p h =
    let ends = both (int_le (negsuc (2 ^ 20)) b.low) (int_le b.high (pos (2 ^ 20))) p in
    let within = both (int_le b.low n && int_le n b.high) _ h in
    let range = both (int_le b.low n) (int_le n b.high) within.0 in
    narrow_abs b.low b.high n ends.0 ends.1 range.0 range.1

given : (b : Option ImmRange) → is_some b ≡ true → not (is_some b) ≡ true → ⊥
given None p h = cc
given (Some b) p h = cc

imm_same : (f : Form) (b : Option ImmRange) → is_some b ≡ true → is_narrow b ≡ true → (names others : List (List ℕ)) (m n : Imm)
    → lawful_imm f b m ≡ true → lawful_imm f b n ≡ true → HasSymbolText names m → HasSymbolText others n → imm_of names m ≡ imm_of others n → IsSameImm names others m n
imm_same f b some narrow names others imm.None n p q x y e = absurd (given b some p)
imm_same f b some narrow names others (imm.Value m) imm.None p q x y e = absurd (given b some q)
imm_same f b some narrow names others (imm.Symbol k) imm.None p q x y e = absurd (given b some q)
imm_same f b some narrow names others (imm.Value m) (imm.Value n) p q x y e = signed_same m n (small b m narrow p) (small b n narrow q) e
imm_same f b some narrow names others (imm.Value m) (imm.Symbol l) p q x y e = absurd (symbol_is_no_number (slice_index_or others l []) y m (small b m narrow p) e)
imm_same f b some narrow names others (imm.Symbol k) (imm.Value n) p q x y e = absurd (symbol_is_no_number (slice_index_or names k []) x n (small b n narrow q) (sym e))
imm_same f b some narrow names others (imm.Symbol k) (imm.Symbol l) p q x y e = e

none_same : (f : Form) (b : Option ImmRange) → is_some b ≡ false → takes_symbol f ≡ false → (names others : List (List ℕ)) (m n : Imm)
    → lawful_imm f b m ≡ true → lawful_imm f b n ≡ true → IsSameImm names others m n
none_same f (Some b) none plain names others m n p q = cc
none_same f None none plain names others imm.None imm.None p q = tt
none_same f None none plain names others imm.None (imm.Value n) p q = cc
none_same f None none plain names others imm.None (imm.Symbol l) p q = cc
none_same f None none plain names others (imm.Value m) n p q = cc
none_same f None none plain names others (imm.Symbol k) n p q = cc

imm_lacks : (f : Form) (b : Option ImmRange) → is_narrow b ≡ true → (names : List (List ℕ)) (m : Imm) → lawful_imm f b m ≡ true → HasSymbolText names m → lacks 44 (imm_of names m) ≡ true
imm_lacks f b narrow names imm.None p x = refl
imm_lacks f b narrow names (imm.Value n) p x = signed_lacks n (small b n narrow p)
imm_lacks f b narrow names (imm.Symbol k) p x = symbol_lacks (slice_index_or names k []) x

-- ---- an offset and its base register

offset_is : (text name : List ℕ) → text ++ codes "(" ++ name ++ codes ")" ≡ text ++ 40 ∷ (name ++ 41 ∷ [])
offset_is text name = append_assoc (text ++ codes "(") name (codes ")") ∙ append_assoc text (codes "(") (name ++ codes ")")

offset_lacks : (text name : List ℕ) → lacks 44 text ≡ true → lacks 44 name ≡ true → lacks 44 (text ++ codes "(" ++ name ++ codes ")") ≡ true
offset_lacks text name p q =
    ap (lacks 44) (offset_is text name)
    ∙ lacks-append 44 text (40 ∷ (name ++ 41 ∷ [])) p (lacks-append 44 name (41 ∷ []) q refl)

offset_same : (text name texts names : List ℕ) → lacks 40 name ≡ true → lacks 40 names ≡ true → lacks 41 name ≡ true → lacks 41 names ≡ true
    → text ++ codes "(" ++ name ++ codes ")" ≡ texts ++ codes "(" ++ names ++ codes ")" → (text ≡ texts) × (name ≡ names)
offset_same text name texts names p q r s e =
    let cut = cut_last 40 text texts (name ++ 41 ∷ []) (names ++ 41 ∷ []) (lacks-append 40 name (41 ∷ []) p refl) (lacks-append 40 names (41 ∷ []) q refl)
    (sym (offset_is text name) ∙ e ∙ offset_is texts names) in
    (cut.0, (cut_first 41 name names [] [] r s cut.1).0)

-- ---- the sets of a fence

record IsSetsNumber (n : Imm) : Type 0 where
  number : ℕ
  is_number : n ≡ imm.Value (pos number)
  below : number < 256

sets_number : (n : Imm) → lawful_imm Sets (Some sets) n ≡ true → IsSetsNumber n
sets_number imm.None h = cc
sets_number (imm.Symbol k) h = cc
sets_number (imm.Value (negsuc n)) h = cc
sets_number (imm.Value (pos n)) h = record { number = n; is_number = refl; below = grind (arith, nat_tests) }

sets_lack : (n : Imm) → IsSetsNumber n → list_all (lacks 44) (sets_of n) ≡ true
sets_lack n s =
    let k = s.number in
    ap (λ x. list_all (lacks 44) (sets_of x)) s.is_number
    ∙ join (lacks 44 (set_of (k / 16))) (list_all (lacks 44) (set_of (k % 16) ∷ [])) (set_lacks (k / 16) (omega (arith, s.below)))
    (join (lacks 44 (set_of (k % 16))) true (set_lacks (k % 16) (omega arith)) refl)

sets_count : (n : Imm) → IsSetsNumber n → length (sets_of n) ≡ 2
sets_count n s = ap (λ x. length (sets_of x)) s.is_number

sets_same : (names others : List (List ℕ)) (m n : Imm) → IsSetsNumber m → IsSetsNumber n → sets_of m ≡ sets_of n → IsSameImm names others m n
sets_same names others m n s t e =
    let k = s.number in
    let l = t.number in
    let texts : set_of (k / 16) ∷ set_of (k % 16) ∷ [] ≡ set_of (l / 16) ∷ set_of (l % 16) ∷ [] = sym (ap sets_of s.is_number) ∙ e ∙ ap sets_of t.is_number in
    let high : set_of (k / 16) ≡ set_of (l / 16) = cc in
    let low : set_of (k % 16) ≡ set_of (l % 16) = cc in
    let first : k / 16 ≡ l / 16 = set_same (k / 16) (l / 16) (omega (arith, s.below)) (omega (arith, t.below)) high in
    let second : k % 16 ≡ l % 16 = set_same (k % 16) (l % 16) (omega arith) (omega arith) low in
    let same : k ≡ l = omega arith in
    rw (s.is_number, t.is_number) (ap pos same)

-- ---- operands

imm_text_lacks : (f : Form) (b : Option ImmRange) (names : List (List ℕ)) (i : Instr) → IsRow f b → IsPart f b names i → lacks 44 (imm_of names i.imm) ≡ true
imm_text_lacks f b names i row part = imm_lacks f b row.narrow names i.imm part.imm part.text

register_lacks : (r : ℕ) → is_lawful_register true r ≡ true → lacks 44 (name_of r) ≡ true
register_lacks r h = name_lacks_comma r (there r h)

register_same : (r s : ℕ) → is_lawful_register true r ≡ true → is_lawful_register true s ≡ true → name_of r ≡ name_of s → r ≡ s
register_same r s h k e = name_same r s (there r h) (there s k) e

base_lacks : (names : List (List ℕ)) (i : Instr) → lacks 44 (imm_of names i.imm) ≡ true → is_lawful_register true i.rs1 ≡ true → lacks 44 (offset_of names i) ≡ true
base_lacks names i h r = offset_lacks (imm_of names i.imm) (name_of i.rs1) h (register_lacks i.rs1 r)

base_same : (names others : List (List ℕ)) (i j : Instr) → is_lawful_register true i.rs1 ≡ true → is_lawful_register true j.rs1 ≡ true
    → offset_of names i ≡ offset_of others j → (imm_of names i.imm ≡ imm_of others j.imm) × (i.rs1 ≡ j.rs1)
base_same names others i j r s e =
    let cut = offset_same (imm_of names i.imm) (name_of i.rs1) (imm_of others j.imm) (name_of j.rs1)
    (name_lacks_opening i.rs1 (there i.rs1 r)) (name_lacks_opening j.rs1 (there j.rs1 s)) (name_lacks_closing i.rs1 (there i.rs1 r)) (name_lacks_closing j.rs1 (there j.rs1 s)) e in
    (cut.0, register_same i.rs1 j.rs1 r s cut.1)

fence_number : (b : Option ImmRange) (names : List (List ℕ)) (i : Instr) → IsRow Sets b → IsPart Sets b names i → IsSetsNumber i.imm
fence_number b names i row part = sets_number i.imm (subst (λ x. lawful_imm Sets x i.imm ≡ true) (row.sets refl) part.imm)

each_lacks : (x y : List ℕ) → lacks 44 x ≡ true → lacks 44 y ≡ true → list_all (lacks 44) (x ∷ y ∷ []) ≡ true
each_lacks x y p q = join (lacks 44 x) (list_all (lacks 44) (y ∷ [])) p (join (lacks 44 y) true q refl)

each_of_three_lacks : (x y z : List ℕ) → lacks 44 x ≡ true → lacks 44 y ≡ true → lacks 44 z ≡ true → list_all (lacks 44) (x ∷ y ∷ z ∷ []) ≡ true
each_of_three_lacks x y z p q r = join (lacks 44 x) (list_all (lacks 44) (y ∷ z ∷ [])) p (each_lacks y z q r)

operands_lack : (f : Form) (b : Option ImmRange) (names : List (List ℕ)) (i : Instr) → IsRow f b → IsPart f b names i → list_all (lacks 44) (operands names i f) ≡ true
operands_lack RdImm b names i row part = each_lacks (name_of i.rd) (imm_of names i.imm) (register_lacks i.rd part.rd) (imm_text_lacks RdImm b names i row part)
operands_lack RdRs1Imm b names i row part =
    each_of_three_lacks (name_of i.rd) (name_of i.rs1) (imm_of names i.imm) (register_lacks i.rd part.rd) (register_lacks i.rs1 part.rs1) (imm_text_lacks RdRs1Imm b names i row part)
operands_lack RdRs1Rs2 b names i row part =
    each_of_three_lacks (name_of i.rd) (name_of i.rs1) (name_of i.rs2) (register_lacks i.rd part.rd) (register_lacks i.rs1 part.rs1) (register_lacks i.rs2 part.rs2)
operands_lack RdOffset b names i row part =
    each_lacks (name_of i.rd) (offset_of names i) (register_lacks i.rd part.rd) (base_lacks names i (imm_text_lacks RdOffset b names i row part) part.rs1)
operands_lack Rs2Offset b names i row part =
    each_lacks (name_of i.rs2) (offset_of names i) (register_lacks i.rs2 part.rs2) (base_lacks names i (imm_text_lacks Rs2Offset b names i row part) part.rs1)
operands_lack Rs1Rs2Imm b names i row part =
    each_of_three_lacks (name_of i.rs1) (name_of i.rs2) (imm_of names i.imm) (register_lacks i.rs1 part.rs1) (register_lacks i.rs2 part.rs2) (imm_text_lacks Rs1Rs2Imm b names i row part)
operands_lack Sets b names i row part = sets_lack i.imm (fence_number b names i row part)
operands_lack Nothing b names i row part = refl

operands_count : (f : Form) (b : Option ImmRange) (names others : List (List ℕ)) (i j : Instr) → IsRow f b → IsPart f b names i → IsPart f b others j
    → length (operands names i f) ≡ length (operands others j f)
operands_count RdImm b names others i j row p q = refl
operands_count RdRs1Imm b names others i j row p q = refl
operands_count RdRs1Rs2 b names others i j row p q = refl
operands_count RdOffset b names others i j row p q = refl
operands_count Rs2Offset b names others i j row p q = refl
operands_count Rs1Rs2Imm b names others i j row p q = refl
operands_count Sets b names others i j row p q = sets_count i.imm (fence_number b names i row p) ∙ sym (sets_count j.imm (fence_number b others j row q))
operands_count Nothing b names others i j row p q = refl

-- all that is the same but for the opcode
record AreSame (names others : List (List ℕ)) (i j : Instr) : Type 0 where
  rd : i.rd ≡ j.rd
  rs1 : i.rs1 ≡ j.rs1
  rs2 : i.rs2 ≡ j.rs2
  imm : IsSameImm names others i.imm j.imm

operands_same : (f : Form) (b : Option ImmRange) (names others : List (List ℕ)) (i j : Instr) → IsRow f b → IsPart f b names i → IsPart f b others j
    → operands names i f ≡ operands others j f → AreSame names others i j
operands_same RdImm b names others i j row p q e =
    let d : name_of i.rd ≡ name_of j.rd = cc in
    let n : imm_of names i.imm ≡ imm_of others j.imm = cc in
    record {
      rd = register_same i.rd j.rd p.rd q.rd d;
      rs1 = absent i.rs1 j.rs1 p.rs1 q.rs1;
      rs2 = absent i.rs2 j.rs2 p.rs2 q.rs2;
      imm = imm_same RdImm b row.some row.narrow names others i.imm j.imm p.imm q.imm p.text q.text n;
    }
operands_same RdRs1Imm b names others i j row p q e =
    let d : name_of i.rd ≡ name_of j.rd = cc in
    let s : name_of i.rs1 ≡ name_of j.rs1 = cc in
    let n : imm_of names i.imm ≡ imm_of others j.imm = cc in
    record {
      rd = register_same i.rd j.rd p.rd q.rd d;
      rs1 = register_same i.rs1 j.rs1 p.rs1 q.rs1 s;
      rs2 = absent i.rs2 j.rs2 p.rs2 q.rs2;
      imm = imm_same RdRs1Imm b row.some row.narrow names others i.imm j.imm p.imm q.imm p.text q.text n;
    }
operands_same RdRs1Rs2 b names others i j row p q e =
    let d : name_of i.rd ≡ name_of j.rd = cc in
    let s : name_of i.rs1 ≡ name_of j.rs1 = cc in
    let t : name_of i.rs2 ≡ name_of j.rs2 = cc in
    record {
      rd = register_same i.rd j.rd p.rd q.rd d;
      rs1 = register_same i.rs1 j.rs1 p.rs1 q.rs1 s;
      rs2 = register_same i.rs2 j.rs2 p.rs2 q.rs2 t;
      imm = none_same RdRs1Rs2 b row.some refl names others i.imm j.imm p.imm q.imm;
    }
operands_same RdOffset b names others i j row p q e =
    let d : name_of i.rd ≡ name_of j.rd = cc in
    let o : offset_of names i ≡ offset_of others j = cc in
    let base = base_same names others i j p.rs1 q.rs1 o in
    record {
      rd = register_same i.rd j.rd p.rd q.rd d;
      rs1 = base.1;
      rs2 = absent i.rs2 j.rs2 p.rs2 q.rs2;
      imm = imm_same RdOffset b row.some row.narrow names others i.imm j.imm p.imm q.imm p.text q.text base.0;
    }
operands_same Rs2Offset b names others i j row p q e =
    let t : name_of i.rs2 ≡ name_of j.rs2 = cc in
    let o : offset_of names i ≡ offset_of others j = cc in
    let base = base_same names others i j p.rs1 q.rs1 o in
    record {
      rd = absent i.rd j.rd p.rd q.rd;
      rs1 = base.1;
      rs2 = register_same i.rs2 j.rs2 p.rs2 q.rs2 t;
      imm = imm_same Rs2Offset b row.some row.narrow names others i.imm j.imm p.imm q.imm p.text q.text base.0;
    }
operands_same Rs1Rs2Imm b names others i j row p q e =
    let s : name_of i.rs1 ≡ name_of j.rs1 = cc in
    let t : name_of i.rs2 ≡ name_of j.rs2 = cc in
    let n : imm_of names i.imm ≡ imm_of others j.imm = cc in
    record {
      rd = absent i.rd j.rd p.rd q.rd;
      rs1 = register_same i.rs1 j.rs1 p.rs1 q.rs1 s;
      rs2 = register_same i.rs2 j.rs2 p.rs2 q.rs2 t;
      imm = imm_same Rs1Rs2Imm b row.some row.narrow names others i.imm j.imm p.imm q.imm p.text q.text n;
    }
operands_same Sets b names others i j row p q e =
    record {
      rd = absent i.rd j.rd p.rd q.rd;
      rs1 = absent i.rs1 j.rs1 p.rs1 q.rs1;
      rs2 = absent i.rs2 j.rs2 p.rs2 q.rs2;
      imm = sets_same names others i.imm j.imm (fence_number b names i row p) (fence_number b others j row q) e;
    }
operands_same Nothing b names others i j row p q e =
    record {
      rd = absent i.rd j.rd p.rd q.rd;
      rs1 = absent i.rs1 j.rs1 p.rs1 q.rs1;
      rs2 = absent i.rs2 j.rs2 p.rs2 q.rs2;
      imm = none_same Nothing b row.some refl names others i.imm j.imm p.imm q.imm;
    }

-- ---- the whole text

-- the mnemonic ends at the first space
until_mnemonic : (mnemonic : List ℕ) (texts : List (List ℕ)) → lacks 32 mnemonic ≡ true → until 32 (mnemonic ++ behind (codes " ") texts) ≡ mnemonic
until_mnemonic mnemonic [] h = until_all 32 mnemonic h
until_mnemonic mnemonic (text ∷ texts) h = until_cut 32 mnemonic (text ++ behind (codes ", ") texts) h

same_op : (i j : Instr) (names others : List (List ℕ)) → spelling i names ≡ spelling j others → i.op ≡ j.op
same_op i j names others e =
    let front : (facts_of i.op).mnemonic ≡ (facts_of j.op).mnemonic =
    sym (until_mnemonic (facts_of i.op).mnemonic (operands names i (facts_of i.op).form) (mnemonic_lacks i.op))
    ∙ ap (until 32) e
    ∙ until_mnemonic (facts_of j.op).mnemonic (operands others j (facts_of j.op).form) (mnemonic_lacks j.op) in
    let same : Some i.op ≡ Some j.op = sym (mnemonic_own i.op) ∙ ap op_named front ∙ mnemonic_own j.op in
    cc

-- what stands behind one mnemonic
same_rest : (o : Op) (names others : List (List ℕ)) (i j : Instr) → IsPart (facts_of o).form (facts_of o).range names i → IsPart (facts_of o).form (facts_of o).range others j
    → (facts_of o).mnemonic ++ behind (codes " ") (operands names i (facts_of o).form) ≡ (facts_of o).mnemonic ++ behind (codes " ") (operands others j (facts_of o).form)
    → AreSame names others i j
same_rest o names others i j p q e =
    let f = (facts_of o).form in
    let b = (facts_of o).range in
    let row = is_row o in
    let rest : behind (codes " ") (operands names i f) ≡ behind (codes " ") (operands others j f) =
    append_cancel (facts_of o).mnemonic (behind (codes " ") (operands names i f)) (behind (codes " ") (operands others j f)) e in
    operands_same f b names others i j row p q
    (behind_same (codes " ") (operands names i f) (operands others j f) (operands_count f b names others i j row p q)
    (operands_lack f b names i row p) (operands_lack f b others j row q) rest)

pub one_spelling : (names others : List (List ℕ)) (i j : Instr) → is_lawful i ≡ true → is_lawful j ≡ true → HasSymbolText names i.imm → HasSymbolText others j.imm
    → spelling i names ≡ spelling j others → IsSame names others i j
one_spelling names others i j p q x y e =
    let o = same_op i j names others e in
    let part = is_part names i p x in
    let other = subst (λ k. IsPart (facts_of k).form (facts_of k).range others j) (sym o) (is_part others j q y) in
    let text = subst
    (λ k. (facts_of i.op).mnemonic ++ behind (codes " ") (operands names i (facts_of i.op).form) ≡ (facts_of k).mnemonic ++ behind (codes " ") (operands others j (facts_of k).form))
    (sym o) e in
    let rest = same_rest i.op names others i j part other text in
    record { op = o; rd = rest.rd; rs1 = rest.rs1; rs2 = rest.rs2; imm = rest.imm }

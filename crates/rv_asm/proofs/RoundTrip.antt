-- a line that holds the spelling of an instruction has that instruction
use Rattle.std.proofs.Common.{suc, sym, arith, ◌≡◌, ℕ, ◌≤◌, List, [], ◌∷◌, ◌++◌, length, Some, Ok, Err, ◌∙◌, ap, refl, subst, nat_eq, true, false, Bool}
use Rattle.std.specs.Prelude.{◌&&◌, not, map, codes, if◌then◌else◌}
use Rattle.std.specs.List.{AllByRecursion, list_all}
use Rattle.rv_isa.specs.declared.op.Op.{Op}
use Rattle.rv_isa.specs.declared.instr.Instr.{Instr}
use Rattle.rv_isa.specs.Instruction.{is_lawful}
use Rattle.rv_isa.specs.Opcodes.{facts_of}
use Rattle.rv_isa.specs.declared.instr.Imm.{Imm}
use Rattle.rv_isa.specs.declared.instr.Imm.TheVariants as imm
use Rattle.rv_isa.specs.Symbol.{HasSymbolText}
use Rattle.rv_isa.specs.Spelling.{operands, spelling, behind as behind_each}
use Rattle.rv_asm.specs.declared.class.ByteClass.TheVariants as class
use Rattle.rv_asm.specs.declared.fault.Cause.TheVariants as cause
use Rattle.rv_asm.specs.declared.form.Makes.TheVariants.{One}
use Rattle.rv_asm.specs.declared.item.Item.TheVariants as item
use Rattle.rv_asm.specs.Statement.{is_in}
use Rattle.rv_asm.specs.Operands.{Operands, accept_all, no_operands}
use Rattle.rv_asm.specs.Forms.{Row, Fit, taken, fits}
use Rattle.rv_asm.specs.Table.{forms}
use Rattle.rv_asm.specs.Meaning.{meaning, fit_in}
use Rattle.rv_asm.specs.Items.{code_of, numbered, named}
use Rattle.rv_asm.specs.Program.{IsProgram}
use Rattle.rv_asm.specs.Spelled.{symbols_of, first_symbol, alone, symbol_in, renumbered}
use Rattle.rv_asm.proofs.OneLine.{tame, calm, AreCalm, one_program}
use Rattle.rv_asm.proofs.SpelledLine.{IsOperand, IsMnemonic, line_means}
use Rattle.rv_asm.proofs.SpelledSymbols.{all_join}
use Rattle.rv_asm.proofs.SpelledForms.{row_for, judged_first, op_row, op_mnemonic, not_compressed, ReadsAll, reads_all}

tame_calm : (b : ℕ) → tame b ≡ true → calm b ≡ true
tame_calm b h = rw h refl

symbol_calm : (b : ℕ) → is_in class.Symbol b ≡ true → calm b ≡ true
symbol_calm b h = rw h refl

both : (a b : Bool) → a && b ≡ true → (a ≡ true) × (b ≡ true)
both true b h = (refl, h)
both false b h = absurd cc

mnemonic_calm : (m : List ℕ) → list_all (λ b. is_in class.Symbol b && not (is_in class.Blank b)) m ≡ true → AreCalm m
mnemonic_calm [] h = tt
mnemonic_calm (b ∷ bs) h =
    let here : (is_in class.Symbol b && not (is_in class.Blank b) ≡ true) × (list_all (λ x. is_in class.Symbol x && not (is_in class.Blank x)) bs ≡ true) = both (is_in class.Symbol b && not (is_in class.Blank b)) (list_all (λ x. is_in class.Symbol x && not (is_in class.Blank x)) bs) h in
    (symbol_calm b (both (is_in class.Symbol b) (not (is_in class.Blank b)) here.0).0, mnemonic_calm bs here.1)

operand_calm : (text : List ℕ) → AllByRecursion (λ b. tame b ≡ true) text → AreCalm text
operand_calm [] all = tt
operand_calm (b ∷ bs) all = (tame_calm b all.0, operand_calm bs all.1)

behind_calm : (separator : List ℕ) (ts : List (List ℕ)) → AreCalm separator → AllByRecursion IsOperand ts → AreCalm (behind_each separator ts)
behind_calm separator [] is all = tt
behind_calm separator (t ∷ ts) is all =
    all_join (λ b. calm b ≡ true) (separator ++ t) (behind_each (codes ", ") ts)
    (all_join (λ b. calm b ≡ true) separator t is (operand_calm t all.0.all)) (behind_calm (codes ", ") ts (refl, (refl, tt)) all.1)

-- the operands fit the opcode's row
row_fits : (r : Row) (texts : List (List ℕ)) (p : Operands) → nat_eq (length r.shapes) (length texts) ≡ true → accept_all r.shapes texts no_operands ≡ Some p → p.beyond ≡ false → fits r texts ≡ Ok (record { makes = r.makes; operands = p })
row_fits r texts p count read within = rw count (ap (taken r.makes) read ∙ within_taken p within)
  where
    within_taken : (q : Operands) → q.beyond ≡ false → taken r.makes (Some q) ≡ Ok (record { makes = r.makes; operands = q })
    within_taken q h = ap (λ b. if b then Err cause.ImmediateRange else Ok (record { makes = r.makes; operands = q })) h

op_fit : (o : Op) (texts : List (List ℕ)) (fit : Fit) → fits (row_for o) texts ≡ Ok fit → fit_in (facts_of o).mnemonic texts ≡ Ok fit
unfolding fit_in
op_fit o texts fit e = judged_first forms cause.UnknownMnemonic (facts_of o).mnemonic texts (row_for o) fit (op_row o) e

opposite : (t : Bool) → not t ≡ true → t ≡ false
opposite true h = absurd cc
opposite false h = refl

blank_not : (b : ℕ) → is_in class.Symbol b && not (is_in class.Blank b) ≡ true → is_in class.Blank b ≡ false
blank_not b h = opposite (is_in class.Blank b) (both (is_in class.Symbol b) (not (is_in class.Blank b)) h).1

-- what the line of an instruction means: the instruction, whichever names have appeared before
pub record IsReadLine (names : List (List ℕ)) (i : Instr) : Type 0 where
  pub fit : Fit
  pub means : meaning (spelling i names) ≡ Ok (Some fit)
  pub calm : AreCalm (spelling i names)
  pub first : ℕ
  pub rest : List ℕ
  pub whole : spelling i names ≡ first ∷ rest
  pub no_blank : is_in class.Blank first ≡ false
  pub code : (before : List (List ℕ)) → code_of before fit ≡ renumbered names before i ∷ []
  pub names_are : (before : List (List ℕ)) → named before fit.operands.symbol fit.operands.imm ≡ named before (symbol_in names i.imm) i.imm

first_of : (m rest : List ℕ) → IsMnemonic m → (b : ℕ) × (bs : List ℕ) × (m ++ rest ≡ b ∷ bs) × (is_in class.Blank b ≡ false)
first_of [] rest is = absurd (let no : true ≡ false = is.some in cc)
first_of (b ∷ bs) rest is = (b, bs ++ rest, refl, blank_not b (both (is_in class.Symbol b && not (is_in class.Blank b)) (list_all (λ x. is_in class.Symbol x && not (is_in class.Blank x)) bs) is.symbols).0)

pub line_read : (i : Instr) (names : List (List ℕ)) → is_lawful i ≡ true → HasSymbolText names i.imm → IsReadLine names i
line_read i names lawful symbol =
    let ts : List (List ℕ) = operands names i (facts_of i.op).form in
    let m : List ℕ = (facts_of i.op).mnemonic in
    let rest : List ℕ = behind_each (codes " ") ts in
    let r : ReadsAll i names (facts_of i.op).form = reads_all i names lawful symbol in
    let fit : Fit = record { makes = One i.op; operands = r.read } in
    let fits_it : fits (row_for i.op) ts ≡ Ok fit = row_fits (row_for i.op) ts r.read r.count r.is_read r.within in
    let begun : (b : ℕ) × (bs : List ℕ) × (m ++ rest ≡ b ∷ bs) × (is_in class.Blank b ≡ false) = first_of m rest (op_mnemonic i.op) in
    record {
      fit = fit;
      means = line_means m ts fit (op_mnemonic i.op) r.all (not_compressed i.op rest) (op_fit i.op ts fit fits_it);
      calm = all_join (λ b. calm b ≡ true) m rest (mnemonic_calm m (op_mnemonic i.op).symbols) (behind_calm (codes " ") ts (refl, tt) r.all);
      first = begun.0;
      rest = begun.1;
      whole = begun.2;
      no_blank = begun.3;
      code = λ before t. record { op = i.op; rd = r.rd t; rs1 = r.rs1 t; rs2 = r.rs2 t; imm = r.imm_is before t } ∷ [];
      names_are = r.named_is;
    }

first_number : (names : List (List ℕ)) (j : Imm) → numbered [] (symbol_in names j) j ≡ first_symbol j
first_number names (imm.Symbol k) = refl
first_number names (imm.Value n) = refl
first_number names imm.None = refl

first_name : (names : List (List ℕ)) (j : Imm) → named [] (symbol_in names j) j ≡ symbols_of names j
first_name names (imm.Symbol k) = refl
first_name names (imm.Value n) = refl
first_name names imm.None = refl

begun_program : (text : List ℕ) (b : ℕ) (bs : List ℕ) (fit : Fit) → text ≡ b ∷ bs → AreCalm text → is_in class.Blank b ≡ false → length text ≤ 4096 → meaning text ≡ Ok (Some fit)
    → IsProgram text (map (λ i. item.Code 1 i) (code_of [] fit)) (named [] fit.operands.symbol fit.operands.imm)
begun_program [] b bs fit whole all no_blank le e = absurd (let no : 0 ≡ suc (length bs) = ap length whole in omega (arith, no))
begun_program (c ∷ cs) b bs fit whole all no_blank le e = one_program c cs fit all (subst (λ x. is_in class.Blank x ≡ false) (sym (heads c b cs bs whole)) no_blank) le e
  where
    heads : (x y : ℕ) (xs ys : List ℕ) → x ∷ xs ≡ y ∷ ys → x ≡ y
    heads x y xs ys same = cc

pub spelled_back : (i : Instr) (names : List (List ℕ)) → is_lawful i ≡ true → HasSymbolText names i.imm → length (spelling i names) ≤ 4096 → IsProgram (spelling i names) (item.Code 1 (alone i) ∷ []) (symbols_of names i.imm)
spelled_back i names lawful symbol le =
    let l : IsReadLine names i = line_read i names lawful symbol in
    let all : IsProgram (spelling i names) (map (λ j. item.Code 1 j) (code_of [] l.fit)) (named [] l.fit.operands.symbol l.fit.operands.imm) = begun_program (spelling i names) l.first l.rest l.fit l.whole l.calm l.no_blank le l.means in
    let code : map (λ j. item.Code 1 j) (code_of [] l.fit) ≡ item.Code 1 (alone i) ∷ [] = ap (map (λ j. item.Code 1 j)) (l.code []) ∙ ap (λ j. item.Code 1 (record i { imm = j }) ∷ []) (first_number names i.imm) in
    subst (λ n. IsProgram (spelling i names) (item.Code 1 (alone i) ∷ []) n) (l.names_are [] ∙ first_name names i.imm) (subst (λ c. IsProgram (spelling i names) c (named [] l.fit.operands.symbol l.fit.operands.imm)) code all)

-- the instructions of a statement, with the numbers of their symbols
use Rattle.std.specs.Prelude.{ℕ, List, [], ◌∷◌, map, Bool, Option, Some, None, Result, Ok, Err}
use Rattle.rv_isa.specs.declared.op.Op.{Op}
use Rattle.rv_isa.specs.declared.instr.Instr.{Instr}
use Rattle.rv_isa.specs.declared.instr.Imm.{Imm}
use Rattle.rv_isa.specs.declared.instr.Imm.TheVariants as imm
use Rattle.rv_isa.specs.Instruction.{is_lawful}
use Rattle.rv_expand.specs.declared.pseudo.Pseudo.{Pseudo}
use Rattle.rv_expand.specs.declared.pseudo.PseudoKind.{PseudoKind}
use Rattle.rv_expand.specs.Expansion.{expansion}
use Rattle.rv_expand.specs.Operands.{fits}
use Rattle.rv_asm.specs.declared.fault.Cause.{Cause}
use Rattle.rv_asm.specs.declared.fault.Fault.{Fault}
use Rattle.rv_asm.specs.declared.form.Makes.{Makes}
use Rattle.rv_asm.specs.declared.form.Makes.TheVariants.{One, Several}
use Rattle.rv_asm.specs.declared.item.Item.{Item}
use Rattle.rv_asm.specs.declared.item.Item.TheVariants as item
use Rattle.rv_asm.specs.Operands.{Operands}
use Rattle.rv_asm.specs.Forms.{Fit}
use Rattle.rv_asm.specs.Names.{with_name, number_of}

-- an immediate whose symbol has this text
abbrev pub numbered : List (List ℕ) → List ℕ → Imm → Imm
numbered names symbol (imm.Symbol k) = imm.Symbol (number_of names symbol)
numbered names symbol (imm.Value n) = imm.Value n
numbered names symbol imm.None = imm.None

abbrev pub named : List (List ℕ) → List ℕ → Imm → List (List ℕ)
named names symbol (imm.Symbol k) = with_name names symbol
named names symbol (imm.Value n) = names
named names symbol imm.None = names

abbrev pub instr_of : Op → Operands → Imm → Instr
instr_of o p i = record { op = o; rd = p.rd; rs1 = p.rs1; rs2 = p.rs2; imm = i }

abbrev pub pseudo_of : PseudoKind → Operands → Imm → Pseudo
pseudo_of k p i = record { kind = k; rd = p.rd; rs1 = p.rs1; rs2 = p.rs2; imm = i }

-- what a form stands for
abbrev pub made_by : Makes → Operands → Imm → List Instr
made_by (One o) p i = instr_of o p i ∷ []
made_by (Several k) p i = expansion (pseudo_of k p i)

-- the operands are those that the opcode or the pseudo-instruction takes, each in its range
abbrev pub is_right : Makes → Operands → Imm → Bool
is_right (One o) p i = is_lawful (instr_of o p i)
is_right (Several k) p i = fits (pseudo_of k p i)

abbrev pub code_of : List (List ℕ) → Fit → List Instr
code_of names fit = made_by fit.makes fit.operands (numbered names fit.operands.symbol fit.operands.imm)

-- the items of a statement that means this, in its line
abbrev pub items_at : ℕ → List (List ℕ) → Result (Option Fit) Cause → List Item
items_at line names (Ok None) = []
items_at line names (Ok (Some fit)) = map (λ i. item.Code line i) (code_of names fit)
items_at line names (Err c) = []

-- the names behind it
abbrev pub names_at : List (List ℕ) → Result (Option Fit) Cause → List (List ℕ)
names_at names (Ok None) = names
names_at names (Ok (Some fit)) = named names fit.operands.symbol fit.operands.imm
names_at names (Err c) = names

-- its own fault
abbrev pub faults_at : ℕ → Result (Option Fit) Cause → List Fault
faults_at line (Ok found) = []
faults_at line (Err c) = record { line = line; cause = c } ∷ []

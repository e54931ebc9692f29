-- how an instruction is spelled
use Rattle.std.specs.Prelude.{ℕ, pos, ◌/◌, ◌%◌, nat_eq, List, [], ◌∷◌, ◌++◌, codes, slice_index_or, ⊤, ◌<◌, if◌then◌else◌}
use Rattle.std.specs.Fmt.{signed_decimal}
use Rattle.std.specs.Int.{bit_at}
use Rattle.rv_isa.specs.declared.facts.Form.{Form}
use Rattle.rv_isa.specs.declared.facts.Form.TheVariants.{RdImm, RdRs1Imm, RdRs1Rs2, RdOffset, Rs2Offset, Rs1Rs2Imm, Sets, Nothing}
use Rattle.rv_isa.specs.declared.instr.Imm.{Imm}
use Rattle.rv_isa.specs.declared.instr.Imm.TheVariants as imm
use Rattle.rv_isa.specs.declared.instr.Instr.{Instr}
use Rattle.rv_isa.specs.Opcodes.{facts_of}
use Rattle.rv_isa.specs.Registers.{name_of}

-- a letter, where the set has the member that counts 2 to that power
abbrev pub letter : ℕ → ℕ → List ℕ → List ℕ
letter set power text = if nat_eq (bit_at set power) 1 then text else []

-- a set of a fence: device input, device output, memory reads, memory writes
abbrev pub set_of : ℕ → List ℕ
set_of set = if nat_eq set 0 then codes "0" else letter set 3 (codes "i") ++ letter set 2 (codes "o") ++ letter set 1 (codes "r") ++ letter set 0 (codes "w")

-- the sets, each at its number
abbrev pub set_names : List (List ℕ)
set_names =
    codes "0" ∷ codes "w" ∷ codes "r" ∷ codes "rw" ∷ codes "o" ∷ codes "ow" ∷ codes "or" ∷ codes "orw" ∷
    codes "i" ∷ codes "iw" ∷ codes "ir" ∷ codes "irw" ∷ codes "io" ∷ codes "iow" ∷ codes "ior" ∷ codes "iorw" ∷ []

-- the predecessor set and the successor set, which are kept as one number
abbrev pub sets_of : Imm → List (List ℕ)
sets_of (imm.Value (pos n)) = set_of (n / 16) ∷ set_of (n % 16) ∷ []
sets_of _ = []

-- a number in decimal, or a symbol as it was read
abbrev pub imm_of : List (List ℕ) → Imm → List ℕ
imm_of names imm.None = []
imm_of names (imm.Value n) = signed_decimal n
imm_of names (imm.Symbol k) = slice_index_or names k []

abbrev pub offset_of : List (List ℕ) → Instr → List ℕ
offset_of names i = imm_of names i.imm ++ codes "(" ++ name_of i.rs1 ++ codes ")"

abbrev pub operands : List (List ℕ) → Instr → Form → List (List ℕ)
operands names i RdImm = name_of i.rd ∷ imm_of names i.imm ∷ []
operands names i RdRs1Imm = name_of i.rd ∷ name_of i.rs1 ∷ imm_of names i.imm ∷ []
operands names i RdRs1Rs2 = name_of i.rd ∷ name_of i.rs1 ∷ name_of i.rs2 ∷ []
operands names i RdOffset = name_of i.rd ∷ offset_of names i ∷ []
operands names i Rs2Offset = name_of i.rs2 ∷ offset_of names i ∷ []
operands names i Rs1Rs2Imm = name_of i.rs1 ∷ name_of i.rs2 ∷ imm_of names i.imm ∷ []
operands names i Sets = sets_of i.imm
operands names i Nothing = []

-- each text behind a separator, which is a comma and a space from the second text on
abbrev pub behind : List ℕ → List (List ℕ) → List ℕ
behind separator [] = []
behind separator (text ∷ texts) = separator ++ text ++ behind (codes ", ") texts

-- the mnemonic, one space, and the operands with a comma and a space between them
abbrev pub spelling : Instr → List (List ℕ) → List ℕ
spelling i names = (facts_of i.op).mnemonic ++ behind (codes " ") (operands names i (facts_of i.op).form)

-- what a spelling needs: that a symbol is among the names, and that a fence has its two sets
abbrev pub IsNamed : ℕ → Imm → Type 0
IsNamed count (imm.Symbol k) = k < count
IsNamed count _ = ⊤

abbrev pub IsSets : Form → Imm → Type 0
IsSets Sets (imm.Value (pos n)) = n < 256
IsSets Sets _ = ⊥
IsSets _ _ = ⊤

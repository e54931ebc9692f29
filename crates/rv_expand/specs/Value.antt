-- the number that a list of instructions on one register leaves in it
use Rattle.std.specs.Prelude.{ℕ, ℤ, pos, unsigned_abs, ◌+ℤ◌, ◌*ℤ◌, ◌^◌, nat_eq, Bool, ◌&&◌, ◌||◌, List, [], ◌∷◌, Option, Some, None, option_and_then, option_map, if◌then◌else◌}
use Rattle.std.specs.Int.{int_wrap, w32, w64}
use Rattle.rv_isa.specs.declared.op.Op.{Op}
use Rattle.rv_isa.specs.declared.op.Op.TheVariants as op
use Rattle.rv_isa.specs.declared.instr.Imm.{Imm}
use Rattle.rv_isa.specs.declared.instr.Imm.TheVariants as imm
use Rattle.rv_isa.specs.declared.instr.Instr.{Instr}
use Rattle.rv_isa.specs.Instruction.{is_lawful}

-- what the opcode makes of the number that it reads and of its immediate, as a signed number of 64 bits
abbrev pub result_of : Op → ℤ → Imm → Option ℤ
result_of op.Lui x (imm.Value n) = Some (int_wrap w32 (n *ℤ pos 4096))
result_of op.Addi x (imm.Value n) = Some (int_wrap w64 (x +ℤ n))
result_of op.Addiw x (imm.Value n) = Some (int_wrap w32 (x +ℤ n))
result_of op.Slli x (imm.Value n) = Some (int_wrap w64 (x *ℤ pos (2 ^ unsigned_abs n)))
result_of _ x n = None

-- x0 holds 0 whatever is written to it
abbrev pub held : ℕ → ℤ → ℤ
held r x = if nat_eq r 0 then pos 0 else x

-- it writes rd, and reads only rd or x0
abbrev pub is_on : ℕ → Instr → Bool
is_on rd i = nat_eq i.rd rd && (nat_eq i.rs1 rd || nat_eq i.rs1 0)

-- the number in rd after one lawful instruction on it, where x was the number before
abbrev pub after : ℕ → ℤ → Instr → Option ℤ
after rd x i = if is_lawful i && is_on rd i then option_map (held rd) (result_of i.op (held i.rs1 x) i.imm) else None

abbrev pub value_from : ℕ → ℤ → List Instr → Option ℤ
value_from rd x [] = Some x
value_from rd x (i ∷ rest) = option_and_then (λ y. value_from rd y rest) (after rd x i)

-- the number in the register that the list is on, starting from 0; none where it is on no one register or holds another opcode
abbrev pub value_of : List Instr → Option ℤ
value_of [] = Some (pos 0)
value_of (i ∷ rest) = value_from i.rd (pos 0) (i ∷ rest)

-- The program that a number gives: how long it is, and that each of its instructions can be written down and is run.
use Rattle.std.proofs.Common.{zero, suc, ◌≡◌, ℕ, ◌+◌, ◌-◌, ◌/◌, ◌%◌, ◌<◌, List, [], ◌∷◌, ◌++◌, length, append_assoc, Bool, true, false, cond, pos, nat_lt, refl, sym, ◌∙◌, ap, arith}
use Rattle.std.specs.List.{All}
use Rattle.std.proofs.lemmas.Bool.Decides.{nat_tests}
use Rattle.std.proofs.lemmas.List.Elements.{All-nil, All-cons}
use Rattle.rv_isa.specs.Instruction.{is_lawful}
use Rattle.rv_isa.specs.Spelling.{IsNamed}
use Rattle.rv_isa.specs.declared.instr.Imm.TheVariants as imm
use Rattle.rv_isa.specs.declared.instr.Instr.{Instr}
use Rattle.rv_isa.specs.declared.op.Op.TheVariants as op
use Rattle.mca_run.specs.Load.{next_number, register, of_three, chosen, instruction_of, generated_from, generated}

-- one instruction more
pub one_more : (n k x : ℕ) (front : List Instr) → k < n → (front ++ instruction_of (next_number x) ∷ []) ++ generated_from (n - (k + 1)) (next_number x) ≡ front ++ generated_from (n - k) x
one_more n k x front below =
    let e : n - k ≡ suc (n - (k + 1)) = omega (arith, below) in
    append_assoc front (instruction_of (next_number x) ∷ []) (generated_from (n - (k + 1)) (next_number x))
    ∙ ap (λ m. front ++ generated_from m x) (sym e)

from_length : (n x : ℕ) → length (generated_from n x) ≡ n
from_length zero x = refl
from_length (suc n) x = ap suc (from_length n (next_number x))

all_from : (P : Instr → Type 0) → ((x : ℕ) → P (instruction_of x)) → (n x : ℕ) → All P (generated_from n x)
all_from P each zero x = All-nil P
all_from P each (suc n) x = All-cons P (instruction_of (next_number x)) (generated_from n (next_number x)) (each (next_number x)) (all_from P each n (next_number x))

chosen_lawful : (n rd rs1 rs2 : ℕ) → nat_lt rd 32 ≡ true → nat_lt rs1 32 ≡ true → nat_lt rs2 32 ≡ true → is_lawful (chosen n rd rs1 rs2) ≡ true
chosen_lawful n rd rs1 rs2 a b c = go (nat_lt n 6) (nat_lt n 9) (nat_lt n 11) (nat_lt n 12) (nat_lt n 14) (nat_lt n 15)
  where
    go : (p q r s t u : Bool) → is_lawful (cond p (of_three op.Add rd rs1 rs2) (cond q (record { op = op.Addi; rd = rd; rs1 = rs1; rs2 = 0; imm = imm.Value (pos 1) }) (cond r (of_three op.Mul rd rs1 rs2) (cond s (of_three op.Div rd rs1 rs2)
        (cond t (record { op = op.Ld; rd = rd; rs1 = rs1; rs2 = 0; imm = imm.Value (pos 0) }) (cond u (record { op = op.Sd; rd = 0; rs1 = rs1; rs2 = rs2; imm = imm.Value (pos 0) }) (of_three op.Xor rd rs1 rs2))))))) ≡ true
    go true q r s t u = rw (a, b, c) refl
    go false true r s t u = rw (a, b) refl
    go false false true s t u = rw (a, b, c) refl
    go false false false true t u = rw (a, b, c) refl
    go false false false false true u = rw (a, b) refl
    go false false false false false true = rw (b, c) refl
    go false false false false false false = rw (a, b, c) refl

register_low : (n : ℕ) → nat_lt (register n) 32 ≡ true
register_low n = let low : register n < 32 = omega arith in grind (arith, nat_tests, low)

chosen_named : (n rd rs1 rs2 : ℕ) → IsNamed 0 (chosen n rd rs1 rs2).imm
chosen_named n rd rs1 rs2 = go (nat_lt n 6) (nat_lt n 9) (nat_lt n 11) (nat_lt n 12) (nat_lt n 14) (nat_lt n 15)
  where
    go : (p q r s t u : Bool) → IsNamed 0 (cond p (of_three op.Add rd rs1 rs2) (cond q (record { op = op.Addi; rd = rd; rs1 = rs1; rs2 = 0; imm = imm.Value (pos 1) }) (cond r (of_three op.Mul rd rs1 rs2) (cond s (of_three op.Div rd rs1 rs2)
        (cond t (record { op = op.Ld; rd = rd; rs1 = rs1; rs2 = 0; imm = imm.Value (pos 0) }) (cond u (record { op = op.Sd; rd = 0; rs1 = rs1; rs2 = rs2; imm = imm.Value (pos 0) }) (of_three op.Xor rd rs1 rs2))))))).imm
    go true q r s t u = record {}
    go false true r s t u = record {}
    go false false true s t u = record {}
    go false false false true t u = record {}
    go false false false false true u = record {}
    go false false false false false true = record {}
    go false false false false false false = record {}

-- the whole program
pub program_is : (seed : ℕ) → generated_from 512 seed ≡ generated seed
unfolding generated
program_is seed = refl

pub has_length : (seed : ℕ) → length (generated seed) ≡ 512
unfolding generated
has_length seed = from_length 512 seed

pub all_lawful : (seed : ℕ) → All (λ i. is_lawful i ≡ true) (generated seed)
unfolding generated
all_lawful seed = all_from (λ i. is_lawful i ≡ true) (λ x. chosen_lawful (x / 65536 % 16) (register (x / 65536 / 16)) (register (x / 65536 / 128)) (register (x / 65536 / 1024)) (register_low (x / 65536 / 16)) (register_low (x / 65536 / 128)) (register_low (x / 65536 / 1024))) 512 seed

pub all_named : (seed : ℕ) → All (λ i. IsNamed 0 i.imm) (generated seed)
unfolding generated
all_named seed = all_from (λ i. IsNamed 0 i.imm) (λ x. chosen_named (x / 65536 % 16) (register (x / 65536 / 16)) (register (x / 65536 / 128)) (register (x / 65536 / 1024))) 512 seed

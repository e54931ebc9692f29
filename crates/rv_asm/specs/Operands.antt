-- operands: how they are separated, and what each may be
use Rattle.std.specs.Prelude.{ℕ, ℤ, pos, neg_ℤ, int_le, int_lt, ◌+◌, ◌-ℤ◌, ◌-◌, ◌*◌, ◌^◌, List, [], ◌∷◌, ◌++◌, length, take, drop, map, nat_eq, Bool, true, false, ◌&&◌, Option, Some, None, option_and_then, if◌then◌else◌, codes}
use Rattle.std.specs.List.{starts_with, ends_with}
use Rattle.std.specs.Option.{option_map}
use Rattle.rv_isa.specs.declared.facts.ImmRange.{ImmRange}
use Rattle.rv_isa.specs.declared.instr.Imm.{Imm}
use Rattle.rv_isa.specs.declared.instr.Imm.TheVariants as imm
use Rattle.rv_isa.specs.Instruction.{is_within}
use Rattle.rv_isa.specs.Opcodes.{upper, signed_12, shift_64, shift_32, jump, branch}
use Rattle.rv_isa.specs.Registers.{place_from, register_named}
use Rattle.rv_isa.specs.Spelling.{set_names}
use Rattle.rv_asm.specs.declared.class.ByteClass.TheVariants as class
use Rattle.rv_asm.specs.declared.operand.Parts.{Parts}
use Rattle.rv_asm.specs.declared.operand.Shape.{Shape}
use Rattle.rv_asm.specs.declared.operand.Shape.TheVariants as shape
use Rattle.rv_asm.specs.Statement.{skip, trailing, is_empty}
use Rattle.rv_asm.specs.Numbers.{number_at}
use Rattle.rv_asm.specs.Symbols.{is_symbolic}

-- ---- where the operands stand

abbrev pub with_front : {X : Type 0} → List X → List (List X) → List (List X)
with_front front [] = front ∷ []
with_front front (s ∷ ss) = (front ++ s) ∷ ss

-- how many parentheses are open behind a byte; one that closes none is as any other byte
abbrev pub depth_after : ℕ → ℕ → ℕ
depth_after depth b = if nat_eq b 40 then depth + 1 else if nat_eq b 41 then depth - 1 else depth

-- a comma outside parentheses
abbrev pub separates_at : ℕ → ℕ → Bool
separates_at depth b = nat_eq b 44 && nat_eq depth 0

-- the texts between the commas outside parentheses
abbrev pub between_commas : ℕ → List ℕ → List (List ℕ)
between_commas depth [] = [] ∷ []
between_commas depth (b ∷ bs) = if separates_at depth b then [] ∷ between_commas 0 bs else with_front (b ∷ []) (between_commas (depth_after depth b) bs)

-- without the blanks at both ends
abbrev pub front_of : List ℕ → List ℕ
front_of text = take (length text - trailing class.Blank text) text

abbrev pub trimmed : List ℕ → List ℕ
trimmed text = front_of (skip class.Blank text)

abbrev pub operands_in : List ℕ → List (List ℕ)
operands_in text = if is_empty (skip class.Blank text) then [] else map trimmed (between_commas 0 text)

-- ---- what the operands of an instruction come to

-- registers, an immediate, the text of a symbol, the first set of a fence, and whether a number was out of range
pub record Operands : Type 0 where
  pub rd : ℕ
  pub rs1 : ℕ
  pub rs2 : ℕ
  pub imm : Imm
  pub symbol : List ℕ
  pub pred : ℕ
  pub beyond : Bool

abbrev pub no_operands : Operands
no_operands = record { rd = 0; rs1 = 0; rs2 = 0; imm = imm.None; symbol = []; pred = 0; beyond = false }

abbrev pub parts_of : Parts → Operands
parts_of p = record { rd = p.rd; rs1 = p.rs1; rs2 = p.rs2; imm = p.imm; symbol = p.symbol.now; pred = p.pred; beyond = p.beyond }

abbrev pub symbolic : List ℕ → Operands → Option Operands
symbolic text p = if is_symbolic text then Some (record p { imm = imm.Symbol 0; symbol = text }) else None

abbrev pub ranged : Bool → ℤ → Operands → Operands
ranged within n p = if within then record p { imm = imm.Value n } else record p { beyond = true }

abbrev pub number_or_symbol : ImmRange → List ℕ → Operands → Option ℤ → Option Operands
number_or_symbol b text p None = symbolic text p
number_or_symbol b text p (Some n) = Some (ranged (is_within b n) n p)

-- a number, or a symbol
abbrev pub immediate : ImmRange → List ℕ → Operands → Option Operands
immediate b text p = number_or_symbol b text p (number_at text)

-- an offset may be left out, and is then 0
abbrev pub displacement : List ℕ → Operands → Option Operands
displacement text p = if is_empty text then Some (record p { imm = imm.Value (pos 0) }) else immediate signed_12 text p

-- the place of the last `(`
abbrev pub last_open : ℕ → Option ℕ → List ℕ → Option ℕ
last_open k last [] = last
last_open k last (b ∷ bs) = last_open (k + 1) (if nat_eq b 40 then Some k else last) bs

abbrev pub based : List ℕ → Operands → Option ℕ → Option Operands
based text p None = None
based text p (Some k) = option_and_then (λ r. displacement (take k text) (record p { rs1 = r })) (register_named (drop (k + 1) text))

-- an offset, and a register in parentheses
abbrev pub offset : List ℕ → Operands → Option Operands
offset text p = if ends_with nat_eq text (codes ")") then based (take (length text - 1) text) p (last_open 0 None (take (length text - 1) text)) else None

-- any number of 64 bits, with a sign or without
abbrev pub is_wide : ℤ → Bool
is_wide n = int_le (neg_ℤ (pos (2 ^ 63))) n && int_lt n (pos (2 ^ 64))

-- the signed number with the same low 64 bits
abbrev pub wrapped : ℤ → ℤ
wrapped n = if int_lt n (pos (2 ^ 63)) then n else n -ℤ pos (2 ^ 64)

abbrev pub wide : List ℕ → Operands → Option Operands
wide text p = option_map (λ n. ranged (is_wide n) (wrapped n) p) (number_at text)

-- what the operands come to with one more, where it may be that
abbrev pub accept : Shape → List ℕ → Operands → Option Operands
accept shape.Rd text p = option_map (λ r. record p { rd = r }) (register_named text)
accept shape.Rs1 text p = option_map (λ r. record p { rs1 = r }) (register_named text)
accept shape.Rs2 text p = option_map (λ r. record p { rs2 = r }) (register_named text)
accept shape.Upper text p = immediate upper text p
accept shape.Signed12 text p = immediate signed_12 text p
accept shape.Shift64 text p = immediate shift_64 text p
accept shape.Shift32 text p = immediate shift_32 text p
accept shape.Branch text p = immediate branch text p
accept shape.Jump text p = immediate jump text p
accept shape.Offset text p = offset text p
accept shape.Wide text p = wide text p
accept shape.Symbol text p = symbolic text p
accept shape.ThreadAdd text p = if starts_with nat_eq text (codes "%tprel_add(") then symbolic text p else None
accept shape.Pred text p = option_map (λ k. record p { pred = k }) (place_from 0 set_names text)
accept shape.Succ text p = option_map (λ k. record p { imm = imm.Value (pos (16 * p.pred + k)) }) (place_from 0 set_names text)

-- what all operands come to; none where one may not be what it is to be
abbrev pub accept_all : List Shape → List (List ℕ) → Operands → Option Operands
accept_all [] texts p = Some p
accept_all (s ∷ ss) [] p = None
accept_all (s ∷ ss) (text ∷ texts) p = option_and_then (accept_all ss texts) (accept s text p)

-- the operands behind a comma, where there is one
abbrev pub others : Option (List ℕ) → List (List ℕ)
others None = []
others (Some text) = between_commas 0 text

-- what holds of the items and the names of every program
use Rattle.std.specs.Prelude.{◌≡◌, ℕ, List, length, true}
use Rattle.rv_isa.specs.declared.instr.Instr.{Instr}
use Rattle.rv_isa.specs.Instruction.{is_lawful}
use Rattle.rv_isa.specs.Spelling.{IsNamed}
use Rattle.rv_asm.specs.declared.item.Item.{Item}
use Rattle.rv_asm.specs.declared.item.Item.TheVariants as item

-- an instruction that is lawful, and whose symbol is one of the names
pub record IsSpellable (names : List (List ℕ)) (i : Instr) : Type 0 where
  pub lawful : is_lawful i ≡ true
  pub named : IsNamed (length names) i.imm

abbrev pub IsSpellableItem : List (List ℕ) → Item → Type 0
IsSpellableItem names (item.Code line i) = IsSpellable names i
IsSpellableItem names (item.Begin line name) = Unit {0}
IsSpellableItem names (item.End line name) = Unit {0}

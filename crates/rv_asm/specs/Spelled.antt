-- spelled instructions in the lines of a text, and what the text has
use Rattle.std.specs.Prelude.{◌≡◌, ℕ, ◌+◌, ◌≤◌, List, [], ◌∷◌, ◌++◌, length, true, slice_index_or}
use Rattle.rv_isa.specs.declared.instr.Imm.{Imm}
use Rattle.rv_isa.specs.declared.instr.Imm.TheVariants as imm
use Rattle.rv_isa.specs.declared.instr.Instr.{Instr}
use Rattle.rv_isa.specs.Instruction.{is_lawful}
use Rattle.rv_isa.specs.Spelling.{spelling}
use Rattle.rv_isa.specs.Symbol.{HasSymbolText}
use Rattle.rv_asm.specs.declared.item.Item.{Item}
use Rattle.rv_asm.specs.declared.item.Item.TheVariants as item
use Rattle.rv_asm.specs.Items.{numbered, named}

-- ---- an instruction alone, whose symbol is the first one

-- the symbol of the immediate, where it is one
abbrev pub symbols_of : List (List ℕ) → Imm → List (List ℕ)
symbols_of names (imm.Symbol k) = slice_index_or names k [] ∷ []
symbols_of names (imm.Value n) = []
symbols_of names imm.None = []

abbrev pub first_symbol : Imm → Imm
first_symbol (imm.Symbol k) = imm.Symbol 0
first_symbol (imm.Value n) = imm.Value n
first_symbol imm.None = imm.None

abbrev pub alone : Instr → Instr
alone i = record i { imm = first_symbol i.imm }

-- ---- instructions, each on a line of its own

-- lawful, its symbol has such a text, and its line is none that is too long
pub record IsSpelledLine (names : List (List ℕ)) (i : Instr) : Type 0 where
  pub lawful : is_lawful i ≡ true
  pub symbol : HasSymbolText names i.imm
  pub short : length (spelling i names) ≤ 4096

-- the spellings, a line feed behind each
abbrev pub spelled_lines : List (List ℕ) → List Instr → List ℕ
spelled_lines names [] = []
spelled_lines names (i ∷ is) = spelling i names ++ 10 ∷ spelled_lines names is

-- the text of the immediate, where it is a symbol
abbrev pub symbol_in : List (List ℕ) → Imm → List ℕ
symbol_in names (imm.Symbol k) = slice_index_or names k []
symbol_in names (imm.Value n) = []
symbol_in names imm.None = []

-- the names that have appeared once the instructions have, where these have before
abbrev pub appeared : List (List ℕ) → List (List ℕ) → List Instr → List (List ℕ)
appeared names before [] = before
appeared names before (i ∷ is) = appeared names (named before (symbol_in names i.imm) i.imm) is

-- the instruction with its symbol's number among the names that have appeared
abbrev pub renumbered : List (List ℕ) → List (List ℕ) → Instr → Instr
renumbered names before i = record i { imm = numbered before (symbol_in names i.imm) i.imm }

-- each instruction in its line, from line n on
abbrev pub items_of_lines : List (List ℕ) → ℕ → List (List ℕ) → List Instr → List Item
items_of_lines names n before [] = []
items_of_lines names n before (i ∷ is) = item.Code n (renumbered names before i) ∷ items_of_lines names (n + 1) (named before (symbol_in names i.imm) i.imm) is

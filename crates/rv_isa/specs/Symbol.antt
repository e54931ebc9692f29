-- the texts of symbolic immediates, and when two instructions are the same but for the symbols' numbers
use Rattle.std.specs.Prelude.{◌≡◌, ℕ, nat_eq, nat_le, Bool, true, false, ◌&&◌, ◌||◌, is_some, List, [], ◌∷◌, ◌++◌, codes, slice_index_or, ⊤}
use Rattle.std.specs.Cmp.Lexicographic.{pointwise}
use Rattle.std.specs.List.{list_all, starts_with}
use Rattle.rv_isa.specs.declared.instr.Imm.{Imm}
use Rattle.rv_isa.specs.declared.instr.Imm.TheVariants as imm
use Rattle.rv_isa.specs.declared.instr.Instr.{Instr}
use Rattle.rv_isa.specs.Registers.{register_named}

abbrev pub is_digit : ℕ → Bool
is_digit b = nat_le 48 b && nat_le b 57

abbrev pub is_letter : ℕ → Bool
is_letter b = (nat_le 65 b && nat_le b 90) || (nat_le 97 b && nat_le b 122)

-- a letter or `_`; with `.` and `$` it begins a symbol, with digits, `@`, `+` and `-` it goes on
abbrev pub is_word_byte : ℕ → Bool
is_word_byte b = is_letter b || nat_eq b 95

abbrev pub is_first_byte : ℕ → Bool
is_first_byte b = is_word_byte b || nat_eq b 46 || nat_eq b 36

abbrev pub is_symbol_byte : ℕ → Bool
is_symbol_byte b = is_first_byte b || is_digit b || nat_eq b 64 || nat_eq b 43 || nat_eq b 45

-- what is no symbol although its bytes are: a register's name, `.` alone, and a sum with `.`
abbrev pub is_taken : List ℕ → Bool
is_taken text = is_some (register_named text) || pointwise nat_eq text (codes ".") || starts_with nat_eq text (codes ".+") || starts_with nat_eq text (codes ".-")

-- a symbol with what is added to it; a label of digits, looked for backwards or forwards; a relocation of another
pub data IsSymbolText : List ℕ → Type 0 where
  plain : (b : ℕ) (bs : List ℕ) → is_first_byte b ≡ true → list_all is_symbol_byte bs ≡ true → is_taken (b ∷ bs) ≡ false → IsSymbolText (b ∷ bs)
  label : (d : ℕ) (ds : List ℕ) (b : ℕ) → list_all is_digit (d ∷ ds) ≡ true → nat_eq b 98 || nat_eq b 102 ≡ true → IsSymbolText (d ∷ (ds ++ b ∷ []))
  relocated : (w : ℕ) (ws text : List ℕ) → list_all is_word_byte (w ∷ ws) ≡ true → IsSymbolText text → IsSymbolText (37 ∷ w ∷ (ws ++ 40 ∷ (text ++ 41 ∷ [])))

-- a symbol stands for such a text
abbrev pub HasSymbolText : List (List ℕ) → Imm → Type 0
HasSymbolText names (imm.Symbol k) = IsSymbolText (slice_index_or names k [])
HasSymbolText names _ = ⊤

-- the same immediate; symbols by their texts
abbrev pub IsSameImm : List (List ℕ) → List (List ℕ) → Imm → Imm → Type 0
IsSameImm names others imm.None imm.None = ⊤
IsSameImm names others (imm.Value m) (imm.Value n) = m ≡ n
IsSameImm names others (imm.Symbol k) (imm.Symbol l) = slice_index_or names k [] ≡ slice_index_or others l []
IsSameImm names others _ _ = ⊥

pub record IsSame (names others : List (List ℕ)) (i j : Instr) : Type 0 where
  pub op : i.op ≡ j.op
  pub rd : i.rd ≡ j.rd
  pub rs1 : i.rs1 ≡ j.rs1
  pub rs2 : i.rs2 ≡ j.rs2
  pub imm : IsSameImm names others i.imm j.imm

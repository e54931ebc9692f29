-- symbolic immediates: a symbol, a label of digits seen backwards or forwards, and a relocation around one
use Rattle.std.specs.Prelude.{ℕ, zero, suc, ◌-◌, List, length, take, drop, nat_eq, Bool, false, ◌&&◌, ◌||◌, not, Option, Some, None, is_some, option_and_then, if◌then◌else◌, codes}
use Rattle.std.specs.Cmp.Lexicographic.{pointwise}
use Rattle.rv_asm.specs.declared.class.ByteClass.TheVariants as class
use Rattle.rv_asm.specs.Statement.{skip, trailing, begins_in, begins_with, is_empty}
use Rattle.rv_asm.specs.Pieces.{begins}
use Rattle.rv_isa.specs.Registers.{register_named}

-- a symbol and what is added to it, and no register; not `.` alone, nor a sum with `.`
abbrev pub is_plain : List ℕ → Bool
is_plain text = begins_in class.Start text && is_empty (skip class.Operand text) && not (is_some (register_named text)) && not (pointwise nat_eq text (codes ".") || begins 46 43 text || begins 46 45 text)

-- digits, and `b` or `f`
abbrev pub is_local : List ℕ → Bool
is_local text = begins_in class.Digit text && (pointwise nat_eq (skip class.Digit text) (codes "b") || pointwise nat_eq (skip class.Digit text) (codes "f"))

-- what stands behind `%`, a word, and an opening parenthesis
abbrev pub opened_word : List ℕ → Option (List ℕ)
opened_word text = if begins_in class.Word text && begins_with 40 (skip class.Word text) then Some (drop 1 (skip class.Word text)) else None

abbrev pub opened : List ℕ → Option (List ℕ)
opened text = if begins_with 37 text then opened_word (drop 1 text) else None

-- what stands behind so many of these
abbrev pub core : ℕ → List ℕ → Option (List ℕ)
core zero text = Some text
core (suc k) text = option_and_then (core k) (opened text)

abbrev pub is_core : Option (List ℕ) → Bool
is_core None = false
is_core (Some text) = is_plain text || is_local text

-- as many relocations are opened as there are parentheses that close them
abbrev pub is_symbolic : List ℕ → Bool
is_symbolic text = is_core (core (trailing class.Close text) (take (length text - trailing class.Close text) text))

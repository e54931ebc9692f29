-- what a statement means behind its labels: nothing, an instruction by a form of the table, or a fault
use Rattle.std.specs.Prelude.{ℕ, ◌+◌, List, [], ◌∷◌, take, drop, nat_eq, Bool, ◌||◌, Option, Some, None, Result, Ok, Err, if◌then◌else◌, codes}
use Rattle.std.specs.List.{list_any, starts_with}
use Rattle.std.specs.Cmp.Lexicographic.{pointwise}
use Rattle.rv_asm.specs.declared.class.ByteClass.TheVariants as class
use Rattle.rv_asm.specs.declared.fault.Cause.{Cause}
use Rattle.rv_asm.specs.declared.fault.Cause.TheVariants as cause
use Rattle.rv_asm.specs.Statement.{is_in, skip, is_empty, is_assignment, is_directive}
use Rattle.rv_asm.specs.Operands.{operands_in}
use Rattle.rv_asm.specs.Forms.{Fit, map_ok, judged}
use Rattle.rv_asm.specs.Table.{forms}

-- the place of the first blank, or the end
abbrev pub blank_from : ℕ → List ℕ → ℕ
blank_from k [] = k
blank_from k (b ∷ bs) = if is_in class.Blank b then k else blank_from (k + 1) bs

abbrev pub first_word : List ℕ → List ℕ
first_word text = take (blank_from 0 text) text

abbrev pub behind_word : List ℕ → List ℕ
behind_word text = drop (blank_from 0 text) text

-- the directives that would make other text of the text, beside those that begin with `.if` or `.else`
abbrev pub refused_words : List (List ℕ)
refused_words = codes ".insn" ∷ codes ".macro" ∷ codes ".endm" ∷ codes ".rept" ∷ codes ".irp" ∷ codes ".irpc" ∷ codes ".endr" ∷ codes ".include" ∷ codes ".incbin" ∷ codes ".endif" ∷ []

abbrev pub is_refused : List ℕ → Bool
is_refused word = list_any (λ name. pointwise nat_eq word name) refused_words || starts_with nat_eq word (codes ".if") || starts_with nat_eq word (codes ".else")

-- the form of the table that a mnemonic and its operands fit
unfoldable pub fit_in : List ℕ → List (List ℕ) → Result Fit Cause
fit_in mnemonic texts = judged cause.UnknownMnemonic forms mnemonic texts

-- the mnemonic goes to the first blank
abbrev pub instruction_in : List ℕ → Result Fit Cause
instruction_in text = if starts_with nat_eq text (codes "c.") then Err cause.Compressed else fit_in (first_word text) (operands_in (behind_word text))

-- of a text that begins with no blank, the first that fits of nothing, an assignment, a directive and an instruction
abbrev pub meaning_at : List ℕ → Result (Option Fit) Cause
meaning_at text =
    if is_empty text then Ok None else
    if is_assignment text then Ok None else
    if is_directive text then (if is_refused (first_word text) then Err cause.Directive else Ok None) else map_ok Some (instruction_in text)

abbrev pub meaning : List ℕ → Result (Option Fit) Cause
meaning text = meaning_at (skip class.Blank text)

-- the forms of the mnemonics: which one a mnemonic and its operands fit, or how far they get
use Rattle.std.specs.Prelude.{ℕ, List, [], ◌∷◌, length, nat_eq, nat_lt, Bool, Option, Some, None, Result, Ok, Err, if◌then◌else◌}
use Rattle.std.specs.Cmp.Lexicographic.{pointwise}
use Rattle.rv_asm.specs.declared.fault.Cause.{Cause}
use Rattle.rv_asm.specs.declared.fault.Cause.TheVariants as cause
use Rattle.rv_asm.specs.declared.form.MnemonicForm.{MnemonicForm}
use Rattle.rv_asm.specs.declared.form.Makes.{Makes}
use Rattle.rv_asm.specs.declared.form.Made.{Made}
use Rattle.rv_asm.specs.declared.operand.Shape.{Shape}
use Rattle.rv_asm.specs.Operands.{Operands, accept_all, no_operands, parts_of}

abbrev pub map_ok : {A B : Type 0} → (A → B) → Result A Cause → Result B Cause
map_ok f (Ok x) = Ok (f x)
map_ok f (Err c) = Err c

-- a form: a mnemonic, what its operands are, and what it stands for
pub record Row : Type 0 where
  pub mnemonic : List ℕ
  pub shapes : List Shape
  pub makes : Makes

abbrev pub row_of : MnemonicForm → Row
row_of f = record { mnemonic = f.mnemonic.now; shapes = f.shapes.now; makes = f.makes }

-- a form that fits, and what its operands come to
pub record Fit : Type 0 where
  pub makes : Makes
  pub operands : Operands

abbrev pub fit_of : Made → Fit
fit_of m = record { makes = m.makes; operands = parts_of m.parts }

abbrev pub taken : Makes → Option Operands → Result Fit Cause
taken makes None = Err cause.BadOperand
taken makes (Some p) = if p.beyond then Err cause.ImmediateRange else Ok (record { makes = makes; operands = p })

-- a form of the mnemonic at these operands
abbrev pub fits : Row → List (List ℕ) → Result Fit Cause
fits f texts = if nat_eq (length f.shapes) (length texts) then taken f.makes (accept_all f.shapes texts no_operands) else Err cause.OperandCount

-- how far a form got
abbrev pub stage : Cause → ℕ
stage cause.OperandCount = 1
stage cause.BadOperand = 2
stage cause.ImmediateRange = 3
stage _ = 0

abbrev pub further : Cause → Cause → Cause
further a b = if nat_lt (stage a) (stage b) then b else a

abbrev pub or_else : Result Fit Cause → (Cause → Result Fit Cause) → Result Fit Cause
or_else (Ok fit) f = Ok fit
or_else (Err c) f = f c

abbrev pub is_named : Row → List ℕ → Bool
is_named f mnemonic = pointwise nat_eq mnemonic f.mnemonic

-- the first form that fits, and else the cause of the one that got furthest
abbrev pub judged : Cause → List Row → List ℕ → List (List ℕ) → Result Fit Cause
judged best [] mnemonic texts = Err best
judged best (f ∷ fs) mnemonic texts = if is_named f mnemonic then or_else (fits f texts) (λ c. judged (further best c) fs mnemonic texts) else judged best fs mnemonic texts

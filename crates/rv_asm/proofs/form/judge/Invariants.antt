use Rattle.std.proofs.Common.{◌≡◌, drop}
use Rattle.std.specs.Prelude.{map}
use Rattle.rv_asm.specs.declared.fault.Cause.TheVariants as cause
use Rattle.rv_asm.specs.Operands.{operands_in}
use Rattle.rv_asm.specs.Forms.{row_of, judged}
use Rattle.rv_asm.proofs.form.judge.Given as goal

abbrev pub invariant-loop-form : goal.invariant-loop-form
invariant-loop-form l = judged l.best (map row_of (drop l.form-index l.forms)) l.mnemonic (operands_in l.text) ≡ judged cause.UnknownMnemonic (map row_of l.forms) l.mnemonic (operands_in l.text)

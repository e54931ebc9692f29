use Rattle.std.proofs.Common.{◌≡◌, ℕ, List, Ok, Err, true, sym}
use Rattle.std.specs.Prelude.{IfOk}
use Rattle.std.specs.declared.result.Result.{Result}
use Rattle.rv_asm.specs.declared.fault.Cause.{Cause}
use Rattle.rv_asm.specs.declared.form.Made.{Made}
use Rattle.rv_asm.specs.Forms.{map_ok, fit_of}
use Rattle.rv_asm.specs.Items.{is_right}
use Rattle.rv_asm.specs.Meaning.{fit_in}
use Rattle.rv_asm.specs.Operands.{operands_in, parts_of}
use Rattle.rv_asm.proofs.Right.{fit_right}
use Rattle.rv_asm.proofs.instruction.fit_in.Goals as goal

right_of : (mnemonic : List ℕ) (texts : List (List ℕ)) (r : Result Made Cause) → map_ok fit_of r ≡ fit_in mnemonic texts → IfOk r (λ m. is_right m.makes (parts_of m.parts) m.parts.imm ≡ true)
right_of mnemonic texts (Ok made) e = fit_right mnemonic texts (fit_of made) (sym e)
right_of mnemonic texts (Err cause) e = tt

pub returns-clause-fit : goal.returns-clause-fit
unfolding fit_in
returns-clause-fit c = c.judge.ensures

pub returns-clause-right : goal.returns-clause-right
unfolding fit_in
returns-clause-right c = right_of c.args.mnemonic.now (operands_in c.args.operands.now) c.judge.result c.judge.ensures

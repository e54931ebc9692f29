use Rattle.std.proofs.Common.{◌∙◌, Ok, ap, sym}
use Rattle.std.proofs.lemmas.Result.{err_from_is_err_and}
use Rattle.mca_run.proofs.OfKinds.{marks_may}
use Rattle.mca_run.proofs.SoundProgram.{program_sound}
use Rattle.mca_run.proofs.files.program.Goals as goal

pub returns-in_err-regions-clause-err : goal.returns-in_err-regions-clause-err
returns-in_err-regions-clause-err c =
    let p = err_from_is_err_and c.from_residual-in_err-regions.result c.from_residual-in_err-regions.ensures.1 in
    rw (p.1, p.2) (marks_may c.args.text.now c.in_ok-asm.asm.items c.in_ok-asm.asm.names c.in_err-regions.field-0.0 c.in_ok-asm.ensures.program c.in_err-regions.ensures.err)

pub returns-clause-sound : goal.returns-clause-sound
returns-clause-sound c = program_sound _ c.in_ok-asm.asm.items (c.from_vec.ensures ∙ c.in_ok-code.ensures) (c.in_ok-regions.ensures.ok ∙ ap Ok (sym c.from_vec-2.ensures)) c.in_ok-asm.ensures.spellable

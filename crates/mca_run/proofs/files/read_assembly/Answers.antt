use Rattle.std.proofs.Common.{◌≡◌, subst}
use Rattle.std.proofs.lemmas.Result.{err_from_is_err_and}
use Rattle.mca_io.specs.Devices.{IfContent, Rose}
use Rattle.mca_run.specs.Steps.{IsUnread}
use Rattle.mca_run.specs.declared.stop.Stop.{Stop}
use Rattle.mca_run.specs.declared.status.LimitKind.TheVariants.{AssemblyBytes}
use Rattle.mca_run.specs.declared.status.Status.TheVariants.{ReadFault}
use Rattle.mca_run.proofs.Contents.{unread_assembly, unread_of_files, program_ok, program_err, program_of_files, program_read}
use Rattle.mca_run.proofs.files.read_assembly.Goals as goal

pub returns-in_err-text-clause-err : goal.returns-in_err-text-clause-err
returns-in_err-text-clause-err g c =
    let p = err_from_is_err_and c.from_residual.result c.from_residual.ensures.1 in
    let h = subst (λ name. IsUnread (g.F.Shelf.told c.args.shelf.now name) AssemblyBytes c.in_err-text.field-0.0.status) c.as_str.ensures c.in_err-text.ensures.err in
    rw (p.1, p.2) (λ contents tells. unread_assembly contents c.args.options.now (g.F.Shelf.told c.args.shelf.now) c.in_err-text.field-0.0.status tells h)

pub returns-in_err-text-clause-of_files : goal.returns-in_err-text-clause-of_files
returns-in_err-text-clause-of_files g c =
    let p = err_from_is_err_and c.from_residual.result c.from_residual.ensures.1 in
    rw (p.1, p.2) (unread_of_files (g.F.Shelf.told c.args.shelf.now c.as_str.result.now) AssemblyBytes c.in_err-text.field-0.0.status c.in_err-text.ensures.err)

pub returns-in_err-text-clause-fault : goal.returns-in_err-text-clause-fault
returns-in_err-text-clause-fault g c =
    let p = err_from_is_err_and c.from_residual.result c.from_residual.ensures.1 in
    rw (p.1, p.2) (subst (λ name. c.in_err-text.field-0.0.status ≡ ReadFault → Rose (g.F.Shelf.faults c.args.shelf.now name) (g.F.Shelf.faults c.content.new.shelf name)) c.as_str.ensures c.in_err-text.ensures.fault)

pub returns-clause-ok : goal.returns-clause-ok
returns-clause-ok g c = program_ok (g.F.Shelf.told c.args.shelf.now) c.args.options.now c.deref.result.now c.program.result (rw c.deref.ensures.value c.in_ok-text.ensures.short)
    (rw c.deref.ensures.value (subst (λ name. IfContent (g.F.Shelf.told c.args.shelf.now name) (λ content. c.in_ok-text.text.items ≡ content)) c.as_str.ensures c.in_ok-text.ensures.content))
    c.program.ensures.ok

pub returns-clause-err : goal.returns-clause-err
returns-clause-err g c = program_err (λ (s : Stop). s.status) (g.F.Shelf.told c.args.shelf.now) c.args.options.now c.deref.result.now c.program.result (rw c.deref.ensures.value c.in_ok-text.ensures.short)
    (rw c.deref.ensures.value (subst (λ name. IfContent (g.F.Shelf.told c.args.shelf.now name) (λ content. c.in_ok-text.text.items ≡ content)) c.as_str.ensures c.in_ok-text.ensures.content))
    c.program.ensures.err

pub returns-clause-of_files : goal.returns-clause-of_files
returns-clause-of_files g c = program_of_files (λ (s : Stop). s.status) c.deref.result.now c.program.result c.program.ensures.err

pub returns-clause-fault : goal.returns-clause-fault
returns-clause-fault g c = program_read (λ (s : Stop). s.status) c.deref.result.now _ c.program.result c.program.ensures.err

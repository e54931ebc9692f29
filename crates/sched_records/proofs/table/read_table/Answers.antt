use Rattle.std.proofs.Common.{Ok, Err, sym, ◌∙◌, refl, arith}
use Rattle.std.proofs.lemmas.Result.{err_from_is_err_and}
use Rattle.sched_records.specs.Table.{ends, fails, goes_on}
use Rattle.sched_records.proofs.OneAnswer.{unless_map, at_memory}
use Rattle.sched_records.proofs.FewRecords.{few}
use Rattle.sched_records.proofs.table.read_table.Goals as goal

pub returns-in_err-step-clause-fault : goal.returns-in_err-step-clause-fault
returns-in_err-step-clause-fault c =
    let p = err_from_is_err_and c.from_residual.result c.from_residual.ensures.1 in
    let e = c.in_err-step.field-0.0 in
    rw (p.1, p.2) (unless_map _ e.kind (λ read. c.phrases.invariant (Err e) (fails e (sym c.may_end.ensures ∙ c.phrases-test.true) read refl)) c.in_err-step.ensures.read)

pub returns-in_err-step-clause-no_line : goal.returns-in_err-step-clause-no_line
returns-in_err-step-clause-no_line c =
    let p = err_from_is_err_and c.from_residual.result c.from_residual.ensures.1 in
    rw (p.1, p.2) (at_memory _ c.in_err-step.field-0.0.kind c.in_err-step.ensures.read)

pub phrases-preserved : goal.phrases-preserved
phrases-preserved c = λ answer h.
    c.phrases.invariant answer (goes_on c.in_ok-step.step c.phrase.new.tokens (sym c.may_end.ensures ∙ c.phrases-test.true) c.in_ok-step.ensures.read
    (rw (← c.in_ok-doing.ensures.known, ← c.in_ok-doing.ensures.doing) h))

pub returns-clause-records : goal.returns-clause-records
returns-clause-records c = rw c.into_records.ensures (c.phrases.invariant (Ok c.phrases.known.kept) (ends (sym c.may_end.ensures ∙ c.phrases-test.false) refl))

pub returns-clause-few : goal.returns-clause-few
returns-clause-few c = rw c.into_records.ensures (few c.phrases.known.kept (c.phrases.invariant (Ok c.phrases.known.kept) (ends (sym c.may_end.ensures ∙ c.phrases-test.false) refl)) refl (omega arith))

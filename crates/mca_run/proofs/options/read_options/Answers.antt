use Rattle.std.proofs.Common.{map, string_bytes}
use Rattle.std.proofs.lemmas.Result.{err_from_is_err_and}
use Rattle.mca_words.proofs.InRange.{in_range}
use Rattle.mca_run.proofs.OfKinds.{words_may}
use Rattle.mca_run.proofs.options.read_options.Goals as goal

pub returns-in_err-options-clause-err : goal.returns-in_err-options-clause-err
returns-in_err-options-clause-err c =
    let p = err_from_is_err_and c.from_residual.result c.from_residual.ensures.1 in
    rw (p.1, p.2) (words_may (map string_bytes c.args.words.now) c.in_err-options.field-0.0 c.in_err-options.field-0.0.kind c.in_err-options.ensures.answer)

pub returns-clause-in_range : goal.returns-clause-in_range
returns-clause-in_range c = in_range (map string_bytes c.args.words.now) c.in_ok-options.options c.in_ok-options.ensures.answer

use Rattle.std.proofs.Common.{◌≡◌, ◌+◌, ◌<◌, ◌≤◌, arith, sym, ◌∙◌, ap, subst}
use Rattle.std.specs.Prelude.{Some}
use Rattle.machine_model.specs.Valid.{IsShare}
use Rattle.cycle_rules.specs.Row.{Input, times}
use Rattle.dep_graph.specs.Walk.{IsWindow, weight_of, is_enough}
use Rattle.dep_graph.specs.declared.window.Limited.TheVariants.{FileRegisters}
use Rattle.dep_graph.proofs.Walks.{files_over, files_taken, cost_zero, cost_none, cost_here, file_enough}
use Rattle.dep_graph.proofs.walk.take_file.Goals as goal

pub returns-then-number-eq0-clause-files : goal.returns-then-number-eq0-clause-files
returns-then-number-eq0-clause-files g c =
    let run : Input = g.R.Rows.input c.args.rows.now in
    let rd : c.args.rd ≡ (run.row c.args.j).rd = c.requires.writes in
    files_over run c.args.j c.args.files.now (λ f. cost_zero run.machine f (run.row c.args.j).rd (sym rd ∙ sym c.number.ensures.value ∙ c.if-number-eq0.true)) c.requires.files

pub returns-in_default-clause-files : goal.returns-in_default-clause-files
returns-in_default-clause-files g c =
    let run : Input = g.R.Rows.input c.args.rows.now in
    let rd : c.args.rd ≡ (run.row c.args.j).rd = c.requires.writes in
    files_over run c.args.j c.args.files.now (λ f. cost_none run.machine f (run.row c.args.j).rd (ap run.machine.file_of (sym rd) ∙ sym c.file_of.ensures ∙ c.in_default.is)) c.requires.files

pub take_weight-requires-clause-more : goal.take_weight-requires-clause-more
take_weight-requires-clause-more g c =
    let run : Input = g.R.Rows.input c.args.rows.now in
    let rd : c.args.rd ≡ (run.row c.args.j).rd = c.requires.writes in
    let is : run.machine.file_of (run.row c.args.j).rd ≡ Some c.in-Some.share = ap run.machine.file_of (sym rd) ∙ sym c.file_of.ensures ∙ c.in-Some.is in
    let written : (run.row c.args.j).rd ≡ 0 → ⊥ = λ none. c.if-number-eq0.false (c.number.ensures.value ∙ rd ∙ none) in
    sym (cost_here run.machine (run.row c.args.j).rd c.in-Some.share is written)

pub take_weight-requires-clause-fits : goal.take_weight-requires-clause-fits
take_weight-requires-clause-fits g c = λ some.
    let run : Input = g.R.Rows.input c.args.rows.now in
    let rd : c.args.rd ≡ (run.row c.args.j).rd = c.requires.writes in
    let is : run.machine.file_of (run.row c.args.j).rd ≡ Some c.in-Some.share = ap run.machine.file_of (sym rd) ∙ sym c.file_of.ensures ∙ c.in-Some.is in
    let share : IsShare run.machine c.in-Some.share = c.requires.run.share (run.row c.args.j).rd c.in-Some.share is in
    let room : c.in-Some.share.cost ≤ run.machine.file_size c.in-Some.share.file = share.room (λ none. some (c.file_size-bound.ensures ∙ none)) in
    omega (arith, room, c.file_size-bound.ensures)

pub returns-clause-files : goal.returns-clause-files
returns-clause-files g c =
    let run : Input = g.R.Rows.input c.args.rows.now in
    let rd : c.args.rd ≡ (run.row c.args.j).rd = c.requires.writes in
    let is : run.machine.file_of (run.row c.args.j).rd ≡ Some c.in-Some.share = ap run.machine.file_of (sym rd) ∙ sym c.file_of.ensures ∙ c.in-Some.is in
    let share : IsShare run.machine c.in-Some.share = c.requires.run.share (run.row c.args.j).rd c.in-Some.share is in
    let written : (run.row c.args.j).rd ≡ 0 → ⊥ = λ none. c.if-number-eq0.false (c.number.ensures.value ∙ rd ∙ none) in
    let low : c.in-Some.share.file < 8 = omega (arith, share.file, c.requires.run.files) in
    files_taken run c.args.j c.args.files.now c.in-Some.share c.take_weight.new.self is low c.requires.files
    (subst (λ n. IsWindow run (FileRegisters c.in-Some.share.file) n (c.args.j + 1) c.take_weight.new.self) c.file_size-bound.ensures c.take_weight.ensures.window)

pub returns-clause-from : goal.returns-clause-from
returns-clause-from g c = λ b.
    let run : Input = g.R.Rows.input c.args.rows.now in
    let rd : c.args.rd ≡ (run.row c.args.j).rd = c.requires.writes in
    let is : run.machine.file_of (run.row c.args.j).rd ≡ Some c.in-Some.share = ap run.machine.file_of (sym rd) ∙ sym c.file_of.ensures ∙ c.in-Some.is in
    let share : IsShare run.machine c.in-Some.share = c.requires.run.share (run.row c.args.j).rd c.in-Some.share is in
    let written : (run.row c.args.j).rd ≡ 0 → ⊥ = λ none. c.if-number-eq0.false (c.number.ensures.value ∙ rd ∙ none) in
    file_enough run (times (g.R.Rows.table c.args.rows.now)) c.args.j b c.in-Some.share is written share.cost_low
    ∙ ap (λ n. is_enough (weight_of run (FileRegisters c.in-Some.share.file)) n (times (g.R.Rows.table c.args.rows.now)) c.args.j b) (sym c.file_size-bound.ensures)
    ∙ c.take_weight.ensures.from b

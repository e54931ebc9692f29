use Rattle.std.proofs.Common.{◌++◌, ◌∙◌, ap}
use Rattle.rv_asm.specs.Steps.{Known, ended}
use Rattle.rv_asm.proofs.Ended.{ended_is}
use Rattle.rv_asm.proofs.state.State.end.Goals as goal

pub returns-clause-ok : goal.returns-clause-ok
returns-clause-ok c =
    let s : Known = record { line = c.self.inside.line; begun = c.self.inside.begun; text = c.self.inside.text; marks = c.self.inside.marks.items; names = c.self.inside.names; items = c.self.inside.items; bad = c.self.inside.first.bad_byte; own = c.self.inside.first.statement; comment = c.self.inside.first.remark; unclosed = c.self.inside.first.open_comment } in
    ended_is s c.as_slice.result.now c.clear.new.self c.put_statement.new.names c.put_statement.new.items c.extend.new.self c.replace.new.dest.items c.in_ok-fault.fault c.earlier-self-inside.result
    c.as_slice.ensures c.in_ok-fault.ensures.items c.in_ok-fault.ensures.names c.in_ok-fault.ensures.fault c.earlier-self-inside.ensures
    (c.in_ok-extend.ensures.ok ∙ ap (λ v. c.put_statement.new.items ++ v.items) c.replace.ensures.value) (ap (λ v. v.items) c.replace.ensures.after ∙ c.new.ensures.items) c.clear.ensures
    ∙ ap ended c.self.view_is

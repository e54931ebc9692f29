use Rattle.std.proofs.Common.{◌≡◌, ◌<◌, ◌∙◌, sym, ap, arith}
use Rattle.std.specs.Prelude.{Some, None}
use Rattle.cycle_rules.specs.Issue.{producer}
use Rattle.cycle_rules.specs.Row.{times}
use Rattle.cycle_rules.specs.WaitTimes.{seen_from}
use Rattle.mca_views.specs.Shown.{Shown, shown, run_of}
use Rattle.mca_views.proofs.Operands.{read_none, read_found, wrote_before}
use Rattle.mca_views.proofs.past.Past.read_time.Goals as goal

pub returns-then-reg-eq0 : goal.returns-then-reg-eq0
returns-then-reg-eq0 g c = let s : Shown = shown g.M.Machine.meaning c.args.v.now in
    read_none (run_of s) (times s.table) (seen_from (run_of s) (times s.table) c.args.reserved) c.args.j c.args.read (sym c.number-reg.ensures.value ∙ c.if-reg-eq0.true)

pub value_time-requires-clause-row : goal.value_time-requires-clause-row
value_time-requires-clause-row g c = let s : Shown = shown g.M.Machine.meaning c.args.v.now in
    let before : c.in-Some.k < c.args.j = wrote_before (run_of s) c.args.j c.number-reg.result c.in-Some.k
    (sym (c.index.ensures ∙ c.requires.past.writers c.number-reg.result c.index.result.now c.number-reg.ensures.bound) ∙ c.in-Some.is) in
    omega (arith, before, c.requires.row)

pub returns-in-None : goal.returns-in-None
returns-in-None g c = let s : Shown = shown g.M.Machine.meaning c.args.v.now in
    let found : None ≡ producer (run_of s) c.args.j c.args.read.reg = sym c.in-None.is ∙ c.index.ensures ∙ c.requires.past.writers c.number-reg.result c.index.result.now c.number-reg.ensures.bound ∙ ap (producer (run_of s) c.args.j) c.number-reg.ensures.value in
    read_found (run_of s) (times s.table) (seen_from (run_of s) (times s.table) c.args.reserved) c.args.j c.args.read None (λ e. c.if-reg-eq0.false (c.number-reg.ensures.value ∙ e)) found

pub returns-in-Some : goal.returns-in-Some
returns-in-Some g c = let s : Shown = shown g.M.Machine.meaning c.args.v.now in
    let found : Some c.in-Some.k ≡ producer (run_of s) c.args.j c.args.read.reg = sym c.in-Some.is ∙ c.index.ensures ∙ c.requires.past.writers c.number-reg.result c.index.result.now c.number-reg.ensures.bound ∙ ap (producer (run_of s) c.args.j) c.number-reg.ensures.value in
    c.value_time.ensures ∙ read_found (run_of s) (times s.table) (seen_from (run_of s) (times s.table) c.args.reserved) c.args.j c.args.read (Some c.in-Some.k) (λ e. c.if-reg-eq0.false (c.number-reg.ensures.value ∙ e)) found

use Rattle.std.proofs.Common.{◌≡◌, sym, subst, inr}
use Rattle.rv_asm.proofs.Answer.{is_program, is_fault, no_line}
use Rattle.rv_asm.specs.Program.{IsFault}
use Rattle.rv_asm.proofs.Spellable.{spellable, symbols, few}
use Rattle.rv_asm.proofs.read.read_asm.Goals as goal

pub returns-in-Some-clause-fault : goal.returns-in-Some-clause-fault
returns-in-Some-clause-fault c r e =
    let same : c.refusal_of.result ≡ r = cc in
    inr (subst (IsFault c.args.text.now) same (is_fault c.args.text.now c.in-Some.fault c.refusal_of.result c.in-Ok.state c.long_line-long.result c.in-Ok.ensures c.long_line-long.ensures c.in-Some.ensures c.refusal_of.ensures))

pub returns-in-Some-clause-no_line : goal.returns-in-Some-clause-no_line
returns-in-Some-clause-no_line c = no_line c.in-Some.fault c.refusal_of.result c.refusal_of.ensures

pub returns-in-Ok-into_text-clause-program : goal.returns-in-Ok-into_text-clause-program
returns-in-Ok-into_text-clause-program c = is_program c.args.text.now c.in-Ok-into_text.program.items c.in-Ok-into_text.program.names c.in-Ok.state c.long_line-long.result c.in-Ok.ensures c.long_line-long.ensures c.in-Ok-into_text.ensures.items c.in-Ok-into_text.ensures.names (sym c.in-None.ensures)

pub returns-in-Ok-into_text-clause-spellable : goal.returns-in-Ok-into_text-clause-spellable
returns-in-Ok-into_text-clause-spellable c = spellable c.args.text.now c.in-Ok-into_text.program.items c.in-Ok-into_text.program.names
    (is_program c.args.text.now c.in-Ok-into_text.program.items c.in-Ok-into_text.program.names c.in-Ok.state c.long_line-long.result c.in-Ok.ensures c.long_line-long.ensures c.in-Ok-into_text.ensures.items c.in-Ok-into_text.ensures.names (sym c.in-None.ensures))

pub returns-in-Ok-into_text-clause-symbols : goal.returns-in-Ok-into_text-clause-symbols
returns-in-Ok-into_text-clause-symbols c = symbols c.args.text.now c.in-Ok-into_text.program.items c.in-Ok-into_text.program.names
    (is_program c.args.text.now c.in-Ok-into_text.program.items c.in-Ok-into_text.program.names c.in-Ok.state c.long_line-long.result c.in-Ok.ensures c.long_line-long.ensures c.in-Ok-into_text.ensures.items c.in-Ok-into_text.ensures.names (sym c.in-None.ensures))

pub returns-in-Ok-into_text-clause-few : goal.returns-in-Ok-into_text-clause-few
returns-in-Ok-into_text-clause-few c = few c.args.text.now c.in-Ok-into_text.program.items c.in-Ok-into_text.program.names
    (is_program c.args.text.now c.in-Ok-into_text.program.items c.in-Ok-into_text.program.names c.in-Ok.state c.long_line-long.result c.in-Ok.ensures c.long_line-long.ensures c.in-Ok-into_text.ensures.items c.in-Ok-into_text.ensures.names (sym c.in-None.ensures)) c.requires

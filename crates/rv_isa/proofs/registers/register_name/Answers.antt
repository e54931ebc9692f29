use Rattle.std.proofs.Common.{◌≡◌, ◌<◌, ◌∙◌, ap, arith}
use Rattle.rv_isa.specs.Registers.{name_of}
use Rattle.rv_isa.proofs.Names.{register_named-name_of}
use Rattle.rv_isa.proofs.registers.register_name.Goals as goal

pub returns-clause-own : goal.returns-clause-own
returns-clause-own c =
    let below : c.args.register < 32 = omega arith in
    let named : c.name_at.result.now ≡ name_of c.args.register = c.name_at.ensures ∙ ap name_of c.number.ensures.value in
    rw named (register_named-name_of _ below)

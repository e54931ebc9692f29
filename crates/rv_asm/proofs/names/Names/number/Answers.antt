use Rattle.rv_asm.proofs.Numbering.{number_is, names_are}
use Rattle.rv_asm.proofs.names.Names.number.Goals as goal

pub returns-clause-number : goal.returns-clause-number
returns-clause-number c = number_is (λ v. v.items) c.self.inside.set.keys c.in_ok-from_slice.field-0 c.in_ok-number.number c.args.self.now c.args.name.now c.in_ok-number.ensures.index c.self.view_is c.in_ok-from_slice.ensures.items

pub returns-clause-after : goal.returns-clause-after
returns-clause-after c = names_are (λ v. v.items) c.self.inside.set.keys c.insert_full.new.self.keys c.in_ok-from_slice.field-0 c.args.self.now c.args.name.now c.in_ok-number.ensures.keys c.self.view_is c.in_ok-from_slice.ensures.items

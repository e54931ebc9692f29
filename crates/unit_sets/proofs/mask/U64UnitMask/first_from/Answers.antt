use Rattle.unit_sets.proofs.First.{found_ahead, found_after}
use Rattle.unit_sets.specs.Members.{in_word, in_word-bounded}
use Rattle.unit_sets.proofs.mask.U64UnitMask.first_from.Goals as goal

pub returns-in-Some : goal.returns-in-Some
returns-in-Some c =
    let found = found_ahead 64 c.args.pos c.in-Some.u (in_word c.args.self.now) c.requires c.in-Some.ensures in
    record { nearest = found.nearest; cyclic = found.cyclic }

pub returns-in-None : goal.returns-in-None
returns-in-None c =
    let found = found_after 64 c.args.pos (in_word c.args.self.now) c.next_in-in-None.result c.requires (in_word-bounded c.args.self.now) c.in-None.ensures c.next_in-in-None.ensures in
    record { nearest = found.nearest; cyclic = found.cyclic }

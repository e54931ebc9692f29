use Rattle.unit_sets.proofs.First.{found_ahead, found_after}
use Rattle.unit_sets.specs.Members.{in_words, in_words-bounded}
use Rattle.unit_sets.proofs.set.UnitSetUnitMask.first_from.Goals as goal

pub returns-in-Some : goal.returns-in-Some
returns-in-Some c =
    let found = found_ahead 256 c.args.pos c.in-Some.u (in_words c.args.self.now.words) c.requires c.in-Some.ensures in
    record { nearest = found.nearest; cyclic = found.cyclic }

pub returns-in-None : goal.returns-in-None
returns-in-None c =
    let found = found_after 256 c.args.pos (in_words c.args.self.now.words) c.next_in_words-in-None.result c.requires (in_words-bounded c.args.self.now.words) c.in-None.ensures c.next_in_words-in-None.ensures in
    record { nearest = found.nearest; cyclic = found.cyclic }

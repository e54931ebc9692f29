use Rattle.std.specs.Prelude.{is_ok}
use Rattle.rv_asm.proofs.Aside.{within_pushed}
use Rattle.rv_asm.proofs.listing.Listing.push.Goals as goal

pub invariant_of-self-in-Some : goal.invariant_of-self-in-Some
invariant_of-self-in-Some c = within_pushed c.self.inside.aside.items c.self.inside.kept.items c.push.new.self.items c.in-Some.kept (is_ok c.push.result) c.self.invariant (c.in-Some.ensures.within c.self.inside.aside.items) c.push.ensures.items

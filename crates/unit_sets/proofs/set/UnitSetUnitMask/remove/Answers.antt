use Rattle.std.proofs.Common.{Bool, arith, ◌&&◌, not, refl}
use Rattle.unit_sets.proofs.Four.{in_words-change}
use Rattle.unit_sets.proofs.set.UnitSetUnitMask.remove.Goals as goal

pub returns : goal.returns
returns c = in_words-change (λ (this here : Bool). not this && here) (λ (here : Bool). refl) c.args.self.now.words c.without_bit.result c.args.u (omega arith) c.requires c.without_bit.ensures

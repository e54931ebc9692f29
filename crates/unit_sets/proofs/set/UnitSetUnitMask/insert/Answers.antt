use Rattle.std.proofs.Common.{Bool, arith, ◌||◌, refl}
use Rattle.unit_sets.proofs.Four.{in_words-change}
use Rattle.unit_sets.proofs.set.UnitSetUnitMask.insert.Goals as goal

pub returns : goal.returns
returns c = in_words-change (λ (this here : Bool). this || here) (λ (here : Bool). refl) c.args.self.now.words c.with_bit.result c.args.u (omega arith) c.requires c.with_bit.ensures

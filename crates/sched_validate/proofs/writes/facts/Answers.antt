use Rattle.std.proofs.Common.{◌≡◌, ◌∙◌, ap, length, arith}
use Rattle.sched_validate.proofs.GoodWrites.{length_uses}
use Rattle.sched_validate.proofs.writes.facts.Goals as goal

pub eight-requires : goal.eight-requires
eight-requires c = let shown : length c.deref.result.now ≡ _ = ap length (c.deref.ensures.value ∙ c.in_ok-uses.ensures) in
    omega (arith, shown, length_uses c.args.write.now.uses c.args.write.now.cycles, c.requires.few)

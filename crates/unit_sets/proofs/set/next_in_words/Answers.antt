use Rattle.std.proofs.Common.{arith, ◌/◌, ◌%◌}
use Rattle.unit_sets.proofs.Four.{none-word, next-word}
use Rattle.unit_sets.proofs.set.next_in_words.Goals as goal

pub returns-in-Some : goal.returns-in-Some
returns-in-Some c =
    next-word c.args.words.now (c.args.pos / 64) (c.args.pos % 64) c.args.pos c.in-Some.u (omega arith) (omega arith) (λ v lo hi. absurd (omega arith)) c.in-Some.ensures

pub loop-k-init : goal.loop-k-init
loop-k-init c =
    none-word c.args.words.now (c.args.pos / 64) (c.args.pos % 64) c.args.pos (omega arith) (λ v lo hi. absurd (omega arith)) c.in_default.ensures

pub returns-in-Some-next_in : goal.returns-in-Some-next_in
returns-in-Some-next_in c =
    next-word c.args.words.now c.loop-k.k 0 c.args.pos c.in-Some-next_in.u c.loop-k-test.true (omega arith) (λ v lo hi. c.loop-k.invariant v lo (omega arith)) c.in-Some-next_in.ensures

pub loop-k-preserved : goal.loop-k-preserved
loop-k-preserved c =
    none-word c.args.words.now c.loop-k.k 0 c.args.pos c.loop-k-test.true (λ v lo hi. c.loop-k.invariant v lo (omega arith)) c.in_default-next_in.ensures

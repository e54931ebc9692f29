use Rattle.std.proofs.Common.{arith, ◌+◌}
use Rattle.std.proofs.lemmas.Bool.Decides.{nat_tests}
use Rattle.machine_model.proofs.Masks.{one_in_word, first_in_word}
use Rattle.machine_model.proofs.fixed.FixedMachine.mask.Goals as goal

pub returns-in-0 : goal.returns-in-0
returns-in-0 g c u = rw c.in-0.is (first_in_word g.row.U u (omega (arith, c.args.self.now.sizes.alus_high)))

pub returns-in-1 : goal.returns-in-1
returns-in-1 g c u = rw c.in-1.is (one_in_word g.row.U u (omega (arith, c.args.self.now.sizes.alus_high)))

pub returns-in-2 : goal.returns-in-2
returns-in-2 g c u = rw c.in-2.is (one_in_word (g.row.U + 1) u (omega (arith, c.args.self.now.sizes.alus_high)))

pub returns-in_default : goal.returns-in_default
returns-in_default g c u =
    let word = one_in_word (g.row.U + 2) u (omega (arith, c.args.self.now.sizes.alus_high)) in
    grind (arith, nat_tests, word)

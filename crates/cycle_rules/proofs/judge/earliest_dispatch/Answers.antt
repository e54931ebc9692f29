use Rattle.std.proofs.Common.{◌≡◌, ◌-◌, ◌<◌, ℕ, false, arith, ap, sym, ◌∙◌}
use Rattle.std.specs.Prelude.{nat_le}
use Rattle.std.proofs.lemmas.Bool.Decides.{nat_tests}
use Rattle.cycle_rules.proofs.Judging.{follows_next}
use Rattle.cycle_rules.proofs.judge.earliest_dispatch.Goals as goal

below : (n c : ℕ) → c < n → nat_le n c ≡ false
below n c lt = grind (arith, nat_tests)

pub returns : goal.returns
returns c = λ b lt. sym (follows_next _ c.args.j (c.args.j - 1) b _ (omega arith) (ap (λ t. t.dispatch) c.time.ensures)) ∙ below c.time.result.now.dispatch b lt

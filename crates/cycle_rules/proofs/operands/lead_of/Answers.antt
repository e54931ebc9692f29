use Rattle.std.proofs.Common.{◌≡◌, ℕ, ◌∙◌, ◌+◌, ◌-◌, ap, arith, rules}
use mir.Val.{to_z, of_z, SFits}
use mir.Syntax.{w32}
use Rattle.std.proofs.lemmas.Int.{ints, to_z-of_z}
use Rattle.std.specs.Prelude.{ℤ, pos, ◌≤ℤ◌, ◌<ℤ◌}
use Rattle.std.specs.Int.RustNames.{unsigned_abs}
use Rattle.cycle_rules.specs.Row.{lead}
use Rattle.cycle_rules.proofs.Leads.{lead_early, lead_late, advance_is}
use Rattle.cycle_rules.proofs.operands.lead_of.Goals as goal

sized : (x : ℤ) (r : ℕ) → SFits w32 x → r ≡ unsigned_abs (to_z w32 (of_z w32 x)) → r ≡ unsigned_abs x
sized x r fits e = grind (arith, to_z-of_z)

pub returns-then-advance-ge0 : goal.returns-then-advance-ge0
returns-then-advance-ge0 g c =
    let forward : pos 0 ≤ℤ c.advance-advance.result = grind (arith, ints, to_z-of_z) in
    c.saturating_sub.ensures ∙ ap (λ n. c.args.latency - n) (let fits : SFits w32 c.advance-advance.result = search rules in sized c.advance-advance.result c.unsigned_abs-size.result fits c.unsigned_abs-size.ensures.value) ∙ lead_early c.args.latency c.advance-advance.result forward
    ∙ ap (lead c.args.latency) (c.advance-advance.ensures ∙ advance_is (g.M.Machine.meaning c.args.machine.now) c.args.read c.args.write ((g.met.M.Machine.valid c.args.machine.now).no_advance c.args.write))

pub returns-else-advance-ge0 : goal.returns-else-advance-ge0
returns-else-advance-ge0 g c =
    let back : c.advance-advance.result <ℤ pos 0 = grind (arith, ints, to_z-of_z) in
    ap (λ n. c.args.latency + n) (let fits : SFits w32 c.advance-advance.result = search rules in sized c.advance-advance.result c.unsigned_abs-size.result fits c.unsigned_abs-size.ensures.value) ∙ lead_late c.args.latency c.advance-advance.result back
    ∙ ap (lead c.args.latency) (c.advance-advance.ensures ∙ advance_is (g.M.Machine.meaning c.args.machine.now) c.args.read c.args.write ((g.met.M.Machine.valid c.args.machine.now).no_advance c.args.write))

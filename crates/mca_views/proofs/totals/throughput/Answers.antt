use Rattle.std.proofs.Common.{◌∙◌, sym, subst, ◌≤◌}
use Rattle.std.specs.List.{All}
use Rattle.cycle_rules.specs.Totals.{over, greatest_load}
use Rattle.mca_views.proofs.Loads.{entry_uses, one_count, throughput_held, throughput_bare}
use Rattle.mca_views.proofs.totals.throughput.Goals as goal

pub holds_unit-requires : goal.holds_unit-requires
holds_unit-requires g c = entry_uses _ _ (g.M.Machine.meaning c.args.machine.now) c.args.b.now (g.met.M.Machine.valid c.args.machine.now) c.requires.entry

pub greatest_load-requires-clause-counts : goal.greatest_load-requires-clause-counts
greatest_load-requires-clause-counts g c = subst (All (λ b. b.use_count ≤ 8)) (sym c.from_ref.ensures.value)
    (one_count c.args.b.now (entry_uses _ _ (g.M.Machine.meaning c.args.machine.now) c.args.b.now (g.met.M.Machine.valid c.args.machine.now) c.requires.entry))

pub returns-then-holds_unit-clause-is : goal.returns-then-holds_unit-clause-is
returns-then-holds_unit-clause-is g c = c.greatest_load.ensures.is
    ∙ (λ i. greatest_load (g.M.Machine.meaning c.args.machine.now) (c.ratio.ensures.is i) (c.from_ref.ensures.value i))
    ∙ throughput_held (g.M.Machine.meaning c.args.machine.now) c.args.b.now (sym c.holds_unit.ensures ∙ c.if-holds_unit.true)

pub returns-else-holds_unit-clause-is : goal.returns-else-holds_unit-clause-is
returns-else-holds_unit-clause-is g c = c.ratio-else-holds_unit.ensures.is
    ∙ (λ i. over c.args.b.now.uops (c.limits.ensures i).width)
    ∙ throughput_bare (g.M.Machine.meaning c.args.machine.now) c.args.b.now (sym c.holds_unit.ensures ∙ c.if-holds_unit.false)

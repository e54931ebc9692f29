use Rattle.std.proofs.Common.{◌≡◌, List, take, arith, refl, sym, ◌∙◌, ap}
use Rattle.std.specs.Prelude.{Some, is_some, slice_index_or}
use Rattle.std.proofs.lemmas.List.{get_or-take}
use Rattle.machine_model.specs.Valid.{no_use}
use Rattle.machine_model.specs.declared.facts.Use.{Use}
use Rattle.cycle_rules.specs.Bind.{row_of}
use Rattle.cycle_rules.specs.Pick.{pick_units}
use Rattle.resource_units.specs.Stand.{machine_of}
use Rattle.dep_graph.proofs.Blames.{none_busy, busy_at, take_least}
use Rattle.dep_graph.proofs.holders.first_busy.Goals as goal

pub returns : goal.returns
returns g c = λ taken h.
    let all : take c.loop-n.n (row_of c.args.b.now).uses ≡ (row_of c.args.b.now).uses = take_least c.loop-n.n c.args.b.now.use_count c.args.b.now.uses c.loop-n.auto.n-end ∙ ap (λ n. take n c.args.b.now.uses) (let e : c.loop-n.n ≡ c.args.b.now.use_count = omega (arith, c.loop-n-test.false, c.loop-n.auto.n-end) in e) in
    sym (none_busy (machine_of g.M.Machine.meaning c.args.units.now) taken c.args.c (row_of c.args.b.now).uses
    (ap (λ l. is_some (pick_units (machine_of g.M.Machine.meaning c.args.units.now) taken c.args.c l)) (sym all) ∙ c.loop-n.invariant taken h))

pub loop-n-init : goal.loop-n-init
unfolding pick_units
loop-n-init g c = λ taken h. refl

pub returns-then-not-are_met : goal.returns-then-not-are_met
returns-then-not-are_met g c = λ taken h.
    let uses : List Use = (row_of c.args.b.now).uses in
    let got : slice_index_or uses c.loop-n.n no_use ≡ slice_index_or c.args.b.now.uses c.loop-n.n no_use = get_or-take c.args.b.now.use_count c.args.b.now.uses c.loop-n.n no_use c.loop-n-test.true in
    sym (busy_at (machine_of g.M.Machine.meaning c.args.units.now) taken c.args.c c.loop-n.n uses no_use (c.loop-n.invariant taken h) (sym (c.are_met.ensures taken h) ∙ c.if-not-are_met.true) ∙ ap (λ w. Some w.resource) got)

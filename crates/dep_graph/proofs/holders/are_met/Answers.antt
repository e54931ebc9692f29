use Rattle.std.proofs.Common.{◌≡◌, List, take, arith, sym, ◌∙◌, ap, subst}
use Rattle.std.specs.Prelude.{is_some}
use Rattle.machine_model.specs.declared.facts.Use.{Use}
use Rattle.cycle_rules.specs.Bind.{AreUses, row_of}
use Rattle.cycle_rules.specs.Pick.{pick_units}
use Rattle.resource_units.specs.Stand.{machine_of}
use Rattle.dep_graph.proofs.Blames.{uses_first, take_least}
use Rattle.dep_graph.proofs.holders.are_met.Goals as goal

pub can_take-requires-2 : goal.can_take-requires-2
can_take-requires-2 g c =
    let uses : List Use = (row_of c.args.b.now).uses in
    let is : (row_of c.first_uses.result).uses ≡ take c.args.n uses = (λ i. take (c.first_uses.ensures.count i) (c.first_uses.ensures.uses i)) ∙ sym (take_least c.args.n c.args.b.now.use_count c.args.b.now.uses c.requires.few) in
    record {
      count = omega (arith, c.first_uses.ensures.count, c.requires.few, c.requires.bound.use_count);
      uses = subst (AreUses (machine_of g.M.Machine.meaning c.args.units.now)) (sym is) (uses_first (machine_of g.M.Machine.meaning c.args.units.now) c.args.n uses c.requires.bound.row.uses);
    }

pub returns : goal.returns
returns g c = λ taken h.
    let uses : List Use = (row_of c.args.b.now).uses in
    let is : (row_of c.first_uses.result).uses ≡ take c.args.n uses = (λ i. take (c.first_uses.ensures.count i) (c.first_uses.ensures.uses i)) ∙ sym (take_least c.args.n c.args.b.now.use_count c.args.b.now.uses c.requires.few) in
    c.can_take-2.ensures.pick taken h ∙ ap (λ l. is_some (pick_units (machine_of g.M.Machine.meaning c.args.units.now) taken c.args.c l)) is

use Rattle.std.proofs.Common.{◌%◌, ◌∙◌, ap, arith, length, map, slice_index_or}
use Rattle.std.proofs.lemmas.List.{length-map}
use Rattle.std.proofs.Math.Nat.{mod-lt}
use Rattle.cycle_rules.specs.Bind.{row_of}
use Rattle.event_rules.specs.Due.{later}
use Rattle.cycle_rules.specs.declared.links.Links.{Links}
use Rattle.cycle_rules.specs.Links.{no_links}
use Rattle.engine_steps.specs.Links.{link_from}
use Rattle.engine_steps.proofs.Operands.{operands_linked, ready_told}
use Rattle.engine_steps.proofs.plan.PlanRows.ready_from.Goals as goal

pub returns : goal.returns
returns g c = c.later.ensures ∙ (λ i. later (c.read_from-first.ensures i) (c.read_from-second.ensures i))
    ∙ ap (λ (l : Links). later (link_from c.args.table.now c.args.j l.first) (link_from c.args.table.now c.args.j l.second)) c.row_links-links.ensures
    ∙ ready_told (g.M.Machine.meaning c.args.self.now.machine.now) (map row_of c.args.self.now.body.now) c.args.self.now.iterations c.args.j (c.args.j % length c.args.self.now.body.now) c.args.table.now
    (slice_index_or c.args.self.now.links.items (c.args.j % length c.args.self.now.body.now) no_links) c.requires.row c.requires.kept
    (operands_linked (g.M.Machine.meaning c.args.self.now.machine.now) (map row_of c.args.self.now.body.now) (length c.args.self.now.body.now) c.args.self.now.links.items c.args.self.now.linked (c.args.j % length c.args.self.now.body.now) (mod-lt c.args.j (omega (arith, c.args.self.now.some)))) (ap (λ n. c.args.j % n) (length-map c.args.self.now.body.now row_of))

use Rattle.std.proofs.Common.{◌≡◌, ◌%◌, ◌∙◌, List, ℕ, length, map, true, ap, sym, subst}
use Rattle.std.specs.Prelude.{nat_eq, ◌-◌}
use Rattle.std.specs.List.{list_any}
use Rattle.std.proofs.lemmas.List.{length-map}
use Rattle.cycle_rules.specs.Bind.{row_of}
use Rattle.engine_steps.specs.Readers.{readers_at}
use Rattle.engine_steps.proofs.Readings.{readers_told}
use Rattle.engine_steps.proofs.plan.PlanRows.readers.Goals as goal

pub returns-clause-all : goal.returns-clause-all
returns-clause-all g c = λ k young within is.
    let list : c.at.result.now ≡ readers_at c.args.self.now.readers.starts.items c.args.self.now.readers.later.items (c.args.j % length c.args.self.now.body.now) =
    c.at.ensures ∙ ap (readers_at c.args.self.now.readers.starts.items c.args.self.now.readers.later.items) c.place.ensures.place in
    subst (λ (xs : List ℕ). list_any (nat_eq (k - c.args.j)) xs ≡ true) (sym list)
    (readers_told (g.M.Machine.meaning c.args.self.now.machine.now) (map row_of c.args.self.now.body.now) c.args.self.now.iterations (length c.args.self.now.body.now) c.args.j k c.args.self.now.links.items c.args.self.now.readers.starts.items c.args.self.now.readers.later.items
    (length-map c.args.self.now.body.now row_of) c.args.self.now.some c.args.self.now.size c.args.self.now.linked c.args.self.now.near c.args.self.now.read young is)

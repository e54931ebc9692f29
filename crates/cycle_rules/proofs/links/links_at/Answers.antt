use Rattle.std.proofs.Common.{◌∙◌, ap, sym, subst}
use Rattle.std.proofs.lemmas.List.{get_or-map}
use Rattle.cycle_rules.specs.Bind.{row_of, IsBound}
use Rattle.cycle_rules.specs.Row.{no_row}
use Rattle.cycle_rules.proofs.links.links_at.Goals as goal

pub links_of-requires-clause-here : goal.links_of-requires-clause-here
links_of-requires-clause-here g c = ap row_of c.index-body-place.is ∙ sym (get_or-map row_of c.args.body.now c.args.place c.index-body-place.result no_row c.requires.place)

pub links_of-requires-clause-b : goal.links_of-requires-clause-b
links_of-requires-clause-b g c = subst (IsBound (g.M.Machine.meaning c.args.machine.now)) (sym c.index-body-place.is) (c.requires.bound c.args.place c.index-body-place.result c.requires.place)

use Rattle.std.proofs.Common.{◌∙◌, List, ap, sym, is_some, slice_index, arith}
use Rattle.machine_model.specs.Meaning.{MachineMeaning}
use Rattle.machine_model.specs.declared.facts.Use.{Use}
use Rattle.cycle_rules.proofs.UnitsFound.{units_found}
use Rattle.cycle_rules.specs.Bind.{row_of}
use Rattle.resource_units.specs.Kept.{found_units}
use Rattle.resource_units.proofs.Shows.{picks_found, single}
use Rattle.resource_units.proofs.Taking.{shows_held}
use Rattle.resource_units.proofs.units.Units.can_take.Goals as goal

pub returns-clause-pick : goal.returns-clause-pick
returns-clause-pick g c = λ taken s.
    let m : MachineMeaning = g.M.Machine.meaning c.args.self.now.machine.now in
    c.finds_all.ensures ∙ ap is_some (sym (picks_found m c.args.c (row_of c.args.b.now).uses (g.M.Mask.UnitMask.holds c.held-held.result) (slice_index c.args.self.now.search.places) taken c.requires.uses.known
    (shows_held m c.args.c (g.M.Mask.UnitMask.holds c.held-held.result) (slice_index c.args.self.now.until.items) (slice_index c.args.self.now.search.places) taken s.shows
    (λ u lt. c.held-held.ensures s.kept u (omega (arith, lt, (g.met.M.Machine.valid c.args.self.now.machine.now).units))))))

pub returns-clause-free : goal.returns-clause-free
returns-clause-free g c = λ taken s end. returns-clause-pick g c taken s ∙ units_found (g.M.Machine.meaning c.args.self.now.machine.now) taken c.args.c (row_of c.args.b.now).uses c.requires.uses end

pub returns-then-uses-eq1-clause-pick : goal.returns-then-uses-eq1-clause-pick
returns-then-uses-eq1-clause-pick g c = λ taken s.
    let m : MachineMeaning = g.M.Machine.meaning c.args.self.now.machine.now in
    let uses : List Use = (row_of c.args.b.now).uses in
    c.finds_one.ensures (slice_index c.args.self.now.search.places)
    ∙ ap (λ ws. is_some (found_units m (g.M.Mask.UnitMask.holds c.held-held.result) (slice_index c.args.self.now.search.places) ws)) (sym (single uses (record { resource = 0; hold = 0 }) c.if-uses-eq1.true))
    ∙ ap is_some (sym (picks_found m c.args.c uses (g.M.Mask.UnitMask.holds c.held-held.result) (slice_index c.args.self.now.search.places) taken c.requires.uses.known
    (shows_held m c.args.c (g.M.Mask.UnitMask.holds c.held-held.result) (slice_index c.args.self.now.until.items) (slice_index c.args.self.now.search.places) taken s.shows
    (λ u lt. c.held-held.ensures s.kept u (omega (arith, lt, (g.met.M.Machine.valid c.args.self.now.machine.now).units))))))

pub returns-then-uses-eq1-clause-free : goal.returns-then-uses-eq1-clause-free
returns-then-uses-eq1-clause-free g c = λ taken s end. returns-then-uses-eq1-clause-pick g c taken s ∙ units_found (g.M.Machine.meaning c.args.self.now.machine.now) taken c.args.c (row_of c.args.b.now).uses c.requires.uses end

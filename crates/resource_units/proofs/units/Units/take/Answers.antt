use Rattle.std.proofs.Common.{◌≡◌, ◌∙◌, ap, ◌∷◌, ◌++◌, [], List, true, is_some, take, slice_index_or, sym, subst, refl, arith}
use Rattle.std.proofs.lemmas.List.{get_or_default}
use Rattle.std.specs.Prelude.{Some}
use Rattle.machine_model.specs.declared.facts.Use.{Use}
use Rattle.cycle_rules.specs.Pick.{Taken, pick_units, add_front, taken_by, padded}
use Rattle.cycle_rules.specs.Bind.{row_of}
use Rattle.resource_units.specs.Stand.{StandsFor}
use Rattle.resource_units.proofs.Shows.{single}
use Rattle.resource_units.proofs.TakingAll.{takes_start, takes_step, takes_end, takes_one, taken_one, can_first}
use Rattle.resource_units.proofs.units.Units.take.Goals as goal

pub loop-k-init : goal.loop-k-init
loop-k-init g c = record {
  takes = takes_start (g.M.Machine.meaning c.look.new.self.machine.now) c.args.c (row_of c.args.b.now).uses (StandsFor g.M.Machine.meaning g.M.Mask.UnitMask.holds c.args.c c.look.new.self);
  later = c.look.ensures.later;
  machine = refl;
}

pub take_use-requires-in-loop-k-clause-can : goal.take_use-requires-in-loop-k-clause-can
take_use-requires-in-loop-k-clause-can g c =
    let uses : List Use = (row_of c.args.b.now).uses in
    let taken : List Taken = c.requires.can.0 in
    let w : Use = slice_index_or uses c.loop-k.k (record { resource = 0; hold = 0 }) in
    let start : StandsFor g.M.Machine.meaning g.M.Mask.UnitMask.holds c.args.c c.look.new.self taken = c.look.ensures.stands taken c.args.c (omega arith) c.requires.can.1.0 in
    let can : is_some (pick_units (g.M.Machine.meaning c.look.new.self.machine.now) taken c.args.c uses) ≡ true = subst (λ x. is_some (pick_units (g.M.Machine.meaning x) taken c.args.c uses) ≡ true) (sym c.look.ensures.machine) c.requires.can.1.1 in
    let earlier : List Taken = taken ++ taken_by c.args.c (take c.loop-k.k uses) (take c.loop-k.k c.loop-k.units) in (
      earlier,
      (
        c.loop-k.invariant.takes.stands taken start,
        subst (λ x. is_some (pick_units (g.M.Machine.meaning x) earlier c.args.c (w ∷ [])) ≡ true) (sym c.loop-k.invariant.machine)
            (can_first (g.M.Machine.meaning c.look.new.self.machine.now) c.args.c uses c.loop-k.k c.loop-k.units w (StandsFor g.M.Machine.meaning g.M.Mask.UnitMask.holds c.args.c c.look.new.self) (StandsFor g.M.Machine.meaning g.M.Mask.UnitMask.holds c.args.c c.loop-k.self)
            taken c.loop-k-test.true (λ d. get_or_default uses c.loop-k.k (record { resource = 0; hold = 0 }) d c.loop-k-test.true) c.loop-k.invariant.takes start can),
      ),
    )

pub loop-k-preserved : goal.loop-k-preserved
loop-k-preserved g c =
    let uses : List Use = (row_of c.args.b.now).uses in
    let w : Use = slice_index_or uses c.loop-k.k (record { resource = 0; hold = 0 }) in
    record {
      takes = takes_step (g.M.Machine.meaning c.look.new.self.machine.now) c.args.c uses c.loop-k.k c.take_use-in-loop-k.result c.loop-k.units w
          (StandsFor g.M.Machine.meaning g.M.Mask.UnitMask.holds c.args.c c.look.new.self) (StandsFor g.M.Machine.meaning g.M.Mask.UnitMask.holds c.args.c c.loop-k.self) (StandsFor g.M.Machine.meaning g.M.Mask.UnitMask.holds c.args.c c.take_use-in-loop-k.new.self)
          c.loop-k-test.true c.requires.uses.uses.few (λ d. get_or_default uses c.loop-k.k (record { resource = 0; hold = 0 }) d c.loop-k-test.true)
          (λ earlier rest s. subst (λ x. pick_units (g.M.Machine.meaning x) earlier c.args.c (w ∷ rest) ≡ add_front c.take_use-in-loop-k.result (pick_units (g.M.Machine.meaning x) (earlier ++ taken_by c.args.c (w ∷ []) (c.take_use-in-loop-k.result ∷ [])) c.args.c rest))
          c.loop-k.invariant.machine (c.take_use-in-loop-k.ensures.pick earlier rest s))
          c.take_use-in-loop-k.ensures.stands c.loop-k.invariant.takes;
      later = c.take_use-in-loop-k.ensures.later;
      machine = c.take_use-in-loop-k.ensures.machine ∙ c.loop-k.invariant.machine;
    }

pub returns-clause-units : goal.returns-clause-units
returns-clause-units g c = λ taken s. subst (λ x. c.loop-k.units ≡ padded (pick_units (g.M.Machine.meaning x) taken c.args.c (row_of c.args.b.now).uses)) c.look.ensures.machine
    (takes_end (g.M.Machine.meaning c.look.new.self.machine.now) c.args.c (row_of c.args.b.now).uses c.loop-k.k c.loop-k.units (StandsFor g.M.Machine.meaning g.M.Mask.UnitMask.holds c.args.c c.look.new.self)
    (StandsFor g.M.Machine.meaning g.M.Mask.UnitMask.holds c.args.c c.loop-k.self) (omega (arith, c.loop-k-test.false, c.loop-k.auto.k-end)) c.requires.uses.uses.few c.loop-k.invariant.takes taken (c.look.ensures.stands taken c.args.c (omega arith) s)).0

pub returns-clause-stands : goal.returns-clause-stands
returns-clause-stands g c = λ taken s.
    (takes_end (g.M.Machine.meaning c.look.new.self.machine.now) c.args.c (row_of c.args.b.now).uses c.loop-k.k c.loop-k.units (StandsFor g.M.Machine.meaning g.M.Mask.UnitMask.holds c.args.c c.look.new.self)
    (StandsFor g.M.Machine.meaning g.M.Mask.UnitMask.holds c.args.c c.loop-k.self) (omega (arith, c.loop-k-test.false, c.loop-k.auto.k-end)) c.requires.uses.uses.few c.loop-k.invariant.takes taken (c.look.ensures.stands taken c.args.c (omega arith) s)).1

pub returns-clause-machine : goal.returns-clause-machine
returns-clause-machine g c = ap g.M.Machine.meaning (c.loop-k.invariant.machine ∙ c.look.ensures.machine)

pub take_use-requires-clause-can : goal.take_use-requires-clause-can
take_use-requires-clause-can g c =
    let uses : List Use = (row_of c.args.b.now).uses in
    let taken : List Taken = c.requires.can.0 in (
      taken,
      (
        c.look.ensures.stands taken c.args.c (omega arith) c.requires.can.1.0,
        subst (λ ws. is_some (pick_units (g.M.Machine.meaning c.look.new.self.machine.now) taken c.args.c ws) ≡ true) (single uses (record { resource = 0; hold = 0 }) c.if-uses-eq1.true)
            (subst (λ x. is_some (pick_units (g.M.Machine.meaning x) taken c.args.c uses) ≡ true) (sym c.look.ensures.machine) c.requires.can.1.1),
      ),
    )

pub returns-then-uses-eq1-clause-units : goal.returns-then-uses-eq1-clause-units
returns-then-uses-eq1-clause-units g c = λ taken s.
    let uses : List Use = (row_of c.args.b.now).uses in
    let w : Use = slice_index_or uses 0 (record { resource = 0; hold = 0 }) in
    c.only.ensures ∙ subst (λ x. padded (Some (c.take_use.result ∷ [])) ≡ padded (pick_units (g.M.Machine.meaning x) taken c.args.c uses)) c.look.ensures.machine
    (takes_one (g.M.Machine.meaning c.look.new.self.machine.now) c.args.c uses w c.take_use.result taken (single uses (record { resource = 0; hold = 0 }) c.if-uses-eq1.true)
    (λ rest. c.take_use.ensures.pick taken rest (c.look.ensures.stands taken c.args.c (omega arith) s)))

pub returns-then-uses-eq1-clause-stands : goal.returns-then-uses-eq1-clause-stands
returns-then-uses-eq1-clause-stands g c = λ taken s.
    let uses : List Use = (row_of c.args.b.now).uses in
    let w : Use = slice_index_or uses 0 (record { resource = 0; hold = 0 }) in
    let same : taken_by c.args.c (w ∷ []) (c.take_use.result ∷ []) ≡ taken_by c.args.c uses c.only.result =
    taken_one c.args.c uses w c.take_use.result (single uses (record { resource = 0; hold = 0 }) c.if-uses-eq1.true) ∙ ap (taken_by c.args.c uses) (sym c.only.ensures) in
    subst (λ l. StandsFor g.M.Machine.meaning g.M.Mask.UnitMask.holds c.args.c c.take_use.new.self (taken ++ l)) same (c.take_use.ensures.stands taken (c.look.ensures.stands taken c.args.c (omega arith) s))

pub returns-then-uses-eq1-clause-machine : goal.returns-then-uses-eq1-clause-machine
returns-then-uses-eq1-clause-machine g c = ap g.M.Machine.meaning (c.take_use.ensures.machine ∙ c.look.ensures.machine)

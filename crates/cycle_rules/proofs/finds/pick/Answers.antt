use Rattle.std.proofs.Common.{◌≡◌, ◌<◌, ℕ, true, refl, arith, sym, ◌∙◌, ap, subst}
use Rattle.std.specs.Prelude.{nat_lt, is_some}
use Rattle.std.proofs.lemmas.List.{length-take-le}
use Rattle.std.proofs.lemmas.Bool.Decides.{nat_tests}
use Rattle.cycle_rules.specs.Bind.{AreUses}
use Rattle.cycle_rules.specs.Given.{input_in, earlier_at}
use Rattle.cycle_rules.specs.Pick.{padded}
use Rattle.cycle_rules.specs.Row.{Row, times}
use Rattle.cycle_rules.proofs.Below.{known_at}
use Rattle.cycle_rules.proofs.Free.{picks_start, picks_step, picks_none, picks_end}
use Rattle.cycle_rules.proofs.Judging.{pick_is}
use Rattle.cycle_rules.proofs.finds.pick.Goals as goal

pub loop-k-init : goal.loop-k-init
loop-k-init g c = picks_start (g.M.Machine.meaning c.args.machine.now) c.args.at.cycle (earlier_at (input_in (g.M.Machine.meaning c.args.machine.now) c.args.given.now.body.now c.args.given.now.count) (times c.args.given.now.rows.now) c.args.at.cycle c.args.at.phase c.args.at.row) c.used_by-uses.result.now

pub slice_bounds-units-end : goal.slice_bounds-units-end
slice_bounds-units-end g c =
    let are : AreUses (g.M.Machine.meaning c.args.machine.now) c.used_by-uses.result.now = subst (AreUses (g.M.Machine.meaning c.args.machine.now)) (sym c.used_by-uses.ensures) (c.row.ensures.bound _ c.requires.bound).row.uses in
    omega (arith, c.loop-k.invariant.size, are.few, c.loop-k-test.true)

pub slice_bounds-find-end-in-loop-k : goal.slice_bounds-find-end-in-loop-k
slice_bounds-find-end-in-loop-k g c =
    let are : AreUses (g.M.Machine.meaning c.args.machine.now) c.used_by-uses.result.now = subst (AreUses (g.M.Machine.meaning c.args.machine.now)) (sym c.used_by-uses.ensures) (c.row.ensures.bound _ c.requires.bound).row.uses in
    sym (length-take-le c.loop-k.k c.loop-k.units (omega (arith, c.loop-k.invariant.size, are.few, c.loop-k-test.true)))

pub find-requires : goal.find-requires
find-requires g c =
    let are : AreUses (g.M.Machine.meaning c.args.machine.now) c.used_by-uses.result.now = subst (AreUses (g.M.Machine.meaning c.args.machine.now)) (sym c.used_by-uses.ensures) (c.row.ensures.bound _ c.requires.bound).row.uses in
    record { resource = below _ _ (known_at (λ w. nat_lt w.resource (g.M.Machine.meaning c.args.machine.now).resource_count) c.used_by-uses.result.now c.loop-k.k _ are.known c.loop-k-test.true) }
  where
    below : (a b : ℕ) → nat_lt a b ≡ true → a < b
    below a b h = grind (arith, nat_tests, h)

pub bounds-units-k : goal.bounds-units-k
bounds-units-k g c =
    let are : AreUses (g.M.Machine.meaning c.args.machine.now) c.used_by-uses.result.now = subst (AreUses (g.M.Machine.meaning c.args.machine.now)) (sym c.used_by-uses.ensures) (c.row.ensures.bound _ c.requires.bound).row.uses in
    omega (arith, are.few, c.loop-k-test.true)

pub returns-in-None-clause-none : goal.returns-in-None-clause-none
returns-in-None-clause-none g c =
    sym (pick_is (input_in (g.M.Machine.meaning c.args.machine.now) c.args.given.now.body.now c.args.given.now.count) (times c.args.given.now.rows.now) c.args.at.cycle c.args.at.phase c.args.at.row c.used_by-uses.result.now (c.used_by-uses.ensures ∙ ap (λ (r : Row). r.uses) c.row.ensures.row))
    ∙ picks_none (g.M.Machine.meaning c.args.machine.now) c.args.at.cycle _ c.used_by-uses.result.now c.loop-k.k c.loop-k.units _ _ c.loop-k-test.true c.in-None.is c.loop-k.invariant (c.find.ensures _ refl)

pub loop-k-preserved : goal.loop-k-preserved
loop-k-preserved g c =
    let are : AreUses (g.M.Machine.meaning c.args.machine.now) c.used_by-uses.result.now = subst (AreUses (g.M.Machine.meaning c.args.machine.now)) (sym c.used_by-uses.ensures) (c.row.ensures.bound _ c.requires.bound).row.uses in
    picks_step (g.M.Machine.meaning c.args.machine.now) c.args.at.cycle _ c.used_by-uses.result.now c.loop-k.k c.in-Some.unit c.loop-k.units _ _ c.loop-k-test.true are.few c.in-Some.is c.loop-k.invariant (c.find.ensures _ refl)

pub returns-clause-some : goal.returns-clause-some
returns-clause-some g c =
    let are : AreUses (g.M.Machine.meaning c.args.machine.now) c.used_by-uses.result.now = subst (AreUses (g.M.Machine.meaning c.args.machine.now)) (sym c.used_by-uses.ensures) (c.row.ensures.bound _ c.requires.bound).row.uses in
    ap is_some (sym (pick_is (input_in (g.M.Machine.meaning c.args.machine.now) c.args.given.now.body.now c.args.given.now.count) (times c.args.given.now.rows.now) c.args.at.cycle c.args.at.phase c.args.at.row c.used_by-uses.result.now (c.used_by-uses.ensures ∙ ap (λ (r : Row). r.uses) c.row.ensures.row)))
    ∙ (picks_end (g.M.Machine.meaning c.args.machine.now) c.args.at.cycle _ c.used_by-uses.result.now c.loop-k.k c.loop-k.units (omega (arith, c.loop-k-test.false, c.loop-k.auto.k-end)) are.few c.loop-k.invariant).0

pub returns-clause-units : goal.returns-clause-units
returns-clause-units g c =
    let are : AreUses (g.M.Machine.meaning c.args.machine.now) c.used_by-uses.result.now = subst (AreUses (g.M.Machine.meaning c.args.machine.now)) (sym c.used_by-uses.ensures) (c.row.ensures.bound _ c.requires.bound).row.uses in
    (picks_end (g.M.Machine.meaning c.args.machine.now) c.args.at.cycle _ c.used_by-uses.result.now c.loop-k.k c.loop-k.units (omega (arith, c.loop-k-test.false, c.loop-k.auto.k-end)) are.few c.loop-k.invariant).1
    ∙ ap padded (pick_is (input_in (g.M.Machine.meaning c.args.machine.now) c.args.given.now.body.now c.args.given.now.count) (times c.args.given.now.rows.now) c.args.at.cycle c.args.at.phase c.args.at.row c.used_by-uses.result.now (c.used_by-uses.ensures ∙ ap (λ (r : Row). r.uses) c.row.ensures.row))

use Rattle.std.proofs.Common.{◌≡◌, ◌+◌, ◌++◌, List, refl, sym, ◌∙◌, ap, subst, is_some, true, false, append-nil}
use Rattle.cycle_rules.specs.Row.{Row, Input, times}
use Rattle.cycle_rules.specs.Pick.{taken_by, padded}
use Rattle.cycle_rules.specs.declared.times.Times.{Times}
use Rattle.resource_units.specs.Stand.{StandsFor}
use Rattle.resource_units.specs.Kept.{HasUses}
use Rattle.engine_state.specs.State.{now, taken_now}
use Rattle.engine_state.specs.Writes.{IsIssuedWith}
use Rattle.engine_state.proofs.Turn.{read_row}
use Rattle.engine_steps.proofs.Steps.{can_use, picked, start_found, dispatch_starts}
use Rattle.engine_steps.proofs.dispatch.dispatched.Goals as goal

pub take-taken-requires-clause-uses : goal.take-taken-requires-clause-uses
take-taken-requires-clause-uses g c =
    let run : Input = g.R.Rows.input c.args.rows.now in
    subst (λ m. HasUses m c.instruction-b.result.now) (sym c.requires.machine) (can_use run.machine c.instruction-b.result.now (run.row c.args.f.now.head) c.instruction-b.ensures.names c.instruction-b.ensures.row (c.requires.flight.ranges.bound c.args.f.now.head c.requires.row).uses)

pub take-taken-requires-clause-can : goal.take-taken-requires-clause-can
take-taken-requires-clause-can g c =
    let run : Input = g.R.Rows.input c.args.rows.now in
    let xs : List Times = c.args.f.now.table.items in
    let reserved : (run.row c.args.f.now.head).reserved ≡ true = sym (ap (λ (b : Row). b.reserved) c.instruction-b.ensures.row) ∙ c.if-not-reserved.false in (
      taken_now run c.args.c xs,
      (
        c.requires.units,
        subst (λ o. is_some o ≡ true) (sym (picked run c.args.c c.args.f.now.head xs _ _ c.requires.machine c.instruction-b.ensures.row)) (start_found run (now run c.args.c xs) c.args.f.now.head c.args.c (dispatch_starts run (now run c.args.c xs) c.args.f.now.head c.args.c c.requires.may reserved)),
      ),
    )

pub returns-then-not-reserved-clause-row : goal.returns-then-not-reserved-clause-row
returns-then-not-reserved-clause-row g c =
    let run : Input = g.R.Rows.input c.args.rows.now in
    let xs : List Times = c.args.f.now.table.items in
    let free : (run.row c.args.f.now.head).reserved ≡ false = sym (ap (λ (b : Row). b.reserved) c.instruction-b.ensures.row) ∙ c.if-not-reserved.true in
    let m : c.index-row.result.now ≡ times xs c.args.f.now.head = read_row _ _ _ _ _ c.requires.flight.state c.requires.row c.index-row.ensures in
    let v : Times = record { dispatch = c.args.c; issue = c.index-row.result.now.issue; complete = c.index-row.result.now.complete; retire = c.index-row.result.now.retire; units = c.index-row.result.now.units } in
    record {
      dispatch = refl;
      issue = subst (IsIssuedWith run xs c.args.f.now.head c.args.c v) (sym free) (ap (λ t. t.issue) m, ap (λ t. t.complete) m, ap (λ t. t.units) m);
      retire = ap (λ t. t.retire) m;
    }

pub returns-then-not-reserved-clause-units : goal.returns-then-not-reserved-clause-units
returns-then-not-reserved-clause-units g c =
    let run : Input = g.R.Rows.input c.args.rows.now in
    let xs : List Times = c.args.f.now.table.items in
    let free : (run.row c.args.f.now.head).reserved ≡ false = sym (ap (λ (b : Row). b.reserved) c.instruction-b.ensures.row) ∙ c.if-not-reserved.true in
    rw (free, append-nil) c.requires.units

pub returns-clause-row : goal.returns-clause-row
returns-clause-row g c =
    let run : Input = g.R.Rows.input c.args.rows.now in
    let xs : List Times = c.args.f.now.table.items in
    let reserved : (run.row c.args.f.now.head).reserved ≡ true = sym (ap (λ (b : Row). b.reserved) c.instruction-b.ensures.row) ∙ c.if-not-reserved.false in
    let m : c.index-row.result.now ≡ times xs c.args.f.now.head = read_row _ _ _ _ _ c.requires.flight.state c.requires.row c.index-row.ensures in
    let v : Times = record { dispatch = c.args.c; issue = c.args.c; complete = c.args.c + c.instruction-b.result.now.latency; retire = c.index-row.result.now.retire; units = c.take-taken.result } in
    record {
      dispatch = refl;
      issue = subst (IsIssuedWith run xs c.args.f.now.head c.args.c v) (sym reserved)
          (refl, ap (λ (b : Row). c.args.c + b.latency) c.instruction-b.ensures.row, c.take-taken.ensures.units (taken_now run c.args.c xs) c.requires.units ∙ ap (λ o. padded o) (picked run c.args.c c.args.f.now.head xs _ _ c.requires.machine c.instruction-b.ensures.row));
      retire = ap (λ t. t.retire) m;
    }

pub returns-clause-units : goal.returns-clause-units
returns-clause-units g c =
    let run : Input = g.R.Rows.input c.args.rows.now in
    let xs : List Times = c.args.f.now.table.items in
    let reserved : (run.row c.args.f.now.head).reserved ≡ true = sym (ap (λ (b : Row). b.reserved) c.instruction-b.ensures.row) ∙ c.if-not-reserved.false in
    rw reserved (subst (λ (b : Row). StandsFor g.M.Machine.meaning g.M.Mask.UnitMask.holds c.args.c c.take-taken.new.self (taken_now run c.args.c xs ++ taken_by c.args.c b.uses c.take-taken.result)) c.instruction-b.ensures.row (c.take-taken.ensures.stands (taken_now run c.args.c xs) c.requires.units))

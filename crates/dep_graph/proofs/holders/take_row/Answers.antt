use Rattle.std.proofs.Common.{◌≡◌, ◌+◌, ◌<◌, ◌++◌, List, ℕ, length, true, arith, sym, ◌∙◌, ap, subst}
use Rattle.std.specs.Prelude.{slice_index, nat_lt, is_some}
use Rattle.std.specs.List.{list_all}
use Rattle.cycle_rules.specs.Bind.{row_of}
use Rattle.cycle_rules.specs.Held.{taken_of}
use Rattle.cycle_rules.specs.Pick.{Taken, taken_by, pick_units, padded}
use Rattle.cycle_rules.specs.Row.{Input, Table, times}
use Rattle.resource_units.specs.Stand.{StandsFor, machine_of}
use Rattle.resource_units.proofs.Taking.{kept_later, shows_later}
use Rattle.dep_graph.specs.Holders.{taken_along, AreHolders, noted}
use Rattle.dep_graph.proofs.Takers.{holders_more, picked_known}
use Rattle.dep_graph.proofs.TakenRows.{found_at, units_at, picked_at, along_early, along_next}
use Rattle.dep_graph.proofs.Walks.{issue_early}
use Rattle.dep_graph.proofs.holders.take_row.Goals as goal

pub take-taken-requires-clause-cycle : goal.take-taken-requires-clause-cycle
take-taken-requires-clause-cycle g c =
    let run : Input = g.R.Rows.input c.args.rows.now in
    let t : Table = times (g.R.Rows.table c.args.rows.now) in
    let k : ℕ = slice_index c.args.order.now c.args.q in
    let lt : c.args.q < run.rows = omega (arith, c.requires.place, c.requires.order.all.rows) in
    let early = issue_early run t k c.requires.run.run.each (c.requires.order.all.below c.args.q lt) in
    let cycle : c.times.result.now.issue ≡ (t k).issue = ap (λ r. r.issue) c.times.ensures in
    omega (arith, cycle, early.1, early.2, c.requires.run.early k (c.requires.order.all.below c.args.q lt))

pub take-taken-requires-clause-can : goal.take-taken-requires-clause-can
take-taken-requires-clause-can g c =
    let run : Input = g.R.Rows.input c.args.rows.now in
    let t : Table = times (g.R.Rows.table c.args.rows.now) in
    let k : ℕ = slice_index c.args.order.now c.args.q in
    let lt : c.args.q < run.rows = omega (arith, c.requires.place, c.requires.order.all.rows) in
    let early = issue_early run t k c.requires.run.run.each (c.requires.order.all.below c.args.q lt) in
    let cycle : c.times.result.now.issue ≡ (t k).issue = ap (λ r. r.issue) c.times.ensures in
    let row : row_of c.instruction-b.result.now ≡ run.row k = c.instruction-b.ensures.row in
    let along : List Taken = taken_along run t c.args.order.now c.args.q in
    let mach : machine_of g.M.Machine.meaning c.args.units.now ≡ run.machine = c.requires.machine in
    let stands : StandsFor g.M.Machine.meaning g.M.Mask.UnitMask.holds c.times.result.now.issue c.args.units.now along = record {
      kept = kept_later _ c.requires.units.0 _ _ _ _ (omega (arith, c.requires.units.1.0, cycle)) c.requires.units.1.1.kept;
      shows = shows_later _ c.requires.units.0 _ _ _ along (omega (arith, c.requires.units.1.0, cycle)) c.requires.units.1.1.shows;
    } in
    (along, (stands, (λ i. is_some (pick_units (mach i) along (cycle i) (row i).uses)) ∙ found_at run t c.args.order.now c.args.q c.requires.order c.requires.run.run.each lt))

pub note-requires-clause-known : goal.note-requires-clause-known
note-requires-clause-known g c =
    let run : Input = g.R.Rows.input c.args.rows.now in
    let t : Table = times (g.R.Rows.table c.args.rows.now) in
    let k : ℕ = slice_index c.args.order.now c.args.q in
    let lt : c.args.q < run.rows = omega (arith, c.requires.place, c.requires.order.all.rows) in
    let early = issue_early run t k c.requires.run.run.each (c.requires.order.all.below c.args.q lt) in
    let cycle : c.times.result.now.issue ≡ (t k).issue = ap (λ r. r.issue) c.times.ensures in
    let row : row_of c.instruction-b.result.now ≡ run.row k = c.instruction-b.ensures.row in
    let along : List Taken = taken_along run t c.args.order.now c.args.q in
    let mach : machine_of g.M.Machine.meaning c.args.units.now ≡ run.machine = c.requires.machine in
    let stands : StandsFor g.M.Machine.meaning g.M.Mask.UnitMask.holds c.times.result.now.issue c.args.units.now along = record {
      kept = kept_later _ c.requires.units.0 _ _ _ _ (omega (arith, c.requires.units.1.0, cycle)) c.requires.units.1.1.kept;
      shows = shows_later _ c.requires.units.0 _ _ _ along (omega (arith, c.requires.units.1.0, cycle)) c.requires.units.1.1.shows;
    } in
    let result : c.take-taken.result ≡ (t k).units = c.take-taken.ensures.units along stands ∙ (λ i. padded (pick_units (mach i) along (cycle i) (row i).uses)) ∙ sym (units_at run t c.args.order.now c.args.q c.requires.order c.requires.run.run.each lt) in
    let uses : taken_by c.times.result.now.issue (row_of c.instruction-b.result.now).uses c.take-taken.result ≡ taken_of run t k = λ i. taken_by (cycle i) (row i).uses (result i) in
    subst (λ l. list_all (λ h. nat_lt h.unit (length c.args.last.now)) l ≡ true) (sym uses)
    (picked_known run.machine along (t k).issue (taken_of run t k) (length c.args.last.now) c.requires.holders.1.1.size (picked_at run t c.args.order.now c.args.q c.requires.order c.requires.run.run.each lt))

pub note-requires-clause-early : goal.note-requires-clause-early
note-requires-clause-early g c =
    let run : Input = g.R.Rows.input c.args.rows.now in
    let t : Table = times (g.R.Rows.table c.args.rows.now) in
    let k : ℕ = slice_index c.args.order.now c.args.q in
    let lt : c.args.q < run.rows = omega (arith, c.requires.place, c.requires.order.all.rows) in
    let early = issue_early run t k c.requires.run.run.each (c.requires.order.all.below c.args.q lt) in
    let cycle : c.times.result.now.issue ≡ (t k).issue = ap (λ r. r.issue) c.times.ensures in
    omega (arith, cycle, early.1, early.2, c.requires.run.early k (c.requires.order.all.below c.args.q lt))

pub returns-clause-units : goal.returns-clause-units
returns-clause-units g c =
    let run : Input = g.R.Rows.input c.args.rows.now in
    let t : Table = times (g.R.Rows.table c.args.rows.now) in
    let k : ℕ = slice_index c.args.order.now c.args.q in
    let lt : c.args.q < run.rows = omega (arith, c.requires.place, c.requires.order.all.rows) in
    let early = issue_early run t k c.requires.run.run.each (c.requires.order.all.below c.args.q lt) in
    let cycle : c.times.result.now.issue ≡ (t k).issue = ap (λ r. r.issue) c.times.ensures in
    let row : row_of c.instruction-b.result.now ≡ run.row k = c.instruction-b.ensures.row in
    let along : List Taken = taken_along run t c.args.order.now c.args.q in
    let mach : machine_of g.M.Machine.meaning c.args.units.now ≡ run.machine = c.requires.machine in
    let stands : StandsFor g.M.Machine.meaning g.M.Mask.UnitMask.holds c.times.result.now.issue c.args.units.now along = record {
      kept = kept_later _ c.requires.units.0 _ _ _ _ (omega (arith, c.requires.units.1.0, cycle)) c.requires.units.1.1.kept;
      shows = shows_later _ c.requires.units.0 _ _ _ along (omega (arith, c.requires.units.1.0, cycle)) c.requires.units.1.1.shows;
    } in
    let result : c.take-taken.result ≡ (t k).units = c.take-taken.ensures.units along stands ∙ (λ i. padded (pick_units (mach i) along (cycle i) (row i).uses)) ∙ sym (units_at run t c.args.order.now c.args.q c.requires.order c.requires.run.run.each lt) in
    let uses : taken_by c.times.result.now.issue (row_of c.instruction-b.result.now).uses c.take-taken.result ≡ taken_of run t k = λ i. taken_by (cycle i) (row i).uses (result i) in
    let list : along ++ taken_by c.times.result.now.issue (row_of c.instruction-b.result.now).uses c.take-taken.result ≡ taken_along run t c.args.order.now (c.args.q + 1) = ap (λ l. along ++ l) uses ∙ along_next run t c.args.order.now c.args.q in
    subst (λ n. StandsFor g.M.Machine.meaning g.M.Mask.UnitMask.holds n c.take-taken.new.self (taken_along run t c.args.order.now (c.args.q + 1))) cycle
    (subst (λ l. StandsFor g.M.Machine.meaning g.M.Mask.UnitMask.holds c.times.result.now.issue c.take-taken.new.self l) list (c.take-taken.ensures.stands along stands))

pub returns-clause-holders : goal.returns-clause-holders
returns-clause-holders g c =
    let run : Input = g.R.Rows.input c.args.rows.now in
    let t : Table = times (g.R.Rows.table c.args.rows.now) in
    let k : ℕ = slice_index c.args.order.now c.args.q in
    let lt : c.args.q < run.rows = omega (arith, c.requires.place, c.requires.order.all.rows) in
    let early = issue_early run t k c.requires.run.run.each (c.requires.order.all.below c.args.q lt) in
    let cycle : c.times.result.now.issue ≡ (t k).issue = ap (λ r. r.issue) c.times.ensures in
    let row : row_of c.instruction-b.result.now ≡ run.row k = c.instruction-b.ensures.row in
    let along : List Taken = taken_along run t c.args.order.now c.args.q in
    let mach : machine_of g.M.Machine.meaning c.args.units.now ≡ run.machine = c.requires.machine in
    let stands : StandsFor g.M.Machine.meaning g.M.Mask.UnitMask.holds c.times.result.now.issue c.args.units.now along = record {
      kept = kept_later _ c.requires.units.0 _ _ _ _ (omega (arith, c.requires.units.1.0, cycle)) c.requires.units.1.1.kept;
      shows = shows_later _ c.requires.units.0 _ _ _ along (omega (arith, c.requires.units.1.0, cycle)) c.requires.units.1.1.shows;
    } in
    let result : c.take-taken.result ≡ (t k).units = c.take-taken.ensures.units along stands ∙ (λ i. padded (pick_units (mach i) along (cycle i) (row i).uses)) ∙ sym (units_at run t c.args.order.now c.args.q c.requires.order c.requires.run.run.each lt) in
    let uses : taken_by c.times.result.now.issue (row_of c.instruction-b.result.now).uses c.take-taken.result ≡ taken_of run t k = λ i. taken_by (cycle i) (row i).uses (result i) in
    let noted_is : c.note.new.last ≡ noted c.args.q (taken_of run t k) c.args.last.now = c.note.ensures ∙ ap (λ l. noted c.args.q l c.args.last.now) uses in
    subst (λ l. AreHolders run t c.args.order.now (c.args.q + 1) (t k).issue l) (sym noted_is)
    (holders_more run t c.args.order.now c.args.q c.requires.holders.0 c.args.last.now (λ i low. along_early run t c.args.order.now i c.args.q c.requires.order low lt) c.requires.holders.1.0
    (picked_at run t c.args.order.now c.args.q c.requires.order c.requires.run.run.each lt) c.requires.holders.1.1)

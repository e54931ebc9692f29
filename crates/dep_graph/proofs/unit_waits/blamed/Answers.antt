use Rattle.std.proofs.Common.{◌≡◌, ◌<◌, ◌-◌, ℕ, List, arith, sym, ◌∙◌, ap, subst}
use Rattle.std.specs.Prelude.{Some, ◌&&◌, nat_lt}
use Rattle.machine_model.specs.Meaning.{MachineMeaning}
use Rattle.cycle_rules.specs.Pick.{Taken}
use Rattle.cycle_rules.specs.Row.{Input, Table, times}
use Rattle.resource_units.specs.Stand.{StandsFor}
use Rattle.dep_graph.specs.Blamed.{busy_in, holder_of, resource_blamed}
use Rattle.dep_graph.specs.Holders.{taken_along, taker_at, IsLast}
use Rattle.dep_graph.proofs.Asking.{busy_known, place_low}
use Rattle.dep_graph.proofs.Blames.{blamed_is, holder_is, holder_test, holder_place, row_at_place}
use Rattle.dep_graph.proofs.unit_waits.blamed.Goals as goal

pub returns-in_default : goal.returns-in_default
returns-in_default g c =
    let run : Input = g.R.Rows.input c.args.rows.now in
    let t : Table = times (g.R.Rows.table c.args.rows.now) in
    let order : List ℕ = c.args.order.now in
    let along : List Taken = taken_along run t order c.args.taken in
    let cycle : c.args.c ≡ (t c.args.j).issue - 1 = c.requires.cycle in
    let stands : StandsFor g.M.Machine.meaning g.M.Mask.UnitMask.holds (c.args.c) c.args.units.now along = subst (λ n. StandsFor g.M.Machine.meaning g.M.Mask.UnitMask.holds n c.args.units.now along) (sym cycle) c.requires.stands in
    let busy : c.first_busy.result ≡ busy_in run.machine along ((t c.args.j).issue - 1) (run.row c.args.j).uses = c.first_busy.ensures along stands ∙ (λ i. busy_in (c.requires.of i) along (cycle i) (c.instruction.ensures.row i).uses) in
    let whole : resource_blamed run t c.args.j ≡ holder_of run t c.args.j ((t c.args.j).issue - 1) c.first_busy.result = blamed_is run t order c.args.taken c.args.j c.first_busy.result c.requires.order c.requires.few c.requires.first busy in
    sym (whole ∙ ap (holder_of run t c.args.j ((t c.args.j).issue - 1)) c.in_default.is)

pub last_holder-requires-clause-resource : goal.last_holder-requires-clause-resource
last_holder-requires-clause-resource g c =
    let run : Input = g.R.Rows.input c.args.rows.now in
    let t : Table = times (g.R.Rows.table c.args.rows.now) in
    let order : List ℕ = c.args.order.now in
    let along : List Taken = taken_along run t order c.args.taken in
    let cycle : c.args.c ≡ (t c.args.j).issue - 1 = c.requires.cycle in
    let stands : StandsFor g.M.Machine.meaning g.M.Mask.UnitMask.holds (c.args.c) c.args.units.now along = subst (λ n. StandsFor g.M.Machine.meaning g.M.Mask.UnitMask.holds n c.args.units.now along) (sym cycle) c.requires.stands in
    let busy : c.first_busy.result ≡ busy_in run.machine along ((t c.args.j).issue - 1) (run.row c.args.j).uses = c.first_busy.ensures along stands ∙ (λ i. busy_in (c.requires.of i) along (cycle i) (c.instruction.ensures.row i).uses) in
    let whole : resource_blamed run t c.args.j ≡ holder_of run t c.args.j ((t c.args.j).issue - 1) c.first_busy.result = blamed_is run t order c.args.taken c.args.j c.first_busy.result c.requires.order c.requires.few c.requires.first busy in
    let low : c.in-Some.r < run.machine.resource_count = busy_known run.machine along ((t c.args.j).issue - 1) c.in-Some.r (run.row c.args.j).uses (c.requires.run.bound c.args.j c.requires.row).uses.known (sym busy ∙ c.in-Some.is) in
    omega (arith, low, ap (λ (m : MachineMeaning). m.resource_count) c.requires.machine)

pub returns-in_default-last_holder : goal.returns-in_default-last_holder
returns-in_default-last_holder g c =
    let run : Input = g.R.Rows.input c.args.rows.now in
    let t : Table = times (g.R.Rows.table c.args.rows.now) in
    let order : List ℕ = c.args.order.now in
    let along : List Taken = taken_along run t order c.args.taken in
    let cycle : c.args.c ≡ (t c.args.j).issue - 1 = c.requires.cycle in
    let stands : StandsFor g.M.Machine.meaning g.M.Mask.UnitMask.holds (c.args.c) c.args.units.now along = subst (λ n. StandsFor g.M.Machine.meaning g.M.Mask.UnitMask.holds n c.args.units.now along) (sym cycle) c.requires.stands in
    let busy : c.first_busy.result ≡ busy_in run.machine along ((t c.args.j).issue - 1) (run.row c.args.j).uses = c.first_busy.ensures along stands ∙ (λ i. busy_in (c.requires.of i) along (cycle i) (c.instruction.ensures.row i).uses) in
    let whole : resource_blamed run t c.args.j ≡ holder_of run t c.args.j ((t c.args.j).issue - 1) c.first_busy.result = blamed_is run t order c.args.taken c.args.j c.first_busy.result c.requires.order c.requires.few c.requires.first busy in
    let low : c.in-Some.r < run.machine.resource_count = busy_known run.machine along ((t c.args.j).issue - 1) c.in-Some.r (run.row c.args.j).uses (c.requires.run.bound c.args.j c.requires.row).uses.known (sym busy ∙ c.in-Some.is) in
    let last : IsLast run.machine.unit_count (holder_test run c.args.last.now c.in-Some.r ((t c.args.j).issue - 1)) (holder_place c.args.last.now) c.last_holder.result =
    subst (λ n. IsLast run.machine.unit_count (holder_test run c.args.last.now c.in-Some.r n) (holder_place c.args.last.now) c.last_holder.result) cycle
    (subst (λ (m : MachineMeaning). IsLast m.unit_count (λ u. m.units c.in-Some.r u && nat_lt (c.args.c) (taker_at c.args.last.now u).until) (holder_place c.args.last.now) c.last_holder.result) c.requires.machine c.last_holder.ensures) in
    let held : holder_of run t c.args.j ((t c.args.j).issue - 1) (Some c.in-Some.r) ≡ row_at_place order c.last_holder.result =
    holder_is run t order c.args.taken c.args.j ((t c.args.j).issue - 1) c.in-Some.r c.args.last.now c.last_holder.result c.requires.order c.requires.few c.requires.first c.requires.holders (λ u has. c.requires.run.units c.in-Some.r u low has) last in
    sym (whole ∙ ap (holder_of run t c.args.j ((t c.args.j).issue - 1)) c.in-Some.is ∙ held ∙ ap (row_at_place order) c.in_default-last_holder.is)

pub bounds-order-place : goal.bounds-order-place
bounds-order-place g c =
    let run : Input = g.R.Rows.input c.args.rows.now in
    let t : Table = times (g.R.Rows.table c.args.rows.now) in
    let order : List ℕ = c.args.order.now in
    let along : List Taken = taken_along run t order c.args.taken in
    let cycle : c.args.c ≡ (t c.args.j).issue - 1 = c.requires.cycle in
    let stands : StandsFor g.M.Machine.meaning g.M.Mask.UnitMask.holds (c.args.c) c.args.units.now along = subst (λ n. StandsFor g.M.Machine.meaning g.M.Mask.UnitMask.holds n c.args.units.now along) (sym cycle) c.requires.stands in
    let busy : c.first_busy.result ≡ busy_in run.machine along ((t c.args.j).issue - 1) (run.row c.args.j).uses = c.first_busy.ensures along stands ∙ (λ i. busy_in (c.requires.of i) along (cycle i) (c.instruction.ensures.row i).uses) in
    let whole : resource_blamed run t c.args.j ≡ holder_of run t c.args.j ((t c.args.j).issue - 1) c.first_busy.result = blamed_is run t order c.args.taken c.args.j c.first_busy.result c.requires.order c.requires.few c.requires.first busy in
    let low : c.in-Some.r < run.machine.resource_count = busy_known run.machine along ((t c.args.j).issue - 1) c.in-Some.r (run.row c.args.j).uses (c.requires.run.bound c.args.j c.requires.row).uses.known (sym busy ∙ c.in-Some.is) in
    let last : IsLast run.machine.unit_count (holder_test run c.args.last.now c.in-Some.r ((t c.args.j).issue - 1)) (holder_place c.args.last.now) c.last_holder.result =
    subst (λ n. IsLast run.machine.unit_count (holder_test run c.args.last.now c.in-Some.r n) (holder_place c.args.last.now) c.last_holder.result) cycle
    (subst (λ (m : MachineMeaning). IsLast m.unit_count (λ u. m.units c.in-Some.r u && nat_lt (c.args.c) (taker_at c.args.last.now u).until) (holder_place c.args.last.now) c.last_holder.result) c.requires.machine c.last_holder.ensures) in
    let held : holder_of run t c.args.j ((t c.args.j).issue - 1) (Some c.in-Some.r) ≡ row_at_place order c.last_holder.result =
    holder_is run t order c.args.taken c.args.j ((t c.args.j).issue - 1) c.in-Some.r c.args.last.now c.last_holder.result c.requires.order c.requires.few c.requires.first c.requires.holders (λ u has. c.requires.run.units c.in-Some.r u low has) last in
    let less : c.in-Some-last_holder.place < c.args.taken = place_low run t order c.args.taken ((t c.args.j).issue - 1) c.in-Some.r c.in-Some-last_holder.place c.args.last.now c.requires.holders
    (subst (λ o. IsLast run.machine.unit_count (holder_test run c.args.last.now c.in-Some.r ((t c.args.j).issue - 1)) (holder_place c.args.last.now) o) c.in-Some-last_holder.is last) in
    omega (arith, less, c.requires.few, c.requires.order.all.rows)

pub returns : goal.returns
returns g c =
    let run : Input = g.R.Rows.input c.args.rows.now in
    let t : Table = times (g.R.Rows.table c.args.rows.now) in
    let order : List ℕ = c.args.order.now in
    let along : List Taken = taken_along run t order c.args.taken in
    let cycle : c.args.c ≡ (t c.args.j).issue - 1 = c.requires.cycle in
    let stands : StandsFor g.M.Machine.meaning g.M.Mask.UnitMask.holds (c.args.c) c.args.units.now along = subst (λ n. StandsFor g.M.Machine.meaning g.M.Mask.UnitMask.holds n c.args.units.now along) (sym cycle) c.requires.stands in
    let busy : c.first_busy.result ≡ busy_in run.machine along ((t c.args.j).issue - 1) (run.row c.args.j).uses = c.first_busy.ensures along stands ∙ (λ i. busy_in (c.requires.of i) along (cycle i) (c.instruction.ensures.row i).uses) in
    let whole : resource_blamed run t c.args.j ≡ holder_of run t c.args.j ((t c.args.j).issue - 1) c.first_busy.result = blamed_is run t order c.args.taken c.args.j c.first_busy.result c.requires.order c.requires.few c.requires.first busy in
    let low : c.in-Some.r < run.machine.resource_count = busy_known run.machine along ((t c.args.j).issue - 1) c.in-Some.r (run.row c.args.j).uses (c.requires.run.bound c.args.j c.requires.row).uses.known (sym busy ∙ c.in-Some.is) in
    let last : IsLast run.machine.unit_count (holder_test run c.args.last.now c.in-Some.r ((t c.args.j).issue - 1)) (holder_place c.args.last.now) c.last_holder.result =
    subst (λ n. IsLast run.machine.unit_count (holder_test run c.args.last.now c.in-Some.r n) (holder_place c.args.last.now) c.last_holder.result) cycle
    (subst (λ (m : MachineMeaning). IsLast m.unit_count (λ u. m.units c.in-Some.r u && nat_lt (c.args.c) (taker_at c.args.last.now u).until) (holder_place c.args.last.now) c.last_holder.result) c.requires.machine c.last_holder.ensures) in
    let held : holder_of run t c.args.j ((t c.args.j).issue - 1) (Some c.in-Some.r) ≡ row_at_place order c.last_holder.result =
    holder_is run t order c.args.taken c.args.j ((t c.args.j).issue - 1) c.in-Some.r c.args.last.now c.last_holder.result c.requires.order c.requires.few c.requires.first c.requires.holders (λ u has. c.requires.run.units c.in-Some.r u low has) last in
    sym (whole ∙ ap (holder_of run t c.args.j ((t c.args.j).issue - 1)) c.in-Some.is ∙ held ∙ ap (row_at_place order) c.in-Some-last_holder.is)

pub last_holder-requires-clause-taken : goal.last_holder-requires-clause-taken
last_holder-requires-clause-taken g c =
    let t : Table = times (g.R.Rows.table c.args.rows.now) in
    let cycle : c.args.c ≡ (t c.args.j).issue - 1 = c.requires.cycle in
    λ u lt soon. (c.requires.holders.real u ((t c.args.j).issue - 1) (omega (arith, lt, c.requires.holders.size)) (omega arith) (omega (arith, soon, cycle))).0

pub last_of-chosen-requires : goal.last_of-chosen-requires
last_of-chosen-requires g c =
    let run : Input = g.R.Rows.input c.args.rows.now in
    let t : Table = times (g.R.Rows.table c.args.rows.now) in
    let along : List Taken = taken_along run t c.args.order.now c.args.taken in
    let cycle : c.args.c ≡ (t c.args.j).issue - 1 = c.requires.cycle in
    let stands : StandsFor g.M.Machine.meaning g.M.Mask.UnitMask.holds (c.args.c) c.args.units.now along = subst (λ n. StandsFor g.M.Machine.meaning g.M.Mask.UnitMask.holds n c.args.units.now along) (sym cycle) c.requires.stands in
    let busy : c.first_busy.result ≡ busy_in run.machine along ((t c.args.j).issue - 1) (run.row c.args.j).uses = c.first_busy.ensures along stands ∙ (λ i. busy_in (c.requires.of i) along (cycle i) (c.instruction.ensures.row i).uses) in
    let low : c.in-Some.r < run.machine.resource_count = busy_known run.machine along ((t c.args.j).issue - 1) c.in-Some.r (run.row c.args.j).uses (c.requires.run.bound c.args.j c.requires.row).uses.known (sym busy ∙ c.in-Some.is) in
    omega (arith, low, ap (λ (m : MachineMeaning). m.resource_count) c.requires.of)

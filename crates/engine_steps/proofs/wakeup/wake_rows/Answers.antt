use Rattle.std.proofs.Common.{◌≤◌, ℕ, arith}
use Rattle.cycle_rules.specs.Row.{Input}
use Rattle.row_sets.specs.Agenda.{IsTaken, NoneComes}
use Rattle.engine_steps.specs.Wake.{AreAwake, none_out}
use Rattle.engine_steps.proofs.Classes.{class_low}
use Rattle.engine_steps.proofs.Wakes.{awake_later, awake_agenda, awake_taken, taken_fewer}
use Rattle.engine_steps.proofs.wakeup.wake_rows.Goals as goal

pub loop-k-init : goal.loop-k-init
loop-k-init g c = record { awake = λ head n le within a. awake_later (g.R.Rows.input c.args.rows.now) c.args.table.now c.args.w.now c.args.front head n c.args.c none_out le a }

pub rouse-requires-clause-row : goal.rouse-requires-clause-row
rouse-requires-clause-row g c =
    let run : Input = g.R.Rows.input c.args.rows.now in
    let head : ℕ = c.requires.awake.0 in
    let within : head ≤ run.rows = c.requires.awake.3 in
    let a : AreAwake run c.args.table.now c.loop-k.w c.args.front head c.args.c none_out = c.loop-k.invariant.awake head (c.requires.awake.1) (c.requires.awake.2) within (c.requires.awake.5) in
    let t : IsTaken c.loop-k.w.agenda c.take.new.self c.args.front c.args.c c.in-Some.k = c.in-Some.ensures in
    omega (arith, (a.exact c.in-Some.k t.time t.from t.within t.waits).0, within)

pub loop-k-smaller : goal.loop-k-smaller
loop-k-smaller g c = taken_fewer c.loop-k.w.agenda c.take.new.self c.args.front c.args.c c.in-Some.k (c.in-Some.ensures)

pub loop-k-preserved : goal.loop-k-preserved
loop-k-preserved g c =
    let run : Input = g.R.Rows.input c.args.rows.now in
    let t : IsTaken c.loop-k.w.agenda c.take.new.self c.args.front c.args.c c.in-Some.k = c.in-Some.ensures in
    record {
      awake = λ head n le within a. awake_taken run c.args.table.now c.loop-k.w c.take.new.self c.rouse.new.ready c.args.front head c.args.c c.in-Some.k t.time (c.loop-k.invariant.awake head n le within a) t.from t.within t.waits t.come t.rest c.rouse.ensures.kept c.rouse.ensures.found class_low;
    }

pub returns-clause-awake : goal.returns-clause-awake
returns-clause-awake g c head n le within a =
    let none : NoneComes c.loop-k.w.agenda c.take.new.self c.args.c = c.in_default.ensures in
    awake_agenda (g.R.Rows.input c.args.rows.now) c.args.table.now c.loop-k.w c.take.new.self c.args.front head c.args.c none_out none.rest (c.loop-k.invariant.awake head n le within a)

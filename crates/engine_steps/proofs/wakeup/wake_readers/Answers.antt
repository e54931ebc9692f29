use Rattle.std.proofs.Common.{◌≤◌, ◌+◌, sym, subst, refl, arith, drop, get_or}
use Rattle.cycle_rules.specs.Row.{Input}
use Rattle.engine_steps.specs.Wake.{AreAwake, AllLater, except, reads_from}
use Rattle.engine_steps.specs.declared.wakeup.Wakeup.{Wakeup}
use Rattle.engine_steps.proofs.wakeup.wake_readers.Goals.{then-k-head, else-k-head}
use Rattle.engine_steps.proofs.Wakes.{still_out, out_first, out_next, out_beyond, out_last}
use Rattle.engine_steps.proofs.wakeup.wake_readers.Goals as goal

pub leave-requires-clause-awake : goal.leave-requires-clause-awake
leave-requires-clause-awake g c = (c.requires.awake.0, c.args.head, reads_from (g.R.Rows.input c.args.rows.now) c.args.j, c.requires.awake.1, c.requires.row, c.requires.awake.2)

pub loop-later-init : goal.loop-later-init
loop-later-init g c =
    let run : Input = g.R.Rows.input c.args.rows.now in
    record {
      awake = λ front lo a. out_first run c.args.j front c.args.head c.args.c c.args.table.now c.leave.new.w c.readers-later-items.result.now c.requires.head c.readers-later-items.ensures.all (c.leave.ensures.awake front c.args.head (reads_from run c.args.j) lo c.requires.row a);
      later = c.leave.ensures.later;
    }

pub settle-requires-clause-awake : goal.settle-requires-clause-awake
settle-requires-clause-awake g c =
    let lo : c.requires.awake.0 ≤ c.args.j = c.requires.awake.1 in (
      c.requires.awake.0,
      c.args.head,
      still_out c.args.j (drop c.loop-later.later-index c.readers-later-items.result.now),
      omega (arith, lo),
      c.if-k-head.true,
      c.loop-later.invariant.awake c.requires.awake.0 lo c.requires.awake.2,
    )

pub loop-later-preserved : goal.loop-later-preserved
loop-later-preserved g c =
    let run : Input = g.R.Rows.input c.args.rows.now in
    elim c.if-k-head.branch [
      | then-k-head w ↦ record {
        awake = λ front lo a. out_next run c.args.j _ front c.args.head c.args.c c.loop-later.later-index c.args.table.now c.if-k-head.w c.readers-later-items.result.now c.loop-later-test.true refl
            (subst (λ x. AreAwake run c.args.table.now x front c.args.head c.args.c (except (c.args.j + get_or c.readers-later-items.result.now c.loop-later.later-index 0) (still_out c.args.j (drop c.loop-later.later-index c.readers-later-items.result.now)))) (sym w.w-is)
            (w.settle.ensures.awake front c.args.head (still_out c.args.j (drop c.loop-later.later-index c.readers-later-items.result.now)) (omega (arith, lo)) w.if-k-head.true (c.loop-later.invariant.awake front lo a)));
        later = λ l. subst (λ (x : Wakeup). AllLater x.agenda c.args.c) (sym w.w-is) (w.settle.ensures.later (c.loop-later.invariant.later l));
      }
      | else-k-head w ↦ record {
        awake = λ front lo a. out_beyond run c.args.j _ front c.args.head c.args.c c.loop-later.later-index c.args.table.now c.if-k-head.w c.readers-later-items.result.now c.loop-later-test.true refl (omega (arith, w.if-k-head.false))
            (subst (λ x. AreAwake run c.args.table.now x front c.args.head c.args.c (still_out c.args.j (drop c.loop-later.later-index c.readers-later-items.result.now))) (sym w.w-is) (c.loop-later.invariant.awake front lo a));
        later = λ l. subst (λ (x : Wakeup). AllLater x.agenda c.args.c) (sym w.w-is) (c.loop-later.invariant.later l);
      }
    ]

pub returns-clause-awake : goal.returns-clause-awake
returns-clause-awake g c front lo a =
    out_last (g.R.Rows.input c.args.rows.now) c.args.j front c.args.head c.args.c c.loop-later.later-index c.args.table.now c.loop-later.w c.readers-later-items.result.now (omega (arith, c.loop-later-test.false)) (c.loop-later.invariant.awake front lo a)

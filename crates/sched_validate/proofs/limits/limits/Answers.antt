use Rattle.std.proofs.Common.{◌≡◌, ◌∙◌, arith}
use Rattle.std.specs.Prelude.{slice_get}
use Rattle.sched_checks.specs.Resources.{count_of, resources_of}
use Rattle.sched_validate.specs.Lists.{load_queues_of, store_queues_of}
use Rattle.sched_validate.specs.Machine.{model_of, bound_by}
use Rattle.sched_validate.proofs.Tuned.{own_same}
use Rattle.sched_validate.proofs.limits.limits.Goals as goal

pub returns : goal.returns
returns c =
    let right : _ = c.requires.right in
    let loads : _ ≡ bound_by (resources_of c.args.entries.now) (slice_get (load_queues_of c.args.entries.now) 0) = (λ i. bound_by (c.requires.resources i) (c.load_queue.ensures i)) in
    let stores : _ ≡ bound_by (resources_of c.args.entries.now) (slice_get (store_queues_of c.args.entries.now) 0) = (λ i. bound_by (c.requires.resources i) (c.store_queue.ensures i)) in
    let w : _ = c.or_own.ensures ∙ own_same c.args.tuning.now.dispatch (count_of (model_of c.args.entries.now).width) c.width.result c.width.ensures (omega (arith, right.width_high)) in
    let l : _ = c.or_own-2.ensures ∙ own_same c.args.tuning.now.loads (bound_by (resources_of c.args.entries.now) (slice_get (load_queues_of c.args.entries.now) 0)) c.bound.result (λ lt. c.bound.ensures (omega (arith, loads, lt)) ∙ loads) (omega (arith, right.loads)) in
    let s : _ = c.or_own-3.ensures ∙ own_same c.args.tuning.now.stores (bound_by (resources_of c.args.entries.now) (slice_get (store_queues_of c.args.entries.now) 0)) c.bound-2.result (λ lt. c.bound-2.ensures (omega (arith, stores, lt)) ∙ stores) (omega (arith, right.stores)) in
    let o : _ = c.reorder.ensures (omega (arith, right.reorder_high)) in
    let t : _ = c.retire.ensures (omega (arith, right.retire)) in
    λ i. record { width = w i; reorder = o i; retire = t i; loads = l i; stores = s i; registers = c.args.tuning.now.registers; no_alias = c.args.tuning.now.no_alias }

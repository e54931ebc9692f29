use Rattle.std.proofs.Common.{◌≡◌, ◌∙◌, ap, refl}
use Rattle.node_pool.specs.Pool.{list_of}
use Rattle.machine_model.specs.declared.limits.Limits.{Limits}
use Rattle.cycle_rules.specs.Row.{is_load, is_store, is_barrier}
use Rattle.mem_queues.specs.Queues.{waits_as, nodes_of}
use Rattle.mem_queues.specs.Firsts.{fenced_first}
use Rattle.mem_queues.proofs.Going.{any_before, is_past}
use Rattle.mem_queues.proofs.Heads.{below-known}
use Rattle.mem_queues.proofs.Told.{past-told}
use Rattle.mem_queues.proofs.Entering.{enter-told}
use Rattle.mem_queues.proofs.queues.MemQueues.may_enter.Goals as goal

pub returns : goal.returns
returns c = λ limits since rows are low below.
    let alias : c.args.self.now.limits.no_alias ≡ limits.no_alias = ap (λ (l : Limits). l.no_alias) are.limits_are in
    let barriers : c.is_done-barriers.result ≡ is_past is_barrier c.args.row c.args.c rows = c.is_done-barriers.ensures ∙ past-told is_barrier c.args.self.now.barrier_done since c.args.row c.args.c (list_of c.args.self.now.rows 2) rows are.order are.barriers_done low are.listed.waiting_barriers in
    let loads : c.is_done-loads.result ≡ is_past is_load c.args.row c.args.c rows = c.is_done-loads.ensures ∙ past-told is_load c.args.self.now.load_done since c.args.row c.args.c (list_of c.args.self.now.rows 0) rows are.order are.loads_done low are.listed.waiting_loads in
    let stores : c.is_done-stores.result ≡ is_past is_store c.args.row c.args.c rows = c.is_done-stores.ensures ∙ past-told is_store c.args.self.now.store_done since c.args.row c.args.c (list_of c.args.self.now.rows 1) rows are.order are.stores_done low are.listed.waiting_stores in
    let load_waits : c.starts_below-load_waits.result ≡ any_before (waits_as is_load) c.args.row rows = c.starts_below-load_waits.ensures ∙ rw are.listed.waiting_loads (below-known (waits_as is_load) c.args.row rows are.order) in
    let store_waits : c.starts_below-store_waits.result ≡ any_before (waits_as is_store) c.args.row rows = c.starts_below-store_waits.ensures ∙ rw are.listed.waiting_stores (below-known (waits_as is_store) c.args.row rows are.order) in
    let fenced : c.fenced_first-fenced.result ≡ fenced_first (nodes_of (waits_as is_load) rows) (nodes_of (waits_as is_store) rows) = c.fenced_first-fenced.ensures ∙ rw (are.listed.waiting_loads, are.listed.waiting_stores) refl in
    rw (c.goes_by.ensures, alias, barriers, loads, stores, load_waits, store_waits, fenced) (enter-told limits.no_alias c.args.row c.args.c rows c.args.kind are.order are.issue below)

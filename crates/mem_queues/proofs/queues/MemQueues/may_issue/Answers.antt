use Rattle.std.proofs.Common.{◌||◌, Bool, not, refl, ap, sym, ◌∙◌}
use Rattle.node_pool.specs.Pool.{list_of}
use Rattle.machine_model.specs.declared.limits.Limits.{Limits}
use Rattle.cycle_rules.specs.Row.{is_load, is_store, is_barrier}
use Rattle.mem_queues.specs.Queues.{waits_as}
use Rattle.mem_queues.proofs.Going.{is_past}
use Rattle.mem_queues.proofs.Heads.{below-known}
use Rattle.mem_queues.proofs.Rows.{kind-real}
use Rattle.mem_queues.proofs.Told.{past-told, none-told, barrier-told, store-told, held-told, free-told}
use Rattle.mem_queues.proofs.queues.MemQueues.may_issue.Goals as goal

pub returns-then-not-is_done : goal.returns-then-not-is_done
returns-then-not-is_done c = λ limits since rows are h w.
    let past = sym (past-told is_barrier c.args.self.now.barrier_done since c.args.row c.args.c (list_of c.args.self.now.rows 2) rows are.order are.barriers_done h are.listed.waiting_barriers) ∙ (sym c.is_done.ensures ∙ c.if-not-is_done.true) in
    none-told limits.no_alias c.args.row c.args.c rows are.order are.kinds are.issue w past

pub returns-then-is_done : goal.returns-then-is_done
returns-then-is_done c = λ limits since rows are h w.
    let past = sym (past-told is_barrier c.args.self.now.barrier_done since c.args.row c.args.c (list_of c.args.self.now.rows 2) rows are.order are.barriers_done h are.listed.waiting_barriers) ∙ (sym c.is_done.ensures ∙ c.if-not-is_done.false) in
    let first = rw are.listed.waiting_barriers at (sym c.starts_at.ensures ∙ c.if-starts_at.true) in
    let loads = sym (past-told is_load c.args.self.now.load_done since c.args.row c.args.c (list_of c.args.self.now.rows 0) rows are.order are.loads_done h are.listed.waiting_loads) ∙ (sym c.is_done-then-starts_at.ensures ∙ c.if-is_done.true) in
    let stores = past-told is_store c.args.self.now.store_done since c.args.row c.args.c (list_of c.args.self.now.rows 1) rows are.order are.stores_done h are.listed.waiting_stores in
    c.is_done-then-is_done.ensures ∙ stores ∙ rw loads at (barrier-told limits.no_alias c.args.row c.args.c rows are.order are.issue w past first)

pub returns-else-is_done : goal.returns-else-is_done
returns-else-is_done c = λ limits since rows are h w.
    let past = sym (past-told is_barrier c.args.self.now.barrier_done since c.args.row c.args.c (list_of c.args.self.now.rows 2) rows are.order are.barriers_done h are.listed.waiting_barriers) ∙ (sym c.is_done.ensures ∙ c.if-not-is_done.false) in
    let first = rw are.listed.waiting_barriers at (sym c.starts_at.ensures ∙ c.if-starts_at.true) in
    let loads = sym (past-told is_load c.args.self.now.load_done since c.args.row c.args.c (list_of c.args.self.now.rows 0) rows are.order are.loads_done h are.listed.waiting_loads) ∙ (sym c.is_done-then-starts_at.ensures ∙ c.if-is_done.false) in
    c.if-is_done.false ∙ rw loads at (barrier-told limits.no_alias c.args.row c.args.c rows are.order are.issue w past first)

pub returns-then-starts_at-2 : goal.returns-then-starts_at-2
returns-then-starts_at-2 c = λ limits since rows are h w.
    let past = sym (past-told is_barrier c.args.self.now.barrier_done since c.args.row c.args.c (list_of c.args.self.now.rows 2) rows are.order are.barriers_done h are.listed.waiting_barriers) ∙ (sym c.is_done.ensures ∙ c.if-not-is_done.false) in
    let second = rw are.listed.waiting_stores at (sym c.starts_at-2.ensures ∙ c.if-starts_at-2.true) in
    let below = c.starts_below.ensures ∙ rw are.listed.waiting_loads (below-known (waits_as is_load) c.args.row rows are.order) in
    ap not below ∙ store-told limits.no_alias c.args.row c.args.c rows are.order are.issue w past second

pub returns-then-not-is_free : goal.returns-then-not-is_free
returns-then-not-is_free c = λ limits since rows are h w.
    let past = sym (past-told is_barrier c.args.self.now.barrier_done since c.args.row c.args.c (list_of c.args.self.now.rows 2) rows are.order are.barriers_done h are.listed.waiting_barriers) ∙ (sym c.is_done.ensures ∙ c.if-not-is_done.false) in
    let first = rw are.listed.waiting_barriers at (sym c.starts_at.ensures ∙ c.if-starts_at.false) in
    let second = rw are.listed.waiting_stores at (sym c.starts_at-2.ensures ∙ c.if-starts_at-2.false) in
    let free = rw (are.listed.waiting_loads, are.listed.waiting_stores) at (sym c.is_free.ensures ∙ c.if-not-is_free.true) in
    held-told limits.no_alias c.args.row c.args.c rows (record { kind = refl; order = are.order; keeps = are.issue; wait = w; real = kind-real c.args.row rows w are.kinds; past = past; barrier = first; store = second; free_is = free })

pub returns-then-self : goal.returns-then-self
returns-then-self c = λ limits since rows are h w.
    let past = sym (past-told is_barrier c.args.self.now.barrier_done since c.args.row c.args.c (list_of c.args.self.now.rows 2) rows are.order are.barriers_done h are.listed.waiting_barriers) ∙ (sym c.is_done.ensures ∙ c.if-not-is_done.false) in
    let first = rw are.listed.waiting_barriers at (sym c.starts_at.ensures ∙ c.if-starts_at.false) in
    let second = rw are.listed.waiting_stores at (sym c.starts_at-2.ensures ∙ c.if-starts_at-2.false) in
    let free = rw (are.listed.waiting_loads, are.listed.waiting_stores) at (sym c.is_free.ensures ∙ c.if-not-is_free.false) in
    let may = ap (λ (l : Limits). l.no_alias) (sym are.limits_are) ∙ c.if-self.true in
    c.if-self.true ∙ sym (ap (λ (b : Bool). b || is_past is_store c.args.row c.args.c rows) may) ∙ free-told limits.no_alias c.args.row c.args.c rows (record { kind = refl; order = are.order; keeps = are.issue; wait = w; real = kind-real c.args.row rows w are.kinds; past = past; barrier = first; store = second; free_is = free })

pub returns-else-self : goal.returns-else-self
returns-else-self c = λ limits since rows are h w.
    let past = sym (past-told is_barrier c.args.self.now.barrier_done since c.args.row c.args.c (list_of c.args.self.now.rows 2) rows are.order are.barriers_done h are.listed.waiting_barriers) ∙ (sym c.is_done.ensures ∙ c.if-not-is_done.false) in
    let first = rw are.listed.waiting_barriers at (sym c.starts_at.ensures ∙ c.if-starts_at.false) in
    let second = rw are.listed.waiting_stores at (sym c.starts_at-2.ensures ∙ c.if-starts_at-2.false) in
    let free = rw (are.listed.waiting_loads, are.listed.waiting_stores) at (sym c.is_free.ensures ∙ c.if-not-is_free.false) in
    let may = ap (λ (l : Limits). l.no_alias) (sym are.limits_are) ∙ c.if-self.false in
    let stores = past-told is_store c.args.self.now.store_done since c.args.row c.args.c (list_of c.args.self.now.rows 1) rows are.order are.stores_done h are.listed.waiting_stores in
    c.is_done-else-self.ensures ∙ stores ∙ (sym (ap (λ (b : Bool). b || is_past is_store c.args.row c.args.c rows) may) ∙ free-told limits.no_alias c.args.row c.args.c rows (record { kind = refl; order = are.order; keeps = are.issue; wait = w; real = kind-real c.args.row rows w are.kinds; past = past; barrier = first; store = second; free_is = free }))

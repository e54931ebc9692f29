use Rattle.std.proofs.Common.{refl, sym, ◌∙◌, arith}
use Rattle.cycle_rules.specs.Row.{is_store, is_barrier}
use Rattle.mem_queues.specs.Order.{kind_of}
use Rattle.mem_queues.proofs.Heads.{at-kind}
use Rattle.mem_queues.proofs.Told.{load-told}
use Rattle.mem_queues.proofs.Changes.{popped, issued-barrier, issued-store, issued-load, wait-pop, taken}
use Rattle.mem_queues.proofs.queues.MemQueues.issued.Goals as goal

pub returns-then-starts_at : goal.returns-then-starts_at
returns-then-starts_at c = λ limits since rows are h w go.
    let n = are.listed.lists in
    let at = sym c.starts_at.ensures ∙ c.if-starts_at.true in
    let first = rw are.listed.waiting_barriers at at in
    let pop = popped c.args.self.now.rows c.pop_front.new.self 2 c.args.row c.pop_front.result (omega arith) at c.pop_front.ensures.first c.pop_front.ensures.lists in
    issued-barrier limits c.args.self.now.limits c.args.self.now.loads c.args.self.now.stores c.args.self.now.load_done c.args.self.now.store_done c.args.self.now.barrier_done c.args.self.now.rows since rows c.pop_front.new.self c.last-self.result c.args.row c.args.w c.args.c are w go (at-kind is_barrier c.args.row rows are.order first) (wait-pop is_barrier c.args.self.now.rows c.pop_front.new.self 2 c.args.row c.args.w rows are.order w are.listed.waiting_barriers first pop) c.last-self.ensures

pub returns-then-starts_at-2 : goal.returns-then-starts_at-2
returns-then-starts_at-2 c = λ limits since rows are h w go.
    let n = are.listed.lists in
    let at = sym c.starts_at-else-starts_at.ensures ∙ c.if-starts_at-2.true in
    let first = rw are.listed.waiting_stores at at in
    let pop = popped c.args.self.now.rows c.pop_front-then-starts_at-2.new.self 1 c.args.row c.pop_front-then-starts_at-2.result (omega arith) at c.pop_front-then-starts_at-2.ensures.first c.pop_front-then-starts_at-2.ensures.lists in
    issued-store limits c.args.self.now.limits c.args.self.now.loads c.args.self.now.stores c.args.self.now.load_done c.args.self.now.store_done c.args.self.now.barrier_done c.args.self.now.rows since rows c.pop_front-then-starts_at-2.new.self c.last-self-then-starts_at-2.result c.args.row c.args.w c.args.c are w go (at-kind is_store c.args.row rows are.order first) (wait-pop is_store c.args.self.now.rows c.pop_front-then-starts_at-2.new.self 1 c.args.row c.args.w rows are.order w are.listed.waiting_stores first pop) c.last-self-then-starts_at-2.ensures

pub returns-else-starts_at-2 : goal.returns-else-starts_at-2
returns-else-starts_at-2 c = λ limits since rows are h w go.
    let n = are.listed.lists in
    let barrier = rw are.listed.waiting_barriers at (sym c.starts_at.ensures ∙ c.if-starts_at.false) in
    let store = rw are.listed.waiting_stores at (sym c.starts_at-else-starts_at.ensures ∙ c.if-starts_at-2.false) in
    let load = load-told limits.no_alias c.args.row c.args.c rows (kind_of c.args.row rows) refl are.order are.kinds are.issue w go barrier store in
    issued-load limits c.args.self.now.limits c.args.self.now.loads c.args.self.now.stores c.args.self.now.load_done c.args.self.now.store_done c.args.self.now.barrier_done c.args.self.now.rows since rows c.remove.new.self c.last-self-else-starts_at-2.result c.args.row c.args.w c.args.c are w go load (taken c.args.self.now.rows c.remove.new.self 0 c.args.row c.args.w c.remove.result rows (omega arith) are.order w load are.listed.waiting_loads c.remove.ensures.found c.remove.ensures.lists) c.last-self-else-starts_at-2.ensures

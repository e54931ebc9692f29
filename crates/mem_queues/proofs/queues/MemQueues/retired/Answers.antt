use Rattle.std.proofs.Common.{sym, ◌∙◌, arith}
use Rattle.mem_queues.proofs.Changes.{popped, retired-load, retired-store, retired-barrier}
use Rattle.mem_queues.proofs.queues.MemQueues.retired.Goals as goal

pub overflow_sub-self : goal.overflow_sub-self
overflow_sub-self c =
    let q = c.requires in
    let are = q.3 in
    let n = are.listed.lists in
    let at = sym c.starts_at.ensures ∙ c.if-starts_at.true in
    let pop = popped c.args.self.now.rows c.pop_front.new.self 3 c.args.row c.pop_front.result (omega arith) at c.pop_front.ensures.first c.pop_front.ensures.lists in
    (retired-load q.0 c.args.self.now.limits c.args.self.now.loads c.args.self.now.stores c.args.self.now.load_done c.args.self.now.store_done c.args.self.now.barrier_done c.args.self.now.rows q.1 q.2 c.pop_front.new.self c.args.row c.args.c are q.4 q.5 at pop).0

pub overflow_sub-self-then-starts_at-2 : goal.overflow_sub-self-then-starts_at-2
overflow_sub-self-then-starts_at-2 c =
    let q = c.requires in
    let are = q.3 in
    let n = are.listed.lists in
    let at = sym c.starts_at-else-starts_at.ensures ∙ c.if-starts_at-2.true in
    let pop = popped c.args.self.now.rows c.pop_front-then-starts_at-2.new.self 4 c.args.row c.pop_front-then-starts_at-2.result (omega arith) at c.pop_front-then-starts_at-2.ensures.first c.pop_front-then-starts_at-2.ensures.lists in
    (retired-store q.0 c.args.self.now.limits c.args.self.now.loads c.args.self.now.stores c.args.self.now.load_done c.args.self.now.store_done c.args.self.now.barrier_done c.args.self.now.rows q.1 q.2 c.pop_front-then-starts_at-2.new.self c.args.row c.args.c are q.4 q.5 at pop).0

pub returns-then-starts_at : goal.returns-then-starts_at
returns-then-starts_at c = λ limits since rows are h r.
    let n = are.listed.lists in
    let at = sym c.starts_at.ensures ∙ c.if-starts_at.true in
    let pop = popped c.args.self.now.rows c.pop_front.new.self 3 c.args.row c.pop_front.result (omega arith) at c.pop_front.ensures.first c.pop_front.ensures.lists in
    (retired-load limits c.args.self.now.limits c.args.self.now.loads c.args.self.now.stores c.args.self.now.load_done c.args.self.now.store_done c.args.self.now.barrier_done c.args.self.now.rows since rows c.pop_front.new.self c.args.row c.args.c are h r at pop).1

pub returns-then-starts_at-2 : goal.returns-then-starts_at-2
returns-then-starts_at-2 c = λ limits since rows are h r.
    let n = are.listed.lists in
    let at = sym c.starts_at-else-starts_at.ensures ∙ c.if-starts_at-2.true in
    let pop = popped c.args.self.now.rows c.pop_front-then-starts_at-2.new.self 4 c.args.row c.pop_front-then-starts_at-2.result (omega arith) at c.pop_front-then-starts_at-2.ensures.first c.pop_front-then-starts_at-2.ensures.lists in
    (retired-store limits c.args.self.now.limits c.args.self.now.loads c.args.self.now.stores c.args.self.now.load_done c.args.self.now.store_done c.args.self.now.barrier_done c.args.self.now.rows since rows c.pop_front-then-starts_at-2.new.self c.args.row c.args.c are h r at pop).1

pub returns-else-starts_at-2 : goal.returns-else-starts_at-2
returns-else-starts_at-2 c = λ limits since rows are h r.
    retired-barrier limits c.args.self.now.limits c.args.self.now.loads c.args.self.now.stores c.args.self.now.load_done c.args.self.now.store_done c.args.self.now.barrier_done c.args.self.now.rows since rows c.args.row c.args.c are h r (sym c.starts_at.ensures ∙ c.if-starts_at.false) (sym c.starts_at-else-starts_at.ensures ∙ c.if-starts_at-2.false)

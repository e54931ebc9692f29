use Rattle.std.proofs.Common.{ap, arith}
use Rattle.node_pool.specs.Pool.{Pool}
use Rattle.mem_queues.proofs.Changes.{spare-two, entered-load, entered-store, entered-barrier}
use Rattle.mem_queues.proofs.queues.MemQueues.enter.Goals as goal

pub push_back-requires-clause-spare : goal.push_back-requires-clause-spare
push_back-requires-clause-spare c =
    let q = c.requires in
    let two = spare-two q.0 c.args.self.now.limits c.args.self.now.loads c.args.self.now.stores c.args.self.now.load_done c.args.self.now.store_done c.args.self.now.barrier_done c.args.self.now.rows q.1 q.2 q.3 q.6 in
    omega arith

pub push_back-requires-in-Load-clause-spare : goal.push_back-requires-in-Load-clause-spare
push_back-requires-in-Load-clause-spare c =
    let q = c.requires in
    let two = spare-two q.0 c.args.self.now.limits c.args.self.now.loads c.args.self.now.stores c.args.self.now.load_done c.args.self.now.store_done c.args.self.now.barrier_done c.args.self.now.rows q.1 q.2 q.3 q.6 in
    let s = ap (λ (p : Pool). p.spare) c.push_back.ensures in
    omega arith

pub push_back-requires-in-Store-clause-spare : goal.push_back-requires-in-Store-clause-spare
push_back-requires-in-Store-clause-spare c =
    let q = c.requires in
    let two = spare-two q.0 c.args.self.now.limits c.args.self.now.loads c.args.self.now.stores c.args.self.now.load_done c.args.self.now.store_done c.args.self.now.barrier_done c.args.self.now.rows q.1 q.2 q.3 q.6 in
    omega arith

pub push_back-requires-in-Store-2-clause-spare : goal.push_back-requires-in-Store-2-clause-spare
push_back-requires-in-Store-2-clause-spare c =
    let q = c.requires in
    let two = spare-two q.0 c.args.self.now.limits c.args.self.now.loads c.args.self.now.stores c.args.self.now.load_done c.args.self.now.store_done c.args.self.now.barrier_done c.args.self.now.rows q.1 q.2 q.3 q.6 in
    let s = ap (λ (p : Pool). p.spare) c.push_back-in-Store.ensures in
    omega arith

pub push_back-requires-in-Barrier-clause-spare : goal.push_back-requires-in-Barrier-clause-spare
push_back-requires-in-Barrier-clause-spare c =
    let q = c.requires in
    let two = spare-two q.0 c.args.self.now.limits c.args.self.now.loads c.args.self.now.stores c.args.self.now.load_done c.args.self.now.store_done c.args.self.now.barrier_done c.args.self.now.rows q.1 q.2 q.3 q.6 in
    omega arith

pub returns-in-Load : goal.returns-in-Load
returns-in-Load c = λ limits since rows are real few below.
    rw c.in-Load.is (entered-load limits c.args.self.now.limits c.args.self.now.loads c.args.self.now.stores c.args.self.now.load_done c.args.self.now.store_done c.args.self.now.barrier_done c.args.self.now.rows since rows c.push_back.new.self c.push_back-in-Load.new.self c.args.row are few below (rw c.node_of.ensures at c.push_back.ensures) (rw c.node_of-in-Load.ensures at c.push_back-in-Load.ensures))

pub returns-in-Store : goal.returns-in-Store
returns-in-Store c = λ limits since rows are real few below.
    rw c.in-Store.is (entered-store limits c.args.self.now.limits c.args.self.now.loads c.args.self.now.stores c.args.self.now.load_done c.args.self.now.store_done c.args.self.now.barrier_done c.args.self.now.rows since rows c.push_back-in-Store.new.self c.push_back-in-Store-2.new.self c.args.row are few below (rw c.node_of-in-Store.ensures at c.push_back-in-Store.ensures) (rw c.node_of-in-Store-2.ensures at c.push_back-in-Store-2.ensures))

pub returns-in-Barrier : goal.returns-in-Barrier
returns-in-Barrier c = λ limits since rows are real few below.
    rw c.in-Barrier.is (entered-barrier limits c.args.self.now.limits c.args.self.now.loads c.args.self.now.stores c.args.self.now.load_done c.args.self.now.store_done c.args.self.now.barrier_done c.args.self.now.rows since rows c.push_back-in-Barrier.new.self c.args.row are few below (rw c.node_of-in-Barrier.ensures at c.push_back-in-Barrier.ensures))

pub returns-in-Plain : goal.returns-in-Plain
returns-in-Plain c = λ limits since rows are real few below.
    absurd (let e = rw c.in-Plain.is at real in cc e)

use Rattle.std.proofs.Common.{◌-◌, ◌∙◌, ◌++◌, ◌∷◌, [], arith}
use Rattle.std.proofs.lemmas.List.{with_items_is}
use Rattle.node_pool.specs.Pool.{list_of}
use Rattle.issue_queues.specs.Waiting.{Waiting, lane_of}
use Rattle.issue_queues.specs.Queues.{node_of, named}
use Rattle.issue_queues.proofs.Rows.{spare-some, entered, entered-ready, entered-unready, same-lists}
use Rattle.issue_queues.proofs.queues.Queues.enter.Goals as goal

pub lane_of-requires : goal.lane_of-requires
lane_of-requires c =
    let q = c.requires in
    let k = q.2 in
    rw c.deref.ensures.value k.body

pub push_back-requires-clause-list : goal.push_back-requires-clause-list
push_back-requires-clause-list c =
    let q = c.requires in
    let k = q.2 in
    rw (c.lane_of.ensures, c.deref.ensures.value) (let a = k.lane c.args.row in let b = k.lists in omega arith)

pub push_back-requires-clause-spare : goal.push_back-requires-clause-spare
push_back-requires-clause-spare c =
    let q = c.requires in
    spare-some q.0 c.args.self.now.bounds.items c.args.self.now.held.items c.args.self.now.lanes.items c.args.self.now.count c.args.self.now.ready q.1 q.2 q.5

pub returns-then-ready-clause-stands : goal.returns-then-ready-clause-stands
returns-then-ready-clause-stands c = λ m rows kept naming few below.
    let x : Waiting = record { row = c.args.row; uses = named c.args.b.now; ready = c.args.ready } in
    let lane = lane_of c.args.self.now.lanes.items c.args.row in
    let pool = c.args.self.now.ready in
    let e = rw (c.lane_of.ensures, c.deref.ensures.value, c.node_of.ensures) at c.push_back.ensures in
    let s = same-lists pool c.push_back.new.self lane (list_of pool lane ++ node_of x ∷ []) (pool.spare - 1) e in
    let some = spare-some m c.args.self.now.bounds.items c.args.self.now.held.items c.args.self.now.lanes.items c.args.self.now.count c.args.self.now.ready rows kept few in
    let w = with_items_is c.args.self.now.held c.take_entries.new.held (let z = c.take_entries.auto.held in let y = c.deref_mut.ensures.len in omega arith) in
    rw w (entered m c.args.self.now.bounds.items c.args.self.now.held.items c.take_entries.new.held c.args.self.now.lanes.items c.args.self.now.count pool c.push_back.new.self rows x kept few below (let z = c.take_entries.auto.held in let y = c.deref_mut.ensures.len in omega arith) (λ r h. let q = rw (c.deref_mut.ensures.value, c.uses_of.ensures) at c.take_entries.ensures in q r h) (s.0 ∙ kept.lists) (entered-ready m c.args.self.now.bounds.items c.args.self.now.held.items c.args.self.now.lanes.items c.args.self.now.count pool c.push_back.new.self rows x kept c.if-ready.true e) (rw c.if-ready.true (let t = s.1 in omega arith)))

pub returns-else-ready-clause-stands : goal.returns-else-ready-clause-stands
returns-else-ready-clause-stands c = λ m rows kept naming few below.
    let w = with_items_is c.args.self.now.held c.take_entries.new.held (let z = c.take_entries.auto.held in let y = c.deref_mut.ensures.len in omega arith) in
    rw w (entered m c.args.self.now.bounds.items c.args.self.now.held.items c.take_entries.new.held c.args.self.now.lanes.items c.args.self.now.count c.args.self.now.ready c.args.self.now.ready rows (record { row = c.args.row; uses = named c.args.b.now; ready = c.args.ready }) kept few below (let z = c.take_entries.auto.held in let y = c.deref_mut.ensures.len in omega arith) (λ r h. let q = rw (c.deref_mut.ensures.value, c.uses_of.ensures) at c.take_entries.ensures in q r h) kept.lists (entered-unready m c.args.self.now.bounds.items c.args.self.now.held.items c.args.self.now.lanes.items c.args.self.now.count c.args.self.now.ready rows (record { row = c.args.row; uses = named c.args.b.now; ready = c.args.ready }) kept c.if-ready.false) (rw c.if-ready.false (omega arith)))

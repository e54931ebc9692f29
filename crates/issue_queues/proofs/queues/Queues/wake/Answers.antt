use Rattle.std.proofs.Common.{sym, ◌∙◌, arith}
use Rattle.issue_queues.specs.Waiting.{lane_of}
use Rattle.issue_queues.specs.Queues.{in_lane}
use Rattle.issue_queues.proofs.Rows.{told}
use Rattle.issue_queues.proofs.Wakes.{spare-for, ready-sorted, waked, woken-same, other-option, same-option}
use Rattle.issue_queues.proofs.queues.Queues.wake.Goals as goal

pub lane_of-lane-requires : goal.lane_of-lane-requires
lane_of-lane-requires c =
    let q = c.requires in
    let k = q.2 in
    rw c.deref.ensures.value k.body

pub first_in-requires : goal.first_in-requires
first_in-requires c =
    let q = c.requires in
    let k = q.2 in
    rw (c.lane_of-lane.ensures, c.deref.ensures.value) (let a = k.lane c.args.row in let b = k.lists in omega arith)

pub insert_sorted-requires-clause-list : goal.insert_sorted-requires-clause-list
insert_sorted-requires-clause-list c =
    let q = c.requires in
    let k = q.2 in
    rw (c.lane_of-lane.ensures, c.deref.ensures.value) (let a = k.lane c.args.row in let b = k.lists in omega arith)

pub insert_sorted-requires-clause-spare : goal.insert_sorted-requires-clause-spare
insert_sorted-requires-clause-spare c =
    let q = c.requires in
    let f = rw (c.lane_of-lane.ensures, c.deref.ensures.value) at c.first_in.ensures in
    let e = told q.0 c.args.self.now.bounds.items c.args.self.now.held.items c.args.self.now.lanes.items c.args.self.now.count c.args.self.now.ready q.1 c.args.row (lane_of c.args.self.now.lanes.items c.args.row) c.first_in.result q.2 (let k = q.2 in k.lane c.args.row) f in
    spare-for q.0 c.args.self.now.bounds.items c.args.self.now.held.items c.args.self.now.lanes.items c.args.self.now.count c.args.self.now.ready q.1 c.args.row q.2 q.3 (λ h. other-option c.first_in.result c.args.row c.if-ne.ensures (e ∙ h))

pub insert_sorted-requires-clause-sorted : goal.insert_sorted-requires-clause-sorted
insert_sorted-requires-clause-sorted c =
    let q = c.requires in
    let k = q.2 in
    rw (c.lane_of-lane.ensures, c.deref.ensures.value, k.ready (lane_of c.args.self.now.lanes.items c.args.row) (k.lane c.args.row)) (ready-sorted (in_lane c.args.self.now.lanes.items (lane_of c.args.self.now.lanes.items c.args.row)) q.1 k.order)

pub returns-then-ne-clause-stands : goal.returns-then-ne-clause-stands
returns-then-ne-clause-stands c = λ m rows kept in_rows.
    let f = rw (c.lane_of-lane.ensures, c.deref.ensures.value) at c.first_in.ensures in
    let e = told m c.args.self.now.bounds.items c.args.self.now.held.items c.args.self.now.lanes.items c.args.self.now.count c.args.self.now.ready rows c.args.row (lane_of c.args.self.now.lanes.items c.args.row) c.first_in.result kept (kept.lane c.args.row) f in
    let i = rw (c.lane_of-lane.ensures, c.deref.ensures.value, c.node_of.ensures) at c.insert_sorted.ensures in
    waked m c.args.self.now.bounds.items c.args.self.now.held.items c.args.self.now.lanes.items c.args.self.now.count c.args.self.now.ready c.insert_sorted.new.self rows c.args.row kept in_rows (λ h. other-option c.first_in.result c.args.row c.if-ne.ensures (e ∙ h)) i

pub returns-else-ne-clause-stands : goal.returns-else-ne-clause-stands
returns-else-ne-clause-stands c = λ m rows kept in_rows.
    let f = rw (c.lane_of-lane.ensures, c.deref.ensures.value) at c.first_in.ensures in
    let e = told m c.args.self.now.bounds.items c.args.self.now.held.items c.args.self.now.lanes.items c.args.self.now.count c.args.self.now.ready rows c.args.row (lane_of c.args.self.now.lanes.items c.args.row) c.first_in.result kept (kept.lane c.args.row) f in
    rw (woken-same (in_lane c.args.self.now.lanes.items (lane_of c.args.self.now.lanes.items c.args.row)) c.args.row rows kept.order in_rows (sym e ∙ same-option c.first_in.result c.args.row c.if-ne.ensures)) kept

use Rattle.std.proofs.Common.{◌∙◌, ◌+◌, sym, refl, ◌&&◌, nat_le, nat_lt, arith}
use Rattle.issue_queues.specs.Waiting.{lane_of}
use Rattle.issue_queues.specs.Queues.{in_lane}
use Rattle.issue_queues.proofs.Rows.{each_lane, told, first-lesser, first-none, first-same, lane-all, lane-more, lane-none, and-true}
use Rattle.issue_queues.proofs.queues.Queues.ready.Goals as goal

pub first_in-requires : goal.first_in-requires
first_in-requires c =
    let q = c.requires in
    let k = q.2 in
    let b = k.lists in
    omega arith

pub loop-lane-init : goal.loop-lane-init
loop-lane-init c = λ m rows kept.
    sym (first-none _ rows (λ row. lane-none c.args.from (lane_of c.args.self.now.lanes.items row) row each_lane))

pub loop-lane-preserved : goal.loop-lane-preserved
loop-lane-preserved c = λ m rows kept.
    let f = told m c.args.self.now.bounds.items c.args.self.now.held.items c.args.self.now.lanes.items c.args.self.now.count c.args.self.now.ready rows c.args.from c.loop-lane.lane c.first_in.result kept c.loop-lane-test.true c.first_in.ensures in
    c.lesser-least.ensures ∙ rw (c.loop-lane.invariant m rows kept, f) (sym (first-lesser (λ row. nat_le c.args.from row && (nat_lt (lane_of c.args.self.now.lanes.items row) c.loop-lane.lane && each_lane (lane_of c.args.self.now.lanes.items row))) (λ row. nat_le c.args.from row && in_lane c.args.self.now.lanes.items c.loop-lane.lane row) (λ row. nat_le c.args.from row && (nat_lt (lane_of c.args.self.now.lanes.items row) (c.loop-lane.lane + 1) && each_lane (lane_of c.args.self.now.lanes.items row))) rows kept.order (λ row. lane-more c.args.from c.loop-lane.lane (lane_of c.args.self.now.lanes.items row) row each_lane refl)))

pub returns : goal.returns
returns c = λ m rows kept.
    c.loop-lane.invariant m rows kept ∙ first-same _ _ rows (λ row. lane-all c.args.from c.loop-lane.lane (lane_of c.args.self.now.lanes.items row) row each_lane (let a = kept.lane row in omega arith) ∙ and-true (nat_le c.args.from row))

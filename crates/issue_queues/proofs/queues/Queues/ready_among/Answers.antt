use Rattle.std.proofs.Common.{inl, inr, refl, ◌∙◌, ◌+◌, sym, ◌&&◌, nat_le, nat_lt, arith}
use Rattle.unit_sets.specs.Members.{in_word}
use Rattle.std.specs.List.{slice_get}
use Rattle.std.specs.Option.{option_map}
use Rattle.std.proofs.lemmas.Bool.{cases_Bool}
use Rattle.node_pool.specs.Pool.{before_key, list_of}
use Rattle.node_pool.specs.declared.node.Node.{Node}
use Rattle.issue_queues.specs.Waiting.{lane_of}
use Rattle.issue_queues.specs.Queues.{in_lane}
use Rattle.issue_queues.proofs.Rows.{told, first-lesser, first-none, first-same, lane-all, lane-more, lane-less, lane-none}
use Rattle.issue_queues.proofs.queues.Queues.ready_among.Goals as goal

pub lesser_among-least-requires-clause-list : goal.lesser_among-least-requires-clause-list
lesser_among-least-requires-clause-list c =
    let q = c.requires in
    let k = q.2 in
    let b = k.lists in
    omega arith

pub lesser_among-least-requires-clause-few : goal.lesser_among-least-requires-clause-few
lesser_among-least-requires-clause-few c =
    let q = c.requires in
    let k = q.2 in
    let b = k.few in
    omega arith

pub loop-lane-init : goal.loop-lane-init
loop-lane-init c = λ m rows kept.
    sym (first-none _ rows (λ row. lane-none c.args.from (lane_of c.args.self.now.lanes.items row) row (in_word c.args.among)))

pub loop-lane-preserved : goal.loop-lane-preserved
loop-lane-preserved c = λ m rows kept.
    let lanes = c.args.self.now.lanes.items in
    let lane = c.loop-lane.lane in
    let pool = c.args.self.now.ready in
    let f = told m c.args.self.now.bounds.items c.args.self.now.held.items c.args.self.now.lanes.items c.args.self.now.count c.args.self.now.ready rows c.args.from lane (option_map (λ (n : Node). n.value) (slice_get (list_of pool lane) (before_key c.args.from (list_of pool lane)))) kept c.loop-lane-test.true refl in
    c.lesser_among-least.ensures ∙ elim (cases_Bool (in_word c.args.among lane)) [
      | inl t ↦ rw (t, c.loop-lane.invariant m rows kept, f) (sym (first-lesser (λ row. nat_le c.args.from row && (nat_lt (lane_of c.args.self.now.lanes.items row) c.loop-lane.lane && in_word c.args.among (lane_of c.args.self.now.lanes.items row))) (λ row. nat_le c.args.from row && in_lane c.args.self.now.lanes.items c.loop-lane.lane row) (λ row. nat_le c.args.from row && (nat_lt (lane_of c.args.self.now.lanes.items row) (c.loop-lane.lane + 1) && in_word c.args.among (lane_of c.args.self.now.lanes.items row))) rows kept.order (λ row. lane-more c.args.from lane (lane_of lanes row) row (in_word c.args.among) t)))
      | inr n ↦ rw (n, c.loop-lane.invariant m rows kept) (sym (first-same (λ row. nat_le c.args.from row && (nat_lt (lane_of c.args.self.now.lanes.items row) (c.loop-lane.lane + 1) && in_word c.args.among (lane_of c.args.self.now.lanes.items row))) (λ row. nat_le c.args.from row && (nat_lt (lane_of c.args.self.now.lanes.items row) c.loop-lane.lane && in_word c.args.among (lane_of c.args.self.now.lanes.items row))) rows (λ row. lane-less c.args.from lane (lane_of lanes row) row (in_word c.args.among) n)))
    ]

pub returns : goal.returns
returns c = λ m rows kept.
    c.loop-lane.invariant m rows kept ∙ first-same _ _ rows (λ row. lane-all c.args.from c.loop-lane.lane (lane_of c.args.self.now.lanes.items row) row (in_word c.args.among) (let a = kept.lane row in omega arith))

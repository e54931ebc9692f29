use Rattle.std.proofs.Common.{◌≡◌, ◌&&◌, List, nat_le, nat_lt}
use Rattle.unit_sets.specs.Members.{in_word}
use Rattle.machine_model.specs.Meaning.{MachineMeaning}
use Rattle.issue_queues.specs.Waiting.{Waiting, first_ready, lane_of}
use Rattle.issue_queues.specs.Queues.{StandsFor}
use Rattle.issue_queues.proofs.queues.Queues.ready_among.Given as goal

abbrev pub invariant-loop-lane : goal.invariant-loop-lane
invariant-loop-lane l = (m : MachineMeaning) (rows : List Waiting) → StandsFor m l.self rows → l.least ≡ first_ready (λ row. nat_le l.from row && (nat_lt (lane_of l.self.lanes.items row) l.lane && in_word l.among (lane_of l.self.lanes.items row))) rows

use Rattle.std.proofs.Common.{◌≡◌, length, arith}
use Rattle.std.proofs.lemmas.List.{with_items_is}
use Rattle.issue_queues.specs.Queues.{named}
use Rattle.issue_queues.proofs.Wakes.{left}
use Rattle.issue_queues.proofs.queues.Queues.leave.Goals as goal

pub lane_of-requires : goal.lane_of-requires
lane_of-requires c =
    let q = c.requires in
    let k = q.3 in
    rw c.deref.ensures.value k.body

pub remove-requires : goal.remove-requires
remove-requires c =
    let q = c.requires in
    let k = q.3 in
    rw (c.lane_of.ensures, c.deref.ensures.value) (let a = k.lane c.args.row in let b = k.lists in omega arith)

pub returns-clause-stands : goal.returns-clause-stands
returns-clause-stands c = λ m rows i kept naming at.
    let size : length c.free_entries.new.held ≡ length c.args.self.now.held.items = let z = c.free_entries.auto.held in let y = c.deref_mut.ensures.len in let n = c.args.self.now.held.ok.0 in omega arith in
    let w = with_items_is c.args.self.now.held c.free_entries.new.held (let z = c.free_entries.auto.held in let y = c.deref_mut.ensures.len in omega arith) in
    let found = rw (c.lane_of.ensures, c.deref.ensures.value) at c.remove.ensures.found in
    let lists = rw (c.lane_of.ensures, c.deref.ensures.value) at c.remove.ensures.lists in
    rw w (left m c.args.self.now.bounds.items c.args.self.now.held.items c.free_entries.new.held c.args.self.now.lanes.items c.args.self.now.count c.args.self.now.ready c.remove.new.self rows c.args.row (named c.args.b.now) i c.remove.result kept at size (λ r h. let q = rw (c.deref_mut.ensures.value, c.uses_of.ensures) at c.free_entries.ensures in q r h) found lists)

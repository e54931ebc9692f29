use Rattle.std.proofs.Common.{◌∙◌}
use Rattle.issue_queues.specs.Queues.{named}
use Rattle.issue_queues.proofs.Rows.{entries-told, named-within}
use Rattle.issue_queues.proofs.queues.Queues.has_entry.Goals as goal

pub returns : goal.returns
returns c = λ m rows kept naming.
    c.have_room.ensures ∙ rw (c.deref.ensures.value, c.deref-2.ensures.value, c.uses_of.ensures) (entries-told m c.args.self.now.bounds.items c.args.self.now.held.items c.args.self.now.lanes.items c.args.self.now.count c.args.self.now.ready rows (named c.args.b.now) kept (named-within m c.args.b.now naming))

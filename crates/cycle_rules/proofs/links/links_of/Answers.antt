use Rattle.std.proofs.Common.{take, map, sym, ap}
use Rattle.cycle_rules.specs.Bind.{row_of}
use Rattle.cycle_rules.specs.Row.{Row}
use Rattle.cycle_rules.proofs.Producers.{links_told}
use Rattle.cycle_rules.proofs.links.links_of.Goals as goal

pub link_of-first-requires-clause-classes : goal.link_of-first-requires-clause-classes
link_of-first-requires-clause-classes g c = c.requires.b.row.reads

pub link_of-second-requires-clause-classes : goal.link_of-second-requires-clause-classes
link_of-second-requires-clause-classes g c = c.requires.b.row.reads

pub returns-clause-links : goal.returns-clause-links
returns-clause-links g c = links_told (g.M.Machine.meaning c.args.machine.now) (map row_of c.args.body.now) c.args.place (take c.args.b.now.read_count c.args.b.now.reads) (record { first = c.link_of-first.result; second = c.link_of-second.result })
    c.requires.b.row.reads_few (sym (ap (λ (b : Row). b.reads) c.requires.here)) c.link_of-first.ensures.some c.link_of-first.ensures.none c.link_of-second.ensures.some c.link_of-second.ensures.none

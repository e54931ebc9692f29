use Rattle.std.proofs.Common.{◌≡◌, take}
use Rattle.cycle_rules.specs.Pick.{taken_by}
use Rattle.dep_graph.specs.Holders.{noted}
use Rattle.dep_graph.proofs.holders.note.Given as goal

abbrev pub invariant-loop-x : goal.invariant-loop-x
invariant-loop-x l = l.last ≡ noted l.place (taken_by l.c (take l.x l.uses) l.taken) l.fn.last

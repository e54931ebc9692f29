use Rattle.std.proofs.Common.{◌≡◌, true, take}
use Rattle.std.specs.List.{list_all}
use Rattle.cycle_rules.specs.Given.{input_in}
use Rattle.cycle_rules.specs.Issue.{has_operand}
use Rattle.cycle_rules.specs.Row.{times}
use Rattle.cycle_rules.specs.Seen.{sees}
use Rattle.cycle_rules.proofs.starts.have_operands.Given as goal

abbrev pub invariant-loop-source : goal.invariant-loop-source
invariant-loop-source g l = list_all (has_operand (input_in (g.M.Machine.meaning l.machine) l.given.body.now l.given.count) (sees (input_in (g.M.Machine.meaning l.machine) l.given.body.now l.given.count) (times l.given.rows.now) l.at.phase l.at.row l.at.cycle) l.at.row l.at.cycle) (take l.source-index l.reads) ≡ true

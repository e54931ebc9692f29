use Rattle.std.proofs.Common.{◌≡◌, ◌≤◌}
use Rattle.cycle_rules.specs.Below.{all_below}
use Rattle.cycle_rules.specs.Given.{input_in, row_in}
use Rattle.cycle_rules.specs.Issue.{memory_order, older_row}
use Rattle.cycle_rules.specs.Row.{times}
use Rattle.cycle_rules.specs.Seen.{sees}
use Rattle.cycle_rules.proofs.SeenIssues.{fenced_from}
use Rattle.cycle_rules.proofs.starts.keeps_order.Given as goal

abbrev pub invariant-loop-k : goal.invariant-loop-k
invariant-loop-k g l = record {
  low : l.k ≤ l.at.row;
  fenced : l.fenced ≡ fenced_from (input_in (g.M.Machine.meaning l.machine) l.given.body.now l.given.count) l.k l.at.row;
  all : all_below l.at.row (λ k. memory_order (row_in l.given.body.now l.at.row).kind (row_in l.given.body.now k).kind (older_row (input_in (g.M.Machine.meaning l.machine) l.given.body.now l.given.count) (sees (input_in (g.M.Machine.meaning l.machine) l.given.body.now l.given.count) (times l.given.rows.now) l.at.phase l.at.row l.at.cycle) l.at.row l.at.cycle k))
      ≡ all_below l.k (λ k. memory_order (row_in l.given.body.now l.at.row).kind (row_in l.given.body.now k).kind (older_row (input_in (g.M.Machine.meaning l.machine) l.given.body.now l.given.count) (sees (input_in (g.M.Machine.meaning l.machine) l.given.body.now l.given.count) (times l.given.rows.now) l.at.phase l.at.row l.at.cycle) l.at.row l.at.cycle k));
}

abbrev pub decreases-loop-k : goal.decreases-loop-k
decreases-loop-k g l = l.k

use Rattle.cycle_rules.specs.Row.{input}
use Rattle.cycle_rules.proofs.OneRun.{table_unique}
use Rattle.cycle_rules.proofs.one_run.Goals as goal

pub returns : goal.returns
returns c = λ m body iterations. table_unique (input m body iterations)

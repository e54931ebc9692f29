use Rattle.std.proofs.Common.{List, length}
use Rattle.std.specs.declared.result.Result.{Result}
use Rattle.sched_records.specs.declared.known.Doing.TheVariants as doing
use Rattle.sched_records.specs.declared.records.Record.{Record}
use Rattle.sched_records.specs.declared.refusal.TableRefusal.{TableRefusal}
use Rattle.sched_records.specs.Tokens.{tokens_of}
use Rattle.sched_records.specs.Table.{ComesTo, nothing_known}
use Rattle.sched_records.proofs.table.read_table.Given as goal

-- whatever comes of the tokens that are left, comes of the text
abbrev pub invariant-phrases : goal.invariant-phrases
invariant-phrases l = (answer : Result (List Record) TableRefusal) → ComesTo answer l.known l.doing l.tokens → ComesTo answer nothing_known doing.Item (tokens_of l.text)

abbrev pub decreases-phrases : goal.decreases-phrases
decreases-phrases l = length l.tokens

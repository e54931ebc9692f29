use Rattle.std.proofs.Common.{◌<◌, ℕ}
use Rattle.cycle_rules.specs.Given.{input_in}
use Rattle.cycle_rules.specs.Judged.{IsAsRuled}
use Rattle.cycle_rules.specs.declared.place.Field.{Field}
use Rattle.cycle_rules.proofs.judge.first_place.Given as goal

abbrev pub invariant-loop-j : goal.invariant-loop-j
invariant-loop-j g l = (k : ℕ) (field : Field) → k < l.j → IsAsRuled (input_in (g.M.Machine.meaning l.machine) l.given.body.now l.given.count) l.given.rows.now k field

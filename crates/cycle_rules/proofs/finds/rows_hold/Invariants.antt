use Rattle.std.proofs.Common.{◌≡◌, ◌<◌, ℕ, ◌&&◌, false}
use Rattle.std.specs.Prelude.{nat_eq}
use Rattle.std.specs.List.{list_any}
use Rattle.machine_model.specs.Meaning.{MachineMeaning}
use Rattle.cycle_rules.specs.Given.{input_in}
use Rattle.cycle_rules.specs.Held.{taken_of}
use Rattle.cycle_rules.specs.Pick.{holds_at}
use Rattle.cycle_rules.specs.Row.{times}
use Rattle.cycle_rules.specs.Seen.{has_issued}
use Rattle.cycle_rules.proofs.finds.rows_hold.Given as goal

abbrev pub invariant-loop-k : goal.invariant-loop-k
invariant-loop-k l = (m : MachineMeaning) (k : ℕ) → k < l.k → (has_issued (input_in m l.given.body.now l.given.count) (times l.given.rows.now) k l.at.cycle l.at.phase l.at.row
    && list_any (λ h. nat_eq h.unit l.unit && holds_at l.at.cycle h) (taken_of (input_in m l.given.body.now l.given.count) (times l.given.rows.now) k)) ≡ false

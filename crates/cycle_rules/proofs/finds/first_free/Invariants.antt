use Rattle.std.proofs.Common.{◌≡◌, ◌-◌, ◌++◌, ◌&&◌}
use Rattle.cycle_rules.specs.Below.{first_from}
use Rattle.cycle_rules.specs.Given.{input_in, earlier_at}
use Rattle.cycle_rules.specs.Pick.{is_free, taken_by}
use Rattle.cycle_rules.specs.Row.{times}
use Rattle.cycle_rules.proofs.finds.first_free.Given as goal

abbrev pub invariant-loop-unit : goal.invariant-loop-unit
invariant-loop-unit g l =
    first_from l.place (g.M.Machine.UNITS - l.place) (λ u. (g.M.Machine.meaning l.machine).units l.resource u && is_free (earlier_at (input_in (g.M.Machine.meaning l.machine) l.given.body.now l.given.count) (times l.given.rows.now) l.at.cycle l.at.phase l.at.row ++ taken_by l.at.cycle l.uses l.taken) l.at.cycle u)
    ≡ first_from l.unit (g.M.Machine.UNITS - l.unit) (λ u. (g.M.Machine.meaning l.machine).units l.resource u && is_free (earlier_at (input_in (g.M.Machine.meaning l.machine) l.given.body.now l.given.count) (times l.given.rows.now) l.at.cycle l.at.phase l.at.row ++ taken_by l.at.cycle l.uses l.taken) l.at.cycle u)

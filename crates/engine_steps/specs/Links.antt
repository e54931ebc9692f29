-- Whether the values that links name are there, and from when on.
use Rattle.std.specs.Prelude.{◌≡◌, ℕ, ◌+◌, ◌-◌, ◌%◌, List, length, Bool, not, ◌&&◌, ◌||◌, nat_lt, nat_le, nat_eq, Option, Some, None, if◌then◌else◌}
use Rattle.machine_model.specs.Meaning.{MachineMeaning}
use Rattle.cycle_rules.specs.Row.{Row, Table, input, times}
use Rattle.cycle_rules.specs.Issue.{has_operands}
use Rattle.cycle_rules.specs.declared.links.Link.{Link}
use Rattle.cycle_rules.specs.declared.links.Links.{Links}
use Rattle.cycle_rules.specs.declared.times.Times.{Times}
use Rattle.engine_state.specs.State.{never}

-- row j can read in cycle c the value of the row that a link names; where there is none, it was there before
abbrev pub is_there : Table → ℕ → ℕ → Link → Bool
is_there t j c link = nat_eq link.back 0 || (nat_lt j link.back || nat_le ((t (j - link.back)).issue + link.lead) c)

-- the links of place p of the body tell of each row there and each cycle whether the values of its reads are there
abbrev pub TellOperands : MachineMeaning → List Row → ℕ → Links → Type 0
TellOperands m body p links = (iterations j c : ℕ) (t : Table) → j % length body ≡ p
    → has_operands (input m body iterations) t j c ≡ (is_there t j c links.first && is_there t j c links.second)

-- the same of a value, by the table of what is recorded
abbrev pub was_there : List Times → ℕ → ℕ → Link → Bool
was_there table j c link = nat_eq link.back 0 || (nat_lt j link.back
    || (not (nat_eq (times table (j - link.back)).issue never) && nat_le (times table (j - link.back)).issue c && nat_le link.lead (c - (times table (j - link.back)).issue)))

-- so many cycles after a time that is recorded, or not yet
abbrev pub after : ℕ → ℕ → Option ℕ
after time n = if nat_eq time never then None else Some (time + n)

-- the first cycle in which the value is there, by the table of what is recorded
abbrev pub link_from : List Times → ℕ → Link → Option ℕ
link_from table j link = if nat_eq link.back 0 then Some 0 else (if nat_lt j link.back then Some 0 else after (times table (j - link.back)).issue link.lead)

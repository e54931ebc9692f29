-- Whether a table is the run, as a test by which worked runs are computed.
use Rattle.std.specs.Prelude.{ℕ, ◌+◌, List, length, Bool, not, ◌&&◌, nat_eq, if◌then◌else◌}
use Rattle.std.specs.Cmp.Lexicographic.{pointwise}
use Rattle.cycle_rules.specs.Below.{all_below}
use Rattle.cycle_rules.specs.Row.{Input, Table, times, phase}
use Rattle.cycle_rules.specs.Pick.{pick, padded}
use Rattle.cycle_rules.specs.Dispatch.{can_dispatch}
use Rattle.cycle_rules.specs.Issue.{can_issue}
use Rattle.cycle_rules.specs.Retire.{can_retire}
use Rattle.cycle_rules.specs.Seen.{sees}
use Rattle.cycle_rules.specs.declared.times.Times.{Times}

-- c is the first number that passes
abbrev pub first_at : (ℕ → Bool) → ℕ → Bool
first_at p c = p c && all_below c (λ b. not (p b))

abbrev pub row_passes : Input → Table → ℕ → Bool
row_passes g t j = first_at (λ c. can_dispatch g (sees g t 2 j c) j c) (t j).dispatch
    && (if (g.row j).reserved then nat_eq (t j).issue (t j).dispatch else first_at (λ c. can_issue g (sees g t 1 j c) j c) (t j).issue)
    && pointwise nat_eq (t j).units (padded (pick g (sees g t (phase (g.row j)) j (t j).issue) j (t j).issue))
    && nat_eq (t j).complete ((t j).issue + (g.row j).latency)
    && first_at (λ c. can_retire g (sees g t 0 j c) j c) (t j).retire

abbrev pub passes : Input → List Times → Bool
passes g table = nat_eq (length table) g.rows && all_below g.rows (row_passes g (times table))

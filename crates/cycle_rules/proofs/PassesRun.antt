-- The test tells runs from other tables.
use Rattle.std.proofs.Common.{◌≡◌, ℕ, Bool, true, false, not, List, length, nat_eq}
use Rattle.std.proofs.lemmas.Bool.{and_parts, and_from, not-true, not_from_false, eqb-true, eq-eqb}
use Rattle.std.specs.Bool.{Decides}
use Rattle.std.specs.Cmp.Lexicographic.{bytes_decides}
use Rattle.std.specs.Prelude.{if◌then◌else◌}
use Rattle.cycle_rules.specs.Below.{all_below, Least}
use Rattle.cycle_rules.specs.Issue.{can_issue}
use Rattle.cycle_rules.specs.Row.{Input, Table, times}
use Rattle.cycle_rules.specs.Run.{IsIssue, IsRow, IsRunOf}
use Rattle.cycle_rules.specs.Seen.{sees}
use Rattle.cycle_rules.proofs.Check.{first_at, row_passes, passes}
use Rattle.cycle_rules.specs.declared.times.Times.{Times}
use Rattle.cycle_rules.proofs.Tests.{all_hold, all_holds}

first_least : (p : ℕ → Bool) (c : ℕ) → first_at p c ≡ true → Least p c
first_least p c h =
    let parts : (p c ≡ true) × (all_below c (λ b. not (p b)) ≡ true) = and_parts (p c) (all_below c (λ b. not (p b))) h in
    record { holds = parts.0; below = λ b lt. not-true (p b) (all_holds c (λ k. not (p k)) parts.1 b lt) }

least_first : (p : ℕ → Bool) (c : ℕ) → Least p c → first_at p c ≡ true
least_first p c l = and_from (p c) (all_below c (λ b. not (p b))) l.holds (all_hold c (λ b. not (p b)) (λ b lt. not_from_false (p b) (l.below b lt)))

abbrev issue_passes : Input → Table → ℕ → Bool → Bool
issue_passes g t j reserved = if reserved then nat_eq (t j).issue (t j).dispatch else first_at (λ c. can_issue g (sees g t 1 j c) j c) (t j).issue

issue_is : (g : Input) (t : Table) (j : ℕ) (reserved : Bool) → issue_passes g t j reserved ≡ true → IsIssue g t j reserved
issue_is g t j true h = eqb-true _ _ h
issue_is g t j false h = first_least _ _ h

is_issue : (g : Input) (t : Table) (j : ℕ) (reserved : Bool) → IsIssue g t j reserved → issue_passes g t j reserved ≡ true
is_issue g t j true i = eq-eqb _ _ i
is_issue g t j false i = least_first _ _ i

row_is : (g : Input) (t : Table) (j : ℕ) → row_passes g t j ≡ true → IsRow g t j
row_is g t j h =
    let retires = and_parts _ _ h in
    let completes = and_parts _ _ retires.0 in
    let takes = and_parts _ _ completes.0 in
    let issues = and_parts _ _ takes.0 in
    record {
      dispatch = first_least _ _ issues.0;
      issue = issue_is g t j (g.row j).reserved issues.1;
      units = (bytes_decides _ _).0 takes.1;
      complete = eqb-true _ _ completes.1;
      retire = first_least _ _ retires.1;
    }

is_row : (g : Input) (t : Table) (j : ℕ) → IsRow g t j → row_passes g t j ≡ true
is_row g t j r =
    and_from _ _ (and_from _ _ (and_from _ _ (and_from _ _
    (least_first _ _ r.dispatch)
    (is_issue g t j (g.row j).reserved r.issue))
    ((bytes_decides _ _).1 r.units))
    (eq-eqb _ _ r.complete))
    (least_first _ _ r.retire)

pub passes_decides : (g : Input) (table : List Times) → Decides (passes g table) (IsRunOf g table)
passes_decides g table = (
  (λ h. let parts : (nat_eq (length table) g.rows ≡ true) × (all_below g.rows (row_passes g (times table)) ≡ true) = and_parts (nat_eq (length table) g.rows) (all_below g.rows (row_passes g (times table))) h in
      record { rows = eqb-true _ _ parts.0; each = λ j low. row_is g (times table) j (all_holds g.rows (row_passes g (times table)) parts.1 j low) }),
  (λ r. and_from _ _ (eq-eqb _ _ r.rows) (all_hold g.rows (row_passes g (times table)) (λ j low. is_row g (times table) j (r.each j low)))),
)

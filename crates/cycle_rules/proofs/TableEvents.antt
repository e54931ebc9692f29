-- The events of a table, and a row as the rules say in the words of events.
use Rattle.std.specs.Prelude.{zero, suc, ◌≡◌, ℕ, ◌+◌, ◌/◌, ◌%◌, ◌<◌, List, [], Bool, true, false, Option, Some, None, nat_lt, if◌then◌else◌}
use Rattle.cycle_rules.specs.Below.{Least}
use Rattle.cycle_rules.specs.Schedule.{Fall, Known, key, seen, event}
use Rattle.cycle_rules.specs.Row.{Row, Input, Table, phase}
use Rattle.cycle_rules.specs.Pick.{pick, padded}
use Rattle.cycle_rules.specs.Dispatch.{can_dispatch}
use Rattle.cycle_rules.specs.Issue.{can_issue}
use Rattle.cycle_rules.specs.Retire.{can_retire}
use Rattle.cycle_rules.specs.Events.{events, in_cycle}
use Rattle.cycle_rules.specs.declared.times.Times.{Times}

-- an event of a row by its phase; a reserved row has no event of its own for its issue
abbrev pub event_in : Row → Times → ℕ → Option (Fall (List ℕ))
event_in b t zero = Some (record { cycle = t.retire; what = [] })
event_in b t (suc zero) = if b.reserved then None else Some (record { cycle = t.issue; what = t.units })
event_in b t (suc (suc p)) = Some (record { cycle = t.dispatch; what = if b.reserved then t.units else [] })

abbrev pub events_of : Input → Table → Known (List ℕ)
events_of g t e = if nat_lt e (events g) then event_in (g.row (e % g.rows)) (t (e % g.rows)) (e / g.rows) else None

-- what row j sees of the events of a table
abbrev pub sees_events : Input → Table → ℕ → ℕ → ℕ → Table
sees_events g t p j c = in_cycle g c (seen (events g) (key (events g) c (event g.rows p j)) (events_of g t))

-- what the issue of a row settles: that of a reserved row is its dispatch, and the completion follows
pub record IsKept (b : Row) (t : Times) : Type 0 where
  pub together : b.reserved ≡ true → t.issue ≡ t.dispatch
  pub complete : t.complete ≡ t.issue + b.latency

abbrev pub IsEventIssue : Input → Table → ℕ → Bool → Type 0
IsEventIssue g t j true = (t j).issue ≡ (t j).dispatch
IsEventIssue g t j false = Least (λ c. can_issue g (sees_events g t 1 j c) j c) (t j).issue

pub record IsEventRow (g : Input) (t : Table) (j : ℕ) : Type 0 where
  pub dispatch : Least (λ c. can_dispatch g (sees_events g t 2 j c) j c) (t j).dispatch
  pub issue : IsEventIssue g t j (g.row j).reserved
  pub units : (t j).units ≡ padded (pick g (sees_events g t (phase (g.row j)) j (t j).issue) j (t j).issue)
  pub complete : (t j).complete ≡ (t j).issue + (g.row j).latency
  pub retire : Least (λ c. can_retire g (sees_events g t 0 j c) j c) (t j).retire

-- all times of a table lie below a bound
pub record IsWithin (g : Input) (t : Table) (bound : ℕ) : Type 0 where
  pub dispatch : (j : ℕ) → j < g.rows → (t j).dispatch < bound
  pub issue : (j : ℕ) → j < g.rows → (t j).issue < bound
  pub retire : (j : ℕ) → j < g.rows → (t j).retire < bound

-- Which rows in flight are ready to issue, and which wait for a cycle.
use Rattle.std.specs.Prelude.{◌≡◌, ℕ, ◌+◌, ◌<◌, ◌≤◌, ◌⊎◌, List, [], ◌∷◌, Bool, true, false, not, ◌&&◌, ◌||◌, nat_eq, nat_lt, Some, if◌then◌else◌}
use Rattle.machine_model.specs.declared.facts.Use.{Use}
use Rattle.cycle_rules.specs.Row.{Input, times}
use Rattle.cycle_rules.specs.declared.times.Times.{Times}
use Rattle.event_rules.specs.Due.{is_ordered, ready_from}
use Rattle.event_rules.specs.Skip.{is_read_from}
use Rattle.engine_state.specs.State.{never, recorded}
use Rattle.row_sets.specs.Ready.{has_row}
use Rattle.row_sets.specs.Agenda.{time_of}
use Rattle.row_sets.specs.declared.agenda.Agenda.{Agenda}
use Rattle.engine_steps.specs.declared.wakeup.Wakeup.{Wakeup}

-- the class of the rows with some uses: the resource of the one use, where it holds its unit and has a number below 63; else 63
abbrev pub class_of_use : Use → ℕ
class_of_use u = if nat_eq u.hold 0 then 63 else (if nat_lt u.resource 63 then u.resource else 63)

unfoldable pub class_of : List Use → ℕ
class_of [] = 63
class_of (u ∷ []) = class_of_use u
class_of (u ∷ v ∷ rest) = 63

-- row k waits to issue, and its last operand is ready in cycle r
pub record WaitsUntil (g : Input) (table : List Times) (k r : ℕ) : Type 0 where
  pub free : (g.row k).reserved ≡ false
  pub waits : (times table k).issue ≡ never
  pub operands : ready_from g (recorded g table) k ≡ Some r

-- row k has issued, takes part in the order of memory, and completes in cycle t
pub record CompletesIn (g : Input) (table : List Times) (k t : ℕ) : Type 0 where
  pub ordered : is_ordered (g.row k).kind ≡ true
  pub issued : (times table k).issue ≡ never → ⊥
  pub complete : t ≡ (times table k).complete

-- the cycle has come and the row is among the ready ones of its class, or it is on the agenda
abbrev pub IsFound : Input → Wakeup → ℕ → ℕ → ℕ → Type 0
IsFound g w c k r = ((r ≤ c) × (has_row w.ready (class_of (g.row k).uses) k ≡ true)) ⊎ (time_of w.agenda k ≡ Some r)

-- of the rows in flight, but for those that are left out, each that waits and whose operands are ready, or will be in a cycle that is known, is found so, and on the agenda stands the completion of each that takes part in the order of memory, unless it has come;
-- and nothing else stands on it
pub record AreAwake (g : Input) (table : List Times) (w : Wakeup) (front head c : ℕ) (out : ℕ → Bool) : Type 0 where
  pub few : head ≤ front + 4096
  pub ready : (k r : ℕ) → front ≤ k → k < head → out k ≡ false → WaitsUntil g table k r → IsFound g w c k r
  pub completes : (k t : ℕ) → front ≤ k → k < head → out k ≡ false → CompletesIn g table k t → (t ≤ c) ⊎ (time_of w.agenda k ≡ Some t)
  pub exact : (k t : ℕ) → front ≤ k → k < front + 4096 → time_of w.agenda k ≡ Some t → (k < head) × (WaitsUntil g table k t ⊎ CompletesIn g table k t)

-- none is left out
abbrev pub none_out : ℕ → Bool
none_out k = false

-- row k is left out no more
abbrev pub except : ℕ → (ℕ → Bool) → ℕ → Bool
except k out i = not (nat_eq i k) && out i

-- row j, and the rows that read what it writes
abbrev pub reads_from : Input → ℕ → ℕ → Bool
reads_from g j k = nat_eq k j || is_read_from g k j

-- the cycles on the agenda come after a cycle
abbrev pub AllLater : Agenda → ℕ → Type 0
AllLater agenda c = (k t : ℕ) → time_of agenda k ≡ Some t → c < t

-- The cycles that the rows in flight wait for.
use Rattle.std.specs.Prelude.{◌≡◌, ℕ, ◌+◌, ◌<◌, ◌≤◌, Option, Some, None, if◌then◌else◌}
use Rattle.row_sets.specs.Kept.{time_in}
use Rattle.row_sets.specs.Rows.{same_place}
use Rattle.row_sets.specs.declared.agenda.Agenda.{Agenda}

-- the cycle that row k waits for, if it waits for one
abbrev pub time_of : Agenda → ℕ → Option ℕ
time_of agenda k = time_in agenda.words.items agenda.times.items k

-- the first cycle that a row waits for; a row that does stands among any 4,096 that follow one
-- another
pub record IsFirst (agenda : Agenda) (x : ℕ) : Type 0 where
  pub least : (k t : ℕ) → time_of agenda k ≡ Some t → x ≤ t
  pub row : ℕ → ℕ
  pub from : (start : ℕ) → start ≤ row start
  pub within : (start : ℕ) → row start < start + 4096
  pub waits : (start : ℕ) → time_of agenda (row start) ≡ Some x

-- no row waits for a cycle
abbrev pub NoneWaits : Agenda → Type 0
NoneWaits agenda = (k : ℕ) → time_of agenda k ≡ None

-- row k, of those from a row on, is taken off the agenda: its cycle has come
pub record IsTaken (old new : Agenda) (start c k : ℕ) : Type 0 where
  pub from : start ≤ k
  pub within : k < start + 4096
  pub time : ℕ
  pub waits : time_of old k ≡ Some time
  pub come : time ≤ c
  pub rest : (j : ℕ) → time_of new j ≡ (if same_place j k then None else time_of old j)

-- no row's cycle has come, and the agenda is as it was
pub record NoneComes (old new : Agenda) (c : ℕ) : Type 0 where
  pub later : (k t : ℕ) → time_of old k ≡ Some t → c < t
  pub rest : (j : ℕ) → time_of new j ≡ time_of old j

-- Events that fall in cycles, each in the least cycle that any given rules allow: the tool by which the laws of a run are proved. Nothing here knows a machine.
use Rattle.std.specs.Prelude.{zero, suc, ◌≡◌, ℕ, ◌+◌, ◌*◌, ◌/◌, ◌%◌, ◌<◌, Some, None, nat_lt, nat_eq, if◌then◌else◌, Bool, false, ◌&&◌}
use Rattle.std.specs.declared.option.Option.{Option}
use Rattle.cycle_rules.specs.Below.{Least}

-- when an event falls, and what it takes
pub record Fall (P : Type 0) : Type 0 where
  pub cycle : ℕ
  pub what : P

-- what is known of the events: of each, when it falls, or nothing
abbrev pub Known : Type 0 → Type 0
Known P = ℕ → Option (Fall P)

-- the events are the numbers below m; those of one cycle fall in the order of their numbers
abbrev pub key : ℕ → ℕ → ℕ → ℕ
key m c e = c * m + e

abbrev pub if_before : {P : Type 0} → ℕ → ℕ → ℕ → Option (Fall P) → Option (Fall P)
if_before m k e None = None
if_before m k e (Some f) = if nat_lt (key m f.cycle e) k then Some f else None

-- what is seen at a key: the events that fall before it
abbrev pub seen : {P : Type 0} → ℕ → ℕ → Known P → Known P
seen m k v e = if nat_lt e m then if_before m k e (v e) else None

-- the rules: by what is seen, whether an event may fall in a cycle, and what it takes
pub record Rules (P : Type 0) : Type 0 where
  pub allowed : Known P → ℕ → ℕ → Bool
  pub takes : Known P → ℕ → ℕ → P

-- an event falls in a cycle below the bound, the least one that the rules allow
pub record FallsFirst {P : Type 0} (r : Rules P) (m bound : ℕ) (v : Known P) (e : ℕ) (f : Fall P) : Type 0 where
  pub within : f.cycle < bound
  pub least : Least (λ c. r.allowed (seen m (key m c e) v) c e) f.cycle
  pub what : f.what ≡ r.takes (seen m (key m f.cycle e) v) f.cycle e

-- so it falls, or the rules allow it in no cycle below the bound
abbrev pub IsFirst : {P : Type 0} → Rules P → ℕ → ℕ → Known P → ℕ → Option (Fall P) → Type 0
IsFirst r m bound v e None = (c : ℕ) → c < bound → r.allowed (seen m (key m c e) v) c e ≡ false
IsFirst r m bound v e (Some f) = FallsFirst r m bound v e f

-- each event falls by the rules, as far as the cycles below the bound go
abbrev pub IsSchedule : {P : Type 0} → Rules P → ℕ → ℕ → Known P → Type 0
IsSchedule r m bound v = (e : ℕ) → e < m → IsFirst r m bound v e (v e)

-- The schedule, made key by key

-- the event at key k falls there, if it has not fallen and is allowed to
abbrev pub next : {P : Type 0} → Rules P → ℕ → Known P → ℕ → ℕ → Option (Fall P) → Option (Fall P)
next r m known k e (Some f) = Some f
next r m known k e None = if nat_eq e (k % m) && r.allowed known (k / m) e then Some (record { cycle = k / m; what = r.takes known (k / m) e }) else None

-- what is known when all keys below k are done
abbrev pub known_at : {P : Type 0} → Rules P → ℕ → ℕ → Known P
known_at r m zero e = None
known_at r m (suc k) e = next r m (known_at r m k) k e (known_at r m k e)

-- what is known when all cycles below the bound are done
abbrev pub made : {P : Type 0} → Rules P → ℕ → ℕ → Known P
made r m bound = known_at r m (bound * m)

-- Events of n rows in phases

-- the event of row j in phase p; the phases of a cycle come one after another, and the rows of a phase
abbrev pub event : ℕ → ℕ → ℕ → ℕ
event n p j = p * n + j

-- rules that are told by phase and row: what is seen, the cycle, the phase, the row
abbrev pub by_rows : {P : Type 0} → ℕ → (Known P → ℕ → ℕ → ℕ → Bool) → (Known P → ℕ → ℕ → ℕ → P) → Rules P
by_rows n allowed takes = record { allowed = λ known c e. allowed known c (e / n) (e % n); takes = λ known c e. takes known c (e / n) (e % n) }

-- What the parts of an engine rest on where cycles are left out: units, and shares of the width.
use Rattle.std.specs.Prelude.{ℕ, ◌+◌, ◌-◌, ◌/◌, ◌%◌, ◌≡◌, ◌≤◌, ◌<◌, List, ◌++◌, false, Some, None, nat_eq}
use Rattle.std.specs.List.{list_any}
use Rattle.machine_model.specs.Meaning.{MachineMeaning}
use Rattle.cycle_rules.specs.Row.{Input, phase}
use Rattle.cycle_rules.specs.Pick.{Taken, taken_below, pick, pick_unit}
use Rattle.cycle_rules.specs.Dispatch.{share}
use Rattle.cycle_rules.specs.Schedule.{Fall, Known, known_at}
use Rattle.cycle_rules.specs.Events.{events, known_of, in_cycle, rules_of}
use Rattle.cycle_rules.specs.Held.{changes_at}
use Rattle.event_rules.specs.Due.{changes}

-- the units of a row are the same in two cycles between which no use of a row that has issued changes
abbrev pub KeptPick : Type 0
KeptPick = (g : Input) (known : Known (List ℕ)) (a b j : ℕ) → a ≤ b → ((k : ℕ) (f : Fall (List ℕ)) → known_of g known (phase (g.row k)) k ≡ Some f → f.cycle < a)
    → ((x k : ℕ) → a < x → x ≤ b → k < g.rows → (f : Fall (List ℕ)) → known_of g known (phase (g.row k)) k ≡ Some f → list_any (nat_eq x) (changes f.cycle (g.row k).uses) ≡ false)
    → pick g (in_cycle g a known) j a ≡ pick g (in_cycle g b known) j b

-- a use that finds no unit finds none after more uses have taken units
abbrev pub StaysBlocked : Type 0
StaysBlocked = (m : MachineMeaning) (earlier more : List Taken) (c r : ℕ) → pick_unit m earlier c r ≡ None → pick_unit m (earlier ++ more) c r ≡ None

-- where no taken use changes in a cycle, no use of a row that has issued does
abbrev pub ChangeTold : Type 0
ChangeTold = (g : Input) (n a y k : ℕ) (f : Fall (List ℕ)) → k < g.rows → known_of g (known_at (rules_of g) (events g) n) (phase (g.row k)) k ≡ Some f → f.cycle < y → f.cycle ≤ a
    → list_any (changes_at g.machine y) (taken_below g (in_cycle g a (known_at (rules_of g) (events g) n)) (a + 1)) ≡ false → list_any (nat_eq y) (changes f.cycle (g.row k).uses) ≡ false

-- a share falls at these two times
pub record SharesFall : Type 0 where
  pub first : (w u d : ℕ) → 0 < u / w → share w u d (d + u / w) < share w u d (d + u / w - 1)
  pub second : (w u d : ℕ) → 0 < w → 0 < u % w → share w u d (d + u / w + 1) < share w u d (d + u / w)

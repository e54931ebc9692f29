-- An event that falls is written into the table of what is recorded.
use Rattle.std.proofs.Common.{◌≡◌, ℕ, ◌+◌, ◌<◌, List, set, refl, Bool, true, false}
use Rattle.cycle_rules.specs.Row.{Input, times}
use Rattle.cycle_rules.specs.Dispatch.{can_dispatch}
use Rattle.cycle_rules.specs.Issue.{can_issue}
use Rattle.cycle_rules.specs.Retire.{can_retire}
use Rattle.cycle_rules.specs.declared.times.Times.{Times}
use Rattle.engine_state.specs.State.{never, now, at, IsState}
use Rattle.engine_state.specs.Writes.{IsRetired, IsIssued, IsIssuedWith, IsDispatched}
use Rattle.engine_state.proofs.Turn.{retire_writes, issue_writes, dispatch_writes, dispatch_issues}

pub state_retires : (g : Input) (c j : ℕ) (xs : List Times) (v : Times) → IsState g (at g c 0 j) xs → j < g.rows → c < never → (times xs j).retire ≡ never → can_retire g (now g c xs) j c ≡ true
    → IsRetired xs j c v → IsState g (at g c 0 (j + 1)) (set xs j v)
state_retires g c j xs v s lt low none may w = retire_writes g c j xs v s lt low none may w.dispatch w.issue w.complete w.units w.retire

pub state_issues : (g : Input) (c j : ℕ) (xs : List Times) (v : Times) → IsState g (at g c 1 j) xs → j < g.rows → c < never → (g.row j).reserved ≡ false → (times xs j).issue ≡ never → can_issue g (now g c xs) j c ≡ true
    → IsIssued g xs j c v → IsState g (at g c 1 (j + 1)) (set xs j v)
state_issues g c j xs v s lt low free none may w = issue_writes g c j xs v s lt low free none may w.dispatch w.issue w.complete w.units w.retire

pub state_dispatches : (g : Input) (c j : ℕ) (xs : List Times) (v : Times) → IsState g (at g c 2 j) xs → j < g.rows → c < never → (times xs j).dispatch ≡ never → can_dispatch g (now g c xs) j c ≡ true
    → IsDispatched g xs j c v → IsState g (at g c 2 (j + 1)) (set xs j v)
state_dispatches g c j xs v s lt low none may w = go (g.row j).reserved refl w.issue
  where
    go : (b : Bool) → (g.row j).reserved ≡ b → IsIssuedWith g xs j c v b → IsState g (at g c 2 (j + 1)) (set xs j v)
    go true reserved h = dispatch_issues g c j xs v s lt low reserved none may w.dispatch h.0 h.1 h.2 w.retire
    go false free h = dispatch_writes g c j xs v s lt low free none may w.dispatch h.0 h.1 h.2 w.retire

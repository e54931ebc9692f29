-- The scopes around a place, the innermost first.
use Rattle.std.specs.Prelude.{List, [], ◌∷◌, Bool, false, not, if◌then◌else◌}
use Rattle.sched_records.specs.declared.members.Scope.{Scope}

abbrev pub closes : List Scope → Bool
closes [] = false
closes (s ∷ ss) = not s.braced

-- an item closes the scopes around it that have no braces, up to the first that has
abbrev pub closed : List Scope → List Scope
closed [] = []
closed (s ∷ ss) = if s.braced then s ∷ ss else closed ss

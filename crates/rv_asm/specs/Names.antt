-- the names of a text: its symbolic immediates, numbered in the order in which they first appear
use Rattle.std.specs.Prelude.{ℕ, List, [], ◌∷◌, ◌++◌, nat_eq, Bool, if◌then◌else◌}
use Rattle.std.specs.List.{list_any, position_or_len}
use Rattle.std.specs.Cmp.Lexicographic.{pointwise}

abbrev pub is_same : List ℕ → List ℕ → Bool
is_same name other = pointwise nat_eq name other

-- the names once this one has appeared
abbrev pub with_name : List (List ℕ) → List ℕ → List (List ℕ)
with_name names name = if list_any (is_same name) names then names else names ++ name ∷ []

-- the number of a name once it has appeared
abbrev pub number_of : List (List ℕ) → List ℕ → ℕ
number_of names name = position_or_len (is_same name) names

-- The byte order of names.
use Rattle.std.specs.Prelude.{ℕ, List, [], ◌∷◌, Bool, true, ◌&&◌}
use Rattle.std.specs.Cmp.Lexicographic.{slice_cmp}
use Rattle.std.specs.List.{list_all}
use Rattle.std.specs.Ordering.{is_lt, nat_cmp}

abbrev pub is_before : List ℕ → List ℕ → Bool
is_before a b = is_lt (slice_cmp nat_cmp a b)

-- each name stands before all that follow it
abbrev pub in_byte_order : List (List ℕ) → Bool
in_byte_order [] = true
in_byte_order (name ∷ names) = list_all (is_before name) names && in_byte_order names

-- what holds of the texts between commas
use Rattle.std.specs.Prelude.{◌≡◌, ℕ, ◌<◌, List, [], ◌∷◌, ◌++◌}
use Rattle.rv_asm.specs.Operands.{depth_after}

-- the texts with a comma between each and the next
abbrev pub joined_by_commas : List (List ℕ) → List ℕ
joined_by_commas [] = []
joined_by_commas (text ∷ []) = text
joined_by_commas (text ∷ other ∷ others) = text ++ 44 ∷ joined_by_commas (other ∷ others)

-- how many parentheses are open behind a text
abbrev pub depth_behind : ℕ → List ℕ → ℕ
depth_behind depth [] = depth
depth_behind depth (b ∷ bs) = depth_behind (depth_after depth b) bs

-- no comma stands outside parentheses, where so many are open before the text
abbrev pub AreCommasInside : ℕ → List ℕ → Type 0
AreCommasInside depth text = (front back : List ℕ) → text ≡ front ++ 44 ∷ back → 0 < depth_behind depth front

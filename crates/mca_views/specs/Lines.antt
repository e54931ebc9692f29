-- Lines of a report, and the cells that they are made of.
use Rattle.std.specs.Prelude.{zero, suc, ℕ, ◌-◌, max, nat_eq, List, [], ◌∷◌, ◌++◌, length, if◌then◌else◌}
use Rattle.mca_fixed.specs.Padding.{spaces}

-- a byte before a text that has no spaces at its end
abbrev pub before : ℕ → List ℕ → List ℕ
before b [] = if nat_eq b 32 then [] else b ∷ []
before b (c ∷ cs) = b ∷ c ∷ cs

-- a text without the spaces at its end
abbrev pub trimmed : List ℕ → List ℕ
trimmed [] = []
trimmed (b ∷ bs) = before b (trimmed bs)

-- a line: it loses the spaces at its end and ends with a line feed
abbrev pub line : List ℕ → List ℕ
line bs = trimmed bs ++ 10 ∷ []

abbrev pub lines : List (List ℕ) → List ℕ
lines [] = []
lines (l ∷ ls) = line l ++ lines ls

-- a text with spaces behind it up to n bytes, and at least one
abbrev pub cell : List ℕ → ℕ → List ℕ
cell text n = text ++ spaces (max 1 (n - length text))

-- a label and its value
abbrev pub labelled : List ℕ → List ℕ → List ℕ
labelled label value = cell label 19 ++ value

-- f 0, f 1 and so on, n of them
unfoldable pub listed : {A : Type 0} → ℕ → (ℕ → A) → List A
listed zero f = []
listed (suc n) f = listed n f ++ f n ∷ []

-- texts one after another
unfoldable pub joined : List (List ℕ) → List ℕ
joined [] = []
joined (t ∷ ts) = t ++ joined ts

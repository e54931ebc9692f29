-- A text that is filled up with spaces.
use Rattle.std.specs.Prelude.{ℕ, ◌-◌, List, ◌++◌, length, replicate}

-- so many spaces
abbrev pub spaces : ℕ → List ℕ
spaces n = replicate n 32

-- spaces before a text, up to n bytes; a text of n or more bytes stays
abbrev pub left_padded : List ℕ → ℕ → List ℕ
left_padded text n = spaces (n - length text) ++ text

-- spaces behind a text, up to n bytes; a text of n or more bytes stays
abbrev pub right_padded : List ℕ → ℕ → List ℕ
right_padded text n = text ++ spaces (n - length text)

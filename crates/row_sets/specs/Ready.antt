-- Which rows are ready, by class.
use Rattle.std.specs.Prelude.{◌≡◌, ℕ, ◌<◌, Bool, true, false}
use Rattle.unit_sets.specs.Members.{in_word}
use Rattle.row_sets.specs.Kept.{is_in}
use Rattle.row_sets.specs.declared.ready.ReadyRows.{ReadyRows}

-- row k is ready, as a row of a class
abbrev pub has_row : ReadyRows → ℕ → ℕ → Bool
has_row ready class k = is_in ready.words.items class k

-- row k is ready, as a row of a class that is not among those passed over
pub record IsReady (ready : ReadyRows) (passed k : ℕ) : Type 0 where
  pub class : ℕ
  pub below : class < 64
  pub kept : in_word passed class ≡ false
  pub has : has_row ready class k ≡ true

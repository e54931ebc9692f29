-- Models a sink in memory: what it holds, when a write fails, how much it takes and what it leaves.
use Rattle.std.specs.Prelude.{ℕ, ◌-◌, min, List, [], ◌++◌, length, take, Bool, ◌||◌, nat_le, if◌then◌else◌}
use Rattle.mca_io.specs.Calls.{one_more, is_listed}

-- `failing` has the numbers of the writes that are to fail; `calls` writes were made
pub record SinkState : Type 0 where
  pub written : List ℕ
  pub room : ℕ
  pub take : ℕ
  pub failing : List ℕ
  pub calls : ℕ
  pub faults : ℕ

-- the next write fails
abbrev pub write_fails : SinkState → Bool
write_fails s = is_listed s.failing (one_more s.calls) || nat_le s.room (length s.written)

-- how many bytes of the piece a write that does not fail takes
abbrev pub taken : SinkState → List ℕ → ℕ
taken s piece = min s.take (min (length piece) (s.room - length s.written))

-- the sink after a write of the piece
abbrev pub after_write : SinkState → List ℕ → SinkState
after_write s piece = record s {
  written = s.written ++ (if write_fails s then [] else take (taken s piece) piece);
  calls = one_more s.calls;
  faults = if write_fails s then one_more s.faults else s.faults;
}

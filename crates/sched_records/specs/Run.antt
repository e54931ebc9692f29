-- Which bytes stand in one run.
use Rattle.std.specs.Prelude.{ℕ, nat_eq, Bool, not}
use Rattle.sched_records.specs.declared.piece.Run.{Run}
use Rattle.sched_records.specs.declared.piece.Run.TheVariants as runs
use Rattle.sched_records.specs.Pieces.{is_space, is_digit, is_name_byte, is_binary, is_hex}

abbrev pub is_in : Run → ℕ → Bool
is_in runs.Spaces b = is_space b
is_in runs.Line b = not (nat_eq b 10)
is_in runs.Name b = is_name_byte b
is_in runs.Digits b = is_digit b
is_in runs.Binary b = is_binary b
is_in runs.Hex b = is_hex b

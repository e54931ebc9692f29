-- Models how calls and faults of a device are counted, and which calls of a device in memory are to fail.
use Rattle.std.specs.Prelude.{ℕ, ◌+◌, ◌-◌, ◌^◌, min, List, Bool, nat_eq}
use Rattle.std.specs.List.{list_any}

-- the next number of a count, which stands still at 2^64 - 1
abbrev pub one_more : ℕ → ℕ
one_more n = min (n + 1) (2 ^ 64 - 1)

-- the call of this number is one of those that are to fail
abbrev pub is_listed : List ℕ → ℕ → Bool
is_listed failing call = list_any (λ number. nat_eq number call) failing

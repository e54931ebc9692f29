-- A buffer in range.
use Rattle.std.specs.Prelude.{◌≡◌, int_le, neg_ℤ, pos, true}
use Rattle.sched_resolve.specs.declared.entry.Resource.{Resource}

pub record IsBuffered (r : Resource) : Type 0 where
  pub low : int_le (neg_ℤ (pos 1)) r.buffer ≡ true
  pub high : int_le r.buffer (pos 4096) ≡ true

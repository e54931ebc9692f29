-- What the kept advances stand for.
use Rattle.std.specs.Prelude.{◌≡◌, ℕ, int_le, pos, neg_ℤ, List, find, nat_eq, ◌&&◌, true, Bool}
use Rattle.std.specs.Option.{option_map}
use Rattle.indexmap.specs.IndexMap.{get}
use Rattle.sched_resolve.specs.declared.entry.Advance.{Advance}
use Rattle.sched_validate.specs.Classes.{lists, is_general}
use Rattle.sched_validate.specs.declared.advances.Advances.{Advances}

abbrev pub same_pair : ℕ × ℕ → ℕ × ℕ → Bool
same_pair a b = nat_eq a.0 b.0 && nat_eq a.1 b.1

pub record StandsFor (kept : Advances) (all : List Advance) : Type 0 where
  pub listed : (read write : ℕ) → get same_pair kept.listed (read, write) ≡ option_map (λ a. a.cycles) (find (lists read write) all)
  pub general : (read : ℕ) → get nat_eq kept.general read ≡ option_map (λ a. a.cycles) (find (is_general read) all)

abbrev pub IsSmallAdvance : Advance → Type 0
IsSmallAdvance a = (int_le (neg_ℤ (pos 1000)) a.cycles ≡ true) × (int_le a.cycles (pos 1000) ≡ true)

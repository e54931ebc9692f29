use Rattle.std.proofs.Common.{◌≡◌, ℕ}
use Rattle.std.specs.Prelude.{◌||◌, ◌&&◌, nat_le, nat_lt}
use Rattle.unit_sets.specs.Members.{in_words}
use Rattle.sched_validate.proofs.layout.add_units.Given as goal

-- the units below u were put in
abbrev pub invariant-loop-u : goal.invariant-loop-u
invariant-loop-u l = (v : ℕ) → in_words l.set.words v ≡ ((nat_le l.span.first v && nat_lt v l.u) || in_words l.initial.set.words v)

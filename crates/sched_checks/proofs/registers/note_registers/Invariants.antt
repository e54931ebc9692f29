use Rattle.std.proofs.Common.{◌≡◌, ℕ, ◌<◌, ◌≤◌, ◌||◌, false, slice_index_or}
use Rattle.sched_checks.specs.Checks.{held_by}
use Rattle.sched_checks.proofs.registers.note_registers.Given as goal

abbrev pub invariant-loop-register : goal.invariant-loop-register
invariant-loop-register l = record {
  done : (r : ℕ) → r < l.register → slice_index_or l.held r false ≡ (slice_index_or l.initial.held r false || held_by r l.entry);
  left : (r : ℕ) → l.register ≤ r → slice_index_or l.held r false ≡ slice_index_or l.initial.held r false;
}

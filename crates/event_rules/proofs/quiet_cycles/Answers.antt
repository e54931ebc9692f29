use Rattle.event_rules.proofs.Turns.{quiet_cycles_are, few_turns, each_turn, due_is_set, next_turn, no_turn}
use Rattle.event_rules.proofs.Clears.{clear_cycles, set_time}
use Rattle.event_rules.proofs.quiet_cycles.Goals as goal

pub returns : goal.returns
returns c = record {
  quiet = quiet_cycles_are;
  next = next_turn;
  none = no_turn;
  few = few_turns;
  each = each_turn;
  set = due_is_set;
  clear = clear_cycles;
  time = set_time;
}

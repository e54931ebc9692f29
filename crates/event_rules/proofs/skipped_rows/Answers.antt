use Rattle.event_rules.proofs.Skips.{skip_retired, skip_retires, skip_unready, skip_dispatched, skip_dispatches}
use Rattle.event_rules.proofs.EventSteps.{event_falls, event_waits, ready_stays, ready_unknown, after_event}
use Rattle.event_rules.proofs.skipped_rows.Goals as goal

pub returns : goal.returns
returns c = record {
  retired = skip_retired;
  retires = skip_retires;
  unready = skip_unready;
  dispatched = skip_dispatched;
  dispatches = skip_dispatches;
  falls = event_falls;
  waits = event_waits;
  ready = ready_stays;
  unknown = ready_unknown;
  after = after_event;
}

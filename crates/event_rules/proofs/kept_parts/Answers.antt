use Rattle.event_rules.proofs.Blocked.{blocked_stays}
use Rattle.event_rules.proofs.TakenStill.{still_pick}
use Rattle.event_rules.proofs.ChangesTold.{change_told}
use Rattle.event_rules.proofs.Reached.{falls_first, falls_second}
use Rattle.event_rules.proofs.kept_parts.Goals as goal

pub returns : goal.returns
returns c = record { pick = still_pick; blocked = blocked_stays; change = change_told; shares = record { first = falls_first; second = falls_second } }

use Rattle.std.proofs.Common.{refl}
use Rattle.cycle_rules.proofs.LastWriters.{lasts_none}
use Rattle.cycle_rules.proofs.links.no_rows.Goals as goal

pub returns : goal.returns
returns c = λ body. lasts_none body _ refl

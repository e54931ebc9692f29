use Rattle.std.proofs.Common.{◌∙◌, ap}
use Rattle.std.specs.Prelude.{nat_lt}
use Rattle.std.specs.List.{list_all}
use Rattle.cycle_rules.proofs.room.fits_buffers.Goals as goal

pub fit_buffers-requires-clause-known : goal.fit_buffers-requires-clause-known
fit_buffers-requires-clause-known g c = ap (list_all (λ w. nat_lt w.resource (g.M.Machine.meaning c.args.machine.now).resource_count)) c.used_by.ensures ∙ (c.row-row.ensures.bound _ c.requires.bound).row.uses.known

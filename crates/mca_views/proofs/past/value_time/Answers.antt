use Rattle.std.proofs.Common.{◌<◌, length, sym, subst}
use Rattle.mca_views.specs.Shown.{shown}
use Rattle.mca_views.proofs.Entries.{entry_write, entry_latency, place_low, entry_at}
use Rattle.mca_views.proofs.past.value_time.Goals as goal

pub lead_of-lead-requires-clause-write : goal.lead_of-lead-requires-clause-write
lead_of-lead-requires-clause-write g c = let s = shown g.M.Machine.meaning c.args.v.now in
    let low : c.args.place < length s.body = subst (λ p. p < length s.body) (sym c.requires.place) (place_low s c.args.k c.requires.shown) in
    entry_write s.machine _ (g.met.M.Machine.valid c.args.v.now.machine.now) (entry_at s _ c.index-v-place.result c.requires.shown low)

pub lead_of-lead-requires-clause-latency : goal.lead_of-lead-requires-clause-latency
lead_of-lead-requires-clause-latency g c = let s = shown g.M.Machine.meaning c.args.v.now in
    let low : c.args.place < length s.body = subst (λ p. p < length s.body) (sym c.requires.place) (place_low s c.args.k c.requires.shown) in
    entry_latency s.machine _ (g.met.M.Machine.valid c.args.v.now.machine.now) (entry_at s _ c.index-v-place.result c.requires.shown low)

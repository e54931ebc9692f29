use Rattle.std.proofs.Common.{◌≡◌, take, map}
use Rattle.sched_checks.specs.Parts.{units_of}
use Rattle.sched_checks.proofs.resources.all_units.Given as goal

abbrev pub invariant-loop-parts : goal.invariant-loop-parts
invariant-loop-parts l = let rs = map (λ r. r.now) l.list in l.units.items ≡ map (units_of rs) (map (λ p. p.keys) (take l.parts-index l.all))

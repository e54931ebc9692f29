use Rattle.std.proofs.Common.{◌≡◌, ◌&&◌, ℕ, take, nat_eq, Some, None, if◌then◌else◌}
use Rattle.std.specs.List.{list_any}
use Rattle.std.specs.Option.{option_or}
use Rattle.indexmap.specs.IndexMap.{get}
use Rattle.sched_validate.specs.Advances.{same_pair}
use Rattle.sched_validate.proofs.advances.list.Given as goal

abbrev pub invariant-loop-write : goal.invariant-loop-write
invariant-loop-write l = (r w : ℕ) → get same_pair l.listed (r, w) ≡ option_or (get same_pair l.initial.listed (r, w)) (if nat_eq l.read r && list_any (λ v. nat_eq v w) (take l.write-index l.writes) then Some l.cycles else None)

use Rattle.std.proofs.Common.{◌≡◌, map}
use Rattle.std.specs.List.{range_with_len}
use Rattle.sched_validate.specs.Files.{share_from}
use Rattle.sched_validate.proofs.files.shares.Given as goal

abbrev pub invariant-loop-register : goal.invariant-loop-register
invariant-loop-register l = l.shares.items ≡ map (λ r. share_from 0 r (map (λ f. f.now) l.files)) (range_with_len 0 l.register)

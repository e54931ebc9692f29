use Rattle.std.proofs.Common.{◌≡◌, map, take}
use Rattle.sched_checks.specs.Resources.{count_of}
use Rattle.sched_validate.proofs.files.sizes.Given as goal

abbrev pub invariant-loop-file : goal.invariant-loop-file
invariant-loop-file l = l.sizes.items ≡ map (λ f. count_of f.now.size) (take l.file-index l.files)

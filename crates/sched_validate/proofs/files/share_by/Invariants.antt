use Rattle.std.proofs.Common.{◌≡◌, drop}
use Rattle.sched_validate.specs.Files.{share_by}
use Rattle.sched_validate.proofs.files.share_by.Given as goal

-- no class so far holds the register
abbrev pub invariant-loop-place : goal.invariant-loop-place
invariant-loop-place l = share_by l.file l.register (drop l.place l.classes) (drop l.place l.costs) ≡ share_by l.file l.register l.classes l.costs

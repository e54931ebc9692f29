use Rattle.std.proofs.Common.{◌≡◌, drop, map}
use Rattle.sched_validate.specs.Files.{share_from}
use Rattle.sched_validate.proofs.files.share.Given as goal

-- no file so far holds the register
abbrev pub invariant-loop-number : goal.invariant-loop-number
invariant-loop-number l = share_from l.number l.register (map (λ f. f.now) (drop l.number l.files)) ≡ share_from 0 l.register (map (λ f. f.now) l.files)

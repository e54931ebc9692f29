use Rattle.std.proofs.Common.{◌≡◌, ◌++◌, drop}
use Rattle.region_marks.specs.Marked.{code_of}
use Rattle.mca_run.proofs.program.code.Given as goal

abbrev pub invariant-loop-k : goal.invariant-loop-k
invariant-loop-k l = l.code.items ++ code_of (drop l.k l.items) ≡ code_of l.items

use Rattle.std.proofs.Common.{◌≡◌, true}
use Rattle.std.specs.List.{All}
use Rattle.rv_isa.specs.Instruction.{is_lawful}
use Rattle.mca_cases.proofs.inputs.code.Given as goal

abbrev pub invariant-loop-k : goal.invariant-loop-k
invariant-loop-k l = All (λ i. is_lawful i ≡ true) l.code.items

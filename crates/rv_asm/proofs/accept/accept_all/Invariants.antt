use Rattle.std.proofs.Common.{◌≡◌, drop}
use Rattle.std.specs.Prelude.{map}
use Rattle.std.specs.Option.{option_map}
use Rattle.rv_asm.specs.Operands.{operands_in, others, trimmed, accept_all, no_operands, parts_of}
use Rattle.rv_asm.proofs.accept.accept_all.Given as goal

-- what is left of the shapes takes what is left of the operands
abbrev pub invariant-loop-shape : goal.invariant-loop-shape
invariant-loop-shape l = accept_all (drop l.shape-index l.shapes) (map trimmed (others (option_map (λ t. t.now) l.rest))) (parts_of l.parts) ≡ accept_all l.shapes (operands_in l.text) no_operands

use Rattle.std.proofs.Common.{◌≡◌, drop, nat_eq}
use Rattle.std.specs.Prelude.{map}
use Rattle.std.specs.List.{list_any}
use Rattle.std.specs.Cmp.Lexicographic.{pointwise}
use Rattle.rv_asm.proofs.instruction.is_among.Given as goal

abbrev pub invariant-loop-name : goal.invariant-loop-name
invariant-loop-name l = list_any (λ name. pointwise nat_eq l.text name) (map (λ n. n.now) (drop l.name-index l.names)) ≡ list_any (λ name. pointwise nat_eq l.text name) (map (λ n. n.now) l.names)

use Rattle.std.proofs.Common.{zero, suc, ◌≡◌, ℕ, ◌<◌, List, [], ◌∷◌, drop, length, None, refl, sym, ◌∙◌, ap, arith}
use Rattle.std.specs.Prelude.{map}
use Rattle.std.specs.Option.{option_map}
use Rattle.rv_asm.specs.declared.operand.Shape.{Shape}
use Rattle.rv_asm.specs.Operands.{Operands, accept_all, others, trimmed, parts_of}
use Rattle.rv_asm.proofs.accept.accept_all.Goals as goal

none_left : (shapes : List Shape) (k : ℕ) (p : Operands) → k < length shapes → accept_all (drop k shapes) [] p ≡ None
none_left [] k p lt = absurd (omega (arith, lt))
none_left (s ∷ ss) zero p lt = refl
none_left (s ∷ ss) (suc k) p lt = none_left ss k p (omega (arith, lt))

pub returns-in_default : goal.returns-in_default
returns-in_default c =
    let p : Operands = parts_of c.loop-shape.parts in
    let k : ℕ = c.loop-shape.shape-index in
    sym (none_left c.args.shapes.now k p c.loop-shape-test.true)
    ∙ ap (λ r. accept_all (drop k c.args.shapes.now) (map trimmed (others (option_map (λ t. t.now) r))) p) (sym c.in_default.is)
    ∙ c.loop-shape.invariant

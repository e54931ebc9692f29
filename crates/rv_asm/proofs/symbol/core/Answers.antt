use Rattle.std.proofs.Common.{◌≡◌, ℕ, suc, ◌+◌, ◌-◌, ◌<◌, List, Some, sym, ◌∙◌, ap, arith}
use Rattle.std.specs.Prelude.{option_and_then}
use Rattle.rv_asm.specs.Symbols.{opened, core}
use Rattle.rv_asm.proofs.symbol.core.Goals as goal

-- one level fewer is left behind what was opened
core_more : (n i : ℕ) (text rest : List ℕ) → i < n → Some rest ≡ opened text → core (n - (i + 1)) rest ≡ core (n - i) text
core_more n i text rest lt h =
    let e : n - i ≡ suc (n - (i + 1)) = omega arith in
    sym (ap (λ k. core k text) e ∙ ap (option_and_then (core (n - (i + 1)))) (sym h))

pub loop-level-preserved : goal.loop-level-preserved
loop-level-preserved c = core_more c.args.levels c.loop-level._level c.loop-level.rest.now c.in_ok-rest.rest.now c.loop-level-test.true c.in_ok-rest.ensures ∙ c.loop-level.invariant

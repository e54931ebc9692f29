use Rattle.std.proofs.Common.{◌≡◌, ◌-◌}
use Rattle.rv_asm.specs.Symbols.{core}
use Rattle.rv_asm.proofs.symbol.core.Given as goal

abbrev pub invariant-loop-level : goal.invariant-loop-level
invariant-loop-level l = core (l.levels - l._level) l.rest ≡ core l.levels l.text

-- The numbers of each instruction.
use Rattle.std.specs.Prelude.{ℕ, List, [], ◌∷◌, ◌++◌, codes, length, Bool, if◌then◌else◌}
use Rattle.std.specs.Fmt.{decimal}
use Rattle.rv_isa.specs.Opcodes.{facts_of, loads, stores}
use Rattle.cycle_rules.specs.Totals.{throughput}
use Rattle.mca_views.specs.Lines.{cell, listed}
use Rattle.mca_views.specs.Shown.{Shown, instr_at, bound_at, spelled}
use Rattle.mca_views.specs.Summary.{rate}

abbrev pub information_head : List (List ℕ)
information_head =
    codes "Instruction Info:"
    ∷ codes "[1]: #uOps"
    ∷ codes "[2]: Latency"
    ∷ codes "[3]: RThroughput"
    ∷ codes "[4]: MayLoad"
    ∷ codes "[5]: MayStore"
    ∷ codes "[6]: HasSideEffects (U)"
    ∷ []
    ∷ codes "[1]    [2]    [3]    [4]    [5]    [6]    Instructions:"
    ∷ []

-- a mark where something is so
abbrev pub marked : Bool → List ℕ → List ℕ
marked is mark = if is then mark else []

abbrev pub information_line : Shown → ℕ → List ℕ
information_line s k =
    cell (decimal (bound_at s k).uops) 7
    ++ cell (decimal (bound_at s k).latency) 7
    ++ cell (rate (throughput s.machine (bound_at s k)) 2) 7
    ++ cell (marked (loads (facts_of (instr_at s k).op).kind) (codes "*")) 7
    ++ cell (marked (stores (facts_of (instr_at s k).op).kind) (codes "*")) 7
    ++ cell (marked (facts_of (instr_at s k).op).side_effects (codes "U")) 7
    ++ spelled s k

abbrev pub information_lines : Shown → List (List ℕ)
information_lines s = information_head ++ listed (length s.code) (information_line s)

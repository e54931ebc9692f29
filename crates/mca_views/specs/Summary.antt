-- The numbers of a run as a whole.
use Rattle.std.specs.Prelude.{ℕ, List, [], ◌∷◌, codes, length}
use Rattle.std.specs.Fmt.{decimal}
use Rattle.mca_fixed.specs.Decimals.{fixed}
use Rattle.mca_fixed.specs.declared.decimals.Frac.{Frac}
use Rattle.cycle_rules.specs.Run.{total_of}
use Rattle.cycle_rules.specs.Totals.{total_uops, block_throughput, over}
use Rattle.mca_views.specs.Lines.{labelled}
use Rattle.mca_views.specs.Shown.{Shown, run_of}

-- a fraction with so many decimals
abbrev pub rate : Frac → ℕ → List ℕ
rate f places = fixed f.num f.den places

abbrev pub summary_lines : Shown → List (List ℕ)
summary_lines s =
    labelled (codes "Iterations:") (decimal s.iterations)
    ∷ labelled (codes "Instructions:") (decimal (length s.table))
    ∷ labelled (codes "Total Cycles:") (decimal (total_of s.table))
    ∷ labelled (codes "Total uOps:") (decimal (total_uops (run_of s)))
    ∷ []
    ∷ labelled (codes "Dispatch Width:") (decimal s.machine.limits.width)
    ∷ labelled (codes "uOps Per Cycle:") (rate (over (total_uops (run_of s)) (total_of s.table)) 2)
    ∷ labelled (codes "IPC:") (rate (over (length s.table) (total_of s.table)) 2)
    ∷ labelled (codes "Block RThroughput:") (rate (block_throughput s.machine s.body) 1)
    ∷ []

-- How long the rows of each instruction wait, on average.
use Rattle.std.specs.Prelude.{ℕ, ◌-◌, ◌%◌, List, [], ◌∷◌, ◌++◌, codes, length, nat_eq, if◌then◌else◌}
use Rattle.std.specs.Fmt.{decimal}
use Rattle.mca_fixed.specs.Decimals.{fixed}
use Rattle.mca_words.specs.declared.options.Options.{Options}
use Rattle.cycle_rules.specs.Below.{sum_below}
use Rattle.cycle_rules.specs.Row.{times}
use Rattle.cycle_rules.specs.Waits.{resource_wait}
use Rattle.mca_views.specs.Lines.{cell, listed}
use Rattle.mca_views.specs.Shown.{Shown, run_of, spelled}
use Rattle.mca_views.specs.Timeline.{iterations_shown, rows_shown}

-- for how many cycles a row waits to issue, for how many of them with its operands there and the order of memory kept, and for how many to retire
abbrev pub to_issue : Shown → ℕ → ℕ
to_issue s j = (times s.table j).issue - (times s.table j).dispatch

abbrev pub while_ready : Shown → ℕ → ℕ
while_ready s j = resource_wait (run_of s) (times s.table) j

abbrev pub to_retire : Shown → ℕ → ℕ
to_retire s j = (times s.table j).retire - (times s.table j).complete

-- the same of the rows at a place of the body alone
abbrev pub at_place : Shown → ℕ → (ℕ → ℕ) → ℕ → ℕ
at_place s place wait j = if nat_eq (j % length s.body) place then wait j else 0

-- how often so many rows were run, and their three sums over so many, as averages
abbrev pub wait_text : List ℕ → ℕ → ℕ → ℕ → ℕ → ℕ → List ℕ → List ℕ
wait_text label executions rows issue ready retire name =
    cell label 7
    ++ cell (decimal executions) 7
    ++ cell (fixed issue rows 1) 7
    ++ cell (fixed ready rows 1) 7
    ++ cell (fixed retire rows 1) 7
    ++ name

abbrev pub wait_line : Shown → Options → ℕ → List ℕ
wait_line s o place = wait_text (decimal place ++ codes ".") (iterations_shown s o) (iterations_shown s o)
    (sum_below (rows_shown s o) (at_place s place (to_issue s)))
    (sum_below (rows_shown s o) (at_place s place (while_ready s)))
    (sum_below (rows_shown s o) (at_place s place (to_retire s)))
    (spelled s place)

abbrev pub wait_total : Shown → Options → List ℕ
wait_total s o = wait_text [] (iterations_shown s o) (rows_shown s o)
    (sum_below (rows_shown s o) (to_issue s))
    (sum_below (rows_shown s o) (while_ready s))
    (sum_below (rows_shown s o) (to_retire s))
    (codes "<total>")

abbrev pub wait_head : List (List ℕ)
wait_head =
    codes "Average Wait times (based on the timeline view):"
    ∷ codes "[0]: Executions"
    ∷ codes "[1]: Average time spent waiting in a scheduler's queue"
    ∷ codes "[2]: Average time spent waiting in a scheduler's queue while ready"
    ∷ codes "[3]: Average time elapsed from WB until retire stage"
    ∷ []
    ∷ codes "       [0]    [1]    [2]    [3]    Instructions:"
    ∷ []

abbrev pub wait_lines : Shown → Options → List (List ℕ)
wait_lines s o = wait_head ++ listed (length s.body) (wait_line s o) ++ wait_total s o ∷ []

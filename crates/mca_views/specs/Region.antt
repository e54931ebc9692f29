-- The report of a region: its head, and the views that are on, each behind an empty line.
use Rattle.std.specs.Prelude.{ℕ, List, [], ◌∷◌, ◌++◌, codes, length, nat_eq, Bool, true, Option, Some, None, if◌then◌else◌}
use Rattle.std.specs.Fmt.{decimal}
use Rattle.critical_chain.specs.declared.graph.Chain.{Chain}
use Rattle.mca_words.specs.declared.options.Options.{Options}
use Rattle.mca_views.specs.Bottleneck.{bottleneck_lines}
use Rattle.mca_views.specs.Shown.{Shown}
use Rattle.mca_views.specs.Summary.{summary_lines}
use Rattle.mca_views.specs.Timeline.{timeline_lines}
use Rattle.mca_views.specs.WaitTimes.{wait_lines}
use Rattle.mca_views.specs.Information.{information_lines}
use Rattle.mca_views.specs.Pressure.{pressure_lines}

-- the name of a region, where it has one
abbrev pub named : List ℕ → List ℕ
named name = if nat_eq (length name) 0 then [] else codes " - " ++ name

-- its number, from 0, and its name; empty for none
abbrev pub region_head : ℕ → List ℕ → List ℕ
region_head number name = codes "[" ++ decimal number ++ codes "] Code Region" ++ named name

-- a view that is on
abbrev pub part : Bool → List (List ℕ) → List (List ℕ)
part on view = if on then [] ∷ view else []

-- what held the run up, where a chain is to be shown
abbrev pub bottleneck_part : Shown → Option Chain → List (List ℕ)
bottleneck_part s None = []
bottleneck_part s (Some c) = part true (bottleneck_lines s c)

-- the run as a whole
abbrev pub run_part : Shown → Option Chain → List (List ℕ)
run_part s chain = part true (summary_lines s) ++ bottleneck_part s chain

unfoldable pub region_lines : ℕ → List ℕ → Options → Shown → Option Chain → List (List ℕ)
region_lines number name o s chain =
    (region_head number name ∷ [])
    ++ run_part s chain
    ++ part o.instruction_info (information_lines s)
    ++ part o.resource_pressure (pressure_lines s)
    ++ part o.timeline (timeline_lines s o)
    ++ part o.timeline (wait_lines s o)

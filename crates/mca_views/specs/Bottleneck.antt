-- What held a run up: how long its rows waited and for what, what dispatch lacked, and the costliest chain of waits.
use Rattle.std.specs.Prelude.{◌≡◌, ℕ, ◌<◌, ◌≤◌, ◌*◌, ◌/◌, ◌%◌, List, [], ◌∷◌, ◌++◌, map, drop, codes, length, slice_index, true, false, Option, Some, None, ⊤}
use Rattle.std.specs.Fmt.{decimal}
use Rattle.critical_chain.specs.Chain.{IsCritical}
use Rattle.critical_chain.specs.Graph.{IsGraph}
use Rattle.critical_chain.specs.declared.graph.Chain.{Chain}
use Rattle.critical_chain.specs.declared.graph.Edge.{Edge}
use Rattle.critical_chain.specs.declared.graph.EdgeKind.{EdgeKind}
use Rattle.critical_chain.specs.declared.graph.EdgeKind.TheVariants.{Register, Memory, Resource}
use Rattle.critical_chain.specs.declared.graph.Graph.{Graph}
use Rattle.cycle_rules.specs.Below.{sum_below}
use Rattle.cycle_rules.specs.Row.{Input, Table, times}
use Rattle.cycle_rules.specs.Waits.{register_wait, memory_wait, resource_wait}
use Rattle.dep_graph.specs.WaitSums.{AreSums}
use Rattle.dep_graph.specs.RunGraph.{IsGraphOf}
use Rattle.dep_graph.specs.Stalls.{stalls}
use Rattle.mca_words.specs.declared.options.Options.{Options}
use Rattle.mca_views.specs.Lines.{labelled, lines}
use Rattle.mca_views.specs.Shown.{Shown, run_of}
use Rattle.mca_views.specs.Timeline.{tag}
use Rattle.mca_views.specs.declared.bottlenecks.HeldUp.{HeldUp}
use Rattle.mca_views.specs.declared.bottlenecks.RowTag.{RowTag}
use Rattle.mca_views.specs.declared.fault.ViewFault.{ViewFault}
use Rattle.mca_views.specs.declared.fault.ViewFault.TheVariants as fault

-- the critical sequence of the graph of a run's waits
pub record IsSequence (s : Shown) (c : Chain) : Type 0 where
  pub graph : Graph
  pub waits : IsGraphOf (run_of s) (times s.table) graph
  pub is_graph : IsGraph graph
  pub critical : IsCritical graph c

-- that sequence where the view is on, and none where it is off
abbrev pub IsAsked : Options → Shown → Option Chain → Type 0
IsAsked o s None = o.bottleneck_analysis ≡ false
IsAsked o s (Some c) = (o.bottleneck_analysis ≡ true) × (IsSequence s c)

-- of what held a run up, the critical sequence
abbrev pub sequence_of : Option HeldUp → Option Chain
sequence_of None = None
sequence_of (Some held) = Some held.chain

-- the sums of the waits of the run, and its stalls
pub record AreCounted (s : Shown) (held : HeldUp) : Type 0 where
  pub waits : AreSums (run_of s) (times s.table) (s.iterations * length s.body) held.waits
  pub stalls : held.stalls ≡ stalls (run_of s) (times s.table)

abbrev pub HasSums : Shown → Option HeldUp → Type 0
HasSums s None = ⊤
HasSums s (Some held) = AreCounted s held

-- how long all rows waited
abbrev pub waited : Shown → (Input → Table → ℕ → ℕ) → ℕ
waited s wait = sum_below (length s.table) (wait (run_of s) (times s.table))

abbrev pub sum_lines : ℕ → ℕ → ℕ → List (List ℕ)
sum_lines registers memory resources =
    codes "Bottleneck analysis:"
    ∷ labelled (codes "Register wait:") (decimal registers)
    ∷ labelled (codes "Memory wait:") (decimal memory)
    ∷ labelled (codes "Resource wait:") (decimal resources)
    ∷ []
    ∷ []

abbrev pub waited_lines : Shown → List (List ℕ)
waited_lines s = sum_lines (waited s register_wait) (waited s memory_wait) (waited s resource_wait)

-- for how many cycles dispatch stalled by one of the seven causes
abbrev pub stalled : Shown → ℕ → ℕ
stalled s k = slice_index (stalls (run_of s) (times s.table)) k

abbrev pub stall_lines : Shown → List (List ℕ)
stall_lines s =
    codes "Dispatch stalls:"
    ∷ labelled (codes "Group:") (decimal (stalled s 0))
    ∷ labelled (codes "Reorder buffer:") (decimal (stalled s 1))
    ∷ labelled (codes "Registers:") (decimal (stalled s 2))
    ∷ labelled (codes "Load queue:") (decimal (stalled s 3))
    ∷ labelled (codes "Store queue:") (decimal (stalled s 4))
    ∷ labelled (codes "Buffer:") (decimal (stalled s 5))
    ∷ labelled (codes "Reserved:") (decimal (stalled s 6))
    ∷ []
    ∷ []

-- the tag of a row
abbrev pub row_tag : Shown → ℕ → List ℕ
row_tag s j = tag (j / length s.body) (j % length s.body)

-- a row's tag, kept at the end of its bytes
pub record IsTag (s : Shown) (t : RowTag) : Type 0 where
  pub within : t.start ≤ 23
  pub bytes : drop t.start t.bytes ≡ row_tag s t.row

abbrev pub kind_word : EdgeKind → List ℕ
kind_word Register = codes "register"
kind_word Memory = codes "memory"
kind_word Resource = codes "resource"

-- which row waited for which, for what and how long
abbrev pub link_line : Shown → Edge → List ℕ
link_line s e = row_tag s e.from ++ codes " -> " ++ row_tag s e.to ++ codes " " ++ kind_word e.kind ++ codes " " ++ decimal e.cost

abbrev pub sequence_lines : Shown → Chain → List (List ℕ)
sequence_lines s c = labelled (codes "Critical sequence:") (decimal c.cost) ∷ map (link_line s) c.links

unfoldable pub bottleneck_lines : Shown → Chain → List (List ℕ)
bottleneck_lines s c = waited_lines s ++ stall_lines s ++ sequence_lines s c

-- the bytes are the lines of the view, with the critical sequence
pub record IsBottleneck (s : Shown) (bytes : List ℕ) : Type 0 where
  pub chain : Chain
  pub sequence : IsSequence s chain
  pub shows : bytes ≡ lines (bottleneck_lines s chain)

-- TooLong says that they are more than there is room for; want of memory says nothing
abbrev pub IsOver : Shown → ℕ → ViewFault → Type 0
IsOver s room fault.TooLong = (c : Chain) × (IsSequence s c) × (room < length (lines (bottleneck_lines s c)))
IsOver s room fault.Memory = ⊤

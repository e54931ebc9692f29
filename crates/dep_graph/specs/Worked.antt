-- Waits, edges and stalls of runs that were worked out by hand.
use Rattle.std.specs.Prelude.{ℕ, pos, List, [], ◌∷◌}
use Rattle.cycle_rules.specs.Row.{Row, input, times}
use Rattle.cycle_rules.specs.Worked.{machine, with_limits, with_buffer, limits, add, mul, div, lw, sw, fence, reserved_div, wide_div, use_of, at, unit}
use Rattle.machine_model.specs.Meaning.{MachineMeaning}
use Rattle.cycle_rules.specs.declared.times.Times.{Times}
use Rattle.critical_chain.specs.declared.graph.Edge.{Edge}
use Rattle.critical_chain.specs.declared.graph.EdgeKind.{EdgeKind}
use Rattle.critical_chain.specs.declared.graph.EdgeKind.TheVariants.{Register, Memory, Resource}
use Rattle.dep_graph.specs.Blamed.{edges_along}
use Rattle.dep_graph.specs.Stalls.{stalls}

-- the number of a kind
abbrev pub kind_of : EdgeKind → ℕ
kind_of Register = 0
kind_of Memory = 1
kind_of Resource = 2

-- edges, each as four numbers
abbrev pub told : List Edge → List (List ℕ)
told [] = []
told (e ∷ es) = (e.from ∷ e.to ∷ kind_of e.kind ∷ e.cost ∷ []) ∷ told es

-- the edges of a run of one iteration, along an order
abbrev pub edges_on : MachineMeaning → List Row → List Times → List ℕ → List (List ℕ)
edges_on m body table order = told (edges_along (input m body 1) (times table) order)

-- its stalls
abbrev pub stalls_on : MachineMeaning → List Row → List Times → List ℕ
stalls_on m body table = stalls (input m body 1) (times table)

-- two products and their sums
abbrev pub two_products : List Row
two_products = mul 10 11 12 ∷ add 13 10 10 ∷ mul 14 15 16 ∷ add 17 14 14 ∷ []

-- and when they do what
abbrev pub two_products_run : List Times
two_products_run = at 0 1 4 5 (unit 0) ∷ at 0 4 5 6 (unit 0) ∷ at 1 2 5 6 (unit 0) ∷ at 1 5 6 7 (unit 1) ∷ []

-- the edges of worked runs
abbrev pub worked_edges : List (List (List ℕ))
worked_edges =
    edges_on machine two_products two_products_run (0 ∷ 2 ∷ 1 ∷ 3 ∷ [])
    -- two products that share a multiplier
    ∷ edges_on machine (mul 10 11 12 ∷ mul 13 14 15 ∷ []) (at 0 1 4 5 (unit 0) ∷ at 0 2 5 6 (unit 0) ∷ []) (0 ∷ 1 ∷ [])
    -- a fence between a store and a load
    ∷ edges_on machine (sw 10 11 ∷ fence ∷ lw 12 13 ∷ []) (at 0 1 4 5 (unit 3) ∷ at 0 4 5 6 (unit 1) ∷ at 1 5 9 10 (unit 3) ∷ []) (0 ∷ 1 ∷ 2 ∷ [])
    ∷ []

-- the stalls of worked runs
abbrev pub worked_stalls : List (List ℕ)
worked_stalls =
    stalls_on machine two_products two_products_run
    -- five micro-ops fill two cycles and half of a third
    ∷ stalls_on machine (wide_div (use_of 3 20) ∷ add 13 14 15 ∷ []) (at 0 1 21 22 (unit 2) ∷ at 2 3 4 22 (unit 0) ∷ [])
    -- a reorder buffer of two is freed by retirement
    ∷ stalls_on (with_limits (record limits { reorder = 2 })) (div 10 11 12 ∷ add 13 14 15 ∷ add 16 17 18 ∷ []) (at 0 1 21 22 (unit 2) ∷ at 0 1 2 22 (unit 0) ∷ at 22 23 24 25 (unit 1) ∷ [])
    -- one register in flight
    ∷ stalls_on (with_limits (record limits { registers = 1 })) (add 10 11 12 ∷ add 13 14 15 ∷ []) (at 0 1 2 3 (unit 0) ∷ at 3 4 5 6 (unit 1) ∷ [])
    -- a load queue of one entry
    ∷ stalls_on (with_limits (record limits { loads = 1 })) (lw 10 11 ∷ lw 12 13 ∷ []) (at 0 1 5 6 (unit 3) ∷ at 6 7 11 12 (unit 3) ∷ [])
    -- a buffer of one entry before the adders
    ∷ stalls_on (with_buffer 2 (pos 1)) (div 10 11 12 ∷ add 11 10 10 ∷ add 12 13 14 ∷ []) (at 0 1 21 22 (unit 2) ∷ at 0 21 22 23 (unit 0) ∷ at 21 22 23 24 (unit 1) ∷ [])
    -- a reserved divider blocks the dispatch of the next division
    ∷ stalls_on (with_buffer 3 (pos 0)) (reserved_div 10 11 12 ∷ reserved_div 13 14 15 ∷ []) (at 0 0 3 4 (unit 2) ∷ at 3 3 6 7 (unit 2) ∷ [])
    ∷ []

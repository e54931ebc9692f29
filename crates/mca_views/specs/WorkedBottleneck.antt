-- What held up a small run that was worked out by hand.
use Rattle.std.specs.Prelude.{ℕ, List, [], ◌∷◌, codes, length, map}
use Rattle.rv_isa.specs.declared.op.Op.TheVariants as op
use Rattle.cycle_rules.specs.Bind.{eight, two}
use Rattle.cycle_rules.specs.Row.{Row}
use Rattle.cycle_rules.specs.Worked.{machine, mul, add, at, unit}
use Rattle.cycle_rules.specs.declared.bound.Bound.{Bound}
use Rattle.critical_chain.specs.declared.graph.Chain.{Chain}
use Rattle.critical_chain.specs.declared.graph.Edge.{Edge}
use Rattle.critical_chain.specs.declared.graph.EdgeKind.TheVariants.{Register}
use Rattle.mca_views.specs.Shown.{Shown}

-- an instruction with the numbers of a row
abbrev pub bound_as : Row → Bound
bound_as r = record {
  op = op.Add;
  uops = r.uops;
  latency = r.latency;
  use_count = length r.uses;
  uses = eight r.uses;
  reserved = r.reserved;
  read_count = length r.reads;
  reads = two r.reads;
  rd = r.rd;
  write = r.write;
  kind = r.kind;
  begins_group = r.begins_group;
  ends_group = r.ends_group;
}

-- two products and their sums: each sum waits three cycles for its product, and the second product dispatches a cycle late
abbrev pub two_products : Shown
two_products = record {
  machine = machine;
  code = [];
  names = [];
  body = map bound_as (mul 10 11 12 ∷ add 13 10 10 ∷ mul 14 15 16 ∷ add 17 14 14 ∷ []);
  iterations = 1;
  table = at 0 1 4 5 (unit 0) ∷ at 0 4 5 6 (unit 0) ∷ at 1 2 5 6 (unit 0) ∷ at 1 5 6 7 (unit 1) ∷ [];
}

abbrev pub wait_for : ℕ → ℕ → Edge
wait_for from to = record { from = from; to = to; kind = Register; cost = 3 }

-- the chain between the other two rows costs the same and ends later
abbrev pub first_sum : Chain
first_sum = record { links = wait_for 0 1 ∷ []; cost = 3; labels = 0 ∷ 3 ∷ 0 ∷ 3 ∷ [] }

abbrev pub two_products_text : List ℕ
two_products_text = codes "Bottleneck analysis:\nRegister wait:     6\nMemory wait:       0\nResource wait:     0\n\nDispatch stalls:\nGroup:             1\nReorder buffer:    0\nRegisters:         0\nLoad queue:        0\nStore queue:       0\nBuffer:            0\nReserved:          0\n\nCritical sequence: 3\n[0,0] -> [0,1] register 3\n"

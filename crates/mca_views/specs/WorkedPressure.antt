-- The pressure of small regions that were worked out by hand.
use Rattle.std.specs.Prelude.{ℕ, List, [], ◌∷◌, codes, Option, Some, None, false, nat_eq, nat_lt, if◌then◌else◌}
use Rattle.rv_isa.specs.declared.facts.Kind.TheVariants.{Plain}
use Rattle.rv_isa.specs.declared.instr.Imm.TheVariants as imm
use Rattle.rv_isa.specs.declared.instr.Instr.{Instr}
use Rattle.rv_isa.specs.declared.op.Op.TheVariants as op
use Rattle.machine_model.specs.Meaning.{MachineMeaning}
use Rattle.machine_model.specs.declared.answers.UnitOwner.{UnitOwner}
use Rattle.cycle_rules.specs.Bind.{eight, two}
use Rattle.cycle_rules.specs.Worked.{machine, use_of, at, unit}
use Rattle.cycle_rules.specs.declared.bound.Bound.{Bound}
use Rattle.cycle_rules.specs.declared.times.Times.{Times}
use Rattle.mca_views.specs.Lines.{lines}
use Rattle.mca_views.specs.Pressure.{unit_line}
use Rattle.mca_views.specs.Shown.{Shown}

abbrev pub owned_by : ℕ → ℕ → Option UnitOwner
owned_by r place = Some (record { resource = r; place = place })

-- PA has unit 0, PB unit 1, PD unit 2 and PM unit 3; PAB is the group of PA and PB; the numbers from 4 on are no units
abbrev pub small : MachineMeaning
small = record machine {
  unit_count = 64;
  resource_name = λ r. if nat_eq r 0 then codes "PA" else if nat_eq r 1 then codes "PB" else if nat_eq r 2 then codes "PAB" else if nat_eq r 3 then codes "PD" else codes "PM";
  owner = λ u. if nat_lt u 2 then owned_by u 0 else if nat_eq u 2 then owned_by 3 0 else if nat_eq u 3 then owned_by 4 0 else None;
}

-- its resource 0 has two units and no name: units 0 and 1
abbrev pub pair : MachineMeaning
pair = record small { units = λ r u. nat_lt u 2; owner = λ u. if nat_lt u 2 then owned_by 0 u else None; resource_name = λ r. [] }

abbrev pub sum_of : ℕ → ℕ → ℕ → Instr
sum_of rd a b = record { op = op.Add; rd = rd; rs1 = a; rs2 = b; imm = imm.None }

-- an addition holds a unit of PAB for a cycle
abbrev pub bound_sum : ℕ → Bound
bound_sum rd = record { op = op.Add; uops = 1; latency = 1; use_count = 1; uses = eight (use_of 2 1); reserved = false; read_count = 0; reads = two []; rd = rd; write = 0; kind = Plain; begins_group = false; ends_group = false }

abbrev pub region : List Instr → List Bound → ℕ → List Times → Shown
region code body iterations table = record { machine = small; code = code; names = []; body = body; iterations = iterations; table = table }

-- one sum
abbrev pub one_sum : Shown
one_sum = region (sum_of 10 11 12 ∷ []) (bound_sum 10 ∷ []) 1 (at 0 1 2 3 (unit 0) ∷ [])

abbrev pub one_sum_text : List ℕ
one_sum_text = codes "Resources:\n[0] - PA\n[1] - PB\n[2] - PD\n[3] - PM\n\nResource pressure per iteration:\n[0]    [1]    [2]    [3]\n1.00   -      -      -\n\nResource pressure by instruction:\n[0]    [1]    [2]    [3]    Instructions:\n1.00   -      -      -      add a0, a1, a2\n"

-- the same three times: the units in turn
abbrev pub repeated : Shown
repeated = region (sum_of 10 11 12 ∷ []) (bound_sum 10 ∷ []) 3 (at 0 1 2 3 (unit 0) ∷ at 0 1 2 3 (unit 1) ∷ at 1 2 3 4 (unit 0) ∷ [])

abbrev pub repeated_text : List ℕ
repeated_text = codes "Resources:\n[0] - PA\n[1] - PB\n[2] - PD\n[3] - PM\n\nResource pressure per iteration:\n[0]    [1]    [2]    [3]\n0.67   0.33   -      -\n\nResource pressure by instruction:\n[0]    [1]    [2]    [3]    Instructions:\n0.67   0.33   -      -      add a0, a1, a2\n"

-- three sums
abbrev pub three_sums : Shown
three_sums = region (sum_of 10 11 12 ∷ sum_of 13 14 15 ∷ sum_of 16 17 18 ∷ []) (bound_sum 10 ∷ bound_sum 13 ∷ bound_sum 16 ∷ []) 1
    (at 0 1 2 3 (unit 0) ∷ at 0 1 2 3 (unit 1) ∷ at 1 2 3 4 (unit 0) ∷ [])

abbrev pub three_sums_text : List ℕ
three_sums_text = codes "Resources:\n[0] - PA\n[1] - PB\n[2] - PD\n[3] - PM\n\nResource pressure per iteration:\n[0]    [1]    [2]    [3]\n2.00   1.00   -      -\n\nResource pressure by instruction:\n[0]    [1]    [2]    [3]    Instructions:\n1.00   -      -      -      add a0, a1, a2\n-      1.00   -      -      add a3, a4, a5\n1.00   -      -      -      add a6, a7, s2\n"

-- the lines of units, where a resource has two and no name
abbrev pub pair_text : List ℕ
pair_text = lines (unit_line pair 0 ∷ unit_line pair 1 ∷ unit_line small 63 ∷ [])

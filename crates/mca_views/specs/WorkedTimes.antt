-- Timelines and waits that were worked out by hand.
use Rattle.std.specs.Prelude.{ℕ, List, [], ◌∷◌, codes, true, false, None}
use Rattle.rv_isa.specs.declared.facts.Kind.{Kind}
use Rattle.rv_isa.specs.declared.facts.Kind.TheVariants.{Plain, Load, Store, Barrier}
use Rattle.rv_isa.specs.declared.instr.Imm.TheVariants as imm
use Rattle.rv_isa.specs.declared.instr.Instr.{Instr}
use Rattle.rv_isa.specs.declared.op.Op.{Op}
use Rattle.rv_isa.specs.declared.op.Op.TheVariants as op
use Rattle.mca_words.specs.declared.options.Options.{Options}
use Rattle.cycle_rules.specs.Worked.{machine, reads, at}
use Rattle.cycle_rules.specs.declared.bound.Bound.{Bound}
use Rattle.cycle_rules.specs.declared.bound.Source.{Source}
use Rattle.cycle_rules.specs.declared.times.Times.{Times}
use Rattle.mca_views.specs.Lines.{line, lines}
use Rattle.mca_views.specs.Shown.{Shown}
use Rattle.mca_views.specs.Timeline.{timeline_head, row_text, tag}

-- options with these limits on the iterations and the cycles of a timeline
abbrev pub limits : ℕ → ℕ → Options
limits iterations cycles = record {
  table = [];
  mcpu = [];
  iterations = 0;
  dispatch = 0;
  register_file_size = 0;
  lqueue = 0;
  squeue = 0;
  noalias = true;
  instruction_info = false;
  resource_pressure = false;
  timeline = true;
  timeline_max_iterations = iterations;
  timeline_max_cycles = cycles;
  bottleneck_analysis = false;
  load = None;
  input = [];
}

abbrev pub instr : Op → ℕ → ℕ → ℕ → Instr
instr o rd a b = record { op = o; rd = rd; rs1 = a; rs2 = b; imm = imm.None }

abbrev pub bound : Op → ℕ → ℕ → List Source → ℕ → Kind → Bound
bound o latency count sources rd kind = record {
  op = o;
  uops = 1;
  latency = latency;
  use_count = 0;
  uses = [];
  reserved = false;
  read_count = count;
  reads = sources;
  rd = rd;
  write = 0;
  kind = kind;
  begins_group = false;
  ends_group = false;
}

abbrev pub region : List Instr → List Bound → ℕ → List Times → Shown
region code body iterations table = record { machine = machine; code = code; names = []; body = body; iterations = iterations; table = table }

-- a sum
abbrev pub one_sum : Shown
one_sum = region (instr op.Add 10 11 12 ∷ []) (bound op.Add 1 2 (reads 11 12) 10 Plain ∷ []) 1 (at 0 1 2 3 [] ∷ [])

abbrev pub one_sum_timeline : List ℕ
one_sum_timeline = codes "Timeline view:\n\nIndex     0123\n\n[0,0]     DeER   add a0, a1, a2\n"

abbrev pub one_sum_waits : List ℕ
one_sum_waits = codes "Average Wait times (based on the timeline view):\n[0]: Executions\n[1]: Average time spent waiting in a scheduler's queue\n[2]: Average time spent waiting in a scheduler's queue while ready\n[3]: Average time elapsed from WB until retire stage\n\n       [0]    [1]    [2]    [3]    Instructions:\n0.     1      1.0    0.0    1.0    add a0, a1, a2\n       1      1.0    0.0    1.0    <total>\n"

-- a sum that waits for the one before it
abbrev pub two_sums : Shown
two_sums = region (instr op.Add 10 10 10 ∷ instr op.Add 11 10 10 ∷ []) (bound op.Add 1 2 (reads 10 10) 10 Plain ∷ bound op.Add 1 2 (reads 10 10) 11 Plain ∷ []) 1
    (at 0 1 2 3 [] ∷ at 0 2 3 4 [] ∷ [])

abbrev pub two_sums_timeline : List ℕ
two_sums_timeline = codes "Timeline view:\n\nIndex     01234\n\n[0,0]     DeER    add a0, a0, a0\n[0,1]     D=eER   add a1, a0, a0\n"

-- the last five lines of the waits of two quotients in two iterations on one unit that each holds: all but the first wait for it though they are ready
abbrev pub two_quotients : Shown
two_quotients = region (instr op.Div 11 12 13 ∷ instr op.Div 14 15 16 ∷ []) (bound op.Div 3 2 (reads 12 13) 11 Plain ∷ bound op.Div 3 2 (reads 15 16) 14 Plain ∷ []) 2
    (at 0 1 4 5 [] ∷ at 0 4 7 8 [] ∷ at 1 7 10 11 [] ∷ at 1 10 13 14 [] ∷ [])

abbrev pub two_quotients_waits : List ℕ
two_quotients_waits = codes "Average Wait times (based on the timeline view):\n[0]: Executions\n[1]: Average time spent waiting in a scheduler's queue\n[2]: Average time spent waiting in a scheduler's queue while ready\n[3]: Average time elapsed from WB until retire stage\n\n       [0]    [1]    [2]    [3]    Instructions:\n0.     2      3.5    2.5    1.0    div a1, a2, a3\n1.     2      6.5    5.5    1.0    div a4, a5, a6\n       2      5.0    4.0    1.0    <total>\n"

-- the first iteration alone, in ten cycles
abbrev pub first_quotients_timeline : List ℕ
first_quotients_timeline = codes "Timeline view:\n\nIndex     0123456789\n\n[0,0]     DeeeER       div a1, a2, a3\n[0,1]     D===eeeER    div a4, a5, a6\n"

-- a fence that waits for the store before it, and a load that waits for the fence: none of them is ready before
abbrev pub fenced : Shown
fenced = region (instr op.Add 10 11 12 ∷ instr op.Add 10 11 12 ∷ instr op.Add 10 11 12 ∷ [])
    (bound op.Add 3 0 [] 0 Store ∷ bound op.Add 1 0 [] 0 Barrier ∷ bound op.Add 4 0 [] 12 Load ∷ []) 1 (at 0 1 4 5 [] ∷ at 0 4 5 6 [] ∷ at 1 5 9 10 [] ∷ [])

-- a reserved row issues as it dispatches
abbrev pub reserved_row : List ℕ
reserved_row = line (row_text (tag 0 0) 8 (at 0 0 3 4 []) (codes "div a0, a1, a2"))

-- the tens of twelve cycles, and a row that is in flight in three of them
abbrev pub twelve_cycles : List ℕ
twelve_cycles = lines (timeline_head 12)

abbrev pub short_row : List ℕ
short_row = line (row_text (tag 3 10) 12 (at 6 7 7 8 []) (codes "nop"))

-- Reports that were worked out by hand.
use Rattle.std.specs.Prelude.{ℕ, List, [], ◌∷◌, ◌++◌, codes, length, pos, true, false, None}
use Rattle.rv_isa.specs.declared.facts.Kind.{Kind}
use Rattle.rv_isa.specs.declared.facts.Kind.TheVariants.{Plain, Load, Store, Barrier}
use Rattle.rv_isa.specs.declared.instr.Imm.{Imm}
use Rattle.rv_isa.specs.declared.instr.Imm.TheVariants as imm
use Rattle.rv_isa.specs.declared.instr.Instr.{Instr}
use Rattle.rv_isa.specs.declared.op.Op.{Op}
use Rattle.rv_isa.specs.declared.op.Op.TheVariants as op
use Rattle.machine_model.specs.declared.facts.Use.{Use}
use Rattle.cycle_rules.specs.Bind.{eight, two}
use Rattle.cycle_rules.specs.Worked.{use_of, at, unit}
use Rattle.cycle_rules.specs.declared.bound.Bound.{Bound}
use Rattle.mca_words.specs.declared.options.Options.{Options}
use Rattle.mca_views.specs.Lines.{lines}
use Rattle.mca_views.specs.Region.{region_lines}
use Rattle.mca_views.specs.Shown.{Shown}
use Rattle.mca_views.specs.WorkedPressure.{region, one_sum}

-- every view that has an option is on
abbrev pub every_view : Options
every_view = record {
  table = [];
  mcpu = [];
  iterations = 1;
  dispatch = 0;
  register_file_size = 0;
  lqueue = 0;
  squeue = 0;
  noalias = true;
  instruction_info = true;
  resource_pressure = true;
  timeline = true;
  timeline_max_iterations = 10;
  timeline_max_cycles = 80;
  bottleneck_analysis = true;
  load = None;
  input = [];
}

-- one sum: the report of the region
abbrev pub report_text : List ℕ
report_text = codes "[0] Code Region\n\nIterations:        1\nInstructions:      1\nTotal Cycles:      4\nTotal uOps:        1\n\nDispatch Width:    2\nuOps Per Cycle:    0.25\nIPC:               0.25\nBlock RThroughput: 0.5\n\nInstruction Info:\n[1]: #uOps\n[2]: Latency\n[3]: RThroughput\n[4]: MayLoad\n[5]: MayStore\n[6]: HasSideEffects (U)\n\n[1]    [2]    [3]    [4]    [5]    [6]    Instructions:\n1      1      0.50                        add a0, a1, a2\n\nResources:\n[0] - PA\n[1] - PB\n[2] - PD\n[3] - PM\n\nResource pressure per iteration:\n[0]    [1]    [2]    [3]\n1.00   -      -      -\n\nResource pressure by instruction:\n[0]    [1]    [2]    [3]    Instructions:\n1.00   -      -      -      add a0, a1, a2\n\nTimeline view:\n\nIndex     0123\n\n[0,0]     DeER   add a0, a1, a2\n\nAverage Wait times (based on the timeline view):\n[0]: Executions\n[1]: Average time spent waiting in a scheduler's queue\n[2]: Average time spent waiting in a scheduler's queue while ready\n[3]: Average time elapsed from WB until retire stage\n\n       [0]    [1]    [2]    [3]    Instructions:\n0.     1      1.0    0.0    1.0    add a0, a1, a2\n       1      1.0    0.0    1.0    <total>\n"

abbrev pub report : List ℕ
report = lines (region_lines 0 [] every_view one_sum None)

-- the summary alone
abbrev pub short_text : List ℕ
short_text = codes "[1] Code Region - q\n\nIterations:        1\nInstructions:      1\nTotal Cycles:      4\nTotal uOps:        1\n\nDispatch Width:    2\nuOps Per Cycle:    0.25\nIPC:               0.25\nBlock RThroughput: 0.5\n"

abbrev pub short : List ℕ
short = lines (region_lines 1 (codes "q") (record every_view { instruction_info = false; resource_pressure = false; timeline = false }) one_sum None)

-- instructions with their numbers

abbrev pub bound : Op → ℕ → ℕ → List Use → Kind → Bound
bound o uops latency uses kind = record { op = o; uops = uops; latency = latency; use_count = length uses; uses = eight uses; reserved = false; read_count = 0; reads = two []; rd = 0; write = 0; kind = kind; begins_group = false; ends_group = false }

abbrev pub instr : Op → ℕ → ℕ → ℕ → Imm → Instr
instr o rd a b i = record { op = o; rd = rd; rs1 = a; rs2 = b; imm = i }

-- a product of itself, two times, on one unit: its unit bounds the throughput, and not the dispatch width
abbrev pub products : Shown
products = region (instr op.Mul 10 10 10 imm.None ∷ []) (bound op.Mul 1 3 (use_of 0 1) Plain ∷ []) 2 (at 0 1 4 5 (unit 0) ∷ at 0 4 7 8 (unit 0) ∷ [])

abbrev pub products_text : List ℕ
products_text = codes "Iterations:        2\nInstructions:      2\nTotal Cycles:      9\nTotal uOps:        2\n\nDispatch Width:    2\nuOps Per Cycle:    0.22\nIPC:               0.22\nBlock RThroughput: 1.0\n"

-- more micro-ops than the reorder buffer has entries, a load, a store, a fence, and two uses of one resource
abbrev pub mixed : Shown
mixed = region
    (instr op.Div 10 11 12 imm.None ∷ instr op.Lw 10 11 0 (imm.Value (pos 0)) ∷ instr op.Sw 0 11 10 (imm.Value (pos 4)) ∷ instr op.Fence 0 0 0 (imm.Value (pos 51)) ∷ [])
    (bound op.Div 100 20 (use_of 3 20) Plain ∷ bound op.Lw 1 4 (use_of 4 1) Load ∷ bound op.Sw 1 3 (use_of 2 1 ++ use_of 2 2) Store ∷ bound op.Fence 3 1 (use_of 1 0) Barrier ∷ [])
    1 []

abbrev pub mixed_text : List ℕ
mixed_text = codes "Instruction Info:\n[1]: #uOps\n[2]: Latency\n[3]: RThroughput\n[4]: MayLoad\n[5]: MayStore\n[6]: HasSideEffects (U)\n\n[1]    [2]    [3]    [4]    [5]    [6]    Instructions:\n100    20     20.00                       div a0, a1, a2\n1      4      1.00   *                    lw a0, 0(a1)\n1      3      1.50          *             sw a0, 4(a1)\n3      1      1.50                 U      fence rw, rw\n"

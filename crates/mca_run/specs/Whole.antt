-- The report on a program by a machine: that of each region, with its own run.
use Rattle.std.specs.Prelude.{◌≡◌, ℕ, ◌<◌, List, [], ◌∷◌, ◌++◌, length, map, slice_index_or, Ok, Option}
use Rattle.critical_chain.specs.declared.graph.Chain.{Chain}
use Rattle.cycle_rules.specs.Bind.{row_of}
use Rattle.cycle_rules.specs.Run.{IsRun}
use Rattle.cycle_rules.specs.declared.bound.Bound.{Bound}
use Rattle.cycle_rules.specs.declared.times.Times.{Times}
use Rattle.machine_model.specs.Meaning.{MachineMeaning}
use Rattle.mca_views.specs.Bottleneck.{IsAsked as IsSequenceFor}
use Rattle.mca_views.specs.Lines.{lines}
use Rattle.mca_views.specs.Region.{region_lines}
use Rattle.mca_views.specs.Shown.{Shown}
use Rattle.mca_words.specs.declared.options.Options.{Options}
use Rattle.sched_validate.specs.Bind.{bound_code}
use Rattle.mca_run.specs.Asked.{iterations_of}
use Rattle.mca_run.specs.Regions.{region_at, code_at}
use Rattle.mca_run.specs.declared.program.Program.{Program}

-- what the views of a region show: its instructions, its body and the times of its rows
abbrev pub shown_at : MachineMeaning → Options → Program → ℕ → List Bound → List Times → Shown
shown_at m o p k body table = record {
  machine = m;
  code = code_at p k;
  names = p.names;
  body = body;
  iterations = iterations_of o;
  table = table;
}

-- the lines of a region's report: the views of its instructions and of the one run of its body, which begins with no row before it, and the critical sequence of that run where it is asked for
pub record IsRegionReport (m : MachineMeaning) (o : Options) (p : Program) (k : ℕ) (report : List (List ℕ)) : Type 0 where
  pub body : List Bound
  pub bound : bound_code m (code_at p k) ≡ Ok body
  pub table : List Times
  pub run : IsRun m (map row_of body) (iterations_of o) table
  pub chain : Option Chain
  pub sequence : IsSequenceFor o (shown_at m o p k body table) chain
  pub lines : report ≡ region_lines k (region_at p k).name o (shown_at m o p k body table) chain

-- reports, each behind an empty line
abbrev pub behind_gaps : List (List (List ℕ)) → List (List ℕ)
behind_gaps [] = []
behind_gaps (report ∷ reports) = [] ∷ (report ++ behind_gaps reports)

-- reports in order, with an empty line between two
abbrev pub with_gaps : List (List (List ℕ)) → List (List ℕ)
with_gaps [] = []
with_gaps (report ∷ reports) = report ++ behind_gaps reports

abbrev pub report_at : List (List (List ℕ)) → ℕ → List (List ℕ)
report_at reports k = slice_index_or reports k []

-- the bytes of the regions' reports, in the order of the regions
pub record IsWholeReport (m : MachineMeaning) (o : Options) (p : Program) (report : List ℕ) : Type 0 where
  pub reports : List (List (List ℕ))
  pub count : length reports ≡ length p.regions
  pub each : (k : ℕ) → k < length p.regions → IsRegionReport m o p k (report_at reports k)
  pub bytes : report ≡ lines (with_gaps reports)

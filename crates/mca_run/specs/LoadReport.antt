-- The report on the program that a number gives, by its one run on the machine `quad`.
use Rattle.std.specs.Prelude.{◌≡◌, ℕ, List, [], ◌∷◌, codes, map, Ok}
use Rattle.std.specs.Fmt.{decimal}
use Rattle.cycle_rules.specs.Bind.{row_of}
use Rattle.cycle_rules.specs.Run.{IsRun}
use Rattle.cycle_rules.specs.declared.bound.Bound.{Bound}
use Rattle.cycle_rules.specs.declared.times.Times.{Times}
use Rattle.machine_model.specs.Meaning.{MachineMeaning}
use Rattle.machine_model.specs.declared.tuning.Tuning.{Tuning}
use Rattle.mca_views.specs.Lines.{lines, labelled}
use Rattle.mca_views.specs.Summary.{summary_lines}
use Rattle.mca_words.specs.Options.{load_options}
use Rattle.sched_validate.specs.Bind.{bound_code}
use Rattle.mca_run.specs.Load.{generated}
use Rattle.mca_run.specs.Machines.{built_in_meaning, IsTuned}
use Rattle.mca_run.specs.declared.machine.BuiltIn.TheVariants.{Quad}

-- the number behind its label, an empty line, and the summary of 100 iterations of the number's program
abbrev pub load_lines : MachineMeaning → ℕ → List Bound → List Times → List (List ℕ)
load_lines m seed body table = labelled (codes "Load:") (decimal seed) ∷ [] ∷ summary_lines (record {
  machine = m;
  code = generated seed;
  names = [];
  body = body;
  iterations = 100;
  table = table;
})

-- the report, by the one run on the machine `quad` as it is without options
pub record IsLoadReport (seed : ℕ) (report : List ℕ) : Type 0 where
  pub tuning : Tuning
  pub untuned : IsTuned (load_options seed) tuning
  pub body : List Bound
  pub bound : bound_code (built_in_meaning Quad tuning) (generated seed) ≡ Ok body
  pub table : List Times
  pub run : IsRun (built_in_meaning Quad tuning) (map row_of body) 100 table
  pub bytes : report ≡ lines (load_lines (built_in_meaning Quad tuning) seed body table)

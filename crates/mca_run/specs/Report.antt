-- The report that words and contents ask for.
use Rattle.std.specs.Prelude.{ℕ, ◌≤◌, List, length}
use Rattle.machine_model.specs.Meaning.{MachineMeaning}
use Rattle.mca_fixed.specs.declared.limits.TheConstants.{MOST_REPORT_BYTES}
use Rattle.mca_words.specs.declared.options.Options.{Options}
use Rattle.mca_run.specs.Asked.{IsAsked, IsLoadAsked, iterations_of}
use Rattle.mca_run.specs.LoadReport.{IsLoadReport}
use Rattle.mca_run.specs.Refusal.{Contents, IsInput, IsMachine, IsTaken}
use Rattle.mca_run.specs.Whole.{IsWholeReport}
use Rattle.mca_run.specs.declared.program.Program.{Program}

-- the report on a program by a machine that takes it, where it is not too long
pub record IsMachineReport (m : MachineMeaning) (o : Options) (p : Program) (report : List ℕ) : Type 0 where
  pub taken : IsTaken m p (iterations_of o)
  pub whole : IsWholeReport m o p report
  pub short : length report ≤ MOST_REPORT_BYTES

-- .. by the machine that the options name
pub record IsRunReport (contents : Contents) (o : Options) (p : Program) (report : List ℕ) : Type 0 where
  pub machine : MachineMeaning
  pub named : IsMachine contents o machine
  pub by : IsMachineReport machine o p report

-- the report on the files that the words name
pub record IsFilesReport (words : List (List ℕ)) (contents : Contents) (report : List ℕ) : Type 0 where
  pub options : Options
  pub asked : IsAsked words options
  pub program : Program
  pub input : IsInput contents options program
  pub run : IsRunReport contents options program report

-- the report that words and contents ask for: on files, or on the program that a number gives
pub data IsReport (words : List (List ℕ)) (contents : Contents) (report : List ℕ) : Type 0 where
  of_files : IsFilesReport words contents report → IsReport words contents report
  of_load : (seed : ℕ) → IsLoadAsked words seed → IsLoadReport seed report → IsReport words contents report

-- How many turns of a machine a call may make.
use Rattle.std.specs.Prelude.{◌≡◌, ℕ, ◌+◌, ◌≤◌, List, length, map, Ok, Err}
use Rattle.std.specs.declared.result.Result.{Result}
use Rattle.cycle_rules.specs.Below.{sum_below}
use Rattle.cycle_rules.specs.Bind.{row_of}
use Rattle.cycle_rules.specs.CycleBound.{turn_bound}
use Rattle.cycle_rules.specs.Row.{input}
use Rattle.cycle_rules.specs.declared.bound.Bound.{Bound}
use Rattle.machine_model.specs.Meaning.{MachineMeaning}
use Rattle.machine_model.specs.declared.tuning.Tuning.{Tuning}
use Rattle.mca_words.specs.Options.{load_options}
use Rattle.mca_words.specs.declared.options.Options.{Options}
use Rattle.sched_validate.specs.Bind.{bound_code}
use Rattle.sched_validate.specs.declared.fault.BindFault.{BindFault}
use Rattle.mca_run.specs.Asked.{IsAsked, IsLoadAsked, iterations_of}
use Rattle.mca_run.specs.Load.{generated}
use Rattle.mca_run.specs.Machines.{built_in_meaning, IsTuned}
use Rattle.mca_run.specs.Refusal.{Contents, IsInput, IsMachine}
use Rattle.mca_run.specs.Regions.{code_at}
use Rattle.mca_run.specs.declared.machine.BuiltIn.TheVariants.{Quad}
use Rattle.mca_run.specs.declared.program.Program.{Program}

-- for the run of a body; none where the machine does not run an instruction
abbrev pub body_turns : MachineMeaning → ℕ → Result (List Bound) BindFault → ℕ
body_turns m n (Ok body) = turn_bound (input m (map row_of body) n)
body_turns m n (Err fault) = 0

-- .. of a region, by its number
abbrev pub region_turns : MachineMeaning → ℕ → Program → ℕ → ℕ
region_turns m n p k = body_turns m n (bound_code m (code_at p k))

-- .. of all regions
abbrev pub program_turns : MachineMeaning → ℕ → Program → ℕ
program_turns m n p = sum_below (length p.regions) (region_turns m n p)

-- steps rise by at most the turns of a program on the machine that the options name; not at all where there is none: the table is refused, or is not there
pub record StepsRiseBy (contents : Contents) (o : Options) (p : Program) (before after : ℕ) : Type 0 where
  pub some : (m : MachineMeaning) → IsMachine contents o m → after ≤ before + program_turns m (iterations_of o) p
  pub none : ((m : MachineMeaning) → IsMachine contents o m → ⊥) → after ≡ before

-- what the words ask for, a program and a machine
pub record IsSetUp (words : List (List ℕ)) (contents : Contents) (o : Options) (p : Program) (m : MachineMeaning) : Type 0 where
  pub asked : IsAsked words o
  pub input : IsInput contents o p
  pub machine : IsMachine contents o m

-- .. of the program that a number gives, on the machine `quad` as it is without options
abbrev pub load_turns : Tuning → ℕ → ℕ
load_turns t seed = body_turns (built_in_meaning Quad t) 100 (bound_code (built_in_meaning Quad t) (generated seed))

-- steps rise by no more than those
abbrev pub LoadStepsRise : ℕ → ℕ → ℕ → Type 0
LoadStepsRise seed before after = (t : Tuning) → IsTuned (load_options seed) t → after ≤ before + load_turns t seed

-- steps rise by at most the turns of the program, of files or of a number; not at all where the words, the assembly or the table are refused, or a named file is not there
pub record StepsRise (words : List (List ℕ)) (contents : Contents) (before after : ℕ) : Type 0 where
  pub some : (o : Options) (p : Program) (m : MachineMeaning) → IsSetUp words contents o p m → after ≤ before + program_turns m (iterations_of o) p
  pub load : (seed : ℕ) → IsLoadAsked words seed → LoadStepsRise seed before after
  pub none : ((o : Options) (p : Program) (m : MachineMeaning) → IsSetUp words contents o p m → ⊥) → ((seed : ℕ) → IsLoadAsked words seed → ⊥) → after ≡ before

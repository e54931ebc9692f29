-- The numbers that options hold are those of their ranges.
use Rattle.std.specs.Prelude.{◌≡◌, ℕ, ◌≤◌, Some}
use Rattle.mca_fixed.specs.declared.limits.TheConstants.{MOST_ROWS}
use Rattle.mca_words.specs.declared.options.Options.{Options}

pub record AreInRange (o : Options) : Type 0 where
  pub iterations : o.iterations ≤ MOST_ROWS
  pub dispatch : o.dispatch ≤ 64
  pub register_file_size : o.register_file_size ≤ 65536
  pub lqueue : o.lqueue ≤ 4096
  pub squeue : o.squeue ≤ 4096
  pub timeline_max_iterations : o.timeline_max_iterations ≤ MOST_ROWS
  pub timeline_max_cycles : o.timeline_max_cycles ≤ 1000000
  pub load : (seed : ℕ) → o.load ≡ Some seed → seed ≤ 4294967295

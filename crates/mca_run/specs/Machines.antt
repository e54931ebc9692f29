-- The machine that the options name: a built-in one, or that of a table.
use Rattle.std.specs.Prelude.{◌≡◌, ℕ, List, codes, nat_eq, Some, None, if◌then◌else◌}
use Rattle.std.specs.Cmp.Lexicographic.{pointwise}
use Rattle.std.specs.declared.option.Option.{Option}
use Rattle.machine_model.specs.Fixed.{fixed_meaning}
use Rattle.machine_model.specs.Meaning.{MachineMeaning}
use Rattle.machine_model.specs.declared.tuning.Tuning.{Tuning}
use Rattle.mca_words.specs.declared.options.Options.{Options}
use Rattle.mca_run.specs.declared.machine.BuiltIn.{BuiltIn}
use Rattle.mca_run.specs.declared.machine.BuiltIn.TheVariants.{Tiny, Dual, Quad}

-- the built-in machine of a name; none of any other
abbrev pub named_machine : List ℕ → Option BuiltIn
named_machine name = if pointwise nat_eq name (codes "tiny") then Some Tiny
    else if pointwise nat_eq name (codes "dual") then Some Dual
    else if pointwise nat_eq name (codes "quad") then Some Quad
    else None

-- the built-in machine that the options name; none where they name a table
abbrev pub fixed_of : Options → Option BuiltIn
fixed_of o = named_machine o.mcpu

-- by width, entries of the reorder buffer, and units of arithmetic
abbrev pub built_in_meaning : BuiltIn → Tuning → MachineMeaning
built_in_meaning Tiny t = fixed_meaning 1 8 1 t
built_in_meaning Dual t = fixed_meaning 2 32 2 t
built_in_meaning Quad t = fixed_meaning 4 128 4 t

-- the numbers that the options give in place of a machine's own
pub record IsTuned (o : Options) (t : Tuning) : Type 0 where
  pub dispatch : t.dispatch ≡ o.dispatch
  pub registers : t.registers ≡ o.register_file_size
  pub loads : t.loads ≡ o.lqueue
  pub stores : t.stores ≡ o.squeue
  pub no_alias : t.no_alias ≡ o.noalias

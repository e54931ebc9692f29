-- The machine that a table describes, with what the command line changes of it.
use Rattle.std.specs.Prelude.{ℕ, ℤ, pos, int_le, List, [], length, map, slice_get, slice_index_or, nat_eq, Some, None, if◌then◌else◌}
use Rattle.std.specs.declared.option.Option.{Option}
use Rattle.machine_model.specs.Meaning.{MachineMeaning}
use Rattle.machine_model.specs.declared.limits.Limits.{Limits}
use Rattle.machine_model.specs.declared.tuning.Tuning.{Tuning}
use Rattle.sched_checks.specs.Resources.{count_of, resources_of}
use Rattle.sched_resolve.specs.declared.entry.Defaults.{Defaults}
use Rattle.sched_resolve.specs.declared.entry.Entry.{Entry}
use Rattle.sched_resolve.specs.declared.entry.Model.{Model}
use Rattle.sched_resolve.specs.declared.entry.Queue.{Queue}
use Rattle.sched_resolve.specs.declared.entry.Resource.{Resource}
use Rattle.sched_resolve.specs.declared.entry.Retirement.{Retirement}
use Rattle.sched_validate.specs.Lists.{models_of, files_of, retirements_of, load_queues_of, store_queues_of, rewrites_of}
use Rattle.sched_validate.specs.Units.{has_unit, owner_of}
use Rattle.sched_validate.specs.Files.{share_from}
use Rattle.sched_validate.specs.Classes.{writes_of, advances_of, facts_of, no_facts, advance_after, class_for}

-- a number of the command line, where it is not 0, stands for the machine's own
abbrev pub or_own : ℕ → ℕ → ℕ
or_own tuned own = if nat_eq tuned 0 then own else tuned

abbrev pub no_model : Model
no_model = record { width = pos 1; buffer = pos 1 }

abbrev pub model_of : List Entry → Model
model_of es = slice_index_or (models_of es) 0 no_model

-- the entries of the reorder buffer: those of the retire control unit where they are 1 or more, else of the model
abbrev pub reorder_by : ℤ → Option Retirement → ℤ
reorder_by buffer None = buffer
reorder_by buffer (Some r) = if int_le (pos 1) r.entries then r.entries else buffer

abbrev pub retire_by : Option Retirement → ℕ
retire_by None = 0
retire_by (Some r) = count_of r.width

-- the bound of a queue: the buffer of its resource, none where that is 0 or less
abbrev pub buffer_at : Option Resource → ℕ
buffer_at None = 0
buffer_at (Some r) = count_of r.buffer

abbrev pub bound_at : List Resource → Option ℕ → ℕ
bound_at rs None = 0
bound_at rs (Some p) = buffer_at (slice_get rs p)

abbrev pub bound_by : List Resource → Option Queue → ℕ
bound_by rs None = 0
bound_by rs (Some q) = bound_at rs q.resource

abbrev pub reorder_of : List Entry → ℤ
reorder_of es = reorder_by (model_of es).buffer (slice_get (retirements_of es) 0)

abbrev pub retire_of : List Entry → ℕ
retire_of es = retire_by (slice_get (retirements_of es) 0)

abbrev pub limits_of : List Entry → Tuning → Limits
limits_of es t = record {
  width = or_own t.dispatch (count_of (model_of es).width);
  reorder = count_of (reorder_of es);
  retire = retire_of es;
  loads = or_own t.loads (bound_by (resources_of es) (slice_get (load_queues_of es) 0));
  stores = or_own t.stores (bound_by (resources_of es) (slice_get (store_queues_of es) 0));
  registers = t.registers;
  no_alias = t.no_alias;
}

abbrev pub machine_of : List Entry → List Defaults → Tuning → MachineMeaning
machine_of es ds t = record {
  limits = limits_of es t;
  unit_count = 256;
  resource_count = length (resources_of es);
  buffer = λ r. slice_index_or (map (λ x. x.buffer) (resources_of es)) r (pos 0);
  resource_name = λ r. slice_index_or (map (λ x. x.name) (resources_of es)) r [];
  units = has_unit (resources_of es);
  owner = owner_of (resources_of es);
  file_count = length (files_of es);
  file_size = λ f. slice_index_or (map (λ x. count_of x.size) (files_of es)) f 0;
  file_of = λ r. share_from 0 r (files_of es);
  class_of = class_for (writes_of es) (rewrites_of es) ds;
  write_count = length (writes_of es);
  read_count = length (advances_of es);
  class = λ k. slice_index_or (map facts_of (writes_of es)) k no_facts;
  advance = advance_after (advances_of es);
}

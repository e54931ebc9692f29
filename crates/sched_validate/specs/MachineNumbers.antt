-- The numbers that are kept of a table are what its machine tells.
use Rattle.std.specs.Prelude.{◌≡◌, ℕ, ◌<◌, List, length, map, slice_index_or, None}
use Rattle.std.specs.List.{range_with_len}
use Rattle.rv_isa.specs.declared.op.Op.{Op}
use Rattle.machine_model.specs.declared.answers.ClassAnswer.TheVariants.{Missing}
use Rattle.machine_model.specs.declared.tuning.Tuning.{Tuning}
use Rattle.unit_sets.specs.Members.{in_words}
use Rattle.sched_checks.specs.Resources.{count_of, resources_of}
use Rattle.sched_resolve.specs.declared.entry.Defaults.{Defaults}
use Rattle.sched_resolve.specs.declared.entry.Entry.{Entry}
use Rattle.sched_validate.specs.Advances.{StandsFor}
use Rattle.sched_validate.specs.Classes.{writes_of, advances_of, facts_of, op_number, class_for}
use Rattle.sched_validate.specs.Files.{share_from}
use Rattle.sched_validate.specs.Lists.{files_of, rewrites_of}
use Rattle.sched_validate.specs.Machine.{limits_of}
use Rattle.sched_validate.specs.Spans.{no_set}
use Rattle.sched_validate.specs.Units.{has_unit, owner_of}
use Rattle.sched_validate.specs.declared.machine_numbers.MachineNumbers.{MachineNumbers}
use Rattle.sched_validate.specs.declared.lists.Lists.{Lists}

-- the lists are those of the entries
pub record AreLists (es : List Entry) (lists : Lists) : Type 0 where
  pub resources : map (λ r. r.now) lists.resources.now ≡ resources_of es
  pub files : map (λ f. f.now) lists.files.now ≡ files_of es
  pub writes : map (λ w. w.now) lists.writes.now ≡ writes_of es
  pub rewrites : map (λ r. r.now) lists.rewrites.now ≡ rewrites_of es
  pub advances : map (λ a. a.now) lists.advances.now ≡ advances_of es

pub record AreNumbers (es : List Entry) (ds : List Defaults) (t : Tuning) (k : MachineNumbers) : Type 0 where
  pub limits : k.limits ≡ limits_of es t
  pub buffers : k.buffers ≡ map (λ r. r.buffer) (resources_of es)
  pub names : k.names ≡ map (λ r. r.name) (resources_of es)
  pub masks_count : length k.masks ≡ length (resources_of es)
  pub masks : (r u : ℕ) → r < length (resources_of es) → in_words (slice_index_or k.masks r no_set).words u ≡ has_unit (resources_of es) r u
  pub owners_count : length k.owners ≡ 256
  pub owners : (u : ℕ) → u < 256 → slice_index_or k.owners u None ≡ owner_of (resources_of es) u
  pub sizes : k.sizes ≡ map (λ f. count_of f.size) (files_of es)
  pub shares : k.shares ≡ map (λ r. share_from 0 r (files_of es)) (range_with_len 0 32)
  pub classes_count : length k.classes ≡ 66
  pub classes : (o : Op) → slice_index_or k.classes (op_number o) Missing ≡ class_for (writes_of es) (rewrites_of es) ds o
  pub writes : k.writes ≡ map facts_of (writes_of es)
  pub reads : k.read_count ≡ length (advances_of es)
  pub advances : StandsFor k.advances (advances_of es)

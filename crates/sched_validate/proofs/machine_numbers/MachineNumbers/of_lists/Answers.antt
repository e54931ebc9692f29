use Rattle.std.proofs.Common.{◌∙◌, ◌≤◌, sym, subst, ap, length, map, arith}
use Rattle.std.specs.Prelude.{sum_by, slice_index_or}
use Rattle.std.specs.List.{range_with_len}
use Rattle.std.proofs.lemmas.List.{length-map}
use Rattle.rv_isa.specs.Opcodes.{opcodes, op_number}
use Rattle.rv_isa.proofs.OpNumbers.{at_its_number}
use Rattle.machine_model.specs.declared.answers.ClassAnswer.TheVariants.{Missing}
use Rattle.sched_checks.specs.Resources.{count_of, own_units}
use Rattle.sched_resolve.specs.InRange.{resources_of, writes_of, advances_of}
use Rattle.sched_validate.specs.Advances.{IsSmallAdvance, StandsFor}
use Rattle.sched_validate.specs.Buffers.{IsBuffered}
use Rattle.sched_validate.specs.Classes.{IsSmallWrite, IsSmallRewrite, facts_of, class_for}
use Rattle.sched_validate.specs.Files.{IsSmallFile, share_from}
use Rattle.sched_validate.specs.Lists.{files_of, rewrites_of}
use Rattle.sched_validate.specs.Spans.{MembersArePlaces}
use Rattle.sched_validate.specs.Units.{has_unit, owner_of}
use Rattle.sched_validate.proofs.GoodFiles.{few_files, good_file}
use Rattle.sched_validate.proofs.GoodResources.{few, good}
use Rattle.sched_validate.proofs.Needs.{places, all_refs, buffered, units_fit, members_fit, small_file, small_write, small_rewrite, small_defaults, small_cycles_of, map_refs}
use Rattle.sched_validate.proofs.Sound.{healthy}
use Rattle.sched_validate.proofs.Whole.{valid, map_at}
use Rattle.sched_validate.proofs.machine_numbers.MachineNumbers.of_lists.Goals as goal

pub limits-requires-clause-right : goal.limits-requires-clause-right
limits-requires-clause-right c = (valid c.args.list.now c.args.defaults.now c.args.tuning.now c.requires.few (places c.args.list.now c.args.defaults.now c.requires.places) c.requires.healthy).limits

pub buffers-requires : goal.buffers-requires
buffers-requires c = all_refs IsBuffered c.args.lists.now.resources.now (resources_of c.args.list.now) c.requires.lists.resources (buffered c.args.list.now (healthy c.args.list.now c.requires.healthy))

pub masks-requires-clause-sum : goal.masks-requires-clause-sum
masks-requires-clause-sum c = subst (λ xs. sum_by (λ r. own_units r.makeup) xs ≤ 256) (sym c.requires.lists.resources) (units_fit c.args.list.now (healthy c.args.list.now c.requires.healthy))

pub masks-requires-clause-members : goal.masks-requires-clause-members
masks-requires-clause-members c = subst MembersArePlaces (sym c.requires.lists.resources) (members_fit c.args.list.now c.args.defaults.now (places c.args.list.now c.args.defaults.now c.requires.places))

pub owners-requires-clause-sum : goal.owners-requires-clause-sum
owners-requires-clause-sum c = subst (λ xs. sum_by (λ r. own_units r.makeup) xs ≤ 256) (sym c.requires.lists.resources) (units_fit c.args.list.now (healthy c.args.list.now c.requires.healthy))

pub owners-requires-clause-few : goal.owners-requires-clause-few
owners-requires-clause-few c = subst (λ xs. length xs ≤ 64) (sym c.requires.lists.resources) (few (resources_of c.args.list.now) (λ j r e. good c.args.list.now (healthy c.args.list.now c.requires.healthy) j r e))

pub sizes-requires : goal.sizes-requires
sizes-requires c = all_refs IsSmallFile c.args.lists.now.files.now (files_of c.args.list.now) c.requires.lists.files (small_file c.args.list.now (healthy c.args.list.now c.requires.healthy))

pub shares-requires-clause-files : goal.shares-requires-clause-files
shares-requires-clause-files c = all_refs IsSmallFile c.args.lists.now.files.now (files_of c.args.list.now) c.requires.lists.files (small_file c.args.list.now (healthy c.args.list.now c.requires.healthy))

pub shares-requires-clause-few : goal.shares-requires-clause-few
shares-requires-clause-few c = omega (
  arith,
  length-map c.args.lists.now.files.now (λ f. f.now),
  ap length c.requires.lists.files,
  few_files (files_of c.args.list.now) (λ j f e. good_file c.args.list.now (healthy c.args.list.now c.requires.healthy) j f e),
)

pub all_classes-requires-clause-rewrites : goal.all_classes-requires-clause-rewrites
all_classes-requires-clause-rewrites c = all_refs IsSmallRewrite c.args.lists.now.rewrites.now (rewrites_of c.args.list.now) c.requires.lists.rewrites
    (small_rewrite c.args.list.now c.args.defaults.now c.requires.few (places c.args.list.now c.args.defaults.now c.requires.places))

pub all_classes-requires-clause-defaults : goal.all_classes-requires-clause-defaults
all_classes-requires-clause-defaults c = small_defaults c.args.list.now c.args.defaults.now c.requires.few (places c.args.list.now c.args.defaults.now c.requires.places)

pub all_facts-requires : goal.all_facts-requires
all_facts-requires c = all_refs IsSmallWrite c.args.lists.now.writes.now (writes_of c.args.list.now) c.requires.lists.writes
    (small_write c.args.list.now c.args.defaults.now (healthy c.args.list.now c.requires.healthy) (places c.args.list.now c.args.defaults.now c.requires.places))

pub kept_advances-requires : goal.kept_advances-requires
kept_advances-requires c = all_refs IsSmallAdvance c.args.lists.now.advances.now (advances_of c.args.list.now) c.requires.lists.advances (small_cycles_of c.args.list.now (healthy c.args.list.now c.requires.healthy))

pub returns : goal.returns
returns c = record {
  limits = c.limits.ensures;
  buffers = c.in_ok-buffers.ensures ∙ map_refs (λ r. r.buffer) c.args.lists.now.resources.now (resources_of c.args.list.now) c.requires.lists.resources;
  names = c.in_ok-names.ensures ∙ map_refs (λ r. r.name) c.args.lists.now.resources.now (resources_of c.args.list.now) c.requires.lists.resources;
  masks_count = c.in_ok-masks.ensures.count ∙ ap length c.requires.lists.resources;
  masks = λ r u lt. c.in_ok-masks.ensures.units r u (omega (arith, lt, ap length c.requires.lists.resources)) ∙ ap (λ xs. has_unit xs r u) c.requires.lists.resources;
  owners_count = c.in_ok-owners.ensures.count;
  owners = λ u lt. c.in_ok-owners.ensures.owner u lt ∙ ap (λ xs. owner_of xs u) c.requires.lists.resources;
  sizes = c.in_ok-sizes.ensures ∙ map_refs (λ f. count_of f.size) c.args.lists.now.files.now (files_of c.args.list.now) c.requires.lists.files;
  shares = c.in_ok-shares.ensures ∙ ap (λ fs. map (λ r. share_from 0 r fs) (range_with_len 0 32)) c.requires.lists.files;
  classes_count = ap length c.in_ok-all_classes.ensures;
  classes = λ o. ap (λ xs. slice_index_or xs (op_number o) Missing) c.in_ok-all_classes.ensures
      ∙ (λ i. slice_index_or (map (class_for (c.requires.lists.writes i) (c.requires.lists.rewrites i) c.args.defaults.now) opcodes) (op_number o) Missing)
      ∙ map_at (class_for (writes_of c.args.list.now) (rewrites_of c.args.list.now) c.args.defaults.now) opcodes (op_number o) o Missing (at_its_number o);
  writes = c.in_ok-all_facts.ensures ∙ map_refs facts_of c.args.lists.now.writes.now (writes_of c.args.list.now) c.requires.lists.writes;
  reads = sym (length-map c.args.lists.now.advances.now (λ a. a.now)) ∙ ap length c.requires.lists.advances;
  advances = subst (StandsFor c.in_ok-kept_advances.field-0) c.requires.lists.advances c.in_ok-kept_advances.ensures;
}

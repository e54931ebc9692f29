use Rattle.std.proofs.Common.{◌≡◌, ◌∙◌, ◌≤◌, sym, ap, length, arith, None}
use Rattle.sched_checks.specs.Illness.{illness_of}
use Rattle.sched_resolve.specs.Entries.{entries_of, all_defaults}
use Rattle.sched_validate.specs.Machine.{machine_of}
use Rattle.sched_validate.proofs.Needs.{places}
use Rattle.sched_validate.proofs.Tables.{as_many_entries, entries_in_range, unless_memory}
use Rattle.sched_validate.proofs.Whole.{valid}
use Rattle.sched_validate.proofs.validation.validate.Goals as goal

pub first_illness-requires : goal.first_illness-requires
first_illness-requires c = omega (arith, ap length c.as_slice-2.ensures, as_many_entries c.args.records.now c.in-Ok.entries.list (c.in-Ok.ensures.list ∙ ap entries_of c.as_slice.ensures), c.requires)

pub returns-in-Ok-Some-clause-ill : goal.returns-in-Ok-Some-clause-ill
returns-in-Ok-Some-clause-ill c = unless_memory _ _
    (sym (c.in-Ok-Some.ensures.first ∙ ap illness_of (c.as_slice-2.ensures ∙ c.in-Ok.ensures.list ∙ ap entries_of c.as_slice.ensures)) ∙ c.in-Ok-Some.field-0-is)

pub of-requires-clause-few : goal.of-requires-clause-few
of-requires-clause-few c = omega (arith, as_many_entries c.args.records.now c.in-Ok.entries.list (c.in-Ok.ensures.list ∙ ap entries_of c.as_slice.ensures), c.requires)

pub of-requires-clause-places : goal.of-requires-clause-places
of-requires-clause-places c = entries_in_range c.args.records.now c.in-Ok.entries.list c.in-Ok.entries.defaults (c.in-Ok.ensures.list ∙ ap entries_of c.as_slice.ensures)
    (c.in-Ok.ensures.defaults ∙ ap all_defaults c.as_slice.ensures)

pub new-requires-clause-valid : goal.new-requires-clause-valid
new-requires-clause-valid c =
    let few : length c.in-Ok.entries.list ≤ 8192 = omega (arith, as_many_entries c.args.records.now c.in-Ok.entries.list (c.in-Ok.ensures.list ∙ ap entries_of c.as_slice.ensures), c.requires) in
    let healthy : illness_of c.in-Ok.entries.list ≡ None = sym (c.in-Ok-None.ensures.first ∙ ap illness_of c.as_slice-2.ensures) ∙ c.in-Ok-None.field-0-is in
    valid c.in-Ok.entries.list c.in-Ok.entries.defaults c.args.tuning.now few
    (places c.in-Ok.entries.list c.in-Ok.entries.defaults (entries_in_range c.args.records.now c.in-Ok.entries.list c.in-Ok.entries.defaults
    (c.in-Ok.ensures.list ∙ ap entries_of c.as_slice.ensures) (c.in-Ok.ensures.defaults ∙ ap all_defaults c.as_slice.ensures))) healthy

pub returns-in-Ok-of-clause-machine : goal.returns-in-Ok-of-clause-machine
returns-in-Ok-of-clause-machine c =
    let list : c.new.result.entries.list ≡ entries_of c.args.records.now = ap (λ e. e.list) c.new.ensures.entries ∙ c.in-Ok.ensures.list ∙ ap entries_of c.as_slice.ensures in
    let defaults : c.new.result.entries.defaults ≡ all_defaults c.args.records.now = ap (λ e. e.defaults) c.new.ensures.entries ∙ c.in-Ok.ensures.defaults ∙ ap all_defaults c.as_slice.ensures in
    λ i. machine_of (list i) (defaults i) (c.new.ensures.tuning i)

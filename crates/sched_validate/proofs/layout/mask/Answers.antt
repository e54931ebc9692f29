use Rattle.std.proofs.Common.{◌||◌, length, get_or, ap, sym, ◌∙◌, arith}
use Rattle.sched_validate.specs.Spans.{is_within, span_at}
use Rattle.sched_validate.proofs.Spans.{resource_at, spans_count, spans_many, spans_low, members_known, units_of_one, units_of_group}
use Rattle.sched_validate.proofs.layout.mask.Goals as goal

pub bounds-spans-k : goal.bounds-spans-k
bounds-spans-k c = omega (arith, spans_many c.args.resources.now c.args.spans.now c.requires.spans)

pub add_units-requires : goal.add_units-requires
add_units-requires c = spans_low _ _ c.requires.spans c.requires.sum c.args.k _ (omega (arith, spans_many c.args.resources.now c.args.spans.now c.requires.spans))

pub group-requires-clause-fit : goal.group-requires-clause-fit
group-requires-clause-fit c = spans_low _ _ c.requires.spans c.requires.sum

pub group-requires-clause-known : goal.group-requires-clause-known
group-requires-clause-known c =
    let at : _ = resource_at c.args.resources.now c.args.k c.index-resources-k.result c.requires.known in
    let count : _ = ap length c.requires.spans ∙ spans_count _ 0 in
    rw (c.as_slice.ensures, count) (members_known _ (get_or c.args.resources.now c.args.k c.index-resources-k.result).now c.in-Group.members c.in-Group.is (λ p. c.requires.members c.args.k p _ at))

pub returns-in-Units : goal.returns-in-Units
returns-in-Units c = λ v.
    let at : _ = resource_at c.args.resources.now c.args.k c.index-resources-k.result c.requires.known in
    c.add_units.ensures v
    ∙ ap (λ b. is_within (span_at c.args.spans.now c.args.k) v || b) (c.empty-units.ensures v)
    ∙ rw c.requires.spans (sym (units_of_one _ c.args.k v _ c.in-Units.field-0 at c.in-Units.is))

pub returns-in-Group : goal.returns-in-Group
returns-in-Group c = λ v.
    let at : _ = resource_at c.args.resources.now c.args.k c.index-resources-k.result c.requires.known in
    c.group.ensures v ∙ rw (c.requires.spans, c.as_slice.ensures) (sym (units_of_group _ c.args.k v _ c.in-Group.members at c.in-Group.is))

use Rattle.std.proofs.Common.{arith}
use Rattle.sched_records.specs.Values.{elements}
use Rattle.sched_records.proofs.ListSteps.{list_stops, list_ends, list_goes_on}
use Rattle.sched_records.proofs.value.elements.Goals as goal

pub returns-in-Err-clause-read : goal.returns-in-Err-clause-read
returns-in-Err-clause-read c = list_stops c.in-Err.fault c.after_wide.result c.elements.wide c.elements.atoms.items c.elements.tokens (elements c.args.tokens.now)
    c.after_wide.ensures c.in-Err.ensures.read c.elements.invariant.same

pub returns-then-element-clause-read : goal.returns-then-element-clause-read
returns-then-element-clause-read c =
    rw (c.from_vec.ensures, c.in_ok-push.ensures.items, c.or-wide.ensures)
    (list_ends c.in-Ok.element c.elements.wide c.elements.atoms.items c.elements.tokens c.element_of.new.tokens (elements c.args.tokens.now)
    c.in-Ok.ensures.read c.if-element.true c.elements.invariant.same)

pub elements-preserved : goal.elements-preserved
elements-preserved c = record {
  shorter = omega (arith, c.in-Ok.ensures.shorter);
  same = rw (c.in_ok-push.ensures.items, c.or-wide.ensures)
      (list_goes_on c.in-Ok.element c.elements.wide c.elements.atoms.items c.elements.tokens c.element_of.new.tokens (elements c.args.tokens.now)
      c.in-Ok.ensures.read c.if-element.false c.elements.invariant.same);
}

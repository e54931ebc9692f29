use Rattle.sched_resolve.proofs.names.Names.of.Goals as goal

pub invariant_of-result : goal.invariant_of-result
invariant_of-result c = record {
  models = c.in_ok-models.ensures;
  resources = c.in_ok-resources.ensures;
  own = c.in_ok-own.ensures;
  written = c.in_ok-written.ensures;
  reads = c.in_ok-reads.ensures;
}

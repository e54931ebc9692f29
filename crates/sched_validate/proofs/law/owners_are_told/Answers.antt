use Rattle.sched_checks.specs.Resources.{resources_of}
use Rattle.sched_validate.proofs.UnitOwners.{IsOwned, owned_by, unowned}
use Rattle.sched_validate.proofs.law.owners_are_told.Goals as goal

pub returns : goal.returns
returns c = λ es ds t. record {
  some = λ u o e. (let is : IsOwned (resources_of es) u o = owned_by (resources_of es) u o e in (is.resource, is.plain, is.has));
  none = λ u r e lt plain. unowned (resources_of es) u r e plain;
}

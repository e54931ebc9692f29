use Rattle.std.proofs.Common.{refl}
use Rattle.dep_graph.specs.declared.window.Limited.TheVariants.{Entries, Registers, Loads, Stores}
use Rattle.dep_graph.proofs.walk.Walk.empty.Goals as goal

pub returns : goal.returns
returns c = λ g t. record {
  begin = refl;
  fill = c.empty.ensures g t;
  entries = c.empty-2.ensures g Entries g.machine.limits.reorder;
  registers = c.empty-3.ensures g Registers g.machine.limits.registers;
  loads = c.empty-4.ensures g Loads g.machine.limits.loads;
  stores = c.empty-5.ensures g Stores g.machine.limits.stores;
  files = c.empty_files.ensures g;
}

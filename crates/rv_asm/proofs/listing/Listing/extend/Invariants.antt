use Rattle.std.proofs.Common.{◌≡◌, ◌++◌}
use Rattle.rv_asm.proofs.listing.Listing.extend.Given as goal

abbrev pub invariant-loop-item : goal.invariant-loop-item
invariant-loop-item l = record {
  so_far : l.self ≡ l.fn.self ++ l.yielded;
  whole : l.yielded ++ l.item-iterator.rest.items ≡ l.fn.items.items;
}

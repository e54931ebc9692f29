use Rattle.std.proofs.Common.{◌≡◌, ◌+◌, length, map}
use Rattle.std.specs.List.{All}
use Rattle.cycle_rules.specs.Bind.{row_of}
use Rattle.cycle_rules.specs.Links.{AllLinks, AreLast, IsWithin}
use Rattle.cycle_rules.proofs.links.all_links.Given as goal

abbrev pub invariant-loop-place : goal.invariant-loop-place
invariant-loop-place g l = record {
  size : length l.links.items ≡ l.place;
  linked : AllLinks (g.M.Machine.meaning l.machine) (map row_of l.body) l.place l.links.items;
  near : All (IsWithin (length l.body)) l.links.items;
  last : AreLast (map row_of l.body) (length l.body + l.place) l.writers.last;
}

use Rattle.std.proofs.Common.{◌≡◌, ◌+◌, ◌∷◌, [], List, map, length, ap, sym, subst, ◌∙◌, arith, length-append}
use Rattle.std.specs.List.{All}
use Rattle.std.proofs.lemmas.List.Elements.{All-push}
use Rattle.cycle_rules.specs.Bind.{row_of}
use Rattle.cycle_rules.specs.declared.links.Links.{Links}
use Rattle.cycle_rules.specs.Links.{AllLinks, AreLast, IsWithin}
use Rattle.cycle_rules.proofs.LastWriters.{wrote_second}
use Rattle.cycle_rules.proofs.Producers.{links_more}
use Rattle.cycle_rules.proofs.links.all_links.Goals as goal

pub loop-place-preserved : goal.loop-place-preserved
loop-place-preserved g c = record {
  size = ap (λ (xs : List Links). length xs) c.in_ok-push.ensures.items ∙ length-append c.loop-place.links.items (c.links_at.result ∷ []) ∙ ap (λ n. n + 1) c.loop-place.invariant.size;
  linked = subst (λ (xs : List Links). AllLinks (g.M.Machine.meaning c.args.machine.now) (map row_of c.args.body.now) (c.loop-place.place + 1) xs) (sym c.in_ok-push.ensures.items)
      (links_more (g.M.Machine.meaning c.args.machine.now) (map row_of c.args.body.now) c.loop-place.place c.loop-place.links.items c.links_at.result c.loop-place.invariant.size c.loop-place.invariant.linked c.links_at.ensures.links);
  near = subst (All (IsWithin (length c.args.body.now))) (sym c.in_ok-push.ensures.items) (All-push (IsWithin (length c.args.body.now)) c.loop-place.links.items c.links_at.result c.loop-place.invariant.near c.links_at.ensures.near);
  last = (let next : length c.args.body.now + c.loop-place.place + 1 ≡ length c.args.body.now + (c.loop-place.place + 1) = omega arith in
      subst (λ n. AreLast (map row_of c.args.body.now) n c.note.new.self.last) next
      (c.note.ensures (map row_of c.args.body.now) (wrote_second c.args.body.now c.loop-place.place _ c.loop-place-test.true) c.loop-place.invariant.last));
}

pub returns-clause-linked : goal.returns-clause-linked
returns-clause-linked g c = λ p lt. c.loop-place.invariant.linked p (omega (arith, lt, c.loop-place-test.false))

use Rattle.std.proofs.Common.{◌≡◌, ◌+◌, ◌∷◌, [], ◌++◌, ℕ, List, length, ap, sym, subst, ◌∙◌, arith}
use Rattle.engine_steps.specs.Readers.{AreLists}
use Rattle.engine_steps.proofs.Chained.{lists_more, readers_of}
use Rattle.engine_steps.proofs.readers.Readers.of.Goals as goal

pub loop-place-preserved : goal.loop-place-preserved
loop-place-preserved c =
    let size : c.len.result ≡ length c.list.new.later.items = omega arith in
    subst (λ (xs : List ℕ). AreLists c.args.links.now (c.loop-place.place + 1) xs c.list.new.later.items)
    (sym (c.in_ok-push-2.ensures.items ∙ ap (λ n. c.loop-place.starts.items ++ n ∷ []) size))
    (lists_more c.args.links.now c.loop-place.place c.loop-place.starts.items c.loop-place.later.items c.list.new.later.items c.in_ok-list.ensures c.loop-place.invariant)

pub returns : goal.returns
returns c =
    let end : c.loop-place.place ≡ length c.args.links.now = omega (arith, c.loop-place.auto.place-end, c.loop-place-test.false) in
    readers_of c.args.links.now (length c.args.links.now) c.loop-place.starts.items c.loop-place.later.items
    (subst (λ n. AreLists c.args.links.now n c.loop-place.starts.items c.loop-place.later.items) end c.loop-place.invariant)

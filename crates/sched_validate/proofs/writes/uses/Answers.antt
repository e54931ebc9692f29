use Rattle.std.proofs.Common.{◌≡◌, ◌∙◌, ap, ◌++◌, ◌+◌, ◌∷◌, [], drop, length, arith, None, slice_index_or}
use Rattle.std.specs.Prelude.{slice_get}
use Rattle.sched_checks.specs.Resources.{uses_by, place_or_first}
use Rattle.sched_validate.specs.Classes.{hold_or_one}
use Rattle.sched_validate.proofs.GoodWrites.{uses_more}
use Rattle.sched_validate.proofs.writes.uses.Goals as goal

pub loop-place-preserved : goal.loop-place-preserved
loop-place-preserved c =
    let us : _ = c.as_slice-resource-items.ensures in
    let resource : c.place_or_first.result ≡ place_or_first (slice_index_or c.args.write.now.uses c.loop-place.place None) = c.place_or_first.ensures ∙ (λ i. place_or_first (slice_index_or (us i) c.loop-place.place None)) in
    let hold : c.hold.result ≡ hold_or_one (slice_get c.args.write.now.cycles c.loop-place.place) = c.hold.ensures in
    ap (λ front. front ++ uses_by (drop (c.loop-place.place + 1) c.args.write.now.uses) (drop (c.loop-place.place + 1) c.args.write.now.cycles)) c.in_ok-push.ensures.items
    ∙ ap (λ w. (c.loop-place.uses.items ++ w ∷ []) ++ uses_by (drop (c.loop-place.place + 1) c.args.write.now.uses) (drop (c.loop-place.place + 1) c.args.write.now.cycles)) (λ i. record { resource = resource i; hold = hold i })
    ∙ uses_more c.args.write.now.uses c.args.write.now.cycles c.loop-place.place None c.loop-place.uses.items (uses_by c.args.write.now.uses c.args.write.now.cycles) (omega (arith, c.loop-place-test.true, ap length us)) c.loop-place.invariant

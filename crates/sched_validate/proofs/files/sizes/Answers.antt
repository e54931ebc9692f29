use mir.Val.{SFits, to_z, of_z}
use Rattle.std.proofs.Common.{◌≡◌, ◌∙◌, ◌<◌, ◌^◌, rules, w64, ap, sym, subst}
use Rattle.std.proofs.lemmas.Int.{to_z-of_z}
use Rattle.sched_checks.specs.Resources.{count_of}
use Rattle.sched_validate.specs.Files.{IsSmallFile}
use Rattle.sched_validate.proofs.Loops.{all_here, map_more}
use Rattle.sched_validate.proofs.files.sizes.Goals as goal

pub loop-file-preserved : goal.loop-file-preserved
loop-file-preserved c =
    let fits : SFits w64 c.file-item.result.now.size = search rules in
    let same : to_z w64 (of_z w64 c.file-item.result.now.size) ≡ c.file-item.result.now.size = to_z-of_z w64 c.file-item.result.now.size fits in
    let small : IsSmallFile c.file-item.result.now = all_here (λ f. IsSmallFile f.now) c.args.files.now c.loop-file.file-index c.file-item.result c.loop-file-test.true c.file-item.is c.requires in
    c.in_ok-push.ensures.items
    ∙ map_more (λ f. count_of f.now.size) c.args.files.now c.loop-file.file-index c.file-item.result c.loop-file.sizes.items c.count.result c.loop-file-test.true c.file-item.is c.loop-file.invariant
    (c.count.ensures (subst (λ n. count_of n < 2 ^ 32) (sym same) small.size) ∙ ap count_of same)

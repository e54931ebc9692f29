use Rattle.std.proofs.Common.{length, rules, arith}
use Rattle.mca_views.proofs.Tags.{short_place, short_iteration}
use Rattle.mca_views.proofs.bottlenecks.write_row.Goals as goal

pub write_digits-start-requires : goal.write_digits-start-requires
write_digits-start-requires g c = let place = short_place c.args.row (length c.args.v.now.body.now) c.ranges.row.fits in
    (omega (arith, place, c.requires.low, c.write_before-start.ensures.start), search rules)

pub write_before-start-requires-2-clause-low : goal.write_before-start-requires-2-clause-low
write_before-start-requires-2-clause-low g c = let place = short_place c.args.row (length c.args.v.now.body.now) c.ranges.row.fits in
    omega (arith, place, c.requires.low, c.write_before-start.ensures.start, c.write_digits-start.ensures.start)

pub write_digits-start-requires-2 : goal.write_digits-start-requires-2
write_digits-start-requires-2 g c =
    let place = short_place c.args.row (length c.args.v.now.body.now) c.ranges.row.fits in
    let iteration = short_iteration c.args.row (length c.args.v.now.body.now) c.ranges.row.fits in
    (omega (arith, place, iteration, c.requires.low, c.write_before-start.ensures.start, c.write_digits-start.ensures.start, c.write_before-start-2.ensures.start), search rules)

pub write_before-requires-clause-low : goal.write_before-requires-clause-low
write_before-requires-clause-low g c =
    let place = short_place c.args.row (length c.args.v.now.body.now) c.ranges.row.fits in
    let iteration = short_iteration c.args.row (length c.args.v.now.body.now) c.ranges.row.fits in
    omega (arith, place, iteration, c.requires.low, c.write_before-start.ensures.start, c.write_digits-start.ensures.start, c.write_before-start-2.ensures.start, c.write_digits-start-2.ensures.start)

pub returns-clause-short : goal.returns-clause-short
returns-clause-short g c =
    let place = short_place c.args.row (length c.args.v.now.body.now) c.ranges.row.fits in
    let iteration = short_iteration c.args.row (length c.args.v.now.body.now) c.ranges.row.fits in
    omega (arith, place, iteration, c.requires.low, c.write_before-start.ensures.start, c.write_digits-start.ensures.start, c.write_before-start-2.ensures.start, c.write_digits-start-2.ensures.start, c.write_before.ensures.start)

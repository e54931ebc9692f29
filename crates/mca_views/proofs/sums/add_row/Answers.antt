use Rattle.std.proofs.Common.{◌∙◌, ◌<◌, ◌%◌, sym, subst, length, arith, ℕ}
use Rattle.std.proofs.lemmas.List.{length-set}
use Rattle.mca_views.specs.Shown.{Shown, shown}
use Rattle.mca_views.specs.Sums.{AreSums}
use Rattle.mca_views.specs.WaitTimes.{at_place}
use Rattle.mca_views.proofs.Entries.{place_low}
use Rattle.mca_views.proofs.SumRows.{at_place_le, sums_low, all_more, here_more, each_more}
use Rattle.mca_views.proofs.sums.add_row.Goals as goal

pub plus-requires-clause-sums : goal.plus-requires-clause-sums
plus-requires-clause-sums g c =
    let s : Shown = shown g.M.Machine.meaning c.args.v.now in
    let place : ℕ = c.args.j % length s.body in
    sums_low s (at_place s place) c.args.j c.index.result.now c.requires.shown (omega (arith, c.requires.row)) (at_place_le s place)
    (subst (λ x. AreSums s (at_place s place) c.args.j x) (sym c.index.ensures) (c.requires.sums.each place c.index.result.now (place_low s c.args.j c.requires.shown)))

pub plus-sums-requires-clause-sums : goal.plus-sums-requires-clause-sums
plus-sums-requires-clause-sums g c =
    let s : Shown = shown g.M.Machine.meaning c.args.v.now in
    sums_low s (λ wait. wait) c.args.j c.args.sums.now.all c.requires.shown (omega (arith, c.requires.row)) (λ wait j. omega arith) c.requires.sums.all

pub returns : goal.returns
returns g c =
    let s : Shown = shown g.M.Machine.meaning c.args.v.now in
    let place : ℕ = c.args.j % length s.body in
    let low : place < length s.body = place_low s c.args.j c.requires.shown in
    let one : AreSums s (at_place s place) c.args.j c.index.result.now =
    subst (λ x. AreSums s (at_place s place) c.args.j x) (sym c.index.ensures) (c.requires.sums.each place c.index.result.now low) in
    record {
      places = length-set c.args.sums.now.places.items place c.plus.result ∙ c.requires.sums.places;
      each = each_more s c.args.j c.args.sums.now.places.items c.plus.result (subst (λ n. place < n) (sym c.requires.sums.places) low) c.requires.sums.each
          (here_more s c.args.j c.index.result.now c.waits_of-waits.result c.plus.result one c.waits_of-waits.ensures.are (c.plus.ensures.issue, c.plus.ensures.ready, c.plus.ensures.retire));
      all = all_more s c.args.j c.args.sums.now.all c.waits_of-waits.result c.plus-sums.result c.requires.sums.all c.waits_of-waits.ensures.are
          (c.plus-sums.ensures.issue, c.plus-sums.ensures.ready, c.plus-sums.ensures.retire);
    }

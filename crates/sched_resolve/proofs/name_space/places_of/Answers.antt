use Rattle.std.proofs.Common.{◌≡◌, true, false, sym, ◌∙◌, ap, arith}
use Rattle.sched_resolve.specs.Names.{has_place, name_by, counts_in, name_in}
use Rattle.sched_resolve.specs.Places.{first_place}
use Rattle.sched_resolve.proofs.PlaceSteps.{nothing_yet, none_yet, counted_yes, counted_no, placed_yes, placed_no}
use Rattle.sched_resolve.proofs.name_space.places_of.Goals as goal
use Rattle.sched_resolve.proofs.name_space.places_of.Goals.{then-has_place+in_ok-put, else-has_place}

pub loop-one-init : goal.loop-one-init
loop-one-init c = record { counted = nothing_yet c.args.space; few = omega arith; placed = λ n. c.new-places.ensures n ∙ none_yet c.args.space n }

pub loop-one-preserved : goal.loop-one-preserved
loop-one-preserved c = elim c.if-has_place.branch [
  | then-has_place+in_ok-put w ↦ (
      let s = c.args.space in
      let one = c.one-item.result in
      let counts : counts_in s one ≡ true = ap (has_place s) (sym c.class_in-class.ensures) ∙ sym w.if-has_place.ensures in
      let named : w.name_by.result.now ≡ name_in s one = w.name_by.ensures ∙ ap (λ k. name_by s k one) c.class_in-class.ensures in
      record {
        counted = w.count-is ∙ counted_yes s c.args.records.now c.loop-one.one-index one c.loop-one-test.true c.one-item.is c.loop-one.count counts c.loop-one.invariant.counted;
        few = omega arith;
        placed = λ n. ap (λ p. first_place p n) w.places-is ∙ placed_yes s c.args.records.now c.loop-one.one-index one c.loop-one-test.true c.one-item.is c.loop-one.count w.name_by.result.now n
            (first_place c.loop-one.places n) (first_place w.put.new.self n) counts c.loop-one.invariant.counted named (c.loop-one.invariant.placed n) (w.in_ok-put.ensures n);
      })
  | else-has_place w ↦ (
      let s = c.args.space in
      let one = c.one-item.result in
      let lacks : counts_in s one ≡ false = ap (has_place s) (sym c.class_in-class.ensures) ∙ sym w.if-has_place.ensures in
      record {
        counted = w.count-is ∙ counted_no s c.args.records.now c.loop-one.one-index one c.loop-one-test.true c.one-item.is c.loop-one.count lacks c.loop-one.invariant.counted;
        few = omega arith;
        placed = λ n. ap (λ p. first_place p n) w.places-is ∙ placed_no s c.args.records.now c.loop-one.one-index one c.loop-one-test.true c.one-item.is n
            (first_place c.loop-one.places n) lacks (c.loop-one.invariant.placed n);
      })
]

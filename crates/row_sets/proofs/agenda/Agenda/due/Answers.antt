use Rattle.std.proofs.Common.{◌≡◌, arith, ◌∙◌, sym, subst, slice_index, MatchOption, refl}
use Rattle.std.proofs.lemmas.List.{get_or_read}
use Rattle.row_sets.specs.Agenda.{NoneComes}
use Rattle.row_sets.specs.Kept.{is_waiting, IsDue, IsSoonest}
use Rattle.row_sets.proofs.Times.{first_least, none_told}
use Rattle.row_sets.proofs.agenda.Agenda.due.Goals as goal

pub returns-in_err-place : goal.returns-in_err-place
returns-in_err-place c =
    subst (λ r. MatchOption r (NoneComes c.args.self.now c.args.self.now c.args.c) (IsDue (is_waiting c.args.self.now.words.items) (slice_index c.args.self.now.times.items) c.args.c)) (sym c.from_residual.ensures)
    (record {
      later = λ k t e. absurd (let none = sym (none_told c.args.self.now.words.items c.args.self.now.times.items (c.args.self.now.index.none c.in_err-place.was) k) ∙ e in cc);
      rest = λ j. refl;
    })

pub index-requires : goal.index-requires
index-requires c = omega (arith, (c.args.self.now.index.all c.in_ok-place.place c.in_ok-place.was).within, c.args.self.now.times_size, c.args.self.now.times.ok)

pub returns-then-index-c : goal.returns-then-index-c
returns-then-index-c c =
    let soonest : IsSoonest (is_waiting c.args.self.now.words.items) (slice_index c.args.self.now.times.items) 0 4096 c.in_ok-place.place = c.args.self.now.index.all c.in_ok-place.place c.in_ok-place.was in
    let time : c.index.result.now ≡ slice_index c.args.self.now.times.items c.in_ok-place.place = get_or_read c.args.self.now.times.items _ _ (omega (arith, soonest.within, c.args.self.now.times_size)) c.index.ensures 0 in
    record {
      later = λ k t e. omega (arith, time, c.if-index-c.true, first_least c.args.self.now.words.items c.args.self.now.times.items c.in_ok-place.place soonest k t e);
      rest = λ j. refl;
    }

pub returns-else-index-c : goal.returns-else-index-c
returns-else-index-c c =
    let soonest : IsSoonest (is_waiting c.args.self.now.words.items) (slice_index c.args.self.now.times.items) 0 4096 c.in_ok-place.place = c.args.self.now.index.all c.in_ok-place.place c.in_ok-place.was in
    let time : c.index.result.now ≡ slice_index c.args.self.now.times.items c.in_ok-place.place = get_or_read c.args.self.now.times.items _ _ (omega (arith, soonest.within, c.args.self.now.times_size)) c.index.ensures 0 in
    record { low = soonest.within; soonest = soonest; come = omega (arith, time, c.if-index-c.false) }

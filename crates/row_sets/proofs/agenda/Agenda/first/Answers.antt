use Rattle.std.proofs.Common.{◌≡◌, ◌≤◌, arith, ap, ◌∙◌, sym, subst, slice_index, Some}
use Rattle.std.proofs.lemmas.List.{get_or_read}
use Rattle.row_sets.specs.Rows.{row_at}
use Rattle.row_sets.specs.Kept.{is_waiting, IsSoonest}
use Rattle.row_sets.proofs.Places.{row_at-from, row_at-within}
use Rattle.row_sets.proofs.Times.{first_least, first_waits, none_told}
use Rattle.row_sets.proofs.agenda.Agenda.first.Goals as goal

pub index-requires : goal.index-requires
index-requires c = omega (arith, (c.args.self.now.index.all c.in-Some.place c.in-Some.is).within, c.args.self.now.times_size, c.args.self.now.times.ok)

pub returns-in-Some : goal.returns-in-Some
returns-in-Some c =
    let soonest : IsSoonest (is_waiting c.args.self.now.words.items) (slice_index c.args.self.now.times.items) 0 4096 c.in-Some.place = c.args.self.now.index.all c.in-Some.place c.in-Some.is in
    let time : c.index.result.now ≡ slice_index c.args.self.now.times.items c.in-Some.place = get_or_read c.args.self.now.times.items _ _ (omega (arith, soonest.within, c.args.self.now.times_size)) c.index.ensures 0 in
    record {
      least = λ k t e. subst (λ x. x ≤ t) (sym time) (first_least c.args.self.now.words.items c.args.self.now.times.items c.in-Some.place soonest k t e);
      row = λ start. row_at start c.in-Some.place;
      from = λ start. row_at-from start c.in-Some.place;
      within = λ start. row_at-within start c.in-Some.place;
      waits = λ start. first_waits c.args.self.now.words.items c.args.self.now.times.items c.in-Some.place soonest start ∙ ap Some (sym time);
    }

pub returns-in-None : goal.returns-in-None
returns-in-None c = none_told c.args.self.now.words.items c.args.self.now.times.items (c.args.self.now.index.none c.in-None.is)

use Rattle.std.proofs.Common.{sym, ◌∙◌, refl}
use Rattle.indexmap.proofs.CallerLemmas.{insert_entry-new}
use Rattle.sched_resolve.proofs.PlaceSteps.{none_is, put_again, put_new}
use Rattle.sched_resolve.proofs.name_space.Places.put.Goals as goal

pub returns-then-contains_key : goal.returns-then-contains_key
returns-then-contains_key c = λ n. put_again (λ k. k.now) n c.args.name.now c.args.self.now.map.entries c.args.place (sym c.if-contains_key.ensures)

pub returns : goal.returns
returns c = λ n. put_new (λ k. k.now) n c.args.name.now c.args.self.now.map.entries c.insert.new.self.entries c.args.name c.args.place (c.in_ok-insert.ensures.entries ∙ insert_entry-new _ c.args.self.now.map c.args.name c.args.place (none_is _ (sym c.if-contains_key.ensures))) refl

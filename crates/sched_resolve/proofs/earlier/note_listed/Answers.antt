use Rattle.std.proofs.Common.{◌∙◌, ap, nat_eq}
use Rattle.std.specs.Prelude.{◌||◌, ◌&&◌}
use Rattle.std.specs.Cmp.Lexicographic.{pointwise}
use Rattle.std.specs.List.{list_any}
use Rattle.sched_resolve.specs.Reading.{word_of}
use Rattle.sched_resolve.proofs.SeenSteps.{pair_noted, noted_more}
use Rattle.sched_resolve.proofs.earlier.note_listed.Goals as goal

pub loop-atom-preserved : goal.loop-atom-preserved
loop-atom-preserved c = λ p n.
    noted_more word_of (pointwise nat_eq n) c.args.atoms.now c.loop-atom.atom-index c.atom-item.result _ (nat_eq p c.args.read) _ _ c.loop-atom-test.true c.atom-item.is (c.loop-atom.invariant p n)
    (pair_noted (λ k. k.now) p n c.args.read c.word_of.result c.loop-atom.listed.keys c.insert.new.self.keys c.in_ok-insert.ensures.keys
    ∙ ap (λ m. list_any (λ k. nat_eq p k.0 && pointwise nat_eq n k.1.now) c.loop-atom.listed.keys || (nat_eq p c.args.read && pointwise nat_eq n m)) c.word_of.ensures)

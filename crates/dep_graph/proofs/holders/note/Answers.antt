use Rattle.std.proofs.Common.{◌≡◌, ◌+◌, ◌∷◌, [], ◌++◌, List, ℕ, suc, take, length, true, arith, refl, sym, ◌∙◌, ap, subst}
use Rattle.std.specs.Prelude.{nat_lt, slice_index, slice_index_or}
use Rattle.std.specs.List.{list_all}
use Rattle.std.proofs.lemmas.List.{take_all}
use Rattle.machine_model.specs.Valid.{no_use}
use Rattle.machine_model.specs.declared.facts.Use.{Use}
use Rattle.cycle_rules.specs.Pick.{taken_by}
use Rattle.dep_graph.specs.Holders.{noted}
use Rattle.dep_graph.proofs.Blames.{taken_more, noted_append, known_at}
use Rattle.dep_graph.proofs.holders.note.Goals as goal

pub note_use-requires-clause-known : goal.note_use-requires-clause-known
note_use-requires-clause-known c =
    subst (λ n. list_all (λ h. nat_lt h.unit n) (taken_by c.args.c (slice_index_or c.args.uses.now c.loop-x.x no_use ∷ []) (slice_index c.args.taken.now c.loop-x.x ∷ [])) ≡ true) (sym c.loop-x.auto.last)
    (known_at (length c.args.last.now) c.args.c c.loop-x.x c.args.uses.now c.args.taken.now no_use c.loop-x-test.true (omega (arith, c.loop-x-test.true, c.requires.few)) c.requires.known)

pub loop-x-init : goal.loop-x-init
unfolding taken_by
loop-x-init c = first c.args.uses.now c.args.taken.now
  where
    first : (uses : List Use) (us : List ℕ) → c.args.last.now ≡ noted c.args.place (taken_by c.args.c [] us) c.args.last.now
    first uses [] = refl
    first uses (u ∷ us) = refl

pub loop-x-preserved : goal.loop-x-preserved
loop-x-preserved c =
    let e : suc c.loop-x.x ≡ c.loop-x.x + 1 = omega arith in
    let more : taken_by c.args.c (take (c.loop-x.x + 1) c.args.uses.now) c.args.taken.now
    ≡ taken_by c.args.c (take c.loop-x.x c.args.uses.now) c.args.taken.now ++ taken_by c.args.c (slice_index_or c.args.uses.now c.loop-x.x no_use ∷ []) (slice_index c.args.taken.now c.loop-x.x ∷ []) =
    ap (λ n. taken_by c.args.c (take n c.args.uses.now) c.args.taken.now) (sym e) ∙ taken_more c.args.c c.args.uses.now c.args.taken.now c.loop-x.x no_use c.loop-x-test.true (omega (arith, c.loop-x-test.true, c.requires.few)) in
    c.note_use.ensures
    ∙ ap (noted c.args.place (taken_by c.args.c (slice_index_or c.args.uses.now c.loop-x.x no_use ∷ []) (slice_index c.args.taken.now c.loop-x.x ∷ []))) c.loop-x.invariant
    ∙ sym (noted_append c.args.place (taken_by c.args.c (take c.loop-x.x c.args.uses.now) c.args.taken.now) (taken_by c.args.c (slice_index_or c.args.uses.now c.loop-x.x no_use ∷ []) (slice_index c.args.taken.now c.loop-x.x ∷ [])) c.args.last.now)
    ∙ ap (λ l. noted c.args.place l c.args.last.now) (sym more)

pub returns : goal.returns
returns c = c.loop-x.invariant ∙ ap (λ l. noted c.args.place (taken_by c.args.c l c.args.taken.now) c.args.last.now) (take_all c.loop-x.x c.args.uses.now c.loop-x-test.false)

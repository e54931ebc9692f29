use Rattle.std.proofs.Common.{◌≡◌, ◌*◌, ◌∙◌, ap, sym, subst, ℕ, List, arith, slice_index}
use Rattle.std.proofs.lemmas.List.{get_or_read}
use Rattle.unit_sets.specs.Members.{in_word}
use Rattle.row_sets.specs.Kept.{IsMerged}
use Rattle.row_sets.proofs.Classes.{merged_all}
use Rattle.row_sets.proofs.ready.ReadyRows.ready_in.Goals as goal

pub returns : goal.returns
returns c =
    let known : c.index.result.now ≡ slice_index c.args.self.now.classes.items c.args.word = get_or_read c.args.self.now.classes.items _ _ (omega (arith, c.requires, c.args.self.now.classes_size)) c.index.ensures 0 in
    merged_all c.args.self.now.words.items c.index.result.now c.args.passed c.without-live.result c.args.word c.merged.result c.requires c.without-live.ensures
    (λ r j low same out. c.args.self.now.empty r j low (ap (λ w. in_word (slice_index c.args.self.now.classes.items w) r) same ∙ ap (λ w. in_word w r) (sym known) ∙ out))
    (subst (λ (xs : List ℕ). IsMerged xs (c.args.word * 64) (in_word c.without-live.result) 64 c.merged.result) c.deref.ensures.value c.merged.ensures)

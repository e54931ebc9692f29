use Rattle.std.proofs.Common.{◌≡◌, ◌+◌, ◌-◌, ◌<◌, ◌∷◌, [], ◌++◌, ℕ, length, true, ap, sym, subst, ◌∙◌, arith}
use Rattle.std.specs.Prelude.{slice_index_or}
use Rattle.std.proofs.lemmas.Grind.{get_or_default_zero}
use Rattle.engine_steps.specs.Readers.{IsAppended, IsLatest, back_at, names_place}
use Rattle.engine_steps.proofs.Chained.{appended_more}
use Rattle.engine_steps.proofs.readers.Chains.list.Goals as goal

pub loop-at-preserved : goal.loop-at-preserved
loop-at-preserved c =
    let id : ℕ = c.loop-at.at - 1 in
    let low : id < length c.args.self.now.earlier.items = omega (arith, c.loop-at-test.true, c.loop-at.invariant.within, c.requires.chained.size) in
    let here : names_place c.args.links.now c.args.place id ≡ true = c.loop-at.invariant.names c.loop-at-test.true in
    let at : c.index-at-in-loop-at.result.now ≡ slice_index_or c.args.self.now.earlier.items id 0 = c.index-at-in-loop-at.ensures ∙ get_or_default_zero c.args.self.now.earlier.items id c.index-at-in-loop-at.result.now low in
    let next : IsLatest c.args.links.now c.args.place id c.index-at-in-loop-at.result.now = subst (IsLatest c.args.links.now c.args.place id) (sym at) (c.requires.chained.next id c.args.place (omega (arith, low, c.requires.chained.size)) here) in
    let before : c.loop-at.at ≡ id + 1 = omega (arith, c.loop-at-test.true) in
    let items : c.push.new.self.items ≡ c.loop-at.later.items ++ back_at c.args.links.now id ∷ [] = c.in_ok-push.ensures.items ∙ ap (λ d. c.loop-at.later.items ++ d ∷ []) c.back_of.ensures in
    record {
      within = omega (arith, next.within, c.loop-at.invariant.within);
      names = next.names;
      appended = subst (IsAppended c.args.links.now c.args.place c.index-at-in-loop-at.result.now c.args.later.now.items) (sym items)
          (appended_more c.args.links.now c.args.place id c.index-at-in-loop-at.result.now c.args.later.now.items c.loop-at.later.items c.requires.near (omega (arith, low, c.requires.chained.size)) here next
          (subst (λ n. IsAppended c.args.links.now c.args.place n c.args.later.now.items c.loop-at.later.items) before c.loop-at.invariant.appended));
    }

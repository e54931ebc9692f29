use Rattle.std.proofs.Common.{◌≡◌, ◌+◌, ◌-◌, ◌/◌, ◌%◌, ◌<◌, ◌∷◌, [], ◌++◌, ℕ, length, ap, sym, subst, ◌∙◌, arith}
use Rattle.std.proofs.Math.Nat.{mod-lt}
use Rattle.std.specs.Prelude.{slice_index_or, slice_set}
use Rattle.std.proofs.lemmas.Grind.{get_or_default_zero}
use Rattle.engine_steps.specs.Readers.{AreChained}
use Rattle.engine_steps.proofs.Chained.{chained_past, chained_more}
use Rattle.engine_steps.proofs.readers.Chains.note.Goals as goal

pub returns-then-back-eq0 : goal.returns-then-back-eq0
returns-then-back-eq0 c = subst (AreChained c.args.links.now (c.args.id + 1) c.args.self.now.last.items) (sym c.in_ok-push.ensures.items)
    (chained_past c.args.links.now c.args.id c.args.self.now.last.items c.args.self.now.earlier.items (sym c.back_of-back.ensures ∙ c.if-back-eq0.true) c.requires.chained)

pub returns : goal.returns
returns c =
    let place : ℕ = (c.args.id / 2 + length c.args.links.now - c.back_of-back.result) % length c.args.links.now in
    let within : place < length c.args.links.now = mod-lt (c.args.id / 2 + length c.args.links.now - c.back_of-back.result) (omega (arith, c.requires.id)) in
    let last : c.index.result.now ≡ slice_index_or c.args.self.now.last.items place 0 = c.index.ensures ∙ get_or_default_zero c.args.self.now.last.items place c.index.result.now (omega (arith, within, c.requires.chained.places)) in
    subst (AreChained c.args.links.now (c.args.id + 1) (slice_set c.args.self.now.last.items place (c.args.id + 1))) (sym (c.in_ok-push-2.ensures.items ∙ ap (λ x. c.args.self.now.earlier.items ++ x ∷ []) last))
    (chained_more c.args.links.now c.args.id place c.args.self.now.last.items c.args.self.now.earlier.items within (λ e. c.if-back-eq0.false (c.back_of-back.ensures ∙ e))
    (ap (λ b. (c.args.id / 2 + length c.args.links.now - b) % length c.args.links.now) (sym c.back_of-back.ensures)) c.requires.chained)

use Rattle.std.proofs.Common.{◌≡◌, [], ◌∷◌, ◌++◌, ◌∙◌, ap, subst, false}
use Rattle.std.specs.Prelude.{is_none, not}
use Rattle.rv_asm.specs.Statement.{more}
use Rattle.rv_asm.proofs.Settled.{settled_more}
use Rattle.rv_asm.proofs.behind_labels.BehindLabels.settles.Goals as goal

pub returns-clause-other : goal.returns-clause-other
returns-clause-other c h =
    let none : is_none c.self.inside.settled ≡ false = ap not c.is_none.ensures ∙ ap (λ b. not (not b)) h in
    subst (λ t. more t c.args.b ≡ t ++ c.args.b ∷ []) c.self.view_is (settled_more c.self.inside.settled c.self.inside.text.items c.args.b c.self.invariant none)

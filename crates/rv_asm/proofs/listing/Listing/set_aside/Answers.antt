use Rattle.std.proofs.Common.{◌≡◌, [], ◌∷◌, ◌++◌, ◌∙◌, ap, length, Ok, Err}
use Rattle.std.specs.Prelude.{map, OnErr}
use Rattle.std.specs.declared.result.Result.{Result}
use Rattle.rv_asm.specs.declared.listing.ShortItem.TheVariants as kept
use Rattle.rv_asm.specs.Listing.{kept_item}
use Rattle.rv_asm.proofs.Aside.{set_aside, same_items}
use Rattle.rv_asm.proofs.listing.Listing.set_aside.Goals as goal

pub returns-clause-ok : goal.returns-clause-ok
returns-clause-ok c =
    let place : c.in-Ok.place ≡ length c.self.inside.aside.items = c.in-Ok.ensures.1 ∙ c.len.ensures ∙ c.self.inside.aside.ok.0 in
    (λ i. map (kept_item (c.in_ok-push.ensures.items i)) (c.in_ok-push-2.ensures.items i))
    ∙ ap (λ n. map (kept_item (c.self.inside.aside.items ++ c.args.item ∷ [])) (c.self.inside.kept.items ++ kept.Aside n ∷ [])) place
    ∙ set_aside c.self.inside.aside.items c.args.item c.self.inside.kept.items c.self.invariant
    ∙ ap (λ t. t ++ c.args.item ∷ []) c.self.view_is

on_err : {T E P : Type 0} → (r : Result T E) → P → OnErr r P
on_err (Ok x) p = tt
on_err (Err e) p = p

pub returns-in_err-push-2-clause-err : goal.returns-in_err-push-2-clause-err
returns-in_err-push-2-clause-err c = on_err c.from_residual-in_err-push-2.result
    ((λ i. map (kept_item (c.in_ok-push.ensures.items i)) (c.in_err-push-2.ensures.items i))
    ∙ same_items c.self.inside.aside.items (c.args.item ∷ []) c.self.inside.kept.items c.self.invariant
    ∙ c.self.view_is)

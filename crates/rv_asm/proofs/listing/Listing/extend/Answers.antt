use Rattle.std.proofs.Common.{◌++◌, Ok, Err, length, take, sym, ◌∙◌, ap}
use Rattle.std.specs.Prelude.{OnErr}
use Rattle.std.specs.declared.result.Result.{Result}
use Rattle.std.proofs.Math.Seq.{take-append_seam}
use Rattle.rv_asm.proofs.listing.Listing.extend.Goals as goal

on_err : {T E P : Type 0} → (r : Result T E) → P → OnErr r P
on_err (Ok x) p = tt
on_err (Err e) p = p

pub returns-in_err-push-clause-err : goal.returns-in_err-push-clause-err
returns-in_err-push-clause-err c = on_err c.from_residual.result (
  length c.loop-item.yielded,
  c.in_err-push.ensures.err ∙ c.loop-item.invariant.so_far
      ∙ ap (λ t. c.args.self.now ++ t) (sym (ap (take (length c.loop-item.yielded)) (sym c.loop-item.invariant.whole) ∙ take-append_seam c.loop-item.yielded c.loop-item.item-iterator.rest.items)),
)

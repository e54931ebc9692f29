-- The items from a place on begin with the one that stands there.
use Rattle.std.proofs.Common.{◌≡◌, ℕ, ◌+◌, List, ◌∷◌, drop, Some, sym, ◌∙◌, add-one}
use Rattle.std.specs.List.{slice_get}
use Rattle.std.proofs.Math.Seq.{drop-cons}
use Rattle.std.proofs.lemmas.Option.{slice_get_within, get_or_from_slice_get}
use Rattle.rv_asm.specs.declared.item.Item.{Item}

pub front_is : (items : List Item) (k : ℕ) (x : Item) → slice_get items k ≡ Some x → drop k items ≡ x ∷ drop (k + 1) items
front_is items k x at = drop-cons items k x (slice_get_within items k x at) ∙ (λ i. get_or_from_slice_get items k x x at i ∷ drop (sym (add-one k) i) items)

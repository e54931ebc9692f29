-- A loop takes the instructions among items one by one.
use Rattle.std.proofs.Common.{◌≡◌, ℕ, ◌+◌, List, [], ◌∷◌, ◌++◌, append_assoc, drop, Some, sym, ◌∙◌, ap, add-one}
use Rattle.std.specs.List.{slice_get}
use Rattle.std.proofs.Math.Seq.{drop-cons}
use Rattle.std.proofs.lemmas.Option.{slice_get_within, get_or_from_slice_get}
use Rattle.region_marks.specs.Marked.{code_of}
use Rattle.rv_isa.specs.declared.instr.Instr.{Instr}
use Rattle.rv_asm.specs.declared.item.Item.{Item}
use Rattle.rv_asm.specs.declared.item.Item.TheVariants.{Code}

-- the items from a place on begin with the one that stands there
pub front_is : (items : List Item) (k : ℕ) (x : Item) → slice_get items k ≡ Some x → drop k items ≡ x ∷ drop (k + 1) items
front_is items k x at = drop-cons items k x (slice_get_within items k x at) ∙ (λ i. get_or_from_slice_get items k x x at i ∷ drop (sym (add-one k) i) items)

-- an instruction goes behind those that stand before it
pub code_more : (code more : List Instr) (items : List Item) (k line : ℕ) (i : Instr) → slice_get items k ≡ Some (Code line i) → more ≡ code ++ i ∷ [] → code ++ code_of (drop k items) ≡ code_of items → more ++ code_of (drop (k + 1) items) ≡ code_of items
code_more code more items k line i at pushed so_far =
    ap (λ m. m ++ code_of (drop (k + 1) items)) pushed
    ∙ append_assoc code (i ∷ []) (code_of (drop (k + 1) items))
    ∙ ap (λ t. code ++ code_of t) (sym (front_is items k (Code line i) at))
    ∙ so_far

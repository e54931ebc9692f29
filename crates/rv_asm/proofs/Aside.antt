-- what is kept stands for the same items when more is kept aside
use Rattle.std.proofs.Common.{◌≡◌, List, [], ◌∷◌, ◌++◌, ◌∙◌, refl, length, Bool, true, false}
use Rattle.std.specs.Prelude.{map, if◌then◌else◌}
use Rattle.std.specs.List.{All}
use Rattle.std.proofs.Math.ListN.{get_or-append}
use Rattle.std.proofs.Math.Seq.{get_or-append_seam}
use Rattle.std.proofs.lemmas.List.{map-append}
use Rattle.std.proofs.lemmas.List.Elements.{All-head, All-tail, All-push}
use Rattle.rv_asm.specs.declared.item.Item.{Item}
use Rattle.rv_asm.specs.declared.item.Item.TheVariants as item
use Rattle.rv_asm.specs.declared.listing.ShortItem.{ShortItem}
use Rattle.rv_asm.specs.declared.listing.ShortItem.TheVariants as kept
use Rattle.rv_asm.specs.Listing.{kept_item, IsWithin}

same_item : (aside more : List Item) (k : ShortItem) → IsWithin aside k → kept_item (aside ++ more) k ≡ kept_item aside k
same_item aside more (kept.Plain s) within = refl
same_item aside more (kept.Number s n) within = refl
same_item aside more (kept.Symbol s n) within = refl
same_item aside more (kept.Aside place) within = get_or-append aside more (item.End 0 []) place within

-- what is kept stands for the same items
pub same_items : (aside more : List Item) (ks : List ShortItem) → All (IsWithin aside) ks → map (kept_item (aside ++ more)) ks ≡ map (kept_item aside) ks
same_items aside more [] within i = []
same_items aside more (k ∷ ks) within i =
    same_item aside more k (All-head (IsWithin aside) k ks within) i ∷ same_items aside more ks (All-tail (IsWithin aside) k ks within) i

-- an item that is kept aside stands behind the others
pub set_aside : (aside : List Item) (x : Item) (ks : List ShortItem) → All (IsWithin aside) ks → map (kept_item (aside ++ x ∷ [])) (ks ++ kept.Aside (length aside) ∷ []) ≡ map (kept_item aside) ks ++ x ∷ []
set_aside aside x ks within =
    map-append (kept_item (aside ++ x ∷ [])) ks (kept.Aside (length aside) ∷ [])
    ∙ (λ i. same_items aside (x ∷ []) ks within i ++ get_or-append_seam aside x [] (item.End 0 []) i ∷ [])

-- all stand within where the one more does, be it pushed or not
pub within_pushed : (aside : List Item) (ks after : List ShortItem) (k : ShortItem) (pushed : Bool) → All (IsWithin aside) ks → IsWithin aside k → after ≡ (if pushed then ks ++ k ∷ [] else ks) → All (IsWithin aside) after
within_pushed aside ks after k true all one e = rw e (All-push (IsWithin aside) ks k all one)
within_pushed aside ks after k false all one e = rw e all

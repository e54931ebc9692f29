-- The parts and the units of the resource of a number.
use Rattle.std.proofs.Common.{◌≡◌, ℕ, ◌+◌, ◌<◌, List, [], ◌∷◌, ◌++◌, zero, suc, length, get_or, drop, map, Bool, true, false, cond, not, ◌&&◌, nat_eq, Some, None, refl, sym, ◌∙◌, ap, arith, append_assoc, drop-cons}
use Rattle.std.specs.Prelude.{slice_get, option_map}
use Rattle.std.specs.List.{list_any}
use Rattle.std.specs.declared.option.Option.{Option}
use Rattle.std.proofs.lemmas.List.{drop-map, map-append}
use Rattle.std.proofs.lemmas.Option.{slice_get-map}
use Rattle.std.proofs.lemmas.Bool.Decides.{nat_tests}
use Rattle.sched_resolve.specs.declared.entry.Resource.{Resource}
use Rattle.sched_checks.specs.Resources.{parts_in, parts_at, parts, total}
use Rattle.sched_checks.specs.Parts.{parts_from, numbers_at, units_of, count_at}

same_numbers : (a b : ℕ) → nat_eq a b ≡ nat_eq b a
same_numbers a b = grind (arith, nat_tests)

-- a number is looked for by either order of the test
pub same_number : (n : ℕ) (ks : List ℕ) → list_any (nat_eq n) ks ≡ list_any (λ k. nat_eq k n) ks
same_number n ks = λ i. list_any (λ k. same_numbers n k i) ks

-- a member that is no group is put among those that it is not among
pub part_put : (plain : Bool) (ks new : List ℕ) (n : ℕ) → true ≡ plain → new ≡ cond (list_any (nat_eq n) ks) ks (ks ++ n ∷ []) → new ≡ cond (plain && not (list_any (λ k. nat_eq k n) ks)) (ks ++ n ∷ []) ks
part_put false ks new n h e = cc
part_put true ks new n h e = e ∙ ap (λ b. cond b ks (ks ++ n ∷ [])) (same_number n ks) ∙ turned (list_any (λ k. nat_eq k n) ks)
  where
    turned : (b : Bool) → cond b ks (ks ++ n ∷ []) ≡ cond (not b) (ks ++ n ∷ []) ks
    turned true = refl
    turned false = refl

-- the parts of a list of resources, one by one
cut_map : {B R : Type 0} (now : B → R) (list : List B) (k : ℕ) (r : B) → k < length list → r ≡ get_or list k r → drop k (map now list) ≡ now r ∷ drop (k + 1) (map now list)
cut_map now list k r h e =
    let next : suc k ≡ k + 1 = omega arith in
    drop-map now k list ∙ ap (map now) (drop-cons list k r h)
    ∙ ap (λ x. now x ∷ map now (drop (suc k) list)) (sym e)
    ∙ ap (λ d. now r ∷ d) (sym (drop-map now (suc k) list))
    ∙ ap (λ j. now r ∷ drop j (map now list)) next

pub next_parts : {B P : Type 0} (now : B → Resource) (keys : P → List ℕ) (list : List B) (k : ℕ) (r : B) (all more : List P) (p : P) (whole : List (List ℕ))
    → k < length list → r ≡ get_or list k r → more ≡ all ++ p ∷ [] → keys p ≡ parts_in (map now list) k (now r).makeup
    → map keys all ++ parts_from (map now list) k (drop k (map now list)) ≡ whole
    → map keys more ++ parts_from (map now list) (k + 1) (drop (k + 1) (map now list)) ≡ whole
next_parts now keys list k r all more p whole h e grown made same =
    let rest : List (List ℕ) = parts_from (map now list) (k + 1) (drop (k + 1) (map now list)) in
    ap (λ a. map keys a ++ rest) grown
    ∙ ap (λ m. m ++ rest) (map-append keys all (p ∷ []))
    ∙ append_assoc (map keys all) (keys p ∷ []) rest
    ∙ ap (λ x. map keys all ++ (x ∷ rest)) made
    ∙ sym (ap (λ d. map keys all ++ parts_from (map now list) k d) (cut_map now list k r h e))
    ∙ same

-- the parts at a place are those of the resource of that number
parts_at_from : (rs rest : List Resource) (n k : ℕ) → numbers_at (slice_get (parts_from rs n rest) k) ≡ parts_at rs (n + k) (slice_get rest k)
parts_at_from rs [] n k = refl
parts_at_from rs (r ∷ rest) n zero = ap (λ m. parts_in rs m r.makeup) (omega arith)
parts_at_from rs (r ∷ rest) n (suc k) = parts_at_from rs rest (n + 1) k ∙ ap (λ m. parts_at rs m (slice_get rest k)) (omega arith)

pub parts_are : (rs : List Resource) (all : List (List ℕ)) (k : ℕ) → all ≡ parts_from rs 0 rs → numbers_at (slice_get all k) ≡ parts rs k
parts_are rs all k e = ap (λ a. numbers_at (slice_get a k)) e ∙ parts_at_from rs rs 0 k ∙ ap (λ m. parts_at rs m (slice_get rs k)) (omega arith)

counted : (f : List ℕ → ℕ) → f [] ≡ 0 → (o : Option (List ℕ)) → count_at (option_map f o) ≡ f (numbers_at o)
counted f e None = sym e
counted f e (Some ps) = refl

pub total_is : (rs : List Resource) (units : List ℕ) (k : ℕ) → units ≡ map (units_of rs) (parts_from rs 0 rs) → count_at (slice_get units k) ≡ total rs k
total_is rs units k e =
    ap (λ u. count_at (slice_get u k)) e
    ∙ ap count_at (slice_get-map (units_of rs) (parts_from rs 0 rs) k)
    ∙ counted (units_of rs) refl (slice_get (parts_from rs 0 rs) k)
    ∙ ap (units_of rs) (parts_are rs (parts_from rs 0 rs) k refl)

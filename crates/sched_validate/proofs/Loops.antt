-- Steps of loops over lists.
use Rattle.std.proofs.Common.{◌≡◌, ℕ, ◌+◌, ◌<◌, List, [], ◌∷◌, ◌++◌, length, get_or, take, drop, map, Bor, None, Some, refl, ap, sym, subst, ◌∙◌}
use Rattle.std.specs.Prelude.{Option}
use Rattle.std.specs.List.{All, filter_map, cons_option}
use Rattle.std.proofs.lemmas.List.{take_more, map_push, at_drop_more, append_assoc}

-- what is true of each element is true of the one at hand
pub all_here : {A : Type 0} (P : A → Type 0) (xs : List A) (k : ℕ) (x : A) → k < length xs → x ≡ get_or xs k x → All P xs → P x
all_here P xs k x lt is all = subst P (sym is) (all k x lt)

-- what one more element gives stands behind what those before it gave
pub map_more : {A B : Type 0} (f : A → B) (xs : List A) (k : ℕ) (x : A) (ys : List B) (y : B) → k < length xs → x ≡ get_or xs k x → ys ≡ map f (take k xs) → y ≡ f x
    → ys ++ y ∷ [] ≡ map f (take (k + 1) xs)
map_more f xs k x ys y lt is so_far gives =
    let here : y ≡ f (get_or xs k x) = gives ∙ ap f is in
    (λ i. so_far i ++ here i ∷ []) ∙ sym (ap (map f) (take_more xs k x lt) ∙ map_push f (take k xs) (get_or xs k x))

-- A loop that finds the elements of a kind, as references

-- an element that is of no kind that it would be made of
pub no_kind : {A B : Type 0} (f : A → Option B) (make : B → A) → ((a : A) (b : B) → f a ≡ Some b → a ≡ make b) → (x : A) → ((b : B) → x ≡ make b → ⊥) → f x ≡ None
no_kind f make is x never = go (f x) refl
  where
    go : (o : Option _) → f x ≡ o → o ≡ None
    go None e = refl
    go (Some b) e = absurd (never b (is x b e))

pub found_more : {A B : Type 0} (f : A → Option B) (xs : List A) (k : ℕ) (x : A) (found more : List (Bor B)) (one : B) → k < length xs → x ≡ get_or xs k x → f x ≡ Some one
    → map (λ r. r.now) more ≡ map (λ r. r.now) found ++ one ∷ [] → map (λ r. r.now) found ++ filter_map f (drop k xs) ≡ filter_map f xs → map (λ r. r.now) more ++ filter_map f (drop (k + 1) xs) ≡ filter_map f xs
found_more f xs k x found more one lt is gives e so_far =
    let here : filter_map f (drop k xs) ≡ one ∷ filter_map f (drop (k + 1) xs) = at_drop_more (filter_map f) xs k x lt
    ∙ ap (λ y. cons_option (f y) (filter_map f (drop (k + 1) xs))) (sym is) ∙ ap (λ o. cons_option o (filter_map f (drop (k + 1) xs))) gives in
    ap (λ ys. ys ++ filter_map f (drop (k + 1) xs)) e ∙ append_assoc (map (λ r. r.now) found) (one ∷ []) (filter_map f (drop (k + 1) xs)) ∙ ap (λ ys. map (λ r. r.now) found ++ ys) (sym here) ∙ so_far

pub found_same : {A B : Type 0} (f : A → Option B) (xs : List A) (k : ℕ) (x : A) (found more : List (Bor B)) → k < length xs → x ≡ get_or xs k x → f x ≡ None → more ≡ found
    → map (λ r. r.now) found ++ filter_map f (drop k xs) ≡ filter_map f xs → map (λ r. r.now) more ++ filter_map f (drop (k + 1) xs) ≡ filter_map f xs
found_same f xs k x found more lt is gives e so_far =
    let here : filter_map f (drop k xs) ≡ filter_map f (drop (k + 1) xs) = at_drop_more (filter_map f) xs k x lt
    ∙ ap (λ y. cons_option (f y) (filter_map f (drop (k + 1) xs))) (sym is) ∙ ap (λ o. cons_option o (filter_map f (drop (k + 1) xs))) gives in
    ap (λ ys. map (λ r. r.now) ys ++ filter_map f (drop (k + 1) xs)) e ∙ ap (λ ys. map (λ r. r.now) found ++ ys) (sym here) ∙ so_far

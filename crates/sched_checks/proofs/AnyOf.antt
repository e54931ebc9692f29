-- One step of a loop over places that looks for an element which passes a test.
use Rattle.std.proofs.Common.{◌≡◌, ℕ, ℤ, pos, ◌+◌, ◌<◌, List, ◌∷◌, length, drop, get_or, Bool, true, false, ◌||◌, refl, sym, ◌∙◌, add-one, drop-cons}
use Rattle.std.specs.Prelude.{slice_get}
use Rattle.std.specs.List.{list_any}
use Rattle.std.specs.Option.{option_to_list}
use Rattle.std.specs.declared.option.Option.{Option}
use Rattle.std.proofs.lemmas.Option.{slice_get-get_or}

or_false : (a b : Bool) → (a || b) ≡ ((a || false) || b)
or_false true b = refl
or_false false b = refl

-- the elements from a place on: the one there, and those behind it
split : (p : ℤ → Bool) (xs : List ℤ) (k : ℕ) → k < length xs →
    list_any p (drop k xs) ≡ (list_any p (option_to_list (slice_get xs k)) || list_any p (drop (k + 1) xs))
split p xs k h =
    let first : drop k xs ≡ get_or xs k (pos 0) ∷ drop (k + 1) xs = rw (add-one, drop-cons xs k (pos 0)) refl in
    rw (first, slice_get-get_or xs k (pos 0) h) (or_false (p (get_or xs k (pos 0))) (list_any p (drop (k + 1) xs)))

pub one_passes : (p : ℤ → Bool) (xs : List ℤ) (k : ℕ) (x : Option ℤ) → k < length xs → x ≡ slice_get xs k →
    list_any p (option_to_list x) ≡ true → list_any p (drop k xs) ≡ list_any p xs → true ≡ list_any p xs
one_passes p xs k x h is passes all = sym (sym all ∙ split p xs k h ∙ rw (← is, passes) refl)

pub none_passes : (p : ℤ → Bool) (xs : List ℤ) (k : ℕ) (x : Option ℤ) → k < length xs → x ≡ slice_get xs k →
    list_any p (option_to_list x) ≡ false → list_any p (drop k xs) ≡ list_any p xs → list_any p (drop (k + 1) xs) ≡ list_any p xs
none_passes p xs k x h is fails all = sym (sym all ∙ split p xs k h ∙ rw (← is, fails) refl)

-- Reading digits under a ceiling.
use Rattle.std.proofs.Common.{◌≡◌, ℕ, ◌+◌, ◌-◌, ◌*◌, ◌^◌, ◌<◌, List, [], ◌∷◌, length, get_or, drop, min, sym, ◌∙◌, ap, arith, add-one, drop-cons}
use Rattle.mca_words.specs.Values.{number_from}

abbrev ceiling : ℕ
ceiling = 2 ^ 32

-- a number cut to the ceiling reads on as the number itself, up to the ceiling
pub number_cut : (n : ℕ) (digits : List ℕ) → min ceiling (number_from (min n ceiling) digits) ≡ min ceiling (number_from n digits)
number_cut n [] = omega arith
number_cut n (digit ∷ digits) =
    sym (number_cut (min n ceiling * 10 + (digit - 48)) digits)
    ∙ ap (λ m. min ceiling (number_from m digits)) (cut n (digit - 48))
    ∙ number_cut (n * 10 + (digit - 48)) digits
  where
    cut : (m d : ℕ) → min (min m ceiling * 10 + d) ceiling ≡ min (m * 10 + d) ceiling
    cut m d = omega arith

-- one digit more
pub number_step : (digits : List ℕ) (k number next : ℕ) → k < length digits → next ≡ min (number * 10 + (get_or digits k 0 - 48)) ceiling → min ceiling (number_from next (drop (k + 1) digits)) ≡ min ceiling (number_from number (drop k digits))
number_step digits k number next within is =
    ap (λ m. min ceiling (number_from m (drop (k + 1) digits))) is
    ∙ number_cut (number * 10 + (get_or digits k 0 - 48)) (drop (k + 1) digits)
    ∙ rw (add-one, drop-cons digits k 0 within)

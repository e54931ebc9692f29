-- Walks that look for one that passes a test.
use Rattle.std.proofs.Common.{◌≡◌, ℕ, ◌+◌, ◌-◌, ◌<◌, Bool, true, false, ◌||◌, suc, sym, ◌∙◌, ap, arith}
use Rattle.std.specs.List.{list_any, range_with_len}

-- the numbers from one on, up to a bound
any_from : (p : ℕ → Bool) (r n : ℕ) → r < n → list_any p (range_with_len r (n - r)) ≡ (p r || list_any p (range_with_len (r + 1) (n - (r + 1))))
any_from p r n h = let e : n - r ≡ suc (n - (r + 1)) = omega arith in ap (λ m. list_any p (range_with_len r m)) e

pub number_passes : (p : ℕ → Bool) (r n : ℕ) (whole : Bool) → r < n → true ≡ p r → list_any p (range_with_len r (n - r)) ≡ whole → true ≡ whole
number_passes p r n whole h e same = ap (λ b. b || list_any p (range_with_len (r + 1) (n - (r + 1)))) e ∙ sym (any_from p r n h) ∙ same

pub number_fails : (p : ℕ → Bool) (r n : ℕ) (whole : Bool) → r < n → false ≡ p r → list_any p (range_with_len r (n - r)) ≡ whole → list_any p (range_with_len (r + 1) (n - (r + 1))) ≡ whole
number_fails p r n whole h e same = ap (λ b. b || list_any p (range_with_len (r + 1) (n - (r + 1)))) e ∙ sym (any_from p r n h) ∙ same

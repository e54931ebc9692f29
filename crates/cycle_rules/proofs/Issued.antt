-- Whether a row has issued before another looks, by the cycle, then the phase, then the row.
use Rattle.std.proofs.Common.{◌≡◌, ℕ, ◌<◌, arith, ◌&&◌}
use Rattle.std.specs.Prelude.{nat_lt}
use Rattle.std.proofs.lemmas.Bool.Decides.{nat_tests}
use Rattle.cycle_rules.specs.Seen.{key_at, comes_before}

pub issued_cycle : (n k i x q c p j : ℕ) → i ≡ x → k < n → (i ≡ c → ⊥) → nat_lt i c ≡ (nat_lt k n && comes_before (key_at x q k) (key_at c p j))
unfolding comes_before
issued_cycle n k i x q c p j e lt ne = grind (arith, nat_tests)

pub issued_phase : (n k i x f q c p j : ℕ) → i ≡ x → f ≡ q → k < n → i ≡ c → (f ≡ p → ⊥) → nat_lt f p ≡ (nat_lt k n && comes_before (key_at x q k) (key_at c p j))
unfolding comes_before
issued_phase n k i x f q c p j e h lt is ne = grind (arith, nat_tests)

pub issued_row : (n k i x f q c p j : ℕ) → i ≡ x → f ≡ q → k < n → i ≡ c → f ≡ p → nat_lt k j ≡ (nat_lt k n && comes_before (key_at x q k) (key_at c p j))
unfolding comes_before
issued_row n k i x f q c p j e h lt is same = grind (arith, nat_tests)

-- Whether one row issues before another

pub before_cycle : (a b i x y z p q : ℕ) → i ≡ y → x ≡ z → (i ≡ x → ⊥) → nat_lt i x ≡ comes_before (key_at y p a) (key_at z q b)
unfolding comes_before
before_cycle a b i x y z p q e h ne = grind (arith, nat_tests)

pub before_phase : (a b i x y z f h p q : ℕ) → i ≡ y → x ≡ z → i ≡ x → f ≡ p → h ≡ q → (f ≡ h → ⊥) → nat_lt f h ≡ comes_before (key_at y p a) (key_at z q b)
unfolding comes_before
before_phase a b i x y z f h p q e d same r s ne = grind (arith, nat_tests)

pub before_row : (a b i x y z f h p q : ℕ) → i ≡ y → x ≡ z → i ≡ x → f ≡ p → h ≡ q → f ≡ h → nat_lt a b ≡ comes_before (key_at y p a) (key_at z q b)
unfolding comes_before
before_row a b i x y z f h p q e d same r s is = grind (arith, nat_tests)

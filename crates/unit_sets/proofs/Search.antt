-- What a user needs of searches: they depend on the test alone, and numbers that do not pass add nothing.
use Rattle.std.proofs.Common.{◌≡◌, ℕ, ◌+◌, ◌-◌, ◌<◌, ◌≤◌, zero, suc, Bool, false, refl, ◌∙◌, ap, arith, Some, if◌then◌else◌}
use Rattle.unit_sets.specs.Below.{first_from, cyclic_from}
use Rattle.unit_sets.proofs.First.{first-none}

-- two tests that agree find the same
pub first-same : (a n : ℕ) (p q : ℕ → Bool) → ((v : ℕ) → a ≤ v → v < a + n → p v ≡ q v) → first_from a n p ≡ first_from a n q
unfolding first_from
first-same a zero p q h = refl
first-same a (suc n) p q h =
    let here : p a ≡ q a = h a (omega arith) (omega arith) in
    let rest : first_from (a + 1) n p ≡ first_from (a + 1) n q = first-same (a + 1) n p q (λ v lo hi. h v (omega arith) (omega arith)) in
    cc

pub cyclic-same : (n a : ℕ) (p q : ℕ → Bool) → a ≤ n → ((v : ℕ) → v < n → p v ≡ q v) → cyclic_from n a p ≡ cyclic_from n a q
unfolding cyclic_from
cyclic-same n a p q le h =
    let ahead : first_from a (n - a) p ≡ first_from a (n - a) q = first-same a (n - a) p q (λ v lo hi. h v (omega arith)) in
    let all : first_from 0 n p ≡ first_from 0 n q = first-same 0 n p q (λ v lo hi. h v (omega arith)) in
    cc

-- k more numbers that do not pass
pub first-wider : (a m k : ℕ) (p : ℕ → Bool) → ((v : ℕ) → a + m ≤ v → v < a + m + k → p v ≡ false) → first_from a (m + k) p ≡ first_from a m p
unfolding first_from
first-wider a zero k p h =
    let e : 0 + k ≡ k = omega arith in
    rw e (first-none a k (a + k) p refl (λ v lo hi. h v (omega arith) (omega arith)))
first-wider a (suc m) k p h =
    let e : suc m + k ≡ suc (m + k) = omega arith in
    let rest : first_from (a + 1) (m + k) p ≡ first_from (a + 1) m p = first-wider (a + 1) m k p (λ v lo hi. h v (omega arith) (omega arith)) in
    rw e (ap (λ r. if p a then Some a else r) rest)

-- where the numbers from n on do not pass, a search over more numbers finds the same
pub cyclic-wider : (n size a : ℕ) (p : ℕ → Bool) → a ≤ n → n ≤ size → ((v : ℕ) → n ≤ v → v < size → p v ≡ false) → cyclic_from size a p ≡ cyclic_from n a p
unfolding cyclic_from
cyclic-wider n size a p le wide h =
    let part : size - a ≡ (n - a) + (size - n) = omega arith in
    let whole : size ≡ n + (size - n) = omega arith in
    let ahead : first_from a (size - a) p ≡ first_from a (n - a) p =
    ap (λ m. first_from a m p) part ∙ first-wider a (n - a) (size - n) p (λ v lo hi. h v (omega arith) (omega arith)) in
    let all : first_from 0 size p ≡ first_from 0 n p =
    ap (λ m. first_from 0 m p) whole ∙ first-wider 0 n (size - n) p (λ v lo hi. h v (omega arith) (omega arith)) in
    cc

-- What comes first from a place on, as a search finds it.
use Rattle.std.proofs.Common.{◌≡◌, ℕ, ◌+◌, ◌-◌, ◌<◌, ◌≤◌, zero, suc, Bool, true, false, inl, inr, refl, sym, ◌∙◌, ap, arith, Option, Some, None, MatchOption}
use Rattle.std.proofs.lemmas.Bool.{cases_lt, both_ways}
use Rattle.std.proofs.lemmas.Bool.Decides.{nat_tests}
use Rattle.unit_sets.specs.Below.{first_from, cyclic_from}
use Rattle.unit_sets.specs.Members.{IsNext, NoneFrom, IsFirstFrom, steps_to}

pub first-none : (a n size : ℕ) (p : ℕ → Bool) → a + n ≡ size → NoneFrom size p a → first_from a n p ≡ None
unfolding first_from
first-none a zero size p e h = refl
first-none a (suc n) size p e h =
    let here : p a ≡ false = h a (omega arith) (omega arith) in
    let rest : first_from (a + 1) n p ≡ None = first-none (a + 1) n size p (omega arith) (λ v lo hi. h v (omega arith) hi) in
    rw here rest

pub first-next : (a n size u : ℕ) (p : ℕ → Bool) → a + n ≡ size → IsNext size p a u → first_from a n p ≡ Some u
unfolding first_from
first-next a zero size u p e h = absurd (omega arith)
first-next a (suc n) size u p e h = elim (cases_lt a u) [
  | inl later ↦
      let here : p a ≡ false = h.none a (omega arith) later in
      let rest : first_from (a + 1) n p ≡ Some u =
      first-next (a + 1) n size u p (omega arith) (record { from = omega arith; within = h.within; member = h.member; none = λ v lo lt. h.none v (omega arith) lt }) in
      rw here rest
  | inr first ↦
      let same : u ≡ a = omega (arith, h.from) in
      let here : p a ≡ true = ap p (sym same) ∙ h.member in
      rw here (ap Some (sym same))
]

-- a number that passes is not below the least one
not_below : (p : ℕ → Bool) (u v : ℕ) → (v < u → p v ≡ false) → p v ≡ true → u ≤ v
not_below p u v none is_in = elim (cases_lt v u) [ inl lt ↦ absurd (both_ways (p v) (none lt) is_in) | inr ge ↦ ge ]

steps_ahead : (size pos u v : ℕ) → pos ≤ u → u < size → (pos ≤ v → u ≤ v) → steps_to size pos u ≤ steps_to size pos v
steps_ahead size pos u v from within least = grind (arith, nat_tests)

steps_wrapped : (size pos u v : ℕ) → u < pos → v < pos → u ≤ v → steps_to size pos u ≤ steps_to size pos v
steps_wrapped size pos u v below low least = grind (arith, nat_tests)

-- what is said of the number that is found
pub record Found (size : ℕ) (has : ℕ → Bool) (pos : ℕ) (r : Option ℕ) : Type 0 where
  pub nearest : IsFirstFrom size has pos r
  pub cyclic : r ≡ cyclic_from size pos has

pub found_ahead : (size pos u : ℕ) (p : ℕ → Bool) → pos < size → IsNext size p pos u → Found size p pos (Some u)
unfolding cyclic_from
found_ahead size pos u p lt h =
    let here : first_from pos (size - pos) p ≡ Some u = first-next pos (size - pos) size u p (omega arith) h in
    record {
      nearest = record {
        within = h.within;
        member = h.member;
        nearest = λ v hi is_in. steps_ahead size pos u v h.from h.within (λ lo. not_below p u v (h.none v lo) is_in);
      };
      cyclic = rw here;
    }

found_wrapped : (size pos u : ℕ) (p : ℕ → Bool) → pos < size → NoneFrom size p pos → IsNext size p 0 u → Found size p pos (Some u)
unfolding cyclic_from
found_wrapped size pos u p lt none h =
    let here : first_from pos (size - pos) p ≡ None = first-none pos (size - pos) size p (omega arith) none in
    let wrapped : first_from 0 size p ≡ Some u = first-next 0 size size u p (omega arith) h in
    let low : (v : ℕ) → v < size → p v ≡ true → v < pos =
    λ v hi is_in. elim (cases_lt v pos) [ inl below ↦ below | inr ge ↦ absurd (both_ways (p v) (none v ge hi) is_in) ] in
    record {
      nearest = record {
        within = h.within;
        member = h.member;
        nearest = λ v hi is_in. steps_wrapped size pos u v (low u h.within h.member) (low v hi is_in) (not_below p u v (h.none v (omega arith)) is_in);
      };
      cyclic = rw (here, wrapped);
    }

found_none : (size pos : ℕ) (p : ℕ → Bool) → pos < size → ((v : ℕ) → size ≤ v → p v ≡ false) → NoneFrom size p 0 → Found size p pos None
unfolding cyclic_from
found_none size pos p lt bounded none =
    let here : first_from pos (size - pos) p ≡ None = first-none pos (size - pos) size p (omega arith) (λ v lo hi. none v (omega arith) hi) in
    let wrapped : first_from 0 size p ≡ None = first-none 0 size size p (omega arith) none in
    record {
      nearest = λ v. elim (cases_lt v size) [ inl hi ↦ none v (omega arith) hi | inr ge ↦ bounded v ge ];
      cyclic = rw (here, wrapped);
    }

-- what is found from 0 on, where there is none from a place on
pub found_after : (size pos : ℕ) (p : ℕ → Bool) (r : Option ℕ) → pos < size → ((v : ℕ) → size ≤ v → p v ≡ false) → NoneFrom size p pos → MatchOption r (NoneFrom size p 0) (IsNext size p 0) → Found size p pos r
found_after size pos p (Some u) lt bounded none h = found_wrapped size pos u p lt none h
found_after size pos p None lt bounded none h = found_none size pos p lt bounded h

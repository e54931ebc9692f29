-- Of the places that the numbers of a word name, the one whose time comes first, number by number.
use Rattle.std.proofs.Common.{◌≡◌, ℕ, ◌+◌, ◌<◌, ◌≤◌, Bool, true, inl, inr, refl, sym, ◌∙◌, ap, subst, nat_lt, arith, Option, Some, None, MatchOption, IfSome, if◌then◌else◌}
use Rattle.std.proofs.lemmas.Bool.{cases_lt, cases_eq, both_ways, cond_above, cond_below}
use Rattle.unit_sets.specs.Members.{IsNext, NoneFrom}
use Rattle.row_sets.specs.Kept.{IsFirstOf}

-- of the numbers below n
abbrev pub FirstBelow : (ℕ → Bool) → (ℕ → ℕ) → (ℕ → ℕ) → ℕ → Option ℕ → Type 0
FirstBelow has place time n best = MatchOption best (NoneFrom n has 0) (IsFirstOf has place time n)

-- what a comparison with the one before gives
abbrev pub Sooner : (ℕ → ℕ) → ℕ → ℕ → Option ℕ → ℕ → Type 0
Sooner time q t best p = MatchOption best (p ≡ q) (λ old. p ≡ (if nat_lt t (time old) then q else old))

pub first_start : (has : ℕ → Bool) (place time : ℕ → ℕ) → FirstBelow has place time 0 None
first_start has place time v lo hi = absurd (omega arith)

-- the number that is met next, where its time is no later than those before
take_new : (has : ℕ → Bool) (place time : ℕ → ℕ) (n u p : ℕ) → IsNext 64 has n u → p ≡ place u → ((v : ℕ) → v < n → has v ≡ true → time p ≤ time (place v)) → IsFirstOf has place time (u + 1) p
take_new has place time n u p next e least = record {
  number = u;
  within = omega arith;
  member = next.member;
  is = e;
  least = λ v lt is_in. elim (cases_lt v n) [
    | inl before ↦ least v before is_in
    | inr from ↦ elim (cases_eq v u) [
      | inl same ↦ (let times : time p ≡ time (place v) = ap time (e ∙ ap place (sym same)) in omega (arith, times))
      | inr other ↦ absurd (both_ways (has v) (next.none v from (omega arith)) is_in)
    ]
  ];
}

keep_old : (has : ℕ → Bool) (place time : ℕ → ℕ) (n u p : ℕ) → IsNext 64 has n u → IsFirstOf has place time n p → time p ≤ time (place u) → IsFirstOf has place time (u + 1) p
keep_old has place time n u p next h le = record {
  number = h.number;
  within = omega (arith, h.within, next.from);
  member = h.member;
  is = h.is;
  least = λ v lt is_in. elim (cases_lt v n) [
    | inl before ↦ h.least v before is_in
    | inr from ↦ elim (cases_eq v u) [
      | inl same ↦ (let times : time (place u) ≡ time (place v) = ap (λ x. time (place x)) (sym same) in omega (arith, times))
      | inr other ↦ absurd (both_ways (has v) (next.none v from (omega arith)) is_in)
    ]
  ];
}

pub first_step : (has : ℕ → Bool) (place time : ℕ → ℕ) (n u p : ℕ) (best : Option ℕ) → IsNext 64 has n u → FirstBelow has place time n best → Sooner time (place u) (time (place u)) best p →
    IsFirstOf has place time (u + 1) p
first_step has place time n u p None next none e = take_new has place time n u p next e (λ v lt is_in. absurd (both_ways (has v) (none v (omega arith) lt) is_in))
first_step has place time n u p (Some old) next h e = elim (cases_lt (time (place u)) (time old)) [
  | inl sooner ↦
      let new : p ≡ place u = e ∙ sym (cond_below (time (place u)) (time old) (place u) old sooner) in
      let times : time p ≡ time (place u) = ap time new in
      take_new has place time n u p next new (λ v lt is_in. omega (arith, h.least v lt is_in, times))
  | inr later ↦
      let same : p ≡ old = e ∙ sym (cond_above (time (place u)) (time old) (place u) old old later refl) in
      keep_old has place time n u p next (subst (IsFirstOf has place time n) (sym same) h) (let times : time p ≡ time old = ap time same in omega (arith, times))
]

pub first_end : (has : ℕ → Bool) (place time : ℕ → ℕ) (n : ℕ) (best : Option ℕ) → n ≤ 64 → NoneFrom 64 has n → FirstBelow has place time n best → FirstBelow has place time 64 best
first_end has place time n None low rest none = λ v lo hi. elim (cases_lt v n) [ inl before ↦ none v lo before | inr from ↦ rest v from hi ]
first_end has place time n (Some p) low rest h = record {
  number = h.number;
  within = omega (arith, h.within);
  member = h.member;
  is = h.is;
  least = λ v lt is_in. elim (cases_lt v n) [ inl before ↦ h.least v before is_in | inr from ↦ absurd (both_ways (has v) (rest v from lt) is_in) ];
}

-- the places that are compared are among those of the numbers
pub first_within : (has : ℕ → Bool) (place time : ℕ → ℕ) (n size : ℕ) (best : Option ℕ) → FirstBelow has place time n best → ((v : ℕ) → v < n → has v ≡ true → place v < size) → IfSome best (λ p. p < size)
first_within has place time n size None h low = tt
first_within has place time n size (Some p) h low = omega (arith, h.is, low h.number h.within h.member)

-- How far the dispatch groups are filled, as rows and cycles go by.
use Rattle.std.proofs.Common.{zero, suc, ◌≡◌, ℕ, ◌+◌, ◌-◌, ◌*◌, ◌/◌, ◌<◌, ◌≤◌, ◌⊎◌, inl, inr, arith, refl, sym, ◌∙◌, ap, subst, Bool, true, false, ◌&&◌, ◌||◌, not}
use Rattle.std.specs.Prelude.{nat_eq, nat_le, nat_lt, min, if◌then◌else◌}
use Rattle.std.proofs.lemmas.Bool.{cases_lt, cases_eq, and_parts}
use Rattle.std.proofs.lemmas.Bool.Decides.{nat_tests}
use Rattle.std.proofs.Math.Nat.{le-div_iff_mul-le}
use Rattle.machine_model.specs.Valid.{AreLimits}
use Rattle.cycle_rules.specs.Below.{sum_below, all_below}
use Rattle.cycle_rules.specs.Row.{Input, Table, uops_of}
use Rattle.cycle_rules.specs.Dispatch.{share, has_place, fits_group}
use Rattle.dep_graph.specs.Walk.{IsFilled}
use Rattle.dep_graph.specs.declared.fill.Fill.{Fill}

pub filled_none : (g : Input) (t : Table) → IsFilled g t 0 0 (record { left = 0; is_open = true })
unfolding sum_below all_below
filled_none g t = record { past = λ k lt. absurd (omega (arith, lt)); shares = λ c le. omega arith; opens = λ c le. refl; few = omega arith }

-- Later

mul_more : (w a b : ℕ) → w * (a + b) ≡ w * a + w * b
mul_more w zero b = omega arith
mul_more w (suc a) b = omega (arith, mul_more w a b)

mul_some : (w d : ℕ) → 0 < d → w ≤ w * d
mul_some w zero some = absurd (omega (arith, some))
mul_some w (suc d) some = omega arith

less_left : (left w a b c : ℕ) → a ≤ b → b ≤ c → left - w * (c - a) ≡ left - w * (b - a) - w * (c - b)
less_left left w a b c le later =
    let parts : (b - a) + (c - b) ≡ c - a = omega (arith, le, later) in
    let split : w * (c - a) ≡ w * (b - a) + w * (c - b) = subst (λ d. w * d ≡ w * (b - a) + w * (c - b)) parts (mul_more w (b - a) (c - b)) in
    omega (arith, split)

still_open : (b : Bool) (l x : ℕ) → (b || nat_eq (l - x) 0) ≡ ((b || nat_eq l 0) || nat_eq (l - x) 0)
still_open true l x = refl
still_open false l x = elim (cases_eq l 0) [
  | inl none ↦ (let a : nat_eq l 0 ≡ true = grind (arith, nat_tests, none) in let e : nat_eq (l - x) 0 ≡ true = grind (arith, nat_tests, none) in rw (a, e) refl)
  | inr some ↦ (let a : nat_eq l 0 ≡ false = grind (arith, nat_tests, some) in rw a refl)
]

pub filled_later : (g : Input) (t : Table) (j a b w n : ℕ) (fill : Fill) (left : ℕ) (open_ : Bool) → IsFilled g t j a fill → g.machine.limits.width ≡ w → b ≡ a + n
    → left ≡ fill.left - w * n → open_ ≡ (fill.is_open || nat_eq left 0) → IsFilled g t j b (record { left = left; is_open = open_ })
filled_later g t j a b w n fill left open_ h width at is opens =
    let gone : b - a ≡ n = omega (arith, at) in
    let left_is : left ≡ fill.left - g.machine.limits.width * (b - a) = is ∙ (λ i. fill.left - sym width i * sym gone i) in
    let less : (c : ℕ) → b ≤ c → fill.left - g.machine.limits.width * (c - a) ≡ left - g.machine.limits.width * (c - b) =
    λ c le. less_left fill.left g.machine.limits.width a b c (omega (arith, at)) le ∙ ap (λ m. m - g.machine.limits.width * (c - b)) (sym left_is) in
    record {
      past = λ k lt. omega (arith, h.past k lt, at);
      shares = λ c le. h.shares c (omega (arith, at, le)) ∙ ap (min g.machine.limits.width) (less c le);
      opens = λ c le. h.opens c (omega (arith, at, le)) ∙ ap (λ m. fill.is_open || nat_eq m 0) (less c le) ∙ still_open fill.is_open left (g.machine.limits.width * (c - b)) ∙ ap (λ o. o || nat_eq (left - g.machine.limits.width * (c - b)) 0) (sym opens);
      few = omega (arith, is, h.few);
    }

-- Place

ceil_le : (n w m : ℕ) → 1 ≤ w → nat_le ((n + w - 1) / w) m ≡ nat_le n (w * m)
ceil_le n w m some = elim (cases_lt m ((n + w - 1) / w)) [
  | inl above ↦
      (let up : m + 1 ≤ (n + w - 1) / w = omega (arith, above) in
      let room : (m + 1) * w ≤ n + w - 1 = (le-div_iff_mul-le some).0 up in
      let more : w * m < n = omega (arith, room, more_w m w) in
      grind (arith, nat_tests, above, more))
  | inr low ↦ elim (cases_lt (w * m) n) [
    | inr fits ↦ grind (arith, nat_tests, low, fits)
    | inl more ↦
        (let room : (m + 1) * w ≤ n + w - 1 = omega (arith, more, more_w m w) in
        let up : m + 1 ≤ (n + w - 1) / w = (le-div_iff_mul-le some).1 room in
        absurd (omega (arith, up, low)))
  ]
]
  where
    more_w : (m w : ℕ) → (m + 1) * w ≡ w * m + w
    more_w zero w = omega arith
    more_w (suc m) w = omega (arith, more_w m w)

fits_left : (w u l : ℕ) (open_ begins : Bool) → 1 ≤ w → 1 ≤ u
    → (nat_le (min w l + min u w) w && (not (begins || nat_lt w u) || nat_eq (min w l) 0) && (open_ || nat_eq l 0)) ≡ nat_le l (if open_ && not begins && nat_le u w then w - u else 0)
fits_left w u l true true some more = grind (arith, nat_tests, some, more)
fits_left w u l true false some more = grind (arith, nat_tests, some, more)
fits_left w u l false true some more = grind (arith, nat_tests, some, more)
fits_left w u l false false some more = grind (arith, nat_tests, some, more)

pub place_from : (g : Input) (t : Table) (j a w u c : ℕ) (begins : Bool) (fill : Fill) → IsFilled g t j a fill → g.machine.limits.width ≡ w → uops_of g j ≡ u → (g.row j).begins_group ≡ begins → 1 ≤ w → 1 ≤ u → a ≤ c
    → fits_group g t j c ≡ nat_le (fill.left - w * (c - a)) (if fill.is_open && not begins && nat_le u w then w - u else 0)
unfolding fits_group has_place
place_from g t j a w u c begins fill h width uops is some more le =
    (λ i. nat_le (h.shares c le i + min (uops i) (width i)) (width i)
    && (not (is i || nat_lt (width i) (uops i)) || nat_eq (h.shares c le i) 0) && h.opens c le i)
    ∙ (λ i. nat_le (min (width i) (fill.left - width i * (c - a)) + min u w) w
    && (not (begins || nat_lt w u) || nat_eq (min (width i) (fill.left - width i * (c - a))) 0) && (fill.is_open || nat_eq (fill.left - width i * (c - a)) 0))
    ∙ fits_left w u (fill.left - w * (c - a)) fill.is_open begins some more

pub left_from : (left most a w c : ℕ) → 1 ≤ w → a ≤ c → nat_le (left - w * (c - a)) most ≡ nat_le (a + (left - most + w - 1) / w) c
left_from left most a w c some le =
    let over : ℕ = left - most in
    let k : ℕ = (over + w - 1) / w in
    let one : nat_le (left - w * (c - a)) most ≡ nat_le over (w * (c - a)) = shift left most (w * (c - a)) in
    let two : nat_le k (c - a) ≡ nat_le (a + k) c = moved a k c le in
    one ∙ sym (ceil_le over w (c - a) some) ∙ two
  where
    shift : (left most x : ℕ) → nat_le (left - x) most ≡ nat_le (left - most) x
    shift left most x = grind (arith, nat_tests)

    moved : (a k c : ℕ) → a ≤ c → nat_le k (c - a) ≡ nat_le (a + k) c
    moved a k c le = grind (arith, nat_tests, le)

-- One row more

one_more : (w left u x : ℕ) → 1 ≤ w → 1 ≤ u → (x ≡ 0) ⊎ (w ≤ x) → min w left + min u w ≤ w → (w < u → min w left ≡ 0) → min w (left - x) + min w (u - x) ≡ min w (left + u - x)
one_more w left u x some more (inl here) fit alone = elim (cases_lt w u) [ inl wide ↦ omega (arith, here, fit, alone wide, some) | inr narrow ↦ omega (arith, here, fit, some, more, narrow) ]
one_more w left u x some more (inr later) fit alone = elim (cases_lt w u) [ inl wide ↦ omega (arith, later, fit, alone wide, some) | inr narrow ↦ omega (arith, later, fit, some, more, narrow) ]

steps : (w a c : ℕ) → a ≤ c → (w * (c - a) ≡ 0) ⊎ (w ≤ w * (c - a))
steps w a c le = elim (cases_eq c a) [
  | inl here ↦ inl (let e : c - a ≡ 0 = omega (arith, here) in rw e (omega arith))
  | inr later ↦ inr (mul_some w (c - a) (omega (arith, le, later)))
]

-- what a place tells
pub record HasPlace (w left u : ℕ) (open_ : Bool) : Type 0 where
  pub fit : min w left + min u w ≤ w
  pub alone : w < u → min w left ≡ 0
  pub joins : (open_ || nat_eq left 0) ≡ true

placed : (w u l : ℕ) (open_ begins : Bool) → (nat_le (min w l + min u w) w && (not (begins || nat_lt w u) || nat_eq (min w l) 0) && (open_ || nat_eq l 0)) ≡ true → HasPlace w l u open_
placed w u l open_ begins h =
    let all : ((nat_le (min w l + min u w) w && (not (begins || nat_lt w u) || nat_eq (min w l) 0)) ≡ true) × ((open_ || nat_eq l 0) ≡ true) = and_parts _ _ h in
    let two : (nat_le (min w l + min u w) w ≡ true) × ((not (begins || nat_lt w u) || nat_eq (min w l) 0) ≡ true) = and_parts _ _ all.0 in
    record {
      fit = grind (arith, nat_tests, two.0);
      alone = λ wide. lone begins (min w l) w u wide two.1;
      joins = all.1;
    }
  where
    lone : (b : Bool) (m w u : ℕ) → w < u → (not (b || nat_lt w u) || nat_eq m 0) ≡ true → m ≡ 0
    lone true m w u wide is = grind (arith, nat_tests, is)
    lone false m w u wide is = grind (arith, nat_tests, wide, is)

pub place_of : (g : Input) (t : Table) (j a : ℕ) (fill : Fill) → IsFilled g t j a fill → fits_group g t j a ≡ true → HasPlace g.machine.limits.width fill.left (uops_of g j) fill.is_open
unfolding fits_group has_place
place_of g t j a fill h fits =
    let w : ℕ = g.machine.limits.width in
    let same : fill.left - w * (a - a) ≡ fill.left = (let e : a - a ≡ 0 = omega arith in rw e (omega arith)) in
    let shares = h.shares a (omega arith) ∙ ap (min w) same in
    let opens = h.opens a (omega arith) ∙ ap (λ m. fill.is_open || nat_eq m 0) same in
    placed w (uops_of g j) fill.left fill.is_open (g.row j).begins_group
    (sym (λ i. nat_le (shares i + min (uops_of g j) w) w && (not ((g.row j).begins_group || nat_lt w (uops_of g j)) || nat_eq (shares i) 0) && opens i) ∙ fits)

opens_more : (w left u x : ℕ) (open_ ends : Bool) → 1 ≤ w → 1 ≤ u → (x ≡ 0) ⊎ (w ≤ x) → HasPlace w left u open_
    → ((open_ || nat_eq (left - x) 0) && (not ends || nat_eq (min w (u - x)) 0)) ≡ (not ends || nat_eq (left + u - x) 0)
opens_more w left u x open_ ends some more at p =
    let sum : min w (left - x) + min w (u - x) ≡ min w (left + u - x) = one_more w left u x some more at p.fit p.alone in
    rw (joined open_ left x p.joins) (last ends at sum)
  where
    joined : (b : Bool) (l x : ℕ) → (b || nat_eq l 0) ≡ true → (b || nat_eq (l - x) 0) ≡ true
    joined true l x is = refl
    joined false l x is = grind (arith, nat_tests, is)

    last : (b : Bool) → (x ≡ 0) ⊎ (w ≤ x) → min w (left - x) + min w (u - x) ≡ min w (left + u - x) → (not b || nat_eq (min w (u - x)) 0) ≡ (not b || nat_eq (left + u - x) 0)
    last false at sum = refl
    last true (inl here) sum = (let a : nat_eq (min w (u - x)) 0 ≡ false = (let k : 0 < min w (u - x) = omega (arith, here, some, more) in grind (arith, nat_tests, k)) in
        let b : nat_eq (left + u - x) 0 ≡ false = (let k : 0 < left + u - x = omega (arith, here, more) in grind (arith, nat_tests, k)) in rw (a, b) refl)
    last true (inr later) sum = elim (cases_lt w u) [
      | inl wide ↦ (let none : left ≡ 0 = omega (arith, p.alone wide, some) in let e : left + u - x ≡ u - x = omega (arith, none) in rw e (zero_min w (u - x) some))
      | inr narrow ↦ (let a : u - x ≡ 0 = omega (arith, later, narrow) in let b : left + u - x ≡ 0 = omega (arith, later, narrow, p.fit, more, some) in rw (a, b) (zero_min w 0 some))
    ]
      where
        zero_min : (w m : ℕ) → 1 ≤ w → nat_eq (min w m) 0 ≡ nat_eq m 0
        zero_min w m some = grind (arith, nat_tests, some)

pub filled_more : (g : Input) (t : Table) (j a u : ℕ) (ends : Bool) (fill : Fill) → IsFilled g t j a fill → AreLimits g.machine.limits → 1 ≤ u → uops_of g j ≡ u → (g.row j).ends_group ≡ ends → (t j).dispatch ≡ a → fits_group g t j a ≡ true
    → IsFilled g t (j + 1) a (record { left = fill.left + u; is_open = not ends })
unfolding sum_below all_below share uops_of
filled_more g t j a u ends fill h limits some uops is at fits =
    let w : ℕ = g.machine.limits.width in
    let e : suc j ≡ j + 1 = omega arith in
    let p : HasPlace w fill.left u fill.is_open = subst (λ m. HasPlace w fill.left m fill.is_open) uops (place_of g t j a fill h fits) in
    let mine : (c : ℕ) → a ≤ c → share w (uops_of g j) (t j).dispatch c ≡ min w (u - w * (c - a)) = λ c le. (λ i. share w (uops i) (at i) c) ∙ (let there : nat_le a c ≡ true = grind (arith, nat_tests, le) in rw there refl) in
    record {
      past = λ k lt. elim (cases_lt k j) [ inl low ↦ h.past k low | inr last ↦ (let here : k ≡ j = omega (arith, last, lt) in rw here (omega (arith, at))) ];
      shares = λ c le. ap (λ n. sum_below n (λ k. share w (uops_of g k) (t k).dispatch c)) (sym e)
          ∙ (λ i. h.shares c le i + mine c le i)
          ∙ one_more w fill.left u (w * (c - a)) limits.width_low some (steps w a c le) p.fit p.alone;
      opens = λ c le. ap (λ n. all_below n (λ k. not (g.row k).ends_group || nat_eq (share w (uops_of g k) (t k).dispatch c) 0)) (sym e)
          ∙ (λ i. h.opens c le i && (not (is i) || nat_eq (mine c le i) 0))
          ∙ opens_more w fill.left u (w * (c - a)) fill.is_open ends limits.width_low some (steps w a c le) p;
      few = omega (arith, p.fit, some, uops, limits.width_low, limits.width_high, limits.reorder_high, h.few);
    }

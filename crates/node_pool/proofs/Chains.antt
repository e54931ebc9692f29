-- The places of a span, counted from its first, and spans that are joined.
use Rattle.std.proofs.Common.{zero, suc, ◌≡◌, ℕ, ◌+◌, ◌-◌, ◌<◌, ◌≤◌, ◌≢◌, List, [], ◌∷◌, ◌++◌, length, get_or, refl, ap, sym, ◌∙◌, append_assoc, append-nil, cond, eqb, arith}
use Rattle.std.proofs.lemmas.List.Sums.{sum_by-cons, sum_by-append}
use Rattle.std.proofs.lemmas.Bool.Decides.{nat_tests}
use Rattle.node_pool.specs.Chain.{places_from, place_after, places, occurs, one_below, HasTail, IsJoined}
use Rattle.node_pool.specs.declared.span.Span.{Span}

pub length-places_from : (next : List ℕ) (n at : ℕ) → length (places_from next n at) ≡ n
unfolding places_from
length-places_from next zero at = refl
length-places_from next (suc n) at = ap suc (length-places_from next n (get_or next at 0))

pub places-split : (next : List ℕ) (a n at : ℕ) → a ≤ n → places_from next n at ≡ places_from next a at ++ places_from next (n - a) (place_after next a at)
unfolding places_from place_after
places-split next zero n at h = let e : n - 0 ≡ n = omega arith in rw e refl
places-split next (suc a) zero at h = absurd (omega arith)
places-split next (suc a) (suc n) at h =
    let e : suc n - suc a ≡ n - a = omega arith in
    rw e (ap (λ r. at ∷ r) (places-split next a n (get_or next at 0) (omega arith)))

pub after-split : (next : List ℕ) (a n at : ℕ) → a ≤ n → place_after next n at ≡ place_after next (n - a) (place_after next a at)
unfolding place_after
after-split next zero n at h = let e : n - 0 ≡ n = omega arith in rw e refl
after-split next (suc a) zero at h = absurd (omega arith)
after-split next (suc a) (suc n) at h =
    let e : suc n - suc a ≡ n - a = omega arith in
    rw e (after-split next a n (get_or next at 0) (omega arith))

pub after-more : (next : List ℕ) (n at : ℕ) → place_after next (n + 1) at ≡ get_or next (place_after next n at) 0
unfolding place_after
after-more next n at =
    rw (after-split next n (n + 1) at (omega arith)) (let e : n + 1 - n ≡ suc zero = omega arith in rw e refl)

pub occurs-cons : (i x : ℕ) (xs : List ℕ) → occurs i (x ∷ xs) ≡ (cond (eqb x i) 1 0) + occurs i xs
unfolding occurs
occurs-cons i x xs = sum_by-cons (λ y. cond (eqb y i) 1 0) x xs

pub occurs-nil : (i : ℕ) → occurs i [] ≡ 0
unfolding occurs
occurs-nil i = refl

pub occurs-append : (i : ℕ) (xs ys : List ℕ) → occurs i (xs ++ ys) ≡ occurs i xs + occurs i ys
unfolding occurs
occurs-append i xs ys = sum_by-append (λ y. cond (eqb y i) 1 0) xs ys

-- what a write of other places leaves
pub places-same : (next new : List ℕ) (n at : ℕ) → ((i : ℕ) → 0 < occurs i (places_from next n at) → get_or new i 0 ≡ get_or next i 0) → (places_from new n at ≡ places_from next n at) × (place_after new n at ≡ place_after next n at)
unfolding places_from place_after
places-same next new zero at same = (refl, refl)
places-same next new (suc n) at same =
    let rest = places_from next n (get_or next at 0) in
    let here : get_or new at 0 ≡ get_or next at 0 = same at (rw occurs-cons (grind (arith, nat_tests))) in
    let later = places-same next new n (get_or next at 0) (λ i h. same i (rw occurs-cons (omega arith))) in
    rw here (ap (λ r. at ∷ r) later.0, later.1)

pub occurs-prefix : (next : List ℕ) (i k n at : ℕ) → k ≤ n → occurs i (places_from next k at) ≤ occurs i (places_from next n at)
occurs-prefix next i k n at h = rw (places-split next k n at h, occurs-append) (omega arith)

-- the same of the front of a span
pub prefix-same : (next new : List ℕ) (k n at : ℕ) → k ≤ n → ((i : ℕ) → 0 < occurs i (places_from next n at) → get_or new i 0 ≡ get_or next i 0) → (places_from new k at ≡ places_from next k at) × (place_after new k at ≡ place_after next k at)
prefix-same next new k n at h same =
    places-same next new k at (λ i p. same i (omega (arith, occurs-prefix next i k n at h)))

pub places-last : (next : List ℕ) (n at : ℕ) → 0 < n → places_from next n at ≡ places_from next (n - 1) at ++ place_after next (n - 1) at ∷ []
unfolding places_from
places-last next n at h =
    let e : n - (n - 1) ≡ suc zero = omega arith in
    rw (places-split next (n - 1) n at (omega arith), e) refl

pub occurs-last : (next : List ℕ) (i n at : ℕ) → 0 < n → occurs i (places_from next n at) ≡ occurs i (places_from next (n - 1) at) + cond (eqb (place_after next (n - 1) at) i) 1 0
occurs-last next i n at h =
    rw (places-last next n at h, occurs-append, occurs-cons, occurs-nil i) (omega arith)

-- a place that the span has
pub occurs-after : (next : List ℕ) (k n at : ℕ) → k < n → 0 < occurs (place_after next k at) (places_from next n at)
occurs-after next k n at h =
    let e = occurs-last next (place_after next k at) (k + 1) at (omega arith) in
    let f : k + 1 - 1 ≡ k = omega arith in
    let g = rw f at e in
    grind (arith, nat_tests, occurs-prefix next (place_after next k at) (k + 1) n at (omega arith))

-- a span of which the last place leads to another
pub places-led : (new : List ℕ) (n m at t b : ℕ) → 0 < n → place_after new (n - 1) at ≡ t → get_or new t 0 ≡ b → (places_from new (n + m) at ≡ places_from new (n - 1) at ++ t ∷ places_from new m b) × ((k : ℕ) → k < m → place_after new (n + k) at ≡ place_after new k b)
unfolding places_from place_after
places-led new n m at t b h last lead =
    let e : n + m - (n - 1) ≡ suc m = omega arith in (
      rw (places-split new (n - 1) (n + m) at (omega arith), e, last, lead) refl,
      λ k p. let f : n + k - (n - 1) ≡ suc k = omega arith in rw (after-split new (n - 1) (n + k) at (omega arith), f, last, lead) refl,
    )

pub joined-at : (next new : List ℕ) (front back : Span) → HasTail next front → HasTail next back → ((i : ℕ) → occurs i (places next front) + occurs i (places next back) ≤ one_below (length next) i) → 0 < front.len → 0 < back.len → length new ≡ length next → get_or new front.tail 0 ≡ back.head → ((i : ℕ) → i ≢ front.tail → get_or new i 0 ≡ get_or next i 0) → IsJoined next new front back (record { head = front.head; tail = back.tail; len = front.len + back.len })
joined-at next new front back ft bt apart fn bn size lead others =
    let t = ft fn in
    let o = occurs-last next front.tail front.len front.head fn in
    let a = apart front.tail in
    let none : occurs front.tail (places_from next (front.len - 1) front.head) + occurs front.tail (places next back) ≡ 0 = grind (arith, nat_tests) in
    let early = places-same next new (front.len - 1) front.head (λ i p. others i (λ e. absurd (let q = rw e at p in omega arith))) in
    let late : (i : ℕ) → 0 < occurs i (places next back) → get_or new i 0 ≡ get_or next i 0 = λ i p. others i (λ e. absurd (let q = rw e at p in omega arith)) in
    let last : place_after new (front.len - 1) front.head ≡ front.tail = early.1 ∙ sym t in
    let led = places-led new front.len back.len front.head front.tail back.head fn last lead in
    let whole = places-last next front.len front.head fn in
    let after = places-same next new back.len back.head late in
    let some : 0 < occurs front.tail (places next front) = grind (arith, nat_tests) in
    record {
      size = size;
      len = refl;
      joined = rw (led.0, early.0, after.0, whole, ← t, append_assoc) refl;
      tail = λ p.
          let e : front.len + back.len - 1 ≡ front.len + (back.len - 1) = omega arith in
          rw (e, led.1 (back.len - 1) (omega arith), (prefix-same next new (back.len - 1) back.len back.head (omega arith) late).1) (bt bn);
      others = λ i z. others i (λ e. let q = rw e at z in omega arith);
    }

pub places-none : (next : List ℕ) (n at : ℕ) → n ≡ 0 → places_from next n at ≡ []
unfolding places_from
places-none next n at e = rw e refl

pub joined-none : (next : List ℕ) (front back : Span) → HasTail next back → front.len ≡ 0 → IsJoined next next front back back
joined-none next front back bt e = record {
  size = refl;
  len = omega arith;
  joined = rw (places-none next front.len front.head e) refl;
  tail = bt;
  others = λ i z. refl;
}

pub joined-front : (next : List ℕ) (front back : Span) → HasTail next front → back.len ≡ 0 → IsJoined next next front back front
joined-front next front back ft e = record {
  size = refl;
  len = omega arith;
  joined = rw (places-none next back.len back.head e, append-nil) refl;
  tail = ft;
  others = λ i z. refl;
}

-- the places of a span that is not empty stand below the store's size
pub tail-below : (next : List ℕ) (s : Span) (m : ℕ) → HasTail next s → ((i : ℕ) → occurs i (places next s) + m ≤ one_below (length next) i) → 0 < s.len → s.tail < length next
tail-below next s m st apart n =
    let t = st n in
    let o = occurs-last next s.tail s.len s.head n in
    let a = apart s.tail in
    grind (arith, nat_tests)

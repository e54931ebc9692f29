-- The links that name each place, one after another, and the lists that they make.
use Rattle.std.proofs.Common.{◌≡◌, ℕ, ◌+◌, ◌-◌, ◌*◌, ◌/◌, ◌%◌, ◌<◌, ◌≤◌, inl, inr, List, [], ◌∷◌, ◌++◌, length, take, drop, length-drop, arith, sym, ◌∙◌, ap, subst, refl, Bool, true, false, not, ◌&&◌, length-append}
use Rattle.std.specs.List.{All}
use Rattle.std.specs.Prelude.{if◌then◌else◌, nat_eq, slice_index_or, slice_set, replicate}
use Rattle.std.proofs.lemmas.Bool.Decides.{nat_tests}
use Rattle.std.proofs.lemmas.Bool.{cases_eq, cases_lt, both_ways}
use Rattle.std.proofs.lemmas.List.{get_or_append_left, get_or-replicate, get_or-set_same, get_or-set_other, get_or-take, get_or-drop, length-replicate, length-set, length-take-le}
use Rattle.std.proofs.lemmas.List.Folds.{list_any_at}
use Rattle.std.proofs.lemmas.List.Elements.{All-get_or, All-from_get_or}
use Rattle.std.proofs.Math.Seq.{get_or-append_seam}
use Rattle.cycle_rules.specs.declared.links.Links.{Links}
use Rattle.engine_steps.specs.Readers.{back_at, names_place, IsLatest, AreChained, IsAppended, AreLists, AreReaders, IsDistance, readers_at}
use Rattle.cycle_rules.specs.Links.{IsWithin, no_links}

-- Chains

latest_none : (links : List Links) (q : ℕ) → IsLatest links q 0 0
latest_none links q = record {
  within = omega arith;
  names = λ ne. absurd (ne refl);
  none = λ id low lt. absurd (omega (arith, lt));
}

pub chained_none : (links : List Links) (places : ℕ) → length links ≡ places → AreChained links 0 (replicate places 0) []
chained_none links places size = record {
  places = length-replicate places 0 ∙ sym size;
  size = refl;
  greatest = λ q lt. subst (IsLatest links q 0) (sym (get_or-replicate places q 0 0 (omega (arith, lt, size)))) (latest_none links q);
  next = λ id q lt. absurd (omega (arith, lt));
}

-- a link that names no place q leaves what was kept of it
latest_stays : (links : List Links) (q n x : ℕ) → names_place links q n ≡ false → IsLatest links q n x → IsLatest links q (n + 1) x
latest_stays links q n x other h = record {
  within = omega (arith, h.within);
  names = h.names;
  none = λ id low lt. elim (cases_eq id n) [
    | inl here ↦ subst (λ i. names_place links q i ≡ false) (sym here) other
    | inr ne ↦ h.none id low (omega (arith, lt, ne))
  ];
}

latest_here : (links : List Links) (q n : ℕ) → names_place links q n ≡ true → IsLatest links q (n + 1) (n + 1)
latest_here links q n here = record {
  within = omega arith;
  names = λ _. (let same : n ≡ n + 1 - 1 = omega arith in subst (λ i. names_place links q i ≡ true) same here);
  none = λ id low lt. absurd (omega (arith, low, lt));
}

-- what is kept of the links before one more
next_more : (links : List Links) (n x q0 : ℕ) (earlier : List ℕ) → length earlier ≡ n
    → ((id q : ℕ) → id < n → names_place links q id ≡ true → IsLatest links q id (slice_index_or earlier id 0))
    → ((q : ℕ) → names_place links q n ≡ true → IsLatest links q n x)
    → (id q : ℕ) → id < n + 1 → names_place links q id ≡ true → IsLatest links q id (slice_index_or (earlier ++ x ∷ []) id 0)
next_more links n x q0 earlier size before last = λ id q lt is. elim (cases_eq id n) [
  | inl here ↦ (
      let at : slice_index_or (earlier ++ x ∷ []) id 0 ≡ x = ap (λ i. slice_index_or (earlier ++ x ∷ []) i 0) (here ∙ sym size) ∙ get_or-append_seam earlier x [] 0 in
      subst (IsLatest links q id) (sym at) (subst (λ i. IsLatest links q i x) (sym here) (last q (subst (λ i. names_place links q i ≡ true) here is))))
  | inr ne ↦ (
      let low : id < n = omega (arith, lt, ne) in
      subst (IsLatest links q id) (sym (get_or_append_left earlier (x ∷ []) 0 id (omega (arith, low, size)))) (before id q low is))
]

-- a link that names no place
names_none : (links : List Links) (q id : ℕ) → back_at links id ≡ 0 → names_place links q id ≡ false
unfolding names_place
names_none links q id none =
    let a : nat_eq (back_at links id) 0 ≡ true = grind (arith, nat_tests, none) in rw a refl

pub chained_past : (links : List Links) (n : ℕ) (last earlier : List ℕ) → back_at links n ≡ 0 → AreChained links n last earlier → AreChained links (n + 1) last (earlier ++ 0 ∷ [])
chained_past links n last earlier none h = record {
  places = h.places;
  size = length-append earlier (0 ∷ []) ∙ ap (λ k. k + 1) h.size;
  greatest = λ q lt. latest_stays links q n (slice_index_or last q 0) (names_none links q n none) (h.greatest q lt);
  next = next_more links n 0 0 earlier h.size h.next (λ q is. absurd (both_ways _ (names_none links q n none) is));
}

-- a link that names one
pub names_one : (links : List Links) (q id : ℕ) → (back_at links id ≡ 0 → ⊥) → (id / 2 + length links - back_at links id) % length links ≡ q → names_place links q id ≡ true
unfolding names_place
names_one links q id some is =
    let a : nat_eq (back_at links id) 0 ≡ false = grind (arith, nat_tests, some) in
    let b : nat_eq ((id / 2 + length links - back_at links id) % length links) q ≡ true = grind (arith, nat_tests, is) in rw (a, b) refl

named : (links : List Links) (q id : ℕ) → names_place links q id ≡ true → (id / 2 + length links - back_at links id) % length links ≡ q
unfolding names_place
named links q id is = elim (cases_eq ((id / 2 + length links - back_at links id) % length links) q) [
  | inl same ↦ same
  | inr ne ↦ (let b : nat_eq ((id / 2 + length links - back_at links id) % length links) q ≡ false = grind (arith, nat_tests, ne) in absurd (both_ways _ (rw b (and_none (not (nat_eq (back_at links id) 0)))) is))
]
  where
    and_none : (b : Bool) → (b && false) ≡ false
    and_none true = refl
    and_none false = refl

names_other : (links : List Links) (q r id : ℕ) → names_place links q id ≡ true → (r ≡ q → ⊥) → names_place links r id ≡ false
names_other links q r id is ne = go (names_place links r id) refl
  where
    go : (b : Bool) → names_place links r id ≡ b → names_place links r id ≡ false
    go true e = absurd (ne (sym (named links r id e) ∙ named links q id is))
    go false e = e

pub chained_more : (links : List Links) (n q0 : ℕ) (last earlier : List ℕ) → q0 < length links → (back_at links n ≡ 0 → ⊥) → (n / 2 + length links - back_at links n) % length links ≡ q0
    → AreChained links n last earlier → AreChained links (n + 1) (slice_set last q0 (n + 1)) (earlier ++ slice_index_or last q0 0 ∷ [])
chained_more links n q0 last earlier within some at h =
    let here : names_place links q0 n ≡ true = names_one links q0 n some at in
    record {
      places = length-set last q0 (n + 1) ∙ h.places;
      size = length-append earlier (slice_index_or last q0 0 ∷ []) ∙ ap (λ k. k + 1) h.size;
      greatest = λ q lt. elim (cases_eq q q0) [
        | inl same ↦ (let got : slice_index_or (slice_set last q0 (n + 1)) q0 0 ≡ n + 1 = get_or-set_same last q0 (n + 1) 0 (omega (arith, within, h.places)) in
            subst (λ r. IsLatest links r (n + 1) (slice_index_or (slice_set last q0 (n + 1)) r 0)) (sym same) (subst (IsLatest links q0 (n + 1)) (sym got) (latest_here links q0 n here)))
        | inr ne ↦ subst (IsLatest links q (n + 1)) (sym (get_or-set_other last q0 q (n + 1) 0 ne)) (latest_stays links q n (slice_index_or last q 0) (names_other links q0 q n here ne) (h.greatest q lt))
      ];
      next = next_more links n (slice_index_or last q0 0) q0 earlier h.size h.next (λ q is.
          let same : q0 ≡ q = sym at ∙ named links q n is in subst (λ r. IsLatest links r n (slice_index_or last q0 0)) same (h.greatest q0 within));
    }

-- Lists

-- before the walk
pub appended_none : (links : List Links) (q x : ℕ) (later : List ℕ) → IsLatest links q (2 * length links) x → IsAppended links q x later later
appended_none links q x later h = record {
  longer = omega arith;
  same = λ i lt. refl;
  far = λ i low lt. absurd (omega (arith, low, lt));
  each = λ id low lt is. absurd (both_ways _ (h.none id low lt) is);
}

back_some : (links : List Links) (q id : ℕ) → names_place links q id ≡ true → 1 ≤ back_at links id
back_some links q id is = elim (cases_eq (back_at links id) 0) [
  | inl none ↦ absurd (both_ways _ (names_none links q id none) is)
  | inr some ↦ omega (arith, some)
]

back_near : (links : List Links) (id : ℕ) → id < 2 * length links → All (IsWithin (length links)) links → back_at links id ≤ length links
back_near links id lt near = one (nat_eq (id % 2) 0) (slice_index_or links (id / 2) no_links) (All-get_or (IsWithin (length links)) links (id / 2) no_links (omega (arith, lt)) near)
  where
    one : (first : Bool) (l : Links) → IsWithin (length links) l → (if first then l.first.back else l.second.back) ≤ length links
    one true l h = h.first
    one false l h = h.second

-- one link more
pub appended_more : (links : List Links) (q id x : ℕ) (old new : List ℕ) → All (IsWithin (length links)) links → id < 2 * length links → names_place links q id ≡ true → IsLatest links q id x → IsAppended links q (id + 1) old new
    → IsAppended links q x old (new ++ back_at links id ∷ [])
appended_more links q id x old new near inside is next h =
    let size : length (new ++ back_at links id ∷ []) ≡ length new + 1 = length-append new (back_at links id ∷ []) in
    let seam : slice_index_or (new ++ back_at links id ∷ []) (length new) 0 ≡ back_at links id = get_or-append_seam new (back_at links id) [] 0 in
    record {
      longer = omega (arith, size, h.longer);
      same = λ i lt. get_or_append_left new (back_at links id ∷ []) 0 i (omega (arith, lt, h.longer)) ∙ h.same i lt;
      far = λ i low lt. elim (cases_eq i (length new)) [
        | inl here ↦ (let one : IsDistance (length links) (back_at links id) = record { low = back_some links q id is; high = back_near links id inside near } in
            subst (λ k. IsDistance (length links) (slice_index_or (new ++ back_at links id ∷ []) k 0)) (sym here) (subst (IsDistance (length links)) (sym seam) one))
        | inr ne ↦ (let before : i < length new = omega (arith, lt, size, ne) in
            subst (IsDistance (length links)) (sym (get_or_append_left new (back_at links id ∷ []) 0 i before)) (h.far i low before))
      ];
      each = λ k low lt names. elim (cases_eq k id) [
        | inl here ↦ (length new, h.longer, omega (arith, size), seam ∙ ap (back_at links) (sym here))
        | inr ne ↦ elim (cases_lt k id) [
          | inl before ↦ absurd (both_ways _ (next.none k low before) names)
          | inr after ↦ (
              let there : (i : ℕ) × (length old ≤ i) × (i < length new) × (slice_index_or new i 0 ≡ back_at links k) = h.each k (omega (arith, ne, after)) lt names in
              (there.0, there.1, omega (arith, size, there.2), get_or_append_left new (back_at links id ∷ []) 0 there.0 there.2 ∙ there.3))
        ]
      ];
    }

pub lists_none : (links : List Links) → AreLists links 0 (0 ∷ []) []
lists_none links = record {
  spans = record { count = refl; end = refl; rising = λ q lt. absurd (omega (arith, lt)); within = λ q le. first q (omega (arith, le)) };
  far = λ i lt. absurd (omega (arith, lt));
  each = λ q lt. absurd (omega (arith, lt));
}
  where
    first : (q : ℕ) → q ≡ 0 → slice_index_or (0 ∷ []) q 0 ≤ 0
    first q e = subst (λ k. slice_index_or (0 ∷ []) k 0 ≤ 0) (sym e) (omega arith)

pub lists_more : (links : List Links) (n : ℕ) (starts later more : List ℕ) → IsAppended links n 0 later more → AreLists links n starts later → AreLists links (n + 1) (starts ++ length more ∷ []) more
lists_more links n starts later more h r =
    let count : length starts ≡ n + 1 = r.spans.count in
    let old : (q : ℕ) → q ≤ n → slice_index_or (starts ++ length more ∷ []) q 0 ≡ slice_index_or starts q 0 = λ q le. get_or_append_left starts (length more ∷ []) 0 q (omega (arith, le, count)) in
    let new : slice_index_or (starts ++ length more ∷ []) (n + 1) 0 ≡ length more = ap (λ k. slice_index_or (starts ++ length more ∷ []) k 0) (sym count) ∙ get_or-append_seam starts (length more) [] 0 in
    record {
      spans = record {
        count = length-append starts (length more ∷ []) ∙ ap (λ k. k + 1) count;
        end = new;
        rising = λ q lt. elim (cases_eq q n) [
          | inl here ↦ subst (λ k. slice_index_or (starts ++ length more ∷ []) k 0 ≤ slice_index_or (starts ++ length more ∷ []) (k + 1) 0) (sym here)
              (omega (arith, old n (omega arith), new, r.spans.end, h.longer))
          | inr ne ↦ omega (arith, old q (omega (arith, lt, ne)), old (q + 1) (omega (arith, lt, ne)), r.spans.rising q (omega (arith, lt, ne)))
        ];
        within = λ q le. elim (cases_eq q (n + 1)) [
          | inl here ↦ subst (λ k. slice_index_or (starts ++ length more ∷ []) k 0 ≤ length more) (sym here) (omega (arith, new))
          | inr ne ↦ omega (arith, old q (omega (arith, le, ne)), r.spans.within q (omega (arith, le, ne)), h.longer)
        ];
      };
      far = λ i lt. elim (cases_lt i (length later)) [
        | inl before ↦ subst (IsDistance (length links)) (sym (h.same i before)) (r.far i before)
        | inr after ↦ h.far i after lt
      ];
      each = λ q lt id low within is. elim (cases_eq q n) [
        | inl here ↦ (
            let there : (i : ℕ) × (length later ≤ i) × (i < length more) × (slice_index_or more i 0 ≡ back_at links id) = h.each id low within (subst (λ k. names_place links k id ≡ true) here is) in
            let start : slice_index_or (starts ++ length more ∷ []) q 0 ≡ length later = ap (λ k. slice_index_or (starts ++ length more ∷ []) k 0) here ∙ old n (omega arith) ∙ r.spans.end in
            let end : slice_index_or (starts ++ length more ∷ []) (q + 1) 0 ≡ length more = ap (λ k. slice_index_or (starts ++ length more ∷ []) (k + 1) 0) here ∙ new in
            (there.0, omega (arith, start, there.1), omega (arith, end, there.2), there.3))
        | inr ne ↦ (
            let below : q < n = omega (arith, lt, ne) in
            let there : (i : ℕ) × (slice_index_or starts q 0 ≤ i) × (i < slice_index_or starts (q + 1) 0) × (slice_index_or later i 0 ≡ back_at links id) = r.each q below id low within is in
            let size : there.0 < length later = omega (arith, there.2, r.spans.within (q + 1) (omega (arith, below))) in
            (there.0, omega (arith, old q (omega (arith, below)), there.1), omega (arith, old (q + 1) (omega (arith, below)), there.2), h.same there.0 size ∙ there.3))
      ];
    }

-- The list of a place

between : (xs : List ℕ) (s e i : ℕ) → s ≤ i → i < e → e ≤ length xs → slice_index_or (take (e - s) (drop s xs)) (i - s) 0 ≡ slice_index_or xs i 0
between xs s e i low high within =
    let same : s + (i - s) ≡ i = omega (arith, low) in
    get_or-take (e - s) (drop s xs) (i - s) 0 (omega (arith, low, high)) ∙ get_or-drop s xs (i - s) 0 ∙ ap (λ k. slice_index_or xs k 0) same

size_between : (xs : List ℕ) (s e : ℕ) → e ≤ length xs → length (take (e - s) (drop s xs)) ≡ e - s
size_between xs s e within = length-take-le (e - s) (drop s xs) (omega (arith, within, length-drop s xs))

pub readers_of : (links : List Links) (n : ℕ) (starts later : List ℕ) → AreLists links n starts later → AreReaders links n starts later
readers_of links n starts later h = record {
  count = h.spans.count;
  far = λ q lt.
      let s : ℕ = slice_index_or starts q 0 in
      let e : ℕ = slice_index_or starts (q + 1) 0 in
      let end : e ≤ length later = h.spans.within (q + 1) (omega (arith, lt)) in
      All-from_get_or (IsDistance (length links)) (readers_at starts later q) 0 (λ i inside.
      let high : i + s < e = omega (arith, inside, size_between later s e end) in
      let same : i + s - s ≡ i = omega arith in
      let value : slice_index_or (readers_at starts later q) i 0 ≡ slice_index_or later (i + s) 0 = ap (λ k. slice_index_or (readers_at starts later q) k 0) (sym same) ∙ between later s e (i + s) (omega arith) high end in
      subst (IsDistance (length links)) (sym value) (h.far (i + s) (omega (arith, high, end))));
  each = λ q id lt within names.
      let s : ℕ = slice_index_or starts q 0 in
      let e : ℕ = slice_index_or starts (q + 1) 0 in
      let end : e ≤ length later = h.spans.within (q + 1) (omega (arith, lt)) in
      let there : (i : ℕ) × (s ≤ i) × (i < e) × (slice_index_or later i 0 ≡ back_at links id) = h.each q lt id (omega arith) within names in
      let value : slice_index_or (readers_at starts later q) (there.0 - s) 0 ≡ back_at links id = between later s e there.0 there.1 there.2 end ∙ there.3 in
      list_any_at (nat_eq (back_at links id)) (readers_at starts later q) (there.0 - s) 0 (omega (arith, size_between later s e end, there.1, there.2)) (rw value (grind (arith, nat_tests)));
}

-- The places whose times come first, as rows begin to wait and wait no more.
use Rattle.std.proofs.Common.{◌≡◌, ℕ, ◌+◌, ◌-◌, ◌*◌, ◌/◌, ◌%◌, ◌<◌, ◌≤◌, Bool, true, false, ◌||◌, inl, inr, refl, sym, ◌∙◌, ap, subst, nat_eq, arith, Option, Some, None, MatchOption, IfSome, is_some, if◌then◌else◌}
use Rattle.std.specs.Option.{unwrap_or}
use Rattle.std.proofs.lemmas.Bool.{cases_lt, cases_eq, cases_Bool, both_ways, cond_above, cond_below, or_parts, eq-eqb, ne_eqb}
use Rattle.unit_sets.specs.Members.{in_word, in_word-bounded}
use Rattle.row_sets.specs.Kept.{AreSoonest, IsIndex, IsSoonest, NoneWaitsIn}
use Rattle.row_sets.proofs.Words.{in_word-zero}
use Rattle.row_sets.proofs.Firsts.{FirstBelow, Sooner}

-- a word of rows
pub is_low : (some w : ℕ) → in_word some w ≡ true → w < 64
is_low some w h = elim (cases_lt w 64) [ inl lt ↦ lt | inr ge ↦ absurd (both_ways (in_word some w) (in_word-bounded some w ge) h) ]

-- what holds of all rows that wait, by whether there are any
pub of_all : (waits : ℕ → Bool) (time : ℕ → ℕ) (some : ℕ) (soonest : ℕ → ℕ) (first : Option ℕ) → IsIndex waits time some soonest first → MatchOption first (NoneWaitsIn waits 0 4096) (IsSoonest waits time 0 4096)
of_all waits time some soonest None h = h.none refl
of_all waits time some soonest (Some p) h = h.all p refl

pub first_low : (waits : ℕ → Bool) (time : ℕ → ℕ) (some : ℕ) (soonest : ℕ → ℕ) (first : Option ℕ) (size : ℕ) → size ≡ 4096 → IsIndex waits time some soonest first → IfSome first (λ p. p < size)
first_low waits time some soonest None size e h = tt
first_low waits time some soonest (Some p) size e h = omega (arith, (h.all p refl).within)

pub index_start : (waits : ℕ → Bool) (time : ℕ → ℕ) (soonest : ℕ → ℕ) → ((q : ℕ) → waits q ≡ false) → IsIndex waits time 0 soonest None
index_start waits time soonest none = record {
  words = record { none = λ q low out. none q; each = λ w is_in. absurd (both_ways (in_word 0 w) (in_word-zero w) is_in) };
  none = λ e q lo hi. none q;
  all = λ p e. absurd cc;
}

-- the places of a range stay as they are
pub soonest_stays : (waits waits' : ℕ → Bool) (time time' : ℕ → ℕ) (low high p : ℕ) → ((q : ℕ) → low ≤ q → q < high → waits' q ≡ waits q) → ((q : ℕ) → low ≤ q → q < high → time' q ≡ time q) →
    IsSoonest waits time low high p → IsSoonest waits' time' low high p
soonest_stays waits waits' time time' low high p same times h = record {
  from = h.from;
  within = h.within;
  member = same p h.from h.within ∙ h.member;
  least = λ q lo hi is_in. omega (arith, h.least q lo hi (sym (same q lo hi) ∙ is_in), times p h.from h.within, times q lo hi);
}

-- a place begins to wait for a time
pub record IsPut (waits waits' : ℕ → Bool) (time time' : ℕ → ℕ) (place t : ℕ) : Type 0 where
  pub new : waits' place ≡ true
  pub at : time' place ≡ t
  pub before : waits place ≡ false
  pub others : (q : ℕ) → q < 4096 → (q ≡ place → ⊥) → waits' q ≡ waits q
  pub times : (q : ℕ) → (q ≡ place → ⊥) → time' q ≡ time q

-- it comes first
put_new : (waits waits' : ℕ → Bool) (time time' : ℕ → ℕ) (place t low high : ℕ) → IsPut waits waits' time time' place t → low ≤ place → place < high → high ≤ 4096 →
    ((q : ℕ) → low ≤ q → q < high → waits q ≡ true → t ≤ time q) → IsSoonest waits' time' low high place
put_new waits waits' time time' place t low high put lo hi top least = record {
  from = lo;
  within = hi;
  member = put.new;
  least = λ q from within is_in. elim (cases_eq q place) [
    | inl e ↦ (let same : time' q ≡ time' place = ap time' e in omega (arith, same))
    | inr ne ↦ omega (arith, put.at, put.times q ne, least q from within (sym (put.others q (omega arith) ne) ∙ is_in))
  ];
}

-- another comes first
put_old : (waits waits' : ℕ → Bool) (time time' : ℕ → ℕ) (place t low high p : ℕ) → IsPut waits waits' time time' place t → low ≤ place → place < high → high ≤ 4096 →
    IsSoonest waits time low high p → time p ≤ t → IsSoonest waits' time' low high p
put_old waits waits' time time' place t low high p put lo hi top h le =
    let other : p ≡ place → ⊥ = λ e. both_ways (waits place) put.before (sym (ap waits e) ∙ h.member) in
    record {
      from = h.from;
      within = h.within;
      member = put.others p (omega (arith, h.within)) other ∙ h.member;
      least = λ q from within is_in. elim (cases_eq q place) [
        | inl e ↦ (let same : time' q ≡ time' place = ap time' e in omega (arith, same, put.at, put.times p other))
        | inr ne ↦ omega (arith, put.times p other, put.times q ne, h.least q from within (sym (put.others q (omega arith) ne) ∙ is_in))
      ];
    }

pub soonest_put : (waits waits' : ℕ → Bool) (time time' : ℕ → ℕ) (place t low high p : ℕ) (best : Option ℕ) → IsPut waits waits' time time' place t → low ≤ place → place < high → high ≤ 4096 →
    MatchOption best (NoneWaitsIn waits low high) (IsSoonest waits time low high) → Sooner time place t best p → IsSoonest waits' time' low high p
soonest_put waits waits' time time' place t low high p None put lo hi top none e =
    subst (IsSoonest waits' time' low high) (sym e) (put_new waits waits' time time' place t low high put lo hi top (λ q from within is_in. absurd (both_ways (waits q) (none q from within) is_in)))
soonest_put waits waits' time time' place t low high p (Some old) put lo hi top h e = elim (cases_lt t (time old)) [
  | inl sooner ↦
      subst (IsSoonest waits' time' low high) (cond_below t (time old) place old sooner ∙ sym e)
      (put_new waits waits' time time' place t low high put lo hi top (λ q from within is_in. omega (arith, h.least q from within is_in)))
  | inr later ↦
      subst (IsSoonest waits' time' low high) (cond_above t (time old) place old old later refl ∙ sym e)
      (put_old waits waits' time time' place t low high old put lo hi top h later)
]

pub index_put : (waits waits' : ℕ → Bool) (time time' : ℕ → ℕ) (some some' : ℕ) (soonest soonest' : ℕ → ℕ) (first best : Option ℕ) (place word t p : ℕ) →
    IsPut waits waits' time time' place t → place < 4096 → word ≡ place / 64 → ((v : ℕ) → in_word some' v ≡ (nat_eq v word || in_word some v)) → ((w : ℕ) → (w ≡ word → ⊥) → soonest' w ≡ soonest w) →
    MatchOption best (NoneWaitsIn waits (64 * word) (64 * word + 64)) (IsSoonest waits time (64 * word) (64 * word + 64)) → Sooner time place t best (soonest' word) → Sooner time place t first p →
    IsIndex waits time some soonest first → IsIndex waits' time' some' soonest' (Some p)
index_put waits waits' time time' some some' soonest soonest' first best place word t p put low at more others best_is word_sooner sooner h = record {
  words = record {
    none = λ q q_low out.
        let parts : (nat_eq (q / 64) word ≡ false) × (in_word some (q / 64) ≡ false) = or_parts _ _ (sym (more (q / 64)) ∙ out) in
        let other : q ≡ place → ⊥ = λ e. both_ways (nat_eq (q / 64) word) parts.0 (eq-eqb (q / 64) word (ap (λ x. x / 64) e ∙ sym at)) in
        put.others q q_low other ∙ h.words.none q q_low parts.1;
    each = λ w is_in. elim (cases_eq w word) [
      | inl e ↦ subst (λ x. IsSoonest waits' time' (64 * x) (64 * x + 64) (soonest' x)) (sym e)
          (soonest_put waits waits' time time' place t (64 * word) (64 * word + 64) (soonest' word) best put (omega arith) (omega arith) (omega arith) best_is word_sooner)
      | inr ne ↦
          let was : in_word some w ≡ true = sym (more w ∙ ap (λ b. b || in_word some w) (ne_eqb w word ne)) ∙ is_in in
          let w_low : w < 64 = is_low some w was in
          let apart : (q : ℕ) → 64 * w ≤ q → q < 64 * w + 64 → q ≡ place → ⊥ = λ q from within e. ne (omega arith) in
          subst (IsSoonest waits' time' (64 * w) (64 * w + 64)) (sym (others w ne))
          (soonest_stays waits waits' time time' (64 * w) (64 * w + 64) (soonest w) (λ q from within. put.others q (omega arith) (apart q from within)) (λ q from within. put.times q (apart q from within)) (h.words.each w was))
    ];
  };
  none = λ e. cc;
  all = λ q e.
      let same : p ≡ q = cc in
      subst (IsSoonest waits' time' 0 4096) same (soonest_put waits waits' time time' place t 0 4096 p first put (omega arith) low (omega arith) (of_all waits time some soonest first h) sooner);
}

-- what is left of a word, by the one that comes first of it
none_left : (left : ℕ) (place time : ℕ → ℕ) (o : Option ℕ) → is_some o ≡ false → FirstBelow (in_word left) place time 64 o → (v : ℕ) → v < 64 → in_word left v ≡ false
none_left left place time None e none v lt = none v (omega arith) lt
none_left left place time (Some p) e f v lt = absurd cc

soonest_left : (waits' : ℕ → Bool) (time : ℕ → ℕ) (word left s : ℕ) (o : Option ℕ) → ((v : ℕ) → v < 64 → waits' (64 * word + v) ≡ in_word left v) → is_some o ≡ true →
    FirstBelow (in_word left) (λ v. 64 * word + v) time 64 o → IfSome o (λ p. s ≡ p) → IsSoonest waits' time (64 * word) (64 * word + 64) s
soonest_left waits' time word left s None left_is e none is = absurd cc
soonest_left waits' time word left s (Some p) left_is e f is = subst (IsSoonest waits' time (64 * word) (64 * word + 64)) (sym is) (record {
  from = omega (arith, f.is);
  within = omega (arith, f.is, f.within);
  member = ap waits' f.is ∙ left_is f.number f.within ∙ f.member;
  least = λ q lo hi is_in.
      let at_q : q ≡ 64 * word + (q - 64 * word) = omega arith in
      let times : time (64 * word + (q - 64 * word)) ≡ time q = ap time (sym at_q) in
      let inside : in_word left (q - 64 * word) ≡ true = sym (ap waits' at_q ∙ left_is (q - 64 * word) (omega arith)) ∙ is_in in
      omega (arith, times, f.least (q - 64 * word) (omega arith) inside);
})

-- a place waits no more: what is left in its word, of which the one whose time comes first is known
pub words_take : (waits waits' : ℕ → Bool) (time : ℕ → ℕ) (some some' : ℕ) (soonest soonest' : ℕ → ℕ) (next : Option ℕ) (place word left : ℕ) →
    place < 4096 → word ≡ place / 64 → ((q : ℕ) → q < 4096 → (q ≡ place → ⊥) → waits' q ≡ waits q) → ((v : ℕ) → v < 64 → waits' (64 * word + v) ≡ in_word left v) →
    FirstBelow (in_word left) (λ v. 64 * word + v) time 64 next → ((v : ℕ) → in_word some' v ≡ (if nat_eq v word then is_some next else in_word some v)) →
    IfSome next (λ p. soonest' word ≡ p) → ((w : ℕ) → (w ≡ word → ⊥) → soonest' w ≡ soonest w) →
    AreSoonest waits time some soonest → AreSoonest waits' time some' soonest'
words_take waits waits' time some some' soonest soonest' next place word left low at same left_is first some_is next_is others h = record {
  none = λ q q_low out. elim (cases_eq (q / 64) word) [
    | inl e ↦
        let none : is_some next ≡ false = sym (some_is (q / 64) ∙ ap (λ b. if b then is_some next else in_word some (q / 64)) (eq-eqb (q / 64) word e)) ∙ out in
        let at_q : q ≡ 64 * word + q % 64 = omega arith in
        ap waits' at_q ∙ left_is (q % 64) (omega arith) ∙ none_left left (λ v. 64 * word + v) time next none first (q % 64) (omega arith)
    | inr ne ↦
        let none : in_word some (q / 64) ≡ false = sym (some_is (q / 64) ∙ ap (λ b. if b then is_some next else in_word some (q / 64)) (ne_eqb (q / 64) word ne)) ∙ out in
        same q q_low (λ e. ne (ap (λ x. x / 64) e ∙ sym at)) ∙ h.none q q_low none
  ];
  each = λ w is_in. elim (cases_eq w word) [
    | inl e ↦
        let has : is_some next ≡ true = sym (some_is w ∙ ap (λ b. if b then is_some next else in_word some w) (eq-eqb w word e)) ∙ is_in in
        subst (λ x. IsSoonest waits' time (64 * x) (64 * x + 64) (soonest' x)) (sym e) (soonest_left waits' time word left (soonest' word) next left_is has first next_is)
    | inr ne ↦
        let was : in_word some w ≡ true = sym (some_is w ∙ ap (λ b. if b then is_some next else in_word some w) (ne_eqb w word ne)) ∙ is_in in
        let w_low : w < 64 = is_low some w was in
        subst (IsSoonest waits' time (64 * w) (64 * w + 64)) (sym (others w ne))
        (soonest_stays waits waits' time time (64 * w) (64 * w + 64) (soonest w) (λ q from within. same q (omega arith) (λ e. ne (omega arith))) (λ q from within. refl) (h.each w was))
  ];
}

pub or_place : (o : Option ℕ) (place s : ℕ) → s ≡ unwrap_or o place → IfSome o (λ p. s ≡ p)
or_place None place s e = tt
or_place (Some p) place s e = e

-- the one of all, of those of the words
pub index_from_words : (waits : ℕ → Bool) (time : ℕ → ℕ) (some : ℕ) (soonest : ℕ → ℕ) (first : Option ℕ) → AreSoonest waits time some soonest → FirstBelow (in_word some) soonest time 64 first → IsIndex waits time some soonest first
index_from_words waits time some soonest None h none = record {
  words = h;
  none = λ e q lo hi. h.none q hi (none (q / 64) (omega arith) (omega arith));
  all = λ p e. absurd cc;
}
index_from_words waits time some soonest (Some p) h f =
    let own : IsSoonest waits time (64 * f.number) (64 * f.number + 64) (soonest f.number) = h.each f.number f.member in
    record {
      words = h;
      none = λ e. absurd cc;
      all = λ p' e.
          let same : p ≡ p' = cc in
          subst (IsSoonest waits time 0 4096) same (record {
            from = omega arith;
            within = omega (arith, f.is, f.within, own.within);
            member = ap waits f.is ∙ own.member;
            least = λ q lo hi is_in. elim (cases_Bool (in_word some (q / 64))) [
              | inl has ↦ omega (arith, f.least (q / 64) (omega arith) has, (h.each (q / 64) has).least q (omega arith) (omega arith) is_in)
              | inr out ↦ absurd (both_ways (waits q) (h.none q hi out) is_in)
            ];
          });
    }

-- the place of a word's first row is a place
pub soonest_low : (waits : ℕ → Bool) (time : ℕ → ℕ) (some : ℕ) (soonest : ℕ → ℕ) (size : ℕ) → size ≡ 4096 → AreSoonest waits time some soonest → (v : ℕ) → in_word some v ≡ true → soonest v < size
soonest_low waits time some soonest size e h v is_in = omega (arith, is_low some v is_in, (h.each v is_in).within)

-- The sets of the classes, as their words change, and several of them as one word.
use Rattle.std.proofs.Common.{◌≡◌, ℕ, ◌+◌, ◌*◌, ◌%◌, ◌<◌, ◌≤◌, Bool, true, false, not, ◌||◌, if◌then◌else◌, ◌&&◌, inl, inr, refl, sym, ◌∙◌, ap, nat_eq, arith, List, length, slice_index, slice_set, replicate, get_or, get_or-set_same, get_or-set_other}
use Rattle.std.proofs.lemmas.Bool.{cases_lt, cases_eq, both_ways, eq-eqb, ne_eqb, and_left, and_right, or_from, or_parts, or_cases, eqb-true, not-false, cases_Bool, and_from, and_parts}
use Rattle.std.proofs.lemmas.List.{get_or-replicate, get_or_read}
use Rattle.unit_sets.specs.Members.{in_word, in_word-bounded, IsNext, NoneFrom}
use Rattle.row_sets.specs.Kept.{is_in, IsMerged}
use Rattle.row_sets.specs.Rows.{same_place, word_of}
use Rattle.row_sets.proofs.Places.{same_place-parts}
use Rattle.row_sets.proofs.Words.{in_word-zero}

-- the place of a class's word tells the class and the word apart
word_apart : (a b r class : ℕ) → r < 64 → class < 64 → a * 64 + r ≡ b * 64 + class → (a ≡ b) × (r ≡ class)
word_apart a b r class r_low class_low e = (omega arith, omega arith)

pub none_in : (words : List ℕ) (class k : ℕ) → words ≡ replicate 4096 0 → class < 64 → is_in words class k ≡ false
unfolding is_in
none_in words class k e low =
    let zero_word : slice_index words (word_of k * 64 + class) ≡ 0 =
    ap (λ xs. slice_index xs (word_of k * 64 + class)) e ∙ get_or-replicate 4096 (word_of k * 64 + class) 0 0 (omega arith) in
    ap (λ w. in_word w (k % 64)) zero_word ∙ in_word-zero (k % 64)

-- a change of one bit of the word that was read
pub word_read : (f : Bool → Bool → Bool) (words : List ℕ) (at old word bit : ℕ) → at < length words → old ≡ get_or words at old →
    ((v : ℕ) → in_word word v ≡ f (nat_eq v bit) (in_word old v)) → (v : ℕ) → in_word word v ≡ f (nat_eq v bit) (in_word (slice_index words at) v)
word_read f words at old word bit within e h v = h v ∙ ap (λ w. f (nat_eq v bit) (in_word w v)) (get_or_read words _ _ within e 0)

-- a change of one bit of the word of row k and a class
pub is_in-change : (f : Bool → Bool → Bool) → ((b : Bool) → f false b ≡ b) → (words : List ℕ) (word class k r j : ℕ) → length words ≡ 4096 → class < 64 → r < 64 →
    ((v : ℕ) → in_word word v ≡ f (nat_eq v (k % 64)) (in_word (slice_index words (word_of k * 64 + class)) v)) →
    is_in (slice_set words (word_of k * 64 + class) word) r j ≡ f (nat_eq r class && same_place j k) (is_in words r j)
unfolding is_in
is_in-change f stays words word class k r j size class_low r_low h =
    let at : ℕ = word_of k * 64 + class in
    elim (cases_eq (word_of j * 64 + r) at) [
      | inl e ↦
          let parts : (word_of j ≡ word_of k) × (r ≡ class) = word_apart (word_of j) (word_of k) r class r_low class_low e in
          let new : slice_index (slice_set words at word) (word_of j * 64 + r) ≡ word =
          ap (slice_index (slice_set words at word)) e ∙ get_or-set_same words at word 0 (omega arith) in
          let here : (nat_eq r class && same_place j k) ≡ nat_eq (j % 64) (k % 64) =
          ap (λ b. b && same_place j k) (eq-eqb r class parts.1) ∙ same_place-parts j k ∙ ap (λ b. b && nat_eq (j % 64) (k % 64)) (eq-eqb (word_of j) (word_of k) parts.0) in
          ap (λ w. in_word w (j % 64)) new ∙ h (j % 64) ∙ ap (λ b. f b (in_word (slice_index words at) (j % 64))) (sym here)
          ∙ ap (λ n. f (nat_eq r class && same_place j k) (in_word (slice_index words n) (j % 64))) (sym e)
      | inr ne ↦
          let elsewhere : (nat_eq r class && same_place j k) ≡ false = elim (cases_eq r class) [
            | inl same ↦
                let word_ne : word_of j ≡ word_of k → ⊥ = λ we. ne (omega arith) in
                and_right (nat_eq r class) _ (same_place-parts j k ∙ and_left _ _ (ne_eqb (word_of j) (word_of k) word_ne))
            | inr other ↦ and_left _ _ (ne_eqb r class other)
          ] in
          ap (λ w. in_word w (j % 64)) (get_or-set_other words at (word_of j * 64 + r) word 0 ne) ∙ sym (stays (is_in words r j)) ∙ ap (λ b. f b (is_in words r j)) (sym elsewhere)
    ]

-- rows of other words keep their places
other_word : (j k : ℕ) → (word_of j ≡ word_of k → ⊥) → same_place j k ≡ false
other_word j k ne = same_place-parts j k ∙ and_left _ _ (ne_eqb (word_of j) (word_of k) ne)

-- where a row of one class is put in, a class that is not known to have rows in a word has none there
pub empty_put : (words classes : List ℕ) (known word class k : ℕ) → length words ≡ 4096 → length classes ≡ 64 → class < 64 →
    ((v : ℕ) → in_word word v ≡ (nat_eq v (k % 64) || in_word (slice_index words (word_of k * 64 + class)) v)) →
    ((v : ℕ) → in_word known v ≡ (nat_eq v class || in_word (slice_index classes (word_of k)) v)) →
    ((r j : ℕ) → r < 64 → in_word (slice_index classes (word_of j)) r ≡ false → is_in words r j ≡ false) →
    (r j : ℕ) → r < 64 → in_word (slice_index (slice_set classes (word_of k) known) (word_of j)) r ≡ false → is_in (slice_set words (word_of k * 64 + class) word) r j ≡ false
empty_put words classes known word class k size classes_size low h more empty r j r_low none =
    let change : is_in (slice_set words (word_of k * 64 + class) word) r j ≡ ((nat_eq r class && same_place j k) || is_in words r j) =
    is_in-change (λ a b. a || b) (λ b. refl) words word class k r j size low r_low h in
    elim (cases_eq (word_of j) (word_of k)) [
      | inl e ↦
          let new : slice_index (slice_set classes (word_of k) known) (word_of j) ≡ known =
          ap (slice_index (slice_set classes (word_of k) known)) e ∙ get_or-set_same classes (word_of k) known 0 (omega arith) in
          let parts : (nat_eq r class ≡ false) × (in_word (slice_index classes (word_of k)) r ≡ false) = or_parts _ _ (sym (ap (λ w. in_word w r) new ∙ more r) ∙ none) in
          change ∙ ap (λ b. (b && same_place j k) || is_in words r j) parts.0 ∙ empty r j r_low (ap (λ w. in_word (slice_index classes w) r) e ∙ parts.1)
      | inr ne ↦
          let old : in_word (slice_index classes (word_of j)) r ≡ false = ap (λ w. in_word w r) (sym (get_or-set_other classes (word_of k) (word_of j) known 0 ne)) ∙ none in
          change ∙ or_from _ _ (and_right (nat_eq r class) _ (other_word j k ne)) (empty r j r_low old)
    ]

-- where a row of one class is taken out
pub empty_removed : (words classes : List ℕ) (known word class k : ℕ) → length words ≡ 4096 → length classes ≡ 64 → class < 64 →
    ((v : ℕ) → in_word word v ≡ (not (nat_eq v (k % 64)) && in_word (slice_index words (word_of k * 64 + class)) v)) →
    ((v : ℕ) → in_word known v ≡ (if nat_eq v class then not (nat_eq word 0) else in_word (slice_index classes (word_of k)) v)) →
    ((r j : ℕ) → r < 64 → in_word (slice_index classes (word_of j)) r ≡ false → is_in words r j ≡ false) →
    (r j : ℕ) → r < 64 → in_word (slice_index (slice_set classes (word_of k) known) (word_of j)) r ≡ false → is_in (slice_set words (word_of k * 64 + class) word) r j ≡ false
unfolding is_in
empty_removed words classes known word class k size classes_size low h more empty r j r_low none =
    let at : ℕ = word_of k * 64 + class in
    let kept : is_in words r j ≡ false → is_in (slice_set words at word) r j ≡ false =
    λ out. is_in-change (λ a b. not a && b) (λ b. refl) words word class k r j size low r_low h ∙ and_right _ _ out in
    elim (cases_eq (word_of j) (word_of k)) [
      | inl e ↦
          let new : slice_index (slice_set classes (word_of k) known) (word_of j) ≡ known =
          ap (slice_index (slice_set classes (word_of k) known)) e ∙ get_or-set_same classes (word_of k) known 0 (omega arith) in
          let out : (if nat_eq r class then not (nat_eq word 0) else in_word (slice_index classes (word_of k)) r) ≡ false = sym (ap (λ w. in_word w r) new ∙ more r) ∙ none in
          elim (cases_eq r class) [
            | inl same ↦
                let no_rows : not (nat_eq word 0) ≡ false = sym (ap (λ b. if b then not (nat_eq word 0) else in_word (slice_index classes (word_of k)) r) (eq-eqb r class same)) ∙ out in
                let zero_word : word ≡ 0 = eqb-true word 0 (not-false _ no_rows) in
                let there : word_of j * 64 + r ≡ at = omega arith in
                let bits : slice_index (slice_set words at word) (word_of j * 64 + r) ≡ 0 = ap (slice_index (slice_set words at word)) there ∙ get_or-set_same words at word 0 (omega arith) ∙ zero_word in
                ap (λ w. in_word w (j % 64)) bits ∙ in_word-zero (j % 64)
            | inr other ↦
                let old : in_word (slice_index classes (word_of k)) r ≡ false = sym (ap (λ b. if b then not (nat_eq word 0) else in_word (slice_index classes (word_of k)) r) (ne_eqb r class other)) ∙ out in
                kept (empty r j r_low (ap (λ w. in_word (slice_index classes w) r) e ∙ old))
          ]
      | inr ne ↦ kept (empty r j r_low (ap (λ w. in_word w r) (sym (get_or-set_other classes (word_of k) (word_of j) known 0 ne)) ∙ none))
    ]

-- several words as one
pub merged_start : (words : List ℕ) (base : ℕ) (live : ℕ → Bool) → IsMerged words base live 0 0
merged_start words base live = record {
  none = λ v class out low has. absurd (omega arith);
  some = λ v has. absurd (both_ways (in_word 0 v) (in_word-zero v) has);
}

pub merged_step : (words : List ℕ) (base : ℕ) (live : ℕ → Bool) (n all class all' : ℕ) → IsMerged words base live n all → IsNext 64 live n class →
    ((v : ℕ) → in_word all' v ≡ (in_word all v || in_word (slice_index words (base + class)) v)) → IsMerged words base live (class + 1) all'
merged_step words base live n all class all' h next e = record {
  none = λ v r out low has.
      let parts : (in_word all v ≡ false) × (in_word (slice_index words (base + class)) v ≡ false) = or_parts _ _ (sym (e v) ∙ out) in
      elim (cases_lt r n) [
        | inl before ↦ h.none v r parts.0 before has
        | inr from ↦ elim (cases_eq r class) [
          | inl same ↦ ap (λ c. in_word (slice_index words (base + c)) v) same ∙ parts.1
          | inr other ↦ absurd (both_ways (live r) (next.none r from (omega arith)) has)
        ]
      ];
  some = λ v has. elim (or_cases (in_word all v) (in_word (slice_index words (base + class)) v) (sym (e v) ∙ has)) [
    | inl old ↦ (let from = h.some v old in (from.0, omega (arith, from.1, next.from), from.2, from.3))
    | inr new ↦ (class, omega arith, next.member, new)
  ];
}

pub merged_end : (words : List ℕ) (base : ℕ) (live : ℕ → Bool) (n all : ℕ) → n ≤ 64 → IsMerged words base live n all → NoneFrom 64 live n → IsMerged words base live 64 all
merged_end words base live n all low h none = record {
  none = λ v r out r_low has. elim (cases_lt r n) [
    | inl before ↦ h.none v r out before has
    | inr from ↦ absurd (both_ways (live r) (none r from r_low) has)
  ];
  some = λ v has. (let from = h.some v has in (from.0, omega (arith, from.1), from.2, from.3));
}

-- the classes that are not known to have rows in a word have none there
no_rows_in : (words : List ℕ) (known : ℕ) (word class v : ℕ) → word < 64 → class < 64 → in_word known class ≡ false →
    ((r j : ℕ) → r < 64 → word_of j ≡ word → in_word known r ≡ false → is_in words r j ≡ false) → in_word (slice_index words (word * 64 + class)) v ≡ false
unfolding is_in
no_rows_in words known word class v word_low low out empty = elim (cases_lt v 64) [
  | inl lt ↦
      let word_is : word_of (64 * word + v) ≡ word = omega arith in
      let bit_is : (64 * word + v) % 64 ≡ v = omega arith in
      ap (λ b. in_word (slice_index words (word * 64 + class)) b) (sym bit_is) ∙ ap (λ w. in_word (slice_index words (w * 64 + class)) ((64 * word + v) % 64)) (sym word_is)
      ∙ empty class (64 * word + v) low word_is out
  | inr ge ↦ in_word-bounded (slice_index words (word * 64 + class)) v ge
]

-- of the classes that are not passed over, those that have rows in a word
pub merged_all : (words : List ℕ) (known passed live word all : ℕ) → word < 64 → ((class : ℕ) → in_word live class ≡ (in_word known class && not (in_word passed class))) →
    ((r j : ℕ) → r < 64 → word_of j ≡ word → in_word known r ≡ false → is_in words r j ≡ false) → IsMerged words (word * 64) (in_word live) 64 all →
    IsMerged words (word * 64) (λ class. not (in_word passed class)) 64 all
merged_all words known passed live word all low live_is empty h = record {
  none = λ v class out class_low kept. elim (cases_Bool (in_word known class)) [
    | inl has ↦ h.none v class out class_low (live_is class ∙ and_from _ _ has kept)
    | inr has_not ↦ no_rows_in words known word class v low class_low has_not empty
  ];
  some = λ v member. (let from = h.some v member in (from.0, from.1, (and_parts _ _ (sym (live_is from.0) ∙ from.2)).1, from.3));
}

-- a class of which no row was ever put in has none
pub unused_put : (class place old new : Bool) {was : Bool} → new ≡ ((class && place) || old) → (was ≡ false → old ≡ false) → (class || was) ≡ false → new ≡ false
unused_put true place old new is kept out = cc
unused_put false place old new is kept out = is ∙ kept out

pub no_class : (used passed : Bool) → (used && not passed) ≡ false → passed ≡ false → used ≡ false
no_class false passed e kept = refl
no_class true true e kept = cc
no_class true false e kept = e

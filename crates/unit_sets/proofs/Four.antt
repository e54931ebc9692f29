-- What the operations on four words do to the numbers that are in them.
use Rattle.std.proofs.Common.{◌≡◌, ◌≢◌, ℕ, ◌+◌, ◌-◌, ◌*◌, ◌/◌, ◌%◌, ◌<◌, ◌≤◌, zero, suc, Bool, false, ◌&&◌, inl, inr, sym, ◌∙◌, ap, nat_eq, arith, List, [], ◌∷◌, length, slice_index, slice_set, get_or-set_same, get_or-set_other}
use Rattle.std.proofs.lemmas.Bool.{cases_lt, cases_eq, ne_eqb, lt-ltb, eq-eqb}
use Rattle.unit_sets.specs.Below.{count_below}
use Rattle.unit_sets.specs.Members.{in_word, in_words, in_words-bounded, IsNext, NoneFrom}
use Rattle.unit_sets.proofs.Words.{in_word-zero}
use Rattle.unit_sets.proofs.Count.{count-add, count-same}

pub in_words-below : (ws : List ℕ) (v : ℕ) → v < 256 → in_words ws v ≡ in_word (slice_index ws (v / 64)) (v % 64)
unfolding in_words
in_words-below ws v h = ap (λ b. b && in_word (slice_index ws (v / 64)) (v % 64)) (lt-ltb v 256 h)

-- the numbers of one word
pub in_words-at : (ws : List ℕ) (k v : ℕ) → k < 4 → v < 64 → in_words ws (64 * k + v) ≡ in_word (slice_index ws k) v
in_words-at ws k v hk hv =
    let quotient : (64 * k + v) / 64 ≡ k = omega arith in
    let rest : (64 * k + v) % 64 ≡ v = omega arith in
    in_words-below ws (64 * k + v) (omega arith) ∙ ap (λ j. in_word (slice_index ws j) ((64 * k + v) % 64)) quotient ∙ ap (in_word (slice_index ws k)) rest

-- what a fact of each word says of all: f takes what each holds to what the result holds
pub in_words-both : (f : Bool → Bool → Bool) → f false false ≡ false → (ws xs ys : List ℕ)
    → ((k : ℕ) → k < 4 → (v : ℕ) → in_word (slice_index ws k) v ≡ f (in_word (slice_index xs k) v) (in_word (slice_index ys k) v))
    → (v : ℕ) → in_words ws v ≡ f (in_words xs v) (in_words ys v)
in_words-both f outside ws xs ys h v = elim (cases_lt v 256) [
  | inl lt ↦
      in_words-below ws v lt ∙ h (v / 64) (omega arith) (v % 64)
      ∙ sym (ap (λ b. f b (in_words ys v)) (in_words-below xs v lt) ∙ ap (f (in_word (slice_index xs (v / 64)) (v % 64))) (in_words-below ys v lt))
  | inr ge ↦ in_words-bounded ws v ge ∙ sym outside ∙ sym (ap (λ b. f b (in_words ys v)) (in_words-bounded xs v ge) ∙ ap (f false) (in_words-bounded ys v ge))
]

-- a word that is changed at one number changes the set at one number: f takes whether a number is that
-- one, and whether it was in, to whether it is in
pub in_words-change : (f : Bool → Bool → Bool) → ((b : Bool) → f false b ≡ b) → (ws : List ℕ) (w u : ℕ) → length ws ≡ 4 → u < 256
    → ((v : ℕ) → in_word w v ≡ f (nat_eq v (u % 64)) (in_word (slice_index ws (u / 64)) v))
    → (v : ℕ) → in_words (slice_set ws (u / 64) w) v ≡ f (nat_eq v u) (in_words ws v)
in_words-change f same ws w u len hu h v =
    let apart : v ≢ u → f (nat_eq v u) (in_words ws v) ≡ in_words ws v =
    λ ne. ap (λ b. f b (in_words ws v)) (ne_eqb v u ne) ∙ same (in_words ws v) in
    elim (cases_lt v 256) [
      | inl lt ↦ elim (cases_eq (v / 64) (u / 64)) [
        | inl e ↦
            let there : slice_index (slice_set ws (u / 64) w) (v / 64) ≡ w = ap (λ j. slice_index (slice_set ws (u / 64) w) j) e ∙ get_or-set_same ws (u / 64) w 0 (omega arith) in
            let before : in_words ws v ≡ in_word (slice_index ws (u / 64)) (v % 64) = in_words-below ws v lt ∙ ap (λ j. in_word (slice_index ws j) (v % 64)) e in
            let tests : nat_eq (v % 64) (u % 64) ≡ nat_eq v u =
            elim (cases_eq v u) [
              | inl is ↦ eq-eqb (v % 64) (u % 64) (ap (λ x. x % 64) is) ∙ sym (eq-eqb v u is)
              | inr ne ↦ ne_eqb (v % 64) (u % 64) (λ is. ne (omega arith)) ∙ sym (ne_eqb v u ne)
            ] in
            in_words-below (slice_set ws (u / 64) w) v lt ∙ ap (λ x. in_word x (v % 64)) there ∙ h (v % 64)
            ∙ ap (λ b. f b (in_word (slice_index ws (u / 64)) (v % 64))) tests ∙ ap (f (nat_eq v u)) (sym before)
        | inr ne ↦
            in_words-below (slice_set ws (u / 64) w) v lt ∙ ap (λ x. in_word x (v % 64)) (get_or-set_other ws (u / 64) (v / 64) w 0 ne)
            ∙ sym (in_words-below ws v lt) ∙ sym (apart (λ is. ne (ap (λ x. x / 64) is)))
      ]
      | inr ge ↦ in_words-bounded (slice_set ws (u / 64) w) v ge ∙ sym (in_words-bounded ws v ge) ∙ sym (apart (λ is. omega arith))
    ]

-- one word more
pub count-word : (ws : List ℕ) (k : ℕ) → k < 4 → count_below (64 * (k + 1)) (in_words ws) ≡ count_below (64 * k) (in_words ws) + count_below 64 (in_word (slice_index ws k))
count-word ws k h =
    let e : 64 * (k + 1) ≡ 64 * k + 64 = omega arith in
    ap (λ n. count_below n (in_words ws)) e ∙ count-add (64 * k) 64 (in_words ws)
    ∙ ap (λ n. count_below (64 * k) (in_words ws) + n) (count-same 64 (λ v. in_words ws (64 * k + v)) (in_word (slice_index ws k)) (λ v lt. in_words-at ws k v h lt))

-- none in a word from a place on, and none before that word from pos on
pub none-word : (ws : List ℕ) (k from pos : ℕ) → k < 4 → NoneFrom (64 * k + from) (in_words ws) pos → NoneFrom 64 (in_word (slice_index ws k)) from → NoneFrom (64 * (k + 1)) (in_words ws) pos
none-word ws k from pos h before none v lo hi = elim (cases_lt v (64 * k + from)) [
  | inl low ↦ before v lo low
  | inr high ↦
      let e : v ≡ 64 * k + (v - 64 * k) = omega arith in
      ap (in_words ws) e ∙ in_words-at ws k (v - 64 * k) h (omega arith) ∙ none (v - 64 * k) (omega arith) (omega arith)
]

-- the least in a word from a place on, and none before that word from pos on
pub next-word : (ws : List ℕ) (k from pos u : ℕ) → k < 4 → pos ≤ 64 * k + from → NoneFrom (64 * k + from) (in_words ws) pos → IsNext 64 (in_word (slice_index ws k)) from u → IsNext 256 (in_words ws) pos (64 * k + u)
next-word ws k from pos u h start before next = record {
  from = omega (arith, next.from);
  within = omega (arith, next.within);
  member = in_words-at ws k u h next.within ∙ next.member;
  none = λ v lo lt. elim (cases_lt v (64 * k + from)) [
    | inl low ↦ before v lo low
    | inr high ↦
        let e : v ≡ 64 * k + (v - 64 * k) = omega arith in
        ap (in_words ws) e ∙ in_words-at ws k (v - 64 * k) h (omega (arith, next.within)) ∙ next.none (v - 64 * k) (omega arith) (omega arith)
  ];
}

-- a fact of each of the four
pub each_of_four : (P : ℕ → Type 0) → P 0 → P 1 → P 2 → P 3 → (k : ℕ) → k < 4 → P k
each_of_four P a b c d zero h = a
each_of_four P a b c d (suc zero) h = b
each_of_four P a b c d (suc (suc zero)) h = c
each_of_four P a b c d (suc (suc (suc zero))) h = d
each_of_four P a b c d (suc (suc (suc (suc k)))) h = absurd (omega arith)

pub in_words-zero : (v : ℕ) → in_words (0 ∷ 0 ∷ 0 ∷ 0 ∷ []) v ≡ false
in_words-zero v = elim (cases_lt v 256) [
  | inl lt ↦
      in_words-below (0 ∷ 0 ∷ 0 ∷ 0 ∷ []) v lt
      ∙ each_of_four (λ k. in_word (slice_index (0 ∷ 0 ∷ 0 ∷ 0 ∷ []) k) (v % 64) ≡ false) (in_word-zero (v % 64)) (in_word-zero (v % 64)) (in_word-zero (v % 64)) (in_word-zero (v % 64)) (v / 64) (omega arith)
  | inr ge ↦ in_words-bounded (0 ∷ 0 ∷ 0 ∷ 0 ∷ []) v ge
]

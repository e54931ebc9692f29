-- The times of rows, by the words and times that are kept.
use Rattle.std.proofs.Common.{◌≡◌, ℕ, ◌+◌, ◌*◌, ◌%◌, ◌<◌, ◌≤◌, Bool, true, false, not, ◌||◌, ◌&&◌, inl, inr, refl, sym, ◌∙◌, ap, nat_eq, arith, List, length, slice_index, slice_set, replicate, get_or-set_same, get_or-set_other, Some, None, if◌then◌else◌}
use Rattle.std.proofs.lemmas.Bool.{cases_eq, cases_Bool, eq-eqb, eqb-true, ne_eqb, and_left}
use Rattle.std.proofs.lemmas.List.{get_or-replicate}
use Rattle.unit_sets.specs.Members.{in_word}
use Rattle.row_sets.specs.Kept.{is_waiting, time_in, IsSoonest, NoneWaitsIn}
use Rattle.row_sets.specs.Rows.{same_place, word_of, row_at}
use Rattle.row_sets.specs.Agenda.{time_of}
use Rattle.row_sets.specs.declared.agenda.Agenda.{Agenda}
use Rattle.row_sets.proofs.Places.{same_place-parts, place_bit, row_at-place, time_place}
use Rattle.row_sets.proofs.Soonest.{IsPut}
use Rattle.row_sets.proofs.Words.{in_word-zero}

-- whether a row waits is told by its place
pub waiting_place : (words : List ℕ) (k : ℕ) → is_waiting words (k % 4096) ≡ is_waiting words k
unfolding is_waiting
waiting_place words k =
    let word : word_of (k % 4096) ≡ word_of k = omega arith in
    ap (λ w. in_word (slice_index words w) (k % 4096 % 64)) word ∙ ap (in_word (slice_index words (word_of k))) (place_bit k)

pub waiting_word : (words : List ℕ) (w v : ℕ) → w < 64 → v < 64 → is_waiting words (64 * w + v) ≡ in_word (slice_index words w) v
unfolding is_waiting
waiting_word words w v low v_low =
    let word : word_of (64 * w + v) ≡ w = omega arith in
    let bit : (64 * w + v) % 64 ≡ v = omega arith in
    ap (λ x. in_word (slice_index words x) ((64 * w + v) % 64)) word ∙ ap (in_word (slice_index words w)) bit

pub none_waiting : (words : List ℕ) (k : ℕ) → words ≡ replicate 64 0 → is_waiting words k ≡ false
unfolding is_waiting
none_waiting words k e =
    let zero_word : slice_index words (word_of k) ≡ 0 = ap (λ xs. slice_index xs (word_of k)) e ∙ get_or-replicate 64 (word_of k) 0 0 (omega arith) in
    ap (λ w. in_word w (k % 64)) zero_word ∙ in_word-zero (k % 64)

-- a change of the bit of row k
pub waiting-change : (f : Bool → Bool → Bool) → ((b : Bool) → f false b ≡ b) → (words : List ℕ) (at bit word k j : ℕ) → length words ≡ 64 → at ≡ word_of k → bit ≡ k % 64 →
    ((v : ℕ) → in_word word v ≡ f (nat_eq v bit) (in_word (slice_index words at) v)) → is_waiting (slice_set words at word) j ≡ f (same_place j k) (is_waiting words j)
unfolding is_waiting
waiting-change f stays words at bit word k j size at_is bit_is h = elim (cases_eq (word_of j) at) [
  | inl e ↦
      let new : slice_index (slice_set words at word) (word_of j) ≡ word = ap (slice_index (slice_set words at word)) e ∙ get_or-set_same words at word 0 (omega arith) in
      let here : same_place j k ≡ nat_eq (j % 64) bit =
      same_place-parts j k ∙ ap (λ b. b && nat_eq (j % 64) (k % 64)) (eq-eqb (word_of j) (word_of k) (e ∙ at_is)) ∙ ap (nat_eq (j % 64)) (sym bit_is) in
      ap (λ w. in_word w (j % 64)) new ∙ h (j % 64) ∙ ap (λ b. f b (in_word (slice_index words at) (j % 64))) (sym here)
      ∙ ap (λ n. f (same_place j k) (in_word (slice_index words n) (j % 64))) (sym e)
  | inr ne ↦
      let elsewhere : same_place j k ≡ false = same_place-parts j k ∙ and_left _ _ (ne_eqb (word_of j) (word_of k) (λ e. ne (e ∙ sym at_is))) in
      ap (λ w. in_word w (j % 64)) (get_or-set_other words at (word_of j) word 0 ne) ∙ sym (stays (is_waiting words j)) ∙ ap (λ b. f b (is_waiting words j)) (sym elsewhere)
]

-- places of their own
pub place_apart : (q k : ℕ) → q < 4096 → (q ≡ k % 4096 → ⊥) → same_place q k ≡ false
place_apart q k low ne = ne_eqb (q % 4096) (k % 4096) (λ e. ne (omega arith))

pub place_same : (k : ℕ) → same_place (k % 4096) k ≡ true
place_same k = eq-eqb (k % 4096 % 4096) (k % 4096) (omega arith)

-- the time of a row, by whether it waits
pub time_waiting : (words times : List ℕ) (k : ℕ) → is_waiting words k ≡ true → time_in words times k ≡ Some (slice_index times (k % 4096))
unfolding time_in
time_waiting words times k h = rw h refl

pub time_none : (words times : List ℕ) (k : ℕ) → is_waiting words k ≡ false → time_in words times k ≡ None
unfolding time_in
time_none words times k h = rw h refl

pub waits_since : (words times : List ℕ) (k t : ℕ) → time_in words times k ≡ Some t → (is_waiting words k ≡ true) × (slice_index times (k % 4096) ≡ t)
waits_since words times k t h = elim (cases_Bool (is_waiting words k)) [
  | inl yes_waits ↦ (let same = sym (time_waiting words times k yes_waits) ∙ h in (yes_waits, cc))
  | inr no_waits ↦ (let different = sym (time_none words times k no_waits) ∙ h in absurd cc)
]

pub not_waiting : (words times : List ℕ) (k : ℕ) → time_in words times k ≡ None → is_waiting words k ≡ false
not_waiting words times k h = elim (cases_Bool (is_waiting words k)) [
  | inl yes_waits ↦ (let different = sym (time_waiting words times k yes_waits) ∙ h in absurd cc)
  | inr no_waits ↦ no_waits
]

-- row k begins to wait
pub time_put : (words words' times : List ℕ) (k t j : ℕ) → length times ≡ 4096 → is_waiting words' j ≡ (same_place j k || is_waiting words j) →
    time_in words' (slice_set times (k % 4096) t) j ≡ (if same_place j k then Some t else time_in words times j)
unfolding time_in
time_put words words' times k t j size h = elim (cases_eq (j % 4096) (k % 4096)) [
  | inl e ↦
      let here : same_place j k ≡ true = eq-eqb (j % 4096) (k % 4096) e in
      let new : slice_index (slice_set times (k % 4096) t) (j % 4096) ≡ t = ap (slice_index (slice_set times (k % 4096) t)) e ∙ get_or-set_same times (k % 4096) t 0 (omega arith) in
      rw (h, here) (ap Some new)
  | inr ne ↦
      let elsewhere : same_place j k ≡ false = ne_eqb (j % 4096) (k % 4096) ne in
      let old : slice_index (slice_set times (k % 4096) t) (j % 4096) ≡ slice_index times (j % 4096) = get_or-set_other times (k % 4096) (j % 4096) t 0 ne in
      rw (h, elsewhere) (ap (λ x. if is_waiting words j then Some x else None) old)
]

-- row k waits no more
pub time_taken : (words words' times : List ℕ) (k j : ℕ) → is_waiting words' j ≡ (not (same_place j k) && is_waiting words j) → time_in words' times j ≡ (if same_place j k then None else time_in words times j)
unfolding time_in
time_taken words words' times k j h = elim (cases_Bool (same_place j k)) [
  | inl here ↦ rw (h, here) refl
  | inr elsewhere ↦ rw (h, elsewhere) refl
]

-- what the first of all that wait tells of rows
pub first_least : (words times : List ℕ) (p : ℕ) → IsSoonest (is_waiting words) (slice_index times) 0 4096 p → (k t : ℕ) → time_in words times k ≡ Some t → slice_index times p ≤ t
first_least words times p h k t e =
    let waits : (is_waiting words k ≡ true) × (slice_index times (k % 4096) ≡ t) = waits_since words times k t e in
    omega (arith, waits.1, h.least (k % 4096) (omega arith) (omega arith) (waiting_place words k ∙ waits.0))

pub first_waits : (words times : List ℕ) (p : ℕ) → IsSoonest (is_waiting words) (slice_index times) 0 4096 p → (start : ℕ) → time_in words times (row_at start p) ≡ Some (slice_index times p)
first_waits words times p h start =
    let place : row_at start p % 4096 ≡ p = row_at-place start p h.within in
    time_waiting words times (row_at start p) (sym (waiting_place words (row_at start p)) ∙ ap (is_waiting words) place ∙ h.member) ∙ ap (λ q. Some (slice_index times q)) place

-- where row k begins to wait, its place does
pub is_put : (words times : List ℕ) (word k t : ℕ) → length words ≡ 64 → length times ≡ 4096 → is_waiting words k ≡ false →
    ((v : ℕ) → in_word word v ≡ (nat_eq v (k % 64) || in_word (slice_index words (word_of k)) v)) →
    IsPut (is_waiting words) (is_waiting (slice_set words (word_of k) word)) (slice_index times) (slice_index (slice_set times (k % 4096) t)) (k % 4096) t
is_put words times word k t size times_size before h =
    let change : (q : ℕ) → is_waiting (slice_set words (word_of k) word) q ≡ (same_place q k || is_waiting words q) = λ q. waiting-change (λ a b. a || b) (λ b. refl) words (word_of k) (k % 64) word k q size refl refl h in
    record {
      new = change (k % 4096) ∙ ap (λ b. b || is_waiting words (k % 4096)) (place_same k);
      at = get_or-set_same times (k % 4096) t 0 (omega arith);
      before = waiting_place words k ∙ before;
      others = λ q low ne. change q ∙ ap (λ b. b || is_waiting words q) (place_apart q k low ne);
      times = λ q ne. get_or-set_other times (k % 4096) q t 0 ne;
    }

-- where no place waits, no row does
pub none_told : (words times : List ℕ) → NoneWaitsIn (is_waiting words) 0 4096 → (k : ℕ) → time_in words times k ≡ None
none_told words times none k = time_none words times k (sym (waiting_place words k) ∙ none (k % 4096) (omega arith) (omega arith))

-- a row that waits already stays as it is
pub waits_already : (agenda : Agenda) (k time : ℕ) → is_waiting agenda.words.items k ≡ true → ((t : ℕ) → time_of agenda k ≡ Some t → t ≡ time) → (j : ℕ) → time_of agenda j ≡ (if same_place j k then Some time else time_of agenda j)
waits_already agenda k time waits own j = elim (cases_Bool (same_place j k)) [
  | inl here ↦ (
      let same : j % 4096 ≡ k % 4096 = eqb-true (j % 4096) (k % 4096) here in
      let mine : time_of agenda k ≡ Some (slice_index agenda.times.items (k % 4096)) = time_waiting agenda.words.items agenda.times.items k waits in
      rw here (time_place agenda j k same ∙ mine ∙ ap Some (own _ mine)))
  | inr other ↦ rw other refl
]

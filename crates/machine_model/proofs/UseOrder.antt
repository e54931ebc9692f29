-- The uses put one behind another stand in use order, and no other list of them does.
use Rattle.std.proofs.Common.{◌≡◌, ℕ, ◌+◌, ◌<◌, ◌≤◌, suc, true, false, List, [], ◌∷◌, ◌++◌, length, get_or, take, drop, refl, sym, ap, ◌∙◌, subst, arith, nat_eq, nat_le, inl, inr, append_assoc, append-nil}
use Rattle.std.proofs.lemmas.Bool.{cases_Bool, cases_lt, eqb-true, leb-true, leb-false, ne_eqb, eq-eqb}
use Rattle.std.proofs.lemmas.List.{get_or-drop, length-drop, take-append-drop}
use Rattle.std.proofs.lemmas.List.Elements.{filter-append}
use Rattle.std.proofs.lemmas.List.Sorted.{IsNonDecreasingBy-insert, IsNonDecreasingBy-short}
use Rattle.std.proofs.lemmas.List.Sums.{prefix_len-le-length, prefix_len_passes, prefix_len_stops}
use Rattle.std.specs.List.{filter, prefix_len}
use Rattle.std.specs.List.Sorted.{IsNonDecreasingBy}
use Rattle.machine_model.specs.Uses.{IsUseOrder, put_use, put_uses, in_use_order}
use Rattle.machine_model.specs.declared.facts.Use.{Use}

-- the uses of resources with n units
abbrev of_size : (ℕ → ℕ) → ℕ → List Use → List Use
of_size size n ws = filter (λ w. nat_eq (size w.resource) n) ws

-- there are none where all of the resources have more
none_of_size : (size : ℕ → ℕ) (n : ℕ) (ws : List Use) → ((k : ℕ) (d : Use) → k < length ws → n < size (get_or ws k d).resource) → of_size size n ws ≡ []
none_of_size size n [] more = refl
none_of_size size n (w ∷ ws) more =
    let first : n < size w.resource = more 0 w (omega arith) in
    let rest : of_size size n ws ≡ [] = none_of_size size n ws (λ k d low. more (suc k) d (omega arith)) in
    let other : nat_eq (size w.resource) n ≡ false = ne_eqb (size w.resource) n (λ e. omega arith) in
    rw other rest

-- a use that is put goes behind those that have no more units
abbrev place : (ℕ → ℕ) → List Use → Use → ℕ
place size met w = prefix_len (λ v. nat_le (size v.resource) (size w.resource)) met

before : (size : ℕ → ℕ) (met : List Use) (w : Use) (k : ℕ) (d : Use) → k < place size met w → size (get_or met k d).resource ≤ size w.resource
before size met w k d low = leb-true _ _ (prefix_len_passes (λ v. nat_le (size v.resource) (size w.resource)) met k d low)

behind : (size : ℕ → ℕ) (met : List Use) (w : Use) → IsNonDecreasingBy (λ v. size v.resource) met → (k : ℕ) (d : Use) → place size met w ≤ k → k < length met → size w.resource < size (get_or met k d).resource
behind size met w rises k d low high =
    let stop : size w.resource < size (get_or met (place size met w) d).resource = leb-false _ _ (prefix_len_stops (λ v. nat_le (size v.resource) (size w.resource)) met d (omega arith)) in
    let later : size (get_or met (place size met w) d).resource ≤ size (get_or met k d).resource = rises (place size met w) k d low high in
    omega arith

put_rises : (size : ℕ → ℕ) (met : List Use) (w : Use) → IsNonDecreasingBy (λ v. size v.resource) met → IsNonDecreasingBy (λ v. size v.resource) (put_use size met w)
put_rises size met w rises = IsNonDecreasingBy-insert (λ v. size v.resource) met (place size met w) w rises (prefix_len-le-length (λ v. nat_le (size v.resource) (size w.resource)) met)
    (before size met w) (λ k d low high. let more : size w.resource < size (get_or met k d).resource = behind size met w rises k d low high in omega arith)

-- what is put is the last of its size
put_last : (size : ℕ → ℕ) (n : ℕ) (met : List Use) (w : Use) → IsNonDecreasingBy (λ v. size v.resource) met → of_size size n (put_use size met w) ≡ of_size size n met ++ of_size size n (w ∷ [])
put_last size n met w rises =
    let front = take (place size met w) met in
    let back = drop (place size met w) met in
    let parts : of_size size n front ++ of_size size n back ≡ of_size size n met = sym (filter-append (λ v. nat_eq (size v.resource) n) front back) ∙ ap (of_size size n) (take-append-drop (place size met w) met) in
    filter-append (λ v. nat_eq (size v.resource) n) front (w ∷ back) ∙ (elim (cases_Bool (nat_eq (size w.resource) n)) [
      | inl same ↦ (
          let equal : size w.resource ≡ n = eqb-true _ _ same in
          let none : of_size size n back ≡ [] = none_of_size size n back (λ k d low. rw get_or-drop (let more : size w.resource < size (get_or met (place size met w + k) d).resource = behind size met w rises (place size met w + k) d (omega arith) (omega (arith, simp length-drop at low)) in omega arith)) in
          let fronts : of_size size n front ≡ of_size size n met = sym (append-nil (of_size size n front)) ∙ ap (λ l. of_size size n front ++ l) (sym none) ∙ parts in
          rw (same, none, fronts) refl)
      | inr other ↦ rw other (parts ∙ sym (append-nil (of_size size n met)))
    ])

puts_rise : (size : ℕ → ℕ) (met ws : List Use) → IsNonDecreasingBy (λ v. size v.resource) met → IsNonDecreasingBy (λ v. size v.resource) (put_uses size met ws)
puts_rise size met [] rises = rises
puts_rise size met (w ∷ ws) rises = puts_rise size (put_use size met w) ws (put_rises size met w rises)

puts_last : (size : ℕ → ℕ) (n : ℕ) (met ws : List Use) → IsNonDecreasingBy (λ v. size v.resource) met → of_size size n (put_uses size met ws) ≡ of_size size n met ++ of_size size n ws
puts_last size n met [] rises = sym (append-nil (of_size size n met))
puts_last size n met (w ∷ ws) rises =
    puts_last size n (put_use size met w) ws (put_rises size met w rises)
    ∙ ap (λ l. l ++ of_size size n ws) (put_last size n met w rises)
    ∙ append_assoc (of_size size n met) (of_size size n (w ∷ [])) (of_size size n ws)
    ∙ ap (λ l. of_size size n met ++ l) (sym (filter-append (λ v. nat_eq (size v.resource) n) (w ∷ []) ws))

pub is_use_order : (size : ℕ → ℕ) (ws : List Use) → IsUseOrder size ws (in_use_order size ws)
is_use_order size ws =
    let start : IsNonDecreasingBy (λ v. size v.resource) [] = IsNonDecreasingBy-short (λ (v : Use). size v.resource) [] (omega arith) in
    record { stable = λ n. puts_last size n [] ws start; fewest_first = puts_rise size [] ws start }

-- what stands behind the first use of a list
rest_rises : (size : ℕ → ℕ) (w : Use) (ws : List Use) → IsNonDecreasingBy (λ v. size v.resource) (w ∷ ws) → IsNonDecreasingBy (λ v. size v.resource) ws
rest_rises size w ws rises i j d low high = rises (suc i) (suc j) d (omega arith) (omega arith)

-- the first use of a list has no more units than the first of another with the same uses of each size
first_low : (size : ℕ → ℕ) (v w : Use) (vs ws : List Use) → IsNonDecreasingBy (λ u. size u.resource) (w ∷ ws) → ((n : ℕ) → of_size size n (v ∷ vs) ≡ of_size size n (w ∷ ws)) → size w.resource ≤ size v.resource
first_low size v w vs ws rises same = elim (cases_lt (size v.resource) (size w.resource)) [
  | inl low ↦ (
      let none : of_size size (size v.resource) (w ∷ ws) ≡ [] = none_of_size size (size v.resource) (w ∷ ws) (λ k d high. let later : size w.resource ≤ size (get_or (w ∷ ws) k d).resource = rises 0 k d (omega arith) high in omega arith) in
      let both : of_size size (size v.resource) (v ∷ vs) ≡ [] = same (size v.resource) ∙ none in
      let found : nat_eq (size v.resource) (size v.resource) ≡ true = eq-eqb _ _ refl in
      let there : v ∷ of_size size (size v.resource) vs ≡ [] = rw found at both in
      absurd cc)
  | inr high ↦ high
]

-- lists in order with the same uses of each size are the same
one_order : (size : ℕ → ℕ) (vs ws : List Use) → IsNonDecreasingBy (λ u. size u.resource) vs → IsNonDecreasingBy (λ u. size u.resource) ws → ((n : ℕ) → of_size size n vs ≡ of_size size n ws) → vs ≡ ws
one_order size [] [] rises climbs same = refl
one_order size [] (w ∷ ws) rises climbs same = absurd (
    let found : nat_eq (size w.resource) (size w.resource) ≡ true = eq-eqb _ _ refl in
    let there : [] ≡ w ∷ of_size size (size w.resource) ws = rw found at (same (size w.resource)) in
    cc)
one_order size (v ∷ vs) [] rises climbs same = absurd (
    let found : nat_eq (size v.resource) (size v.resource) ≡ true = eq-eqb _ _ refl in
    let there : v ∷ of_size size (size v.resource) vs ≡ [] = rw found at (same (size v.resource)) in
    cc)
one_order size (v ∷ vs) (w ∷ ws) rises climbs same =
    let up : size w.resource ≤ size v.resource = first_low size v w vs ws climbs same in
    let down : size v.resource ≤ size w.resource = first_low size w v ws vs rises (λ n. sym (same n)) in
    let equal : size w.resource ≡ size v.resource = omega arith in
    let heads : v ∷ of_size size (size v.resource) vs ≡ w ∷ of_size size (size v.resource) ws =
    (let here : nat_eq (size v.resource) (size v.resource) ≡ true = eq-eqb _ _ refl in
    let there : nat_eq (size w.resource) (size v.resource) ≡ true = eq-eqb _ _ equal in
    rw (here, there) at (same (size v.resource))) in
    let first : v ≡ w = cc in
    let rest : (n : ℕ) → of_size size n vs ≡ of_size size n ws = (λ n. elim (cases_Bool (nat_eq (size v.resource) n)) [
      | inl here ↦ (let is : size v.resource ≡ n = eqb-true _ _ here in subst (λ k. of_size size k vs ≡ of_size size k ws) is cc)
      | inr other ↦ (let also : nat_eq (size w.resource) n ≡ false = subst (λ k. nat_eq k n ≡ false) (sym equal) other in rw (other, also) at (same n))
    ]) in
    let tails : vs ≡ ws = one_order size vs ws (rest_rises size v vs rises) (rest_rises size w ws climbs) rest in
    cc

pub one_use_order : (size : ℕ → ℕ) (ws list : List Use) → IsUseOrder size ws list → list ≡ in_use_order size ws
one_use_order size ws list order =
    let made = is_use_order size ws in
    one_order size list (in_use_order size ws) order.fewest_first made.fewest_first (λ n. order.stable n ∙ sym (made.stable n))

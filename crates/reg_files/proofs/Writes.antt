-- What is kept of writes answers for them, and stays what is kept.
use Rattle.std.proofs.Common.{◌≡◌, ℕ, ◌+◌, ◌-◌, ◌*◌, ◌<◌, ◌≤◌, inl, inr, List, [], ◌∷◌, ◌++◌, length, get_or, set, map, replicate, arith, sym, ◌∙◌, ap, refl, Bool, true, false, ◌&&◌, ◌||◌, Some, None, get_or-set_same, get_or-set_other, length-set}
use Rattle.std.specs.Prelude.{nat_lt, nat_eq, if◌then◌else◌, Option}
use Rattle.std.specs.List.{sum_by, count_by, range_with_len}
use Rattle.std.proofs.lemmas.Bool.Decides.{nat_tests}
use Rattle.std.proofs.lemmas.Bool.{cases_eq, cases_Bool}
use Rattle.std.proofs.lemmas.List.Sums.{sum_by-cons, sum_by_push, sum_by-le, count_by-le-length, AllPass-from_list_all, list_all-from_AllPass}
use Rattle.std.proofs.lemmas.List.{get_or_default, get_or-replicate, length-replicate}
use Rattle.std.proofs.lemmas.List.FromFn.{map-range_with_len_more, length-map-range_with_len, get_or-map-range_with_len}
use Rattle.machine_model.specs.Meaning.{MachineMeaning}
use Rattle.machine_model.specs.declared.facts.FileShare.{FileShare}
use Rattle.reg_files.specs.Shape.{IsShape, is_share, fits, share_fits, with_share, less_share, cost_of}
use Rattle.reg_files.specs.Files.{share_of, cost_in, in_flight, has_share, has_room, without}
use Rattle.reg_files.specs.Held.{AreHeld}

-- a share of a file that is there costs what it says
cost_there : (f : ℕ) (s : FileShare) → s.file ≡ f → cost_of f (Some s) ≡ s.cost
cost_there f s e = let test : nat_eq s.file f ≡ true = grind (arith, nat_tests, e) in rw test refl

cost_elsewhere : (f : ℕ) (s : FileShare) → (s.file ≡ f → ⊥) → cost_of f (Some s) ≡ 0
cost_elsewhere f s ne = let test : nat_eq s.file f ≡ false = grind (arith, nat_tests, ne) in rw test refl

pub share_costs : (taken : List ℕ) (o : Option FileShare) (f : ℕ) → f < length taken → get_or (with_share taken o) f 0 ≡ get_or taken f 0 + cost_of f o
share_costs taken None f lt = omega arith
share_costs taken (Some s) f lt = elim (cases_eq s.file f) [
  | inl here ↦ rw (cost_there f s here, here) (get_or-set_same taken f (get_or taken f 0 + s.cost) 0 lt)
  | inr ne ↦ (let other : get_or (set taken s.file (get_or taken s.file 0 + s.cost)) f 0 ≡ get_or taken f 0 = get_or-set_other taken s.file f (get_or taken s.file 0 + s.cost) 0 (λ e. ne (sym e)) in
      omega (arith, other, cost_elsewhere f s ne))
]

pub share_back : (taken : List ℕ) (o : Option FileShare) (f : ℕ) → f < length taken → get_or (less_share taken o) f 0 ≡ get_or taken f 0 - cost_of f o
share_back taken None f lt = omega arith
share_back taken (Some s) f lt = elim (cases_eq s.file f) [
  | inl here ↦ rw (cost_there f s here, here) (get_or-set_same taken f (get_or taken f 0 - s.cost) 0 lt)
  | inr ne ↦ (let other : get_or (set taken s.file (get_or taken s.file 0 - s.cost)) f 0 ≡ get_or taken f 0 = get_or-set_other taken s.file f (get_or taken s.file 0 - s.cost) 0 (λ e. ne (sym e)) in
      omega (arith, other, cost_elsewhere f s ne))
]

pub with_length : (taken : List ℕ) (o : Option FileShare) → length (with_share taken o) ≡ length taken
with_length taken None = refl
with_length taken (Some s) = length-set taken s.file (get_or taken s.file 0 + s.cost)

pub less_length : (taken : List ℕ) (o : Option FileShare) → length (less_share taken o) ≡ length taken
less_length taken None = refl
less_length taken (Some s) = length-set taken s.file (get_or taken s.file 0 - s.cost)

-- what is kept tells whether there is room
room_share : (m : MachineMeaning) (of_file taken writes : List ℕ) → ((f : ℕ) → f < length taken → get_or of_file f 0 ≡ m.file_size f) → ((f : ℕ) → f < length taken → get_or taken f 0 ≡ cost_in m f writes)
    → (o : Option FileShare) → is_share (length taken) o ≡ true → share_fits of_file taken o ≡ has_share m writes o
room_share m of_file taken writes size cost None is = refl
room_share m of_file taken writes size cost (Some s) is =
    let lt : s.file < length taken = grind (arith, nat_tests, is) in rw (size s.file lt, cost s.file lt) refl

pub room_is : (m : MachineMeaning) (limit : ℕ) (of_register : List (Option FileShare)) (of_file taken counts : List ℕ) (count : ℕ) (writes : List ℕ) (r : ℕ)
    → AreHeld m limit of_register of_file taken counts count writes → r < 32 → is_share (length taken) (get_or of_register r None) ≡ true
    → (nat_eq r 0 || (fits limit count 1 && share_fits of_file taken (get_or of_register r None))) ≡ has_room m writes r
room_is m limit of_register of_file taken counts count writes r h low is =
    let file : share_fits of_file taken (get_or of_register r None) ≡ has_share m writes (get_or of_register r None) = room_share m of_file taken writes h.size h.cost (get_or of_register r None) is in
    rw (file, h.share r low, h.limit_is, h.flying) refl

-- a list that is filled in order
pub one_more : {X : Type 0} (f : ℕ → X) (n : ℕ) (xs : List X) (x : X) → xs ≡ map f (range_with_len 0 n) → x ≡ f n → xs ++ x ∷ [] ≡ map f (range_with_len 0 (n + 1))
one_more f n xs x is last = rw (is, last) (sym (map-range_with_len_more f 0 n n (omega arith)))

-- how much a write counts
abbrev pub weight : ℕ → ℕ
weight r = if nat_lt 0 r then 1 else 0

-- counts of writes of each register
pub count_set : (counts : List ℕ) (r v k : ℕ) → length counts ≡ 32 → k < 32 → get_or (set counts r v) k 0 ≡ (if nat_eq r k then v else get_or counts k 0)
count_set counts r v k long low = elim (cases_eq r k) [
  | inl here ↦ (let test : nat_eq r k ≡ true = grind (arith, nat_tests, here) in rw (test, here) (get_or-set_same counts k v 0 (omega (arith, long, low))))
  | inr ne ↦ (let test : nat_eq r k ≡ false = grind (arith, nat_tests, ne) in rw test (get_or-set_other counts r k v 0 (λ e. ne (sym e))))
]

-- One write more

pub takes : (m : MachineMeaning) (limit : ℕ) (of_register : List (Option FileShare)) (of_file taken counts : List ℕ) (count : ℕ) (writes : List ℕ) (r : ℕ)
    → AreHeld m limit of_register of_file taken counts count writes → r < 32 → length counts ≡ 32
    → AreHeld m limit of_register of_file (with_share taken (get_or of_register r None)) (set counts r (get_or counts r 0 + 1)) (count + weight r) (writes ++ r ∷ [])
takes m limit of_register of_file taken counts count writes r h low long = record {
  limit_is = h.limit_is;
  share = h.share;
  cheap = h.cheap;
  size = λ f lt. h.size f (omega (arith, lt, with_length taken (get_or of_register r None)));
  cost = λ f lt. (let here : f < length taken = omega (arith, lt, with_length taken (get_or of_register r None)) in
      let more : cost_in m f (writes ++ r ∷ []) ≡ cost_in m f writes + cost_of f (share_of m r) = sum_by_push (λ x. cost_of f (share_of m x)) writes r in
      let share : cost_of f (get_or of_register r None) ≡ cost_of f (share_of m r) = ap (cost_of f) (h.share r low) in
      omega (arith, share_costs taken (get_or of_register r None) f here, h.cost f here, more, share));
  each = λ k lk. count_set counts r (get_or counts r 0 + 1) k long lk ∙ elim (cases_eq r k) [
    | inl here ↦ (let test : nat_eq r k ≡ true = grind (arith, nat_tests, here) in
        let more : count_by (λ x. nat_eq x k) (writes ++ r ∷ []) ≡ count_by (λ x. nat_eq x k) writes + (if nat_eq r k then 1 else 0) = sum_by_push (λ x. if nat_eq x k then 1 else 0) writes r in
        rw (more, test, here) (ap (λ n. n + 1) (h.each k lk)))
    | inr ne ↦ (let test : nat_eq r k ≡ false = grind (arith, nat_tests, ne) in
        let more : count_by (λ x. nat_eq x k) (writes ++ r ∷ []) ≡ count_by (λ x. nat_eq x k) writes + (if nat_eq r k then 1 else 0) = sum_by_push (λ x. if nat_eq x k then 1 else 0) writes r in
        rw (more, test) (let same : get_or counts k 0 ≡ count_by (λ x. nat_eq x k) writes = h.each k lk in omega (arith, same)))
  ];
  flying = ap (λ n. n + weight r) h.flying ∙ sym (sum_by_push (λ x. if nat_lt 0 x then 1 else 0) writes r);
}

cheap_share : (m : MachineMeaning) (f r : ℕ) → ((q : ℕ) (s : FileShare) → m.file_of q ≡ Some s → s.cost ≤ 8) → cost_of f (share_of m r) ≤ 8
cheap_share m f r cheap = go (share_of m r) (λ s is. of_share (nat_eq r 0) s is)
  where
    of_share : (b : Bool) (s : FileShare) → (if b then None else m.file_of r) ≡ Some s → s.cost ≤ 8
    of_share true s is = cc
    of_share false s is = cheap r s is

    go : (o : Option FileShare) → ((s : FileShare) → o ≡ Some s → s.cost ≤ 8) → cost_of f o ≤ 8
    go None h = omega arith
    go (Some s) h = elim (cases_Bool (nat_eq s.file f)) [ inl is ↦ rw is (h s refl) | inr not_here ↦ rw not_here (omega arith) ]

pub small_cost : (m : MachineMeaning) (f : ℕ) (writes : List ℕ) → ((q : ℕ) (s : FileShare) → m.file_of q ≡ Some s → s.cost ≤ 8) → cost_in m f writes ≤ length writes * 8
small_cost m f writes cheap = sum_by-le (λ r. cost_of f (share_of m r)) 8 writes (λ k d lt. cheap_share m f (get_or writes k d) cheap)

-- a share more still fits a number
pub share_small : (m : MachineMeaning) (limit : ℕ) (of_register : List (Option FileShare)) (of_file taken counts : List ℕ) (count : ℕ) (writes : List ℕ) (r : ℕ)
    → AreHeld m limit of_register of_file taken counts count writes → r < 32 → length writes < 4096
    → (f : ℕ) → f < length taken → get_or taken f 0 + cost_of f (get_or of_register r None) < 4294967296
share_small m limit of_register of_file taken counts count writes r h low few f lt =
    let one : cost_of f (get_or of_register r None) ≤ 8 = rw (h.share r low) (cheap_share m f r h.cheap) in
    omega (arith, one, h.cost f lt, small_cost m f writes h.cheap, few)

pub counts_small : (m : MachineMeaning) (limit : ℕ) (of_register : List (Option FileShare)) (of_file taken counts : List ℕ) (count : ℕ) (writes : List ℕ) (r : ℕ)
    → AreHeld m limit of_register of_file taken counts count writes → r < 32 → length writes < 4096 → (get_or counts r 0 < 4096) × (count < 4096)
counts_small m limit of_register of_file taken counts count writes r h low few =
    (omega (arith, h.each r low, count_by-le-length (λ x. nat_eq x r) writes, few), omega (arith, h.flying, count_by-le-length (λ x. nat_lt 0 x) writes, few))

-- One write less

pub sum_without : (f : ℕ → ℕ) (r : ℕ) (writes : List ℕ) → 0 < count_by (λ x. nat_eq x r) writes → sum_by f writes ≡ f r + sum_by f (without r writes)
sum_without f r [] some = absurd (omega (arith, some))
sum_without f r (x ∷ writes) some = elim (cases_eq x r) [
  | inl here ↦ (let test : nat_eq x r ≡ true = grind (arith, nat_tests, here) in rw test (sum_by-cons f x writes ∙ ap (λ y. f y + sum_by f writes) here))
  | inr ne ↦ (let test : nat_eq x r ≡ false = grind (arith, nat_tests, ne) in
      let all : count_by (λ y. nat_eq y r) (x ∷ writes) ≡ (if nat_eq x r then 1 else 0) + count_by (λ y. nat_eq y r) writes = sum_by-cons (λ y. if nat_eq y r then 1 else 0) x writes in
      let rest : 0 < count_by (λ y. nat_eq y r) writes = omega (arith, some, all ∙ ap (λ b. (if b then 1 else 0) + count_by (λ y. nat_eq y r) writes) test) in
      let more : sum_by f writes ≡ f r + sum_by f (without r writes) = sum_without f r writes rest in
      rw test (let cons : sum_by f (x ∷ writes) ≡ f x + sum_by f writes = sum_by-cons f x writes in
      let cons_less : sum_by f (x ∷ without r writes) ≡ f x + sum_by f (without r writes) = sum_by-cons f x (without r writes) in omega (arith, cons, cons_less, more)))
]

pub frees : (m : MachineMeaning) (limit : ℕ) (of_register : List (Option FileShare)) (of_file taken counts : List ℕ) (count : ℕ) (writes : List ℕ) (r : ℕ)
    → AreHeld m limit of_register of_file taken counts count writes → r < 32 → length counts ≡ 32 → 0 < count_by (λ x. nat_eq x r) writes
    → AreHeld m limit of_register of_file (less_share taken (get_or of_register r None)) (set counts r (get_or counts r 0 - 1)) (count - weight r) (without r writes)
frees m limit of_register of_file taken counts count writes r h low long some = record {
  limit_is = h.limit_is;
  share = h.share;
  cheap = h.cheap;
  size = λ f lt. h.size f (omega (arith, lt, less_length taken (get_or of_register r None)));
  cost = λ f lt. (let here : f < length taken = omega (arith, lt, less_length taken (get_or of_register r None)) in
      let less : cost_in m f writes ≡ cost_of f (share_of m r) + cost_in m f (without r writes) = sum_without (λ x. cost_of f (share_of m x)) r writes some in
      let share : cost_of f (get_or of_register r None) ≡ cost_of f (share_of m r) = ap (cost_of f) (h.share r low) in
      omega (arith, share_back taken (get_or of_register r None) f here, h.cost f here, less, share));
  each = λ k lk. count_set counts r (get_or counts r 0 - 1) k long lk ∙ elim (cases_eq r k) [
    | inl here ↦ (let test : nat_eq r k ≡ true = grind (arith, nat_tests, here) in
        let less : count_by (λ x. nat_eq x k) writes ≡ (if nat_eq r k then 1 else 0) + count_by (λ x. nat_eq x k) (without r writes) = sum_without (λ x. if nat_eq x k then 1 else 0) r writes some in
        let one : count_by (λ x. nat_eq x k) writes ≡ 1 + count_by (λ x. nat_eq x k) (without r writes) = less ∙ ap (λ b. (if b then 1 else 0) + count_by (λ x. nat_eq x k) (without r writes)) test in
        let mine : get_or counts r 0 ≡ count_by (λ x. nat_eq x k) writes = ap (λ i. get_or counts i 0) here ∙ h.each k lk in
        rw test (omega (arith, one, mine)))
    | inr ne ↦ (let test : nat_eq r k ≡ false = grind (arith, nat_tests, ne) in
        let less : count_by (λ x. nat_eq x k) writes ≡ (if nat_eq r k then 1 else 0) + count_by (λ x. nat_eq x k) (without r writes) = sum_without (λ x. if nat_eq x k then 1 else 0) r writes some in
        let none : count_by (λ x. nat_eq x k) writes ≡ 0 + count_by (λ x. nat_eq x k) (without r writes) = less ∙ ap (λ b. (if b then 1 else 0) + count_by (λ x. nat_eq x k) (without r writes)) test in
        rw test (omega (arith, none, h.each k lk)))
  ];
  flying = (let less : in_flight writes ≡ weight r + in_flight (without r writes) = sum_without (λ x. if nat_lt 0 x then 1 else 0) r writes some in omega (arith, less, h.flying));
}

-- what is given back was taken
pub were_taken : (m : MachineMeaning) (limit : ℕ) (of_register : List (Option FileShare)) (of_file taken counts : List ℕ) (count : ℕ) (writes : List ℕ) (r : ℕ)
    → AreHeld m limit of_register of_file taken counts count writes → r < 32 → 0 < count_by (λ x. nat_eq x r) writes → (1 ≤ get_or counts r 0) × (weight r ≤ count)
were_taken m limit of_register of_file taken counts count writes r h low some =
    let less : in_flight writes ≡ weight r + in_flight (without r writes) = sum_without (λ x. if nat_lt 0 x then 1 else 0) r writes some in
    (omega (arith, h.each r low, some), omega (arith, less, h.flying))

-- every list of which this is kept has as many writes of a register
pub some_of_each : (m n : MachineMeaning) (limit : ℕ) (of_register : List (Option FileShare)) (of_file taken counts : List ℕ) (count : ℕ) (these those : List ℕ) (r : ℕ)
    → AreHeld m limit of_register of_file taken counts count these → AreHeld n limit of_register of_file taken counts count those → r < 32 → 0 < count_by (λ x. nat_eq x r) these → 0 < count_by (λ x. nat_eq x r) those
some_of_each m n limit of_register of_file taken counts count these those r a b low some = omega (arith, a.each r low, b.each r low, some)

pub share_taken : (m : MachineMeaning) (limit : ℕ) (of_register : List (Option FileShare)) (of_file taken counts : List ℕ) (count : ℕ) (writes : List ℕ) (r : ℕ)
    → AreHeld m limit of_register of_file taken counts count writes → r < 32 → 0 < count_by (λ x. nat_eq x r) writes → (f : ℕ) → f < length taken → cost_of f (get_or of_register r None) ≤ get_or taken f 0
share_taken m limit of_register of_file taken counts count writes r h low some f lt =
    let less : cost_in m f writes ≡ cost_of f (share_of m r) + cost_in m f (without r writes) = sum_without (λ x. cost_of f (share_of m x)) r writes some in
    let share : cost_of f (get_or of_register r None) ≡ cost_of f (share_of m r) = ap (cost_of f) (h.share r low) in
    omega (arith, less, share, h.cost f lt)

-- an element that is read at a place, whatever stands for one that is not there
pub read_at : {X : Type 0} (xs : List X) (n r : ℕ) (v d : X) → v ≡ get_or xs n v → n ≡ r → r < length xs → v ≡ get_or xs r d
read_at xs n r v d is same lt = is ∙ ap (λ k. get_or xs k v) same ∙ get_or_default xs r v d lt

-- each share is of a file that is there
pub share_within : (of_register : List (Option FileShare)) (of_file taken counts : List ℕ) (r : ℕ) → IsShape of_register of_file taken counts → r < 32 → is_share (length taken) (get_or of_register r None) ≡ true
share_within of_register of_file taken counts r h low = AllPass-from_list_all (is_share (length taken)) of_register h.within r None (omega (arith, low, h.shares))

-- At first no write is held

abbrev pub AreShares : MachineMeaning → Type 0
AreShares m = (r : ℕ) (s : FileShare) → m.file_of r ≡ Some s → (s.file < m.file_count) × (s.cost ≤ 8)

share_is : (m : MachineMeaning) (r : ℕ) → AreShares m → is_share m.file_count (share_of m r) ≡ true
share_is m r law = go (share_of m r) (λ s is. of_share (nat_eq r 0) s is)
  where
    of_share : (b : Bool) (s : FileShare) → (if b then None else m.file_of r) ≡ Some s → s.file < m.file_count
    of_share true s is = cc
    of_share false s is = (law r s is).0

    go : (o : Option FileShare) → ((s : FileShare) → o ≡ Some s → s.file < m.file_count) → is_share m.file_count o ≡ true
    go None h = refl
    go (Some s) h = let lt : s.file < m.file_count = h s refl in grind (arith, nat_tests, lt)

pub made_shape : (m : MachineMeaning) (shares : List (Option FileShare)) (sizes used held : List ℕ) → AreShares m → shares ≡ map (share_of m) (range_with_len 0 32)
    → sizes ≡ map m.file_size (range_with_len 0 m.file_count) → length used ≡ m.file_count → length held ≡ 32 → IsShape shares sizes used held
made_shape m shares sizes used held law a b c d =
    let count : length sizes ≡ m.file_count = ap length b ∙ length-map-range_with_len m.file_size 0 m.file_count in
    let long : length shares ≡ 32 = ap length a ∙ length-map-range_with_len (share_of m) 0 32 in
    record {
      shares = long;
      held = d;
      sizes = count ∙ sym c;
      within = list_all-from_AllPass (is_share (length used)) shares (λ k e lt.
          rw (c, a, get_or-map-range_with_len (share_of m) 0 32 k k e (omega (arith, lt, long)) (omega arith)) (share_is m k law));
    }

pub made_held : (m : MachineMeaning) (limit : ℕ) (shares : List (Option FileShare)) (sizes used held : List ℕ) → AreShares m → limit ≡ m.limits.registers → shares ≡ map (share_of m) (range_with_len 0 32)
    → sizes ≡ map m.file_size (range_with_len 0 m.file_count) → used ≡ replicate m.file_count 0 → held ≡ replicate 32 0 → AreHeld m limit shares sizes used held 0 []
made_held m limit shares sizes used held law l a b c d =
    let long : length used ≡ m.file_count = ap length c ∙ length-replicate m.file_count 0 in
    record {
      limit_is = l;
      share = λ r lt. ap (λ xs. get_or xs r None) a ∙ get_or-map-range_with_len (share_of m) 0 32 r r None lt (omega arith);
      cheap = λ r s is. (law r s is).1;
      size = λ f lt. ap (λ xs. get_or xs f 0) b ∙ get_or-map-range_with_len m.file_size 0 m.file_count f f 0 (omega (arith, lt, long)) (omega arith);
      cost = λ f lt. ap (λ xs. get_or xs f 0) c ∙ get_or-replicate m.file_count f 0 0 (omega (arith, lt, long));
      each = λ r lt. ap (λ xs. get_or xs r 0) d ∙ get_or-replicate 32 r 0 0 lt;
      flying = refl;
    }

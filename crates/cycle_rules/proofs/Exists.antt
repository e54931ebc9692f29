-- Below every bound the rules give a schedule, made key by key.
use Rattle.std.proofs.Common.{zero, suc, ◌≡◌, ℕ, ◌+◌, ◌-◌, ◌*◌, ◌/◌, ◌%◌, ◌<◌, ◌≤◌, ◌⊎◌, inl, inr, arith, sym, ◌∙◌, ap, subst, refl, Some, None, add-zero, add-suc, nat_lt, nat_eq, true, false, Bool, ◌&&◌, cond}
use Rattle.std.proofs.lemmas.Bool.Decides.{nat_tests}
use Rattle.std.proofs.lemmas.Nat.{div-mul-add, mod-mul-add, div-add-mod'}
use Rattle.std.proofs.Math.Nat.{mul-le-mul_right}
use Rattle.std.specs.declared.option.Option.{Option}
use Rattle.cycle_rules.specs.Schedule.{Fall, Known, key, if_before, seen, Rules, IsFirst, IsSchedule, next, known_at, made}
use Rattle.cycle_rules.proofs.Unique.{before_yes, before_none}

-- what is known stays known
stays : {P : Type 0} (r : Rules P) (m k e : ℕ) (f : Fall P) → known_at r m k e ≡ Some f → known_at r m (suc k) e ≡ Some f
stays r m k e f is = ap (next r m (known_at r m k) k e) is

pub stays_known : {P : Type 0} (r : Rules P) (m k n e : ℕ) (f : Fall P) → known_at r m k e ≡ Some f → known_at r m (k + n) e ≡ Some f
stays_known r m k zero e f is = rw add-zero is
stays_known r m k (suc n) e f is = rw add-suc (stays r m (k + n) e f (stays_known r m k n e f is))

-- how an event came to be known
pub record Came {P : Type 0} (r : Rules P) (m k e : ℕ) (f : Fall P) : Type 0 where
  pub in_range : e < m
  pub before : key m f.cycle e < k
  pub unknown : known_at r m (key m f.cycle e) e ≡ None
  pub allowed : r.allowed (known_at r m (key m f.cycle e)) f.cycle e ≡ true
  pub what : f.what ≡ r.takes (known_at r m (key m f.cycle e)) f.cycle e
  pub after : known_at r m (suc (key m f.cycle e)) e ≡ Some f

chosen : {A : Type 0} (b : Bool) (x y z : A) → cond b x y ≡ z → ((b ≡ true) × (x ≡ z)) ⊎ ((b ≡ false) × (y ≡ z))
chosen true x y z e = inl (refl, e)
chosen false x y z e = inr (refl, e)

both_true : (a b : Bool) → (a && b) ≡ true → (a ≡ true) × (b ≡ true)
both_true true b h = (refl, h)
both_true false b h = cc

came_now : {P : Type 0} (r : Rules P) (m k e : ℕ) (f : Fall P) → 0 < m → known_at r m k e ≡ None → e ≡ k % m → r.allowed (known_at r m k) (k / m) e ≡ true
    → record { cycle = k / m; what = r.takes (known_at r m k) (k / m) e } ≡ f → known_at r m (suc k) e ≡ Some f → Came r m (suc k) e f
came_now {P} r m k e f pos was at allowed is then =
    let cycle : k / m ≡ f.cycle = ap (λ (x : Fall P). x.cycle) is in
    let here : key m f.cycle e ≡ k = ap (λ c. c * m + e) (sym cycle) ∙ ap (λ x. k / m * m + x) at ∙ div-add-mod' k m in
    record {
      in_range = omega (arith, at, pos);
      before = omega arith;
      unknown = subst (λ n. known_at r m n e ≡ None) (sym here) was;
      allowed = subst (λ n. r.allowed (known_at r m n) f.cycle e ≡ true) (sym here) (subst (λ c. r.allowed (known_at r m k) c e ≡ true) cycle allowed);
      what = subst (λ n. f.what ≡ r.takes (known_at r m n) f.cycle e) (sym here) (sym (ap (λ (x : Fall P). x.what) is) ∙ ap (λ c. r.takes (known_at r m k) c e) cycle);
      after = subst (λ n. known_at r m (suc n) e ≡ Some f) (sym here) then;
    }

later : {P : Type 0} (r : Rules P) (m k e : ℕ) (f : Fall P) → Came r m k e f → Came r m (suc k) e f
later r m k e f earlier = record { in_range = earlier.in_range; before = omega (arith, earlier.before); unknown = earlier.unknown; allowed = earlier.allowed; what = earlier.what; after = earlier.after }

came_next : {P : Type 0} (r : Rules P) (m k e : ℕ) (f : Fall P) → 0 < m → (known_at r m k e ≡ Some f → Came r m k e f) → known_at r m (suc k) e ≡ Some f
    → (o : Option (Fall P)) → known_at r m k e ≡ o → next r m (known_at r m k) k e o ≡ Some f → Came r m (suc k) e f
came_next r m k e f pos rec then (Some g) was now = later r m k e f (rec (was ∙ now))
came_next {P} r m k e f pos rec then None was now = elim (chosen (nat_eq e (k % m) && r.allowed (known_at r m k) (k / m) e) (Some (record { cycle = k / m; what = r.takes (known_at r m k) (k / m) e })) None (Some f) now) [
  | inl h ↦ (let tests : (nat_eq e (k % m) ≡ true) × (r.allowed (known_at r m k) (k / m) e ≡ true) = both_true _ _ h.0 in
      let at : e ≡ k % m = grind (arith, nat_tests, tests.0) in
      let is_f : record { cycle = k / m; what = r.takes (known_at r m k) (k / m) e } ≡ f = cc (h.1) in came_now r m k e f pos was at tests.1 is_f then)
  | inr h ↦ cc
]

pub came : {P : Type 0} (r : Rules P) (m k e : ℕ) (f : Fall P) → 0 < m → known_at r m k e ≡ Some f → Came r m k e f
came r m zero e f pos is = cc
came r m (suc k) e f pos is = came_next r m k e f pos (came r m k e f pos) is (known_at r m k e) refl is

second_false : (a b : Bool) → a ≡ true → (a && b) ≡ false → b ≡ false
second_false true b h k = k
second_false false b h k = cc

-- an event that is not known after its key was not allowed there
pub refused : {P : Type 0} (r : Rules P) (m c e : ℕ) → e < m → (o : Option (Fall P)) → next r m (known_at r m (key m c e)) (key m c e) e o ≡ None → r.allowed (known_at r m (key m c e)) c e ≡ false
refused r m c e in_m (Some g) now = cc
refused r m c e in_m None now =
    let test : Bool = nat_eq e (key m c e % m) && r.allowed (known_at r m (key m c e)) (key m c e / m) e in
    elim (chosen test (Some (record { cycle = key m c e / m; what = r.takes (known_at r m (key m c e)) (key m c e / m) e })) None None now) [
      | inl h ↦ cc
      | inr h ↦ (let at : nat_eq e (key m c e % m) ≡ true = rw (mod-mul-add c m e in_m) (grind (arith, nat_tests)) in
          subst (λ n. r.allowed (known_at r m (key m c e)) n e ≡ false) (div-mul-add c m e in_m) (second_false _ _ at h.0))
    ]

pub cases : {A : Type 0} (o : Option A) → (o ≡ None) ⊎ ((x : A) × (o ≡ Some x))
cases None = inl refl
cases (Some x) = inr (x, refl)

-- known at k, and so later
pub upward : {P : Type 0} (r : Rules P) (m k n e : ℕ) (f : Fall P) → k ≤ n → known_at r m k e ≡ Some f → known_at r m n e ≡ Some f
upward r m k n e f le is = let sum : k + (n - k) ≡ n = omega arith in subst (λ x. known_at r m x e ≡ Some f) sum (stays_known r m k (n - k) e f is)

pub not_both : {A : Type 0} (o : Option A) (x : A) → o ≡ None → o ≡ Some x → ⊥
not_both o x p q = cc

-- what is known at a key is what is seen there of the whole
seen_made_at : {P : Type 0} (r : Rules P) (m bound k e : ℕ) → 0 < m → k ≤ bound * m → seen m k (made r m bound) e ≡ known_at r m k e
seen_made_at {P} r m bound k e pos le = elim (cases (known_at r m k e)) [
  | inr x ↦ (let c : Came r m k e x.0 = came r m k e x.0 pos x.1 in
      let whole : made r m bound e ≡ Some x.0 = upward r m k (bound * m) e x.0 le x.1 in
      let yes : nat_lt e m ≡ true = grind (arith, nat_tests, c.in_range) in
      rw (yes, whole) (before_yes m k e x.0 c.before ∙ sym x.1))
  | inl none ↦ elim (cases (made r m bound e)) [
    | inl never ↦ rw never (if_none (nat_lt e m) ∙ sym none)
    | inr y ↦ (let c : Came r m (bound * m) e y.0 = came r m (bound * m) e y.0 pos y.1 in
        let late : key m (y.0).cycle e < k → ⊥ = λ lt. not_both (known_at r m k e) y.0 none (upward r m (suc (key m (y.0).cycle e)) k e y.0 (omega arith) c.after) in
        let unseen : if_before m k e (Some y.0) ≡ None = before_none m k e y.0 (grind (arith, late)) in
        rw y.1 (ap (λ o. cond (nat_lt e m) o None) unseen ∙ if_none (nat_lt e m) ∙ sym none))
  ]
]
  where
    if_none : (b : Bool) → ◌≡◌ {A = Option (Fall P)} (cond b None None) None
    if_none true = refl
    if_none false = refl

seen_made : {P : Type 0} (r : Rules P) (m bound k : ℕ) → 0 < m → k ≤ bound * m → seen m k (made r m bound) ≡ known_at r m k
seen_made r m bound k pos le = λ i e. seen_made_at r m bound k e pos le i

inside : (m bound c e : ℕ) → e < m → c < bound → suc (key m c e) ≤ bound * m
inside m bound c e in_m lt = omega (arith, mul-le-mul_right m (let le : suc c ≤ bound = omega arith in le))

-- what is made is a schedule
pub made_is : {P : Type 0} (r : Rules P) (m bound e : ℕ) → e < m → (o : Option (Fall P)) → made r m bound e ≡ o → IsFirst r m bound (made r m bound) e o
made_is r m bound e in_m None is = λ c lt.
    let none : known_at r m (suc (key m c e)) e ≡ None = elim (cases (known_at r m (suc (key m c e)) e)) [
      | inl n ↦ n
      | inr x ↦ absurd (not_both (made r m bound e) x.0 is (upward r m (suc (key m c e)) (bound * m) e x.0 (inside m bound c e in_m lt) x.1))
    ] in
    subst (λ s. r.allowed s c e ≡ false) (sym (seen_made r m bound (key m c e) (omega arith) (omega (arith, inside m bound c e in_m lt)))) (refused r m c e in_m (known_at r m (key m c e) e) none)
made_is {P} r m bound e in_m (Some f) is =
    let c : Came r m (bound * m) e f = came r m (bound * m) e f (omega arith) is in
    let same : (k : ℕ) → k ≤ bound * m → known_at r m k ≡ seen m k (made r m bound) = λ k le. sym (seen_made r m bound k (omega arith) le) in
    let past : bound ≤ f.cycle → ⊥ = λ le. omega (arith, c.before, mul-le-mul_right m le) in
    let within : f.cycle < bound = grind (arith, past) in
    let up : (b : ℕ) → b < f.cycle → suc (key m b e) ≤ key m f.cycle e = λ b lt. (let le : suc b ≤ f.cycle = omega arith in omega (arith, mul-le-mul_right m le)) in
    let none : (b : ℕ) → b < f.cycle → known_at r m (suc (key m b e)) e ≡ None = λ b lt. elim (cases (known_at r m (suc (key m b e)) e)) [
      | inl n ↦ n
      | inr x ↦ absurd (not_both (known_at r m (key m f.cycle e) e) x.0 c.unknown (upward r m (suc (key m b e)) (key m f.cycle e) e x.0 (up b lt) x.1))
    ] in
    record {
      within = within;
      least = record {
        holds = subst (λ s. r.allowed s f.cycle e ≡ true) (same (key m f.cycle e) (omega (arith, c.before))) c.allowed;
        below = λ b lt. subst (λ s. r.allowed s b e ≡ false) (same (key m b e) (omega (arith, up b lt, c.before))) (refused r m b e in_m (known_at r m (key m b e) e) (none b lt));
      };
      what = subst (λ s. f.what ≡ r.takes s f.cycle e) (same (key m f.cycle e) (omega (arith, c.before))) c.what;
    }

-- there is a schedule
pub schedule_exists : {P : Type 0} (r : Rules P) (m bound : ℕ) → IsSchedule r m bound (made r m bound)
schedule_exists r m bound e in_m = made_is r m bound e in_m (made r m bound e) refl

-- ---- it ends

-- a number that falls in each cycle but the last ends the run
pub falls_to_end : (left : ℕ → ℕ) (ended : ℕ → Bool) → ((c : ℕ) → ended c ≡ false → left (suc c) < left c) → (c : ℕ) → ((b : ℕ) → b < c → ended b ≡ false) → left c + c ≤ left 0
falls_to_end left ended fall zero h = omega arith
falls_to_end left ended fall (suc c) h = omega (arith, falls_to_end left ended fall c (λ b lt. h b (omega arith)), fall c (h c (omega arith)))

-- ---- quiet cycles

and_false : (a b : Bool) → (a ≡ true → b ≡ false) → (a && b) ≡ false
and_false true b h = h refl
and_false false b h = refl

next_quiet : {P : Type 0} (r : Rules P) (m : ℕ) (known : Known P) (k e : ℕ) (o : Option (Fall P)) → r.allowed known (k / m) (k % m) ≡ false → next r m known k e o ≡ o
next_quiet r m known k e (Some f) no_fall = refl
next_quiet {P} r m known k e None no_fall =
    let test : (nat_eq e (k % m) && r.allowed known (k / m) e) ≡ false = and_false _ _ (λ yes. (let at : e ≡ k % m = grind (arith, nat_tests, yes) in subst (λ n. r.allowed known (k / m) n ≡ false) (sym at) no_fall)) in
    ap (λ b. cond b (Some (record { cycle = k / m; what = r.takes known (k / m) e })) None) test

-- where nothing is allowed at the next n keys, nothing comes to be known there
pub quiet : {P : Type 0} (r : Rules P) (m k n : ℕ) → ((i : ℕ) → k ≤ i → i < k + n → r.allowed (known_at r m k) (i / m) (i % m) ≡ false) → known_at r m (k + n) ≡ known_at r m k
quiet r m k zero h = ap (known_at r m) (add-zero k)
quiet {P} r m k (suc n) h =
    let same : known_at r m (k + n) ≡ known_at r m k = quiet r m k n (λ i le lt. h i le (omega arith)) in
    let one : known_at r m (suc (k + n)) ≡ known_at r m (k + n) = λ i e. next_quiet r m (known_at r m (k + n)) (k + n) e (known_at r m (k + n) e) (subst (λ s. r.allowed s ((k + n) / m) ((k + n) % m) ≡ false) (sym same) (h (k + n) (omega arith) (omega arith))) i in
    let sum : k + suc n ≡ suc (k + n) = omega arith in
    ap (known_at r m) sum ∙ one ∙ same

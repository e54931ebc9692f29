-- Two schedules by the same rules are the same.
use Rattle.std.proofs.Common.{zero, suc, ◌≡◌, ℕ, ◌<◌, ◌≤◌, ◌⊎◌, inl, inr, arith, sym, ◌∙◌, ap, subst, refl, Some, None, nat_lt, true, false, Bool}
use Rattle.std.proofs.lemmas.Bool.Decides.{nat_tests}
use Rattle.std.proofs.Math.Nat.{mul-le-mul_right}
use Rattle.std.specs.declared.option.Option.{Option}
use Rattle.cycle_rules.specs.Schedule.{Fall, Known, key, if_before, seen, Rules, FallsFirst, IsFirst, IsSchedule}

pub fall_same : {P : Type 0} (f g : Fall P) → f.cycle ≡ g.cycle → f.what ≡ g.what → f ≡ g
fall_same f g c w = λ i. record { cycle = c i; what = w i }

pub before_yes : {P : Type 0} (m k e : ℕ) (f : Fall P) → key m f.cycle e < k → if_before m k e (Some f) ≡ Some f
before_yes m k e f lt = grind (arith, nat_tests)

pub before_none : {P : Type 0} (m k e : ℕ) (f : Fall P) → k ≤ key m f.cycle e → if_before m k e (Some f) ≡ None
before_none m k e f le = grind (arith, nat_tests)

lt_or_ge : (a b : ℕ) → (a < b) ⊎ (b ≤ a)
lt_or_ge a b = grind arith

-- an event falls before the key, or is not seen there
seen_or : {P : Type 0} (m k e : ℕ) (o : Option (Fall P)) → ((f : Fall P) × (o ≡ Some f) × (key m f.cycle e < k)) ⊎ (if_before m k e o ≡ None)
seen_or m k e None = inr refl
seen_or m k e (Some f) = elim (lt_or_ge (key m f.cycle e) k) [ inl lt ↦ inl (f, refl, lt) | inr le ↦ inr (before_none m k e f le) ]

before_same : {P : Type 0} (m k e : ℕ) (a b : Option (Fall P)) → ((f : Fall P) → key m f.cycle e < k → a ≡ Some f → b ≡ Some f) → ((f : Fall P) → key m f.cycle e < k → b ≡ Some f → a ≡ Some f)
    → if_before m k e a ≡ if_before m k e b
before_same m k e a b p q = elim (seen_or m k e a) [
  | inl x ↦ ap (if_before m k e) (x.1 ∙ sym (p x.0 x.2 x.1))
  | inr none_a ↦ elim (seen_or m k e b) [ inl y ↦ ap (if_before m k e) (q y.0 y.2 y.1 ∙ sym y.1) | inr none_b ↦ none_a ∙ sym none_b ]
]

-- what falls before a key in v falls so in w
abbrev Leads : {P : Type 0} → ℕ → ℕ → Known P → Known P → Type 0
Leads {P} m k v w = (e : ℕ) (f : Fall P) → e < m → key m f.cycle e < k → v e ≡ Some f → w e ≡ Some f

seen_at_same : {P : Type 0} (m k e : ℕ) (v w : Known P) → Leads m k v w → Leads m k w v → seen m k v e ≡ seen m k w e
seen_at_same {P} m k e v w p q =
    elim (lt_or_ge e m) [
      | inl lt ↦ (let same : if_before m k e (v e) ≡ if_before m k e (w e) = before_same m k e (v e) (w e) (λ f. p e f lt) (λ f. q e f lt) in
          let yes : nat_lt e m ≡ true = grind (arith, nat_tests) in rw yes same)
      | inr le ↦ (let outside : nat_lt e m ≡ false = grind (arith, nat_tests) in rw outside refl)
    ]

seen_same : {P : Type 0} (m k : ℕ) (v w : Known P) → Leads m k v w → Leads m k w v → seen m k v ≡ seen m k w
seen_same m k v w p q = λ i e. seen_at_same m k e v w p q i

apart : (b : Bool) → b ≡ true → b ≡ false → ⊥
apart b t f = cc

-- what falls first in v falls so in w, where both see the same
next_same : {P : Type 0} (r : Rules P) (m bound : ℕ) (v w : Known P) (e : ℕ) (f : Fall P) → ((b : ℕ) → b ≤ f.cycle → seen m (key m b e) v ≡ seen m (key m b e) w)
    → FallsFirst r m bound v e f → (o : Option (Fall P)) → IsFirst r m bound w e o → o ≡ Some f
next_same r m bound v w e f same mine None theirs =
    absurd (apart _ (subst (λ s. r.allowed s f.cycle e ≡ true) (same f.cycle (omega arith)) mine.least.holds) (theirs f.cycle mine.within))
next_same r m bound v w e f same mine (Some g) theirs =
    let low : g.cycle < f.cycle → ⊥ = λ lt. apart _ theirs.least.holds (subst (λ s. r.allowed s g.cycle e ≡ false) (same g.cycle (omega arith)) (mine.least.below g.cycle lt)) in
    let high : f.cycle < g.cycle → ⊥ = λ lt. apart _ (subst (λ s. r.allowed s f.cycle e ≡ true) (same f.cycle (omega arith)) mine.least.holds) (theirs.least.below f.cycle lt) in
    let cycle : g.cycle ≡ f.cycle = grind (arith, low, high) in
    let what : g.what ≡ f.what = theirs.what ∙ ap (λ c. r.takes (seen m (key m c e) w) c e) cycle ∙ sym (mine.what ∙ ap (λ s. r.takes s f.cycle e) (same f.cycle (omega arith))) in
    ap Some (fall_same g f cycle what)

leads : {P : Type 0} (r : Rules P) (m bound : ℕ) (v w : Known P) → IsSchedule r m bound v → IsSchedule r m bound w → (k : ℕ) → Leads m k v w × Leads m k w v
leads r m bound v w p q zero = (λ e f in_m lt is. absurd (omega arith), λ e f in_m lt is. absurd (omega arith))
leads {P} r m bound v w p q (suc k) =
    let before : Leads m k v w × Leads m k w v = leads r m bound v w p q k in
    let earlier : (e b c : ℕ) → key m c e < suc k → b ≤ c → key m b e ≤ k = λ e b c lt le. omega (arith, mul-le-mul_right m le) in
    let same : (e c : ℕ) → key m c e < suc k → (b : ℕ) → b ≤ c → seen m (key m b e) v ≡ seen m (key m b e) w = λ e c lt b le.
    seen_same m (key m b e) v w (λ e' f in_m lt'. before.0 e' f in_m (omega (arith, earlier e b c lt le, lt'))) (λ e' f in_m lt'. before.1 e' f in_m (omega (arith, earlier e b c lt le, lt'))) in (
      λ e f in_m lt is. next_same r m bound v w e f (same e f.cycle lt) (subst (IsFirst r m bound v e) is (p e in_m)) (w e) (q e in_m),
      λ e f in_m lt is. next_same r m bound w v e f (λ b le. sym (same e f.cycle lt b le)) (subst (IsFirst r m bound w e) is (q e in_m)) (v e) (p e in_m),
    )

same_option : {A : Type 0} (a b : Option A) → ((x : A) → a ≡ Some x → b ≡ Some x) → ((x : A) → b ≡ Some x → a ≡ Some x) → a ≡ b
same_option None None p q = refl
same_option None (Some y) p q = q y refl
same_option (Some x) b p q = sym (p x refl)

-- at most one schedule
pub schedule_unique : {P : Type 0} (r : Rules P) (m bound : ℕ) (v w : Known P) → IsSchedule r m bound v → IsSchedule r m bound w → (e : ℕ) → e < m → v e ≡ w e
schedule_unique {P} r m bound v w p q e in_m = same_option (v e) (w e)
    (λ f is. (leads r m bound v w p q (suc (key m f.cycle e))).0 e f in_m (omega arith) is)
    (λ f is. (leads r m bound v w p q (suc (key m f.cycle e))).1 e f in_m (omega arith) is)

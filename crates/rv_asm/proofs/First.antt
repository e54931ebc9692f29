use Rattle.std.proofs.Common.{◌≡◌, ◌<◌, ◌≤◌, ◌⊎◌, inl, inr, List, [], ◌∷◌, ◌++◌, None, Some, sym, ◌∙◌, ap, refl, subst, arith, nat_lt, true, false}
use Rattle.std.proofs.lemmas.Bool.Decides.{nat_tests}
use Rattle.std.specs.List.{AllByRecursion}
use Rattle.std.specs.declared.option.Option.{Option}
use Rattle.rv_asm.specs.declared.fault.Fault.{Fault}
use Rattle.rv_asm.specs.Faults.{key, earlier, least, IsFirst}
use Rattle.rv_asm.proofs.Cut.{decided}

pub earlier_none : (a : Option Fault) → earlier a None ≡ a
earlier_none None = refl
earlier_none (Some a) = refl

pub keeps : (a b : Fault) → key a ≤ key b → earlier (Some a) (Some b) ≡ Some a
keeps a b le = let test : nat_lt (key b) (key a) ≡ false = grind (arith, nat_tests, le) in rw test refl

pub gives : (a b : Fault) → key b < key a → earlier (Some a) (Some b) ≡ Some b
gives a b lt = let test : nat_lt (key b) (key a) ≡ true = grind (arith, nat_tests, lt) in rw test refl

order : (a b : Fault) → (key b < key a) ⊎ (key a ≤ key b)
order a b = elim (decided (nat_lt (key b) (key a))) [ inl h ↦ inl (grind (arith, nat_tests, h)) | inr h ↦ inr (grind (arith, nat_tests, h)) ]

pub earlier_assoc : (a b c : Option Fault) → earlier a (earlier b c) ≡ earlier (earlier a b) c
earlier_assoc None b c = refl
earlier_assoc (Some a) None c = refl
earlier_assoc (Some a) (Some b) None = sym (earlier_none (earlier (Some a) (Some b)))
earlier_assoc (Some a) (Some b) (Some c) = elim (order a b) [
  | inl ba ↦ elim (order b c) [
    | inl cb ↦ ap (earlier (Some a)) (gives b c cb) ∙ gives a c (omega (arith, ba, cb)) ∙ sym (ap (λ o. earlier o (Some c)) (gives a b ba) ∙ gives b c cb)
    | inr bc ↦ ap (earlier (Some a)) (keeps b c bc) ∙ gives a b ba ∙ sym (ap (λ o. earlier o (Some c)) (gives a b ba) ∙ keeps b c bc)
  ]
  | inr ab ↦ elim (order b c) [
    | inl cb ↦ ap (earlier (Some a)) (gives b c cb) ∙ sym (ap (λ o. earlier o (Some c)) (keeps a b ab))
    | inr bc ↦ ap (earlier (Some a)) (keeps b c bc) ∙ keeps a b ab ∙ sym (ap (λ o. earlier o (Some c)) (keeps a b ab) ∙ keeps a c (omega (arith, ab, bc)))
  ]
]

pub least_append : (a b : List Fault) → least (a ++ b) ≡ earlier (least a) (least b)
least_append [] b = refl
least_append (f ∷ fs) b = ap (earlier (Some f)) (least_append fs b) ∙ earlier_assoc (Some f) (least fs) (least b)

some_some : (f : Fault) (o : Option Fault) → earlier (Some f) o ≡ None → ⊥
some_some f None e = cc
some_some f (Some g) e = elim (order f g) [ inl h ↦ (let is : Some g ≡ None = sym (gives f g h) ∙ e in cc) | inr h ↦ (let is : Some f ≡ None = sym (keeps f g h) ∙ e in cc) ]

-- where the fold has none, there is none
pub least_none : (fs : List Fault) → least fs ≡ None → fs ≡ []
least_none [] e = refl
least_none (f ∷ fs) e = absurd (some_some f (least fs) e)

all_append : (P : Fault → Type 0) (a b : List Fault) → AllByRecursion P a → AllByRecursion P b → AllByRecursion P (a ++ b)
all_append P [] b pa pb = pb
all_append P (x ∷ xs) b pa pb = (pa.0, all_append P xs b pa.1 pb)

all_more : (P Q : Fault → Type 0) → ((f : Fault) → P f → Q f) → (a : List Fault) → AllByRecursion P a → AllByRecursion Q a
all_more P Q h [] pa = tt
all_more P Q h (x ∷ xs) pa = (h x pa.0, all_more P Q h xs pa.1)

all_above : (x f : Fault) (fs : List Fault) → key x ≤ key f → IsFirst fs f → AllByRecursion (λ g. key x ≤ key g) fs
all_above x f fs le is = subst (AllByRecursion (λ g. key x ≤ key g)) (sym is.among)
    (all_append (λ g. key x ≤ key g) is.before (f ∷ is.after) (all_more _ _ (λ g h. omega (arith, le, h)) is.before is.below_before)
    (le, all_more _ _ (λ g h. omega (arith, le, h)) is.after is.below_after))

first_cons : (x f : Fault) (fs : List Fault) (o : Option Fault) → least fs ≡ o → ((g : Fault) → least fs ≡ Some g → IsFirst fs g) → earlier (Some x) o ≡ Some f → IsFirst (x ∷ fs) f
first_cons x f fs None none more e =
    let same : x ≡ f = cc in
    subst (IsFirst (x ∷ fs)) same (record { before = []; after = fs; among = refl; below_before = tt; below_after = subst (AllByRecursion (λ g. key x ≤ key g)) (sym (least_none fs none)) tt })
first_cons x f fs (Some g) some more e = elim (order x g) [
  | inl lt ↦ (let is : IsFirst fs g = more g some in
      let same : g ≡ f = (let e2 : Some g ≡ Some f = sym (gives x g lt) ∙ e in cc) in
      subst (IsFirst (x ∷ fs)) same (record { before = x ∷ is.before; after = is.after; among = ap (λ t. x ∷ t) is.among; below_before = (lt, is.below_before); below_after = is.below_after }))
  | inr le ↦ (let same : x ≡ f = (let e2 : Some x ≡ Some f = sym (keeps x g le) ∙ e in cc) in
      subst (IsFirst (x ∷ fs)) same (record { before = []; after = fs; among = refl; below_before = tt; below_after = all_above x g fs le (more g some) }))
]

-- what the fold gives is the first
pub least_some : (fs : List Fault) (f : Fault) → least fs ≡ Some f → IsFirst fs f
least_some [] f e = cc
least_some (x ∷ xs) f e = first_cons x f xs (least xs) refl (least_some xs) e

among_after : (a b : List Fault) (f : Fault) (P : Fault → Type 0) → AllByRecursion P (a ++ f ∷ b) → P f
among_after [] b f P all = all.0
among_after (x ∷ xs) b f P all = among_after xs b f P all.1

-- a list has one first
same_place : (a b x y : List Fault) (f g : Fault) → a ++ f ∷ x ≡ b ++ g ∷ y → AllByRecursion (λ h. key f < key h) a → AllByRecursion (λ h. key g < key h) b
    → AllByRecursion (λ h. key f ≤ key h) x → AllByRecursion (λ h. key g ≤ key h) y → f ≡ g
same_place [] [] x y f g e fa gb fx gy = cc
same_place [] (h ∷ hs) x y f g e fa gb fx gy =
    let head : f ≡ h = cc in
    let tail : x ≡ hs ++ g ∷ y = cc in
    let low : key f ≤ key g = among_after hs y g (λ k. key f ≤ key k) (subst (AllByRecursion (λ k. key f ≤ key k)) tail fx) in
    let high : key g < key f = subst (λ k. key g < key k) (sym head) gb.0 in
    absurd (omega (arith, low, high))
same_place (h ∷ hs) [] x y f g e fa gb fx gy =
    let head : h ≡ g = cc in
    let tail : hs ++ f ∷ x ≡ y = cc in
    let low : key g ≤ key f = among_after hs x f (λ k. key g ≤ key k) (subst (AllByRecursion (λ k. key g ≤ key k)) (sym tail) gy) in
    let high : key f < key g = subst (λ k. key f < key k) head fa.0 in
    absurd (omega (arith, low, high))
same_place (h ∷ hs) (k ∷ ks) x y f g e fa gb fx gy =
    let tail : hs ++ f ∷ x ≡ ks ++ g ∷ y = cc in
    same_place hs ks x y f g tail fa.1 gb.1 fx gy

pub first_unique : (all : List Fault) (f g : Fault) → IsFirst all f → IsFirst all g → f ≡ g
first_unique all f g a b = same_place a.before b.before a.after b.after f g (sym a.among ∙ b.among) a.below_before b.below_before a.below_after b.below_after

-- What stands in the list of the entries of a kind stands among the entries, behind as many of the kind as its number says.
use Rattle.std.proofs.Common.{◌≡◌, ℕ, ◌+◌, zero, suc, List, [], ◌∷◌, None, Some, refl, ap, ◌∙◌, length, ◌≤◌, arith}
use Rattle.std.specs.Prelude.{Option, take, slice_get, sum_by}
use Rattle.std.specs.List.{filter_map, cons_option}
use Rattle.std.proofs.lemmas.List.Sums.{sum_by-cons}

pub record IsFrom {A B : Type 0} (f : A → Option B) (xs : List A) (k : ℕ) (b : B) (i : ℕ) (a : A) : Type 0 where
  pub at : slice_get xs i ≡ Some a
  pub gives : f a ≡ Some b
  pub before : filter_map f (take i xs) ≡ take k (filter_map f xs)

abbrev pub Origin : {A B : Type 0} → (A → Option B) → List A → ℕ → B → Type 0
Origin {A = A} f xs k b = (i : ℕ) × (a : A) × IsFrom f xs k b i a

later_none : {A B : Type 0} (f : A → Option B) (x : A) (xs : List A) (b : B) (k : ℕ) → f x ≡ None → Origin f xs k b → Origin f (x ∷ xs) k b
later_none f x xs b k e (i, a, r) = (suc i, a, record { at = r.at; gives = r.gives; before = rw e r.before })

later_some : {A B : Type 0} (f : A → Option B) (x : A) (xs : List A) (b y : B) (k : ℕ) → f x ≡ Some y → Origin f xs k b → Origin f (x ∷ xs) (suc k) b
later_some f x xs b y k e (i, a, r) = (suc i, a, record { at = r.at; gives = r.gives; before = rw e (ap (λ ys. y ∷ ys) r.before) })

from_if : {A B : Type 0} (f : A → Option B) (x : A) (xs : List A) (b : B) → ((k : ℕ) → slice_get (filter_map f xs) k ≡ Some b → Origin f xs k b)
    → (o : Option B) → f x ≡ o → (k : ℕ) → slice_get (cons_option o (filter_map f xs)) k ≡ Some b → Origin f (x ∷ xs) k b
from_if f x xs b rest None e k h = later_none f x xs b k e (rest k h)
from_if f x xs b rest (Some y) e zero h = (0, x, record { at = refl; gives = e ∙ h; before = refl })
from_if f x xs b rest (Some y) e (suc k) h = later_some f x xs b y k e (rest k h)

pub from_list : {A B : Type 0} (f : A → Option B) (xs : List A) (b : B) (k : ℕ) → slice_get (filter_map f xs) k ≡ Some b → Origin f xs k b
from_list f [] b k h = absurd cc
from_list f (x ∷ xs) b k h = from_if f x xs b (from_list f xs b) (f x) refl k h

-- a sum over the entries is one over those of a kind, where no other counts
sum_kind_if : {A B : Type 0} (f : A → Option B) (g : A → ℕ) (h : B → ℕ) → ((a : A) → f a ≡ None → g a ≡ 0) → ((a : A) (b : B) → f a ≡ Some b → g a ≡ h b)
    → (x : A) (xs : List A) → sum_by g xs ≡ sum_by h (filter_map f xs) → (o : Option B) → f x ≡ o → sum_by g (x ∷ xs) ≡ sum_by h (cons_option o (filter_map f xs))
sum_kind_if f g h no_one one x xs rest None e = omega (arith, sum_by-cons g x xs, rest, no_one x e)
sum_kind_if f g h no_one one x xs rest (Some b) e = omega (arith, sum_by-cons g x xs, rest, one x b e, sum_by-cons h b (filter_map f xs))

pub sum_kind : {A B : Type 0} (f : A → Option B) (g : A → ℕ) (h : B → ℕ) → ((a : A) → f a ≡ None → g a ≡ 0) → ((a : A) (b : B) → f a ≡ Some b → g a ≡ h b)
    → (xs : List A) → sum_by g xs ≡ sum_by h (filter_map f xs)
sum_kind f g h no_one one [] = refl
sum_kind f g h no_one one (x ∷ xs) = sum_kind_if f g h no_one one x xs (sum_kind f g h no_one one xs) (f x) refl

pub sum_ones : {B : Type 0} (ys : List B) → sum_by (λ _. 1) ys ≡ length ys
sum_ones [] = refl
sum_ones (y ∷ ys) = omega (arith, sum_by-cons (λ _. 1) y ys, sum_ones ys)

length_if : {B : Type 0} (o : Option B) (ys : List B) (n : ℕ) → length ys ≤ n → length (cons_option o ys) ≤ n + 1
length_if None ys n h = omega (arith, h)
length_if (Some b) ys n h = omega (arith, h)

pub length_kind : {A B : Type 0} (f : A → Option B) (xs : List A) → length (filter_map f xs) ≤ length xs
length_kind f [] = omega arith
length_kind f (x ∷ xs) = omega (arith, length_if (f x) (filter_map f xs) (length xs) (length_kind f xs))

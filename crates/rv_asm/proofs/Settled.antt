-- a byte that stands in no label and before no `=` settles what a statement is
use Rattle.std.proofs.Common.{◌≡◌, ◌⊎◌, ℕ, subst, inl, inr, None, Some, List, [], ◌∷◌, ◌++◌, false, true, Bool, refl, sym, ap, ◌∙◌, arith, append_assoc, nat_eq}
use Rattle.std.specs.Prelude.{◌&&◌, ◌||◌, is_none}
use Rattle.std.proofs.lemmas.Bool.Decides.{nat_tests}
use Rattle.std.proofs.lemmas.List.{append-nil}
use Rattle.rv_asm.specs.declared.class.ByteClass.{ByteClass}
use Rattle.rv_asm.specs.declared.class.ByteClass.TheVariants as class
use Rattle.rv_asm.specs.Statement.{is_in, skip, begins_in, begins_with, is_empty, is_label_word, is_label, is_assignment, is_directive, is_skipped, more, IsSettled}
use Rattle.std.specs.declared.option.Option.{Option}
use Rattle.rv_asm.proofs.Cut.{decided}

pub record Stops (x : ℕ) : Type 0 where
  pub blank : is_in class.Blank x ≡ false
  pub digit : is_in class.Digit x ≡ false
  pub start : is_in class.Start x ≡ false
  pub symbol : is_in class.Symbol x ≡ false
  pub equals : nat_eq x 61 ≡ false
  pub dot : nat_eq x 46 ≡ false

pub colon_stops : Stops 58
colon_stops = record { blank = refl; digit = refl; start = refl; symbol = refl; equals = refl; dot = refl }

pub quote_stops : Stops 34
quote_stops = record { blank = refl; digit = refl; start = refl; symbol = refl; equals = refl; dot = refl }

skip_append : (c : ByteClass) (front rest : List ℕ) (x : ℕ) → is_in c x ≡ false → skip c (front ++ x ∷ rest) ≡ skip c front ++ x ∷ rest
skip_append c [] rest x none = rw none refl
skip_append c (b ∷ bs) rest x none = elim (decided (is_in c b)) [ inl h ↦ rw h (skip_append c bs rest x none) | inr h ↦ rw h refl ]

in_append : (c : ByteClass) (front rest : List ℕ) (x : ℕ) → is_in c x ≡ false → begins_in c (front ++ x ∷ rest) ≡ begins_in c front
in_append c [] rest x none = none
in_append c (b ∷ bs) rest x none = refl

with_append : (a : ℕ) (front rest : List ℕ) (x : ℕ) → nat_eq x a ≡ false → begins_with a (front ++ x ∷ rest) ≡ begins_with a front
with_append a [] rest x none = none
with_append a (b ∷ bs) rest x none = refl

not_empty : (front rest : List ℕ) (x : ℕ) → is_empty (front ++ x ∷ rest) ≡ false
not_empty [] rest x = grind (arith, nat_tests)
not_empty (b ∷ bs) rest x = grind (arith, nat_tests)

-- two skips, and the byte still stands there
twice : (c d : ByteClass) (front rest : List ℕ) (x : ℕ) → is_in c x ≡ false → is_in d x ≡ false → skip d (skip c (front ++ x ∷ rest)) ≡ skip d (skip c front) ++ x ∷ rest
twice c d front rest x hc hd = ap (skip d) (skip_append c front rest x hc) ∙ skip_append d (skip c front) rest x hd

never : (a b : Bool) → (a && false) || (b && false) ≡ false
never true true = refl
never true false = refl
never false true = refl
never false false = refl

word_never : (word rest : List ℕ) (x : ℕ) → Stops x → is_label_word (word ++ x ∷ rest) ≡ false
word_never word rest x s =
    let one : is_empty (skip class.Blank (skip class.Symbol (word ++ x ∷ rest))) ≡ false = ap is_empty (twice class.Symbol class.Blank word rest x s.symbol s.blank) ∙ not_empty (skip class.Blank (skip class.Symbol word)) rest x in
    let two : is_empty (skip class.Blank (skip class.Digit (word ++ x ∷ rest))) ≡ false = ap is_empty (twice class.Digit class.Blank word rest x s.digit s.blank) ∙ not_empty (skip class.Blank (skip class.Digit word)) rest x in
    (λ i. (begins_in class.Start (word ++ x ∷ rest) && one i) || (begins_in class.Digit (word ++ x ∷ rest) && two i)) ∙ never (begins_in class.Start (word ++ x ∷ rest)) (begins_in class.Digit (word ++ x ∷ rest))

label_never : (text rest : List ℕ) (x : ℕ) → Stops x → is_label (text ++ x ∷ rest) ≡ false
label_never text rest x s = ap is_label_word (skip_append class.Blank text rest x s.blank) ∙ word_never (skip class.Blank text) rest x s

word_same : (word rest : List ℕ) (x : ℕ) → Stops x → is_assignment (word ++ x ∷ rest) || is_directive (word ++ x ∷ rest) ≡ is_assignment word || is_directive word
word_same word rest x s =
    let start : begins_in class.Start (word ++ x ∷ rest) ≡ begins_in class.Start word = in_append class.Start word rest x s.start in
    let equals : begins_with 61 (skip class.Blank (skip class.Symbol (word ++ x ∷ rest))) ≡ begins_with 61 (skip class.Blank (skip class.Symbol word)) =
    ap (begins_with 61) (twice class.Symbol class.Blank word rest x s.symbol s.blank) ∙ with_append 61 (skip class.Blank (skip class.Symbol word)) rest x s.equals in
    let dot : begins_with 46 (word ++ x ∷ rest) ≡ begins_with 46 word = with_append 46 word rest x s.dot in
    λ i. (start i && equals i) || dot i

skipped_same : (text rest : List ℕ) (x : ℕ) → Stops x → is_skipped (text ++ x ∷ rest) ≡ is_skipped text
skipped_same text rest x s = ap (λ w. is_assignment w || is_directive w) (skip_append class.Blank text rest x s.blank) ∙ word_same (skip class.Blank text) rest x s

-- behind such a byte no colon ends a label, and the statement is skipped or not, whatever follows
pub settles : (text : List ℕ) (x : ℕ) (skipped : Bool) → Stops x → skipped ≡ is_skipped text → (rest : List ℕ) → (is_label ((text ++ x ∷ []) ++ rest) ≡ false) × (is_skipped ((text ++ x ∷ []) ++ rest) ≡ skipped)
settles text x skipped s e rest =
    let same : (text ++ x ∷ []) ++ rest ≡ text ++ x ∷ rest = append_assoc text (x ∷ []) rest in
    (ap is_label same ∙ label_never text rest x s, ap is_skipped same ∙ skipped_same text rest x s ∙ sym e)

pub stop_of : (b : ℕ) → (b ≡ 58) ⊎ (b ≡ 34) → Stops b
stop_of b (inl e) = subst Stops (sym e) colon_stops
stop_of b (inr e) = subst Stops (sym e) quote_stops

-- where it is settled, no byte ends a label
pub settled_more : (settled : Option Bool) (text : List ℕ) (b : ℕ) → IsSettled settled text → is_none settled ≡ false → more text b ≡ text ++ b ∷ []
settled_more None text b s h = absurd cc
settled_more (Some skipped) text b s h =
    let none : is_label text ≡ false = ap is_label (sym (append-nil text)) ∙ (s []).0 in
    elim (decided (nat_eq b 58)) [ inl g ↦ rw (g, none) refl | inr g ↦ rw g refl ]

pub other_more : (text : List ℕ) (b : ℕ) → nat_eq b 58 ≡ false → more text b ≡ text ++ b ∷ []
other_more text b h = rw h refl

pub settled_skips : (settled : Option Bool) (skipped : Bool) (text : List ℕ) → IsSettled settled text → settled ≡ Some skipped → skipped ≡ is_skipped text
settled_skips settled skipped text s e =
    let there : IsSettled (Some skipped) text = subst (λ o. IsSettled o text) e s in
    sym (there []).1 ∙ ap is_skipped (append-nil text)

-- a mnemonic and the operands behind it are read as they are spelled
use Rattle.std.proofs.Common.{zero, suc, ◌≡◌, ℕ, ◌+◌, ◌-◌, ◌<◌, inl, inr, List, [], ◌∷◌, ◌++◌, length, take, drop, get_or, Some, Ok, sym, ◌∙◌, ap, refl, subst, arith, nat_eq, true, false, Bool}
use Rattle.std.specs.Prelude.{◌&&◌, map, not, reverse, codes}
use Rattle.std.specs.List.{AllByRecursion, list_all, starts_with}
use Rattle.std.proofs.lemmas.Bool.Decides.{nat_tests}
use Rattle.std.proofs.lemmas.Grind.{common_steps}
use Rattle.std.proofs.lemmas.List.{append-nil}
use Rattle.std.proofs.lemmas.List.Folds.{length-prefix_len}
use Rattle.std.proofs.lemmas.List.Sums.{suffix_len_is}
use Rattle.std.proofs.Math.Seq.{take-append_seam, drop-append_seam}
use Rattle.rv_isa.specs.Spelling.{behind as behind_each}
use Rattle.rv_asm.specs.declared.class.ByteClass.TheVariants as class
use Rattle.rv_asm.specs.Statement.{is_in, skip, trailing, begins_in, begins_with, is_empty, is_assignment}
use Rattle.rv_asm.specs.Operands.{with_front, separates_at, depth_after, between_commas, front_of, trimmed, operands_in}
use Rattle.rv_asm.specs.Forms.{Fit, map_ok}
use Rattle.rv_asm.specs.Meaning.{blank_from, first_word, behind_word, fit_in, instruction_in, meaning_at, meaning}
use Rattle.rv_asm.proofs.Cut.{decided}
use Rattle.rv_asm.proofs.OneLine.{tame}

-- ---- the text of an operand

abbrev pub depth_over : ℕ → List ℕ → ℕ
depth_over depth [] = depth
depth_over depth (b ∷ bs) = depth_over (depth_after depth b) bs

-- its bytes are those of operands, and it closes the parentheses that it opens
pub record IsOperand (text : List ℕ) : Type 0 where
  pub all : AllByRecursion (λ b. tame b ≡ true) text
  pub keeps : (depth : ℕ) → depth_over depth text ≡ depth
  pub first : ℕ
  pub rest : List ℕ
  pub whole : text ≡ first ∷ rest

pub not_tame : (b x : ℕ) → tame b ≡ true → tame x ≡ false → nat_eq b x ≡ false
not_tame b x h g = elim (decided (nat_eq b x)) as (λ _. nat_eq b x ≡ false) [
  | inl e ↦ (let same : b ≡ x = grind (arith, nat_tests, e) in let no : true ≡ false = sym h ∙ ap tame same ∙ g in absurd cc)
  | inr e ↦ e
]

not_blank : (b : ℕ) → tame b ≡ true → is_in class.Blank b ≡ false
not_blank b h = rw (not_tame b 32 h refl, not_tame b 9 h refl) refl

no_comma : (depth b : ℕ) → tame b ≡ true → separates_at depth b ≡ false
no_comma depth b h = rw (not_tame b 44 h refl) refl

between_last : (depth : ℕ) (text : List ℕ) → AllByRecursion (λ b. tame b ≡ true) text → between_commas depth text ≡ text ∷ []
between_last depth [] all = refl
between_last depth (b ∷ bs) all = rw (no_comma depth b all.0) (ap (with_front (b ∷ [])) (between_last (depth_after depth b) bs all.1))

between_more : (depth : ℕ) (text more : List ℕ) → AllByRecursion (λ b. tame b ≡ true) text → depth_over depth text ≡ 0 → between_commas depth (text ++ 44 ∷ more) ≡ text ∷ between_commas 0 more
between_more depth [] more all e = let none : nat_eq depth 0 ≡ true = grind (arith, nat_tests, e) in rw none refl
between_more depth (b ∷ bs) more all e = rw (no_comma depth b all.0) (ap (with_front (b ∷ [])) (between_more (depth_after depth b) bs more all.1 e))

-- operands stand behind a space each, and a comma between each two
between_all : (t : List ℕ) (ts : List (List ℕ)) → IsOperand t → AllByRecursion IsOperand ts → between_commas 0 (32 ∷ t ++ behind_each (codes ", ") ts) ≡ map (λ u. 32 ∷ u) (t ∷ ts)
between_all t [] is all = ap (with_front (32 ∷ [])) (ap (between_commas 0) (append-nil t) ∙ between_last 0 t is.all)
between_all t (u ∷ us) is all =
    let whole : t ++ behind_each (codes ", ") (u ∷ us) ≡ t ++ 44 ∷ (32 ∷ u ++ behind_each (codes ", ") us) = refl in
    ap (with_front (32 ∷ [])) (ap (between_commas 0) whole ∙ between_more 0 t (32 ∷ u ++ behind_each (codes ", ") us) is.all (is.keeps 0)) ∙ ap (λ r. (32 ∷ t) ∷ r) (between_all u us all.0 all.1)

-- ---- without the blanks

all_at : (P : ℕ → Type 0) (text : List ℕ) (k : ℕ) → AllByRecursion P text → k < length text → P (get_or text k 0)
all_at P [] k all lt = absurd (omega (arith, lt))
all_at P (b ∷ bs) zero all lt = all.0
all_at P (b ∷ bs) (suc k) all lt = all_at P bs k all.1 (omega (arith, lt))

no_trailing : (text : List ℕ) → AllByRecursion (λ b. tame b ≡ true) text → trailing class.Blank text ≡ 0
no_trailing text all =
    length-prefix_len (is_in class.Blank) (reverse text)
    ∙ suffix_len_is (is_in class.Blank) text (length text) 0 (omega arith) (λ k low high. absurd (omega (arith, low, high)))
    (λ some. not_blank (get_or text (length text - 1) 0) (all_at (λ b. tame b ≡ true) text (length text - 1) all (omega (arith, some))))
    ∙ omega arith

no_leading : (text : List ℕ) → IsOperand text → skip class.Blank text ≡ text
no_leading text is =
    let test : tame is.first ≡ true = (subst (AllByRecursion (λ b. tame b ≡ true)) is.whole is.all).0 in
    ap (skip class.Blank) is.whole ∙ (rw (not_blank is.first test) refl) ∙ sym is.whole

take_whole : (text : List ℕ) → take (length text - 0) text ≡ text
take_whole text = grind (arith, common_steps)

trimmed_is : (text : List ℕ) → IsOperand text → trimmed (32 ∷ text) ≡ text
trimmed_is text is = ap front_of (no_leading text is) ∙ ap (λ n. take (length text - n) text) (no_trailing text is.all) ∙ take_whole text

all_trimmed : (ts : List (List ℕ)) → AllByRecursion IsOperand ts → map trimmed (map (λ u. 32 ∷ u) ts) ≡ ts
all_trimmed [] all = refl
all_trimmed (t ∷ ts) all = λ i. trimmed_is t all.0 i ∷ all_trimmed ts all.1 i

not_empty : (t more : List ℕ) → IsOperand t → is_empty (skip class.Blank (32 ∷ t ++ more)) ≡ false
not_empty t more is =
    let test : tame is.first ≡ true = (subst (AllByRecursion (λ b. tame b ≡ true)) is.whole is.all).0 in
    ap (λ u. is_empty (skip class.Blank (u ++ more))) is.whole ∙ (rw (not_blank is.first test) (grind (arith, nat_tests)))

pub operands_are : (ts : List (List ℕ)) → AllByRecursion IsOperand ts → operands_in (behind_each (codes " ") ts) ≡ ts
operands_are [] all = refl
operands_are (t ∷ ts) all =
    rw (not_empty t (behind_each (codes ", ") ts) all.0) (ap (map trimmed) (between_all t ts all.0 all.1) ∙ all_trimmed (t ∷ ts) all)

-- ---- the mnemonic

-- its bytes are those of symbols, and it is no directive
pub record IsMnemonic (text : List ℕ) : Type 0 where
  pub symbols : list_all (λ b. is_in class.Symbol b && not (is_in class.Blank b)) text ≡ true
  pub some : is_empty text ≡ false
  pub no_dot : begins_with 46 text ≡ false

-- what may stand behind a mnemonic: nothing, or a blank and an operand
pub record Stops (rest : List ℕ) : Type 0 where
  pub symbol : skip class.Symbol rest ≡ rest
  pub blank : blank_from 0 rest ≡ 0
  pub equals : begins_with 61 (skip class.Blank rest) ≡ false

both : (a b : Bool) → a && b ≡ true → (a ≡ true) × (b ≡ true)
both true b h = (refl, h)
both false b h = absurd cc

opposite : (a : Bool) → not a ≡ true → a ≡ false
opposite true h = absurd cc
opposite false h = refl

skip_over : (text rest : List ℕ) → list_all (λ b. is_in class.Symbol b && not (is_in class.Blank b)) text ≡ true → skip class.Symbol rest ≡ rest → skip class.Symbol (text ++ rest) ≡ rest
skip_over [] rest all e = e
skip_over (b ∷ bs) rest all e =
    let here : (is_in class.Symbol b && not (is_in class.Blank b) ≡ true) × (list_all (λ x. is_in class.Symbol x && not (is_in class.Blank x)) bs ≡ true) = both (is_in class.Symbol b && not (is_in class.Blank b)) (list_all (λ x. is_in class.Symbol x && not (is_in class.Blank x)) bs) all in
    let symbol : is_in class.Symbol b ≡ true = (both (is_in class.Symbol b) (not (is_in class.Blank b)) here.0).0 in
    rw symbol (skip_over bs rest here.1 e)

blank_shift : (j k : ℕ) (rest : List ℕ) → blank_from (j + k) rest ≡ j + blank_from k rest
blank_shift j k [] = refl
blank_shift j k (b ∷ bs) = elim (decided (is_in class.Blank b)) [
  | inl h ↦ rw h refl
  | inr h ↦ rw h (ap (λ n. blank_from n bs) (omega arith) ∙ blank_shift j (k + 1) bs)
]

word_end : (k : ℕ) (text rest : List ℕ) → list_all (λ b. is_in class.Symbol b && not (is_in class.Blank b)) text ≡ true → blank_from 0 rest ≡ 0 → blank_from k (text ++ rest) ≡ k + length text
word_end k [] rest all e = ap (λ n. blank_from n rest) (omega arith) ∙ blank_shift k 0 rest ∙ ap (λ n. k + n) e
word_end k (b ∷ bs) rest all e =
    let here : (is_in class.Symbol b && not (is_in class.Blank b) ≡ true) × (list_all (λ x. is_in class.Symbol x && not (is_in class.Blank x)) bs ≡ true) = both (is_in class.Symbol b && not (is_in class.Blank b)) (list_all (λ x. is_in class.Symbol x && not (is_in class.Blank x)) bs) all in
    let blank : is_in class.Blank b ≡ false = opposite (is_in class.Blank b) (both (is_in class.Symbol b) (not (is_in class.Blank b)) here.0).1 in
    rw blank (word_end (k + 1) bs rest here.1 e ∙ omega arith)

pub stops : (ts : List (List ℕ)) → AllByRecursion IsOperand ts → Stops (behind_each (codes " ") ts)
stops [] all = record { symbol = refl; blank = refl; equals = refl }
stops (t ∷ ts) all = record {
  symbol = refl;
  blank = refl;
  equals = (let test : tame all.0.first ≡ true = (subst (AllByRecursion (λ b. tame b ≡ true)) all.0.whole all.0.all).0 in
      ap (λ u. begins_with 61 (skip class.Blank (u ++ behind_each (codes ", ") ts))) all.0.whole ∙ (rw (not_blank all.0.first test) (not_tame all.0.first 61 test refl)));
}

with_mnemonic : (m rest : List ℕ) → IsMnemonic m → begins_with 46 (m ++ rest) ≡ false
with_mnemonic [] rest is = absurd (let no : true ≡ false = is.some in cc)
with_mnemonic (b ∷ bs) rest is = is.no_dot

some_mnemonic : (m rest : List ℕ) → IsMnemonic m → is_empty (m ++ rest) ≡ false
some_mnemonic [] rest is = absurd (let no : true ≡ false = is.some in cc)
some_mnemonic (b ∷ bs) rest is = grind (arith, nat_tests)

first_blank : (m rest : List ℕ) → IsMnemonic m → skip class.Blank (m ++ rest) ≡ m ++ rest
first_blank [] rest is = absurd (let no : true ≡ false = is.some in cc)
first_blank (b ∷ bs) rest is =
    let here : (is_in class.Symbol b && not (is_in class.Blank b) ≡ true) × (list_all (λ x. is_in class.Symbol x && not (is_in class.Blank x)) bs ≡ true) = both (is_in class.Symbol b && not (is_in class.Blank b)) (list_all (λ x. is_in class.Symbol x && not (is_in class.Blank x)) bs) is.symbols in
    rw (opposite (is_in class.Blank b) (both (is_in class.Symbol b) (not (is_in class.Blank b)) here.0).1) refl

-- a mnemonic and operands mean the form of the table that they fit
pub line_means : (m : List ℕ) (ts : List (List ℕ)) (fit : Fit) → IsMnemonic m → AllByRecursion IsOperand ts → starts_with nat_eq (m ++ behind_each (codes " ") ts) (codes "c.") ≡ false → fit_in m ts ≡ Ok fit
    → meaning (m ++ behind_each (codes " ") ts) ≡ Ok (Some fit)
line_means m ts fit is all plain e =
    let rest : List ℕ = behind_each (codes " ") ts in
    let s : Stops rest = stops ts all in
    let end : blank_from 0 (m ++ rest) ≡ length m = word_end 0 m rest is.symbols s.blank ∙ omega arith in
    let word : first_word (m ++ rest) ≡ m = ap (λ n. take n (m ++ rest)) end ∙ take-append_seam m rest in
    let more : behind_word (m ++ rest) ≡ rest = ap (λ n. drop n (m ++ rest)) end ∙ drop-append_seam m rest in
    let after_symbol : skip class.Symbol (m ++ rest) ≡ rest = skip_over m rest is.symbols s.symbol in
    let no_equals : begins_with 61 (skip class.Blank (skip class.Symbol (m ++ rest))) ≡ false = ap (λ t. begins_with 61 (skip class.Blank t)) after_symbol ∙ s.equals in
    let no_assignment : is_assignment (m ++ rest) ≡ false = never (begins_in class.Start (m ++ rest)) (begins_with 61 (skip class.Blank (skip class.Symbol (m ++ rest)))) no_equals in
    let fits : instruction_in (m ++ rest) ≡ Ok fit = rw plain ((λ i. fit_in (word i) (operands_in (more i))) ∙ ap (fit_in m) (operands_are ts all) ∙ e) in
    ap meaning_at (first_blank m rest is) ∙ (rw (some_mnemonic m rest is, no_assignment, with_mnemonic m rest is) (ap (map_ok Some) fits))
  where
    never : (a b : Bool) → b ≡ false → a && b ≡ false
    never true b h = h
    never false b h = refl

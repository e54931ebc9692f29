-- a symbolic immediate stands as an operand, and is no number
use Rattle.std.proofs.Common.{zero, suc, ◌≡◌, ◌⊎◌, ℕ, ◌+◌, ◌-◌, ◌<◌, ◌≤◌, inl, inr, List, [], ◌∷◌, ◌++◌, length, take, drop, get_or, None, Some, sym, ◌∙◌, ap, refl, subst, arith, nat_eq, nat_lt, true, false, Bool, add-one, drop-cons, append_assoc, ◌*◌, ◌^◌, pos, length-append}
use Rattle.std.specs.Prelude.{◌&&◌, ◌||◌, not, is_some, option_and_then, reverse, codes, min}
use Rattle.std.specs.List.{AllByRecursion, suffix_len}
use Rattle.std.specs.Cmp.Lexicographic.{pointwise, same_text}
use Rattle.std.specs.declared.option.Option.{Option}
use Rattle.std.proofs.lemmas.Bool.Decides.{nat_tests}
use Rattle.std.proofs.lemmas.List.{append-nil, take-append-drop, length-drop, take_all, nil_from_length}
use Rattle.std.proofs.lemmas.List.Folds.{length-prefix_len}
use Rattle.std.proofs.lemmas.List.Sums.{suffix_len-take_no, suffix_len-take_yes, suffix_len-le-length}
use Rattle.rv_isa.specs.Registers.{register_named}
use Rattle.rv_asm.specs.declared.class.ByteClass.{ByteClass}
use Rattle.rv_asm.specs.declared.class.ByteClass.TheVariants as class
use Rattle.rv_asm.specs.Statement.{is_in, skip, trailing, begins_in, begins_with, is_empty, begins_symbol, is_digit}
use Rattle.rv_asm.specs.Pieces.{begins}
use Rattle.rv_asm.specs.Numbers.{digit_of, value_from, size_at, number_at}
use Rattle.rv_asm.specs.Symbols.{is_plain, is_local, opened_word, opened, core, is_core, is_symbolic}
use Rattle.rv_asm.specs.Operands.{depth_after}
use Rattle.rv_asm.proofs.Cut.{decided}
use Rattle.rv_asm.proofs.OneLine.{tame}
use Rattle.rv_asm.proofs.SpelledLine.{depth_over, IsOperand}
use Rattle.rv_asm.proofs.SpelledNumbers.{number_unsigned}
use Rattle.std.specs.Option.{option_map}

-- ---- texts of one class

pub both : (a b : Bool) → a && b ≡ true → (a ≡ true) × (b ≡ true)
both true b h = (refl, h)
both false b h = absurd cc

pub skip_split : (c : ByteClass) (text : List ℕ) → (front : List ℕ) × (text ≡ front ++ skip c text) × AllByRecursion (λ b. is_in c b ≡ true) front
skip_split c [] = ([], refl, tt)
skip_split c (b ∷ bs) = elim (decided (is_in c b)) as (λ _. (front : List ℕ) × (b ∷ bs ≡ front ++ skip c (b ∷ bs)) × AllByRecursion (λ x. is_in c x ≡ true) front) [
  | inl h ↦ (let more : (front : List ℕ) × (bs ≡ front ++ skip c bs) × AllByRecursion (λ x. is_in c x ≡ true) front = skip_split c bs in
      let here : skip c (b ∷ bs) ≡ skip c bs = rw h refl in
      (b ∷ more.0, ap (λ t. b ∷ t) more.1 ∙ ap (λ t. b ∷ more.0 ++ t) (sym here), (h, more.2)))
  | inr h ↦ (let here : skip c (b ∷ bs) ≡ b ∷ bs = rw h refl in ([], sym here, tt))
]

pub all_join : (P : ℕ → Type 0) (a b : List ℕ) → AllByRecursion P a → AllByRecursion P b → AllByRecursion P (a ++ b)
all_join P [] b pa pb = pb
all_join P (x ∷ xs) b pa pb = (pa.0, all_join P xs b pa.1 pb)

all_weaker : (P Q : ℕ → Type 0) → ((b : ℕ) → P b → Q b) → (text : List ℕ) → AllByRecursion P text → AllByRecursion Q text
all_weaker P Q h [] all = tt
all_weaker P Q h (b ∷ bs) all = (h b all.0, all_weaker P Q h bs all.1)

pub empty_is : (text : List ℕ) → is_empty text ≡ true → text ≡ []
empty_is [] h = refl
empty_is (b ∷ bs) h = absurd (grind (arith, nat_tests, h))

tame_operand : (b : ℕ) → is_in class.Operand b ≡ true → tame b ≡ true
tame_operand b h = rw h refl

-- ---- depth

pub depth_join : (a b : List ℕ) (d : ℕ) → depth_over d (a ++ b) ≡ depth_over (depth_over d a) b
depth_join [] b d = refl
depth_join (x ∷ xs) b d = depth_join xs b (depth_after d x)

flat : (b d : ℕ) → is_in class.Operand b ≡ true → depth_after d b ≡ d
flat b d h =
    let open_test : nat_eq b 40 ≡ false = grind (arith, nat_tests, h) in
    let close_test : nat_eq b 41 ≡ false = grind (arith, nat_tests, h) in
    rw (open_test, close_test) refl

all_flat : (text : List ℕ) (d : ℕ) → AllByRecursion (λ b. is_in class.Operand b ≡ true) text → depth_over d text ≡ d
all_flat [] d all = refl
all_flat (b ∷ bs) d all = ap (λ k. depth_over k bs) (flat b d all.0) ∙ all_flat bs d all.1

pub flat_operand : (first : ℕ) (rest : List ℕ) → AllByRecursion (λ b. is_in class.Operand b ≡ true) (first ∷ rest) → IsOperand (first ∷ rest)
flat_operand first rest all = record {
  all = all_weaker (λ b. is_in class.Operand b ≡ true) (λ b. tame b ≡ true) tame_operand (first ∷ rest) all;
  keeps = λ d. all_flat (first ∷ rest) d all;
  first = first;
  rest = rest;
  whole = refl;
}

-- ---- what is within the parentheses

-- a text whose bytes are of operands, and behind which so many parentheses more are open
record Opens (k : ℕ) (text : List ℕ) : Type 0 where
  all : AllByRecursion (λ b. tame b ≡ true) text
  depth : (d : ℕ) → depth_over d text ≡ d + k

word_operand : (b : ℕ) → is_in class.Word b ≡ true → is_in class.Operand b ≡ true
word_operand b h = grind (arith, nat_tests, h)

pub begins_is : (a : ℕ) (text : List ℕ) → begins_with a text ≡ true → text ≡ a ∷ drop 1 text
begins_is a [] h = absurd cc
begins_is a (b ∷ bs) h = let same : b ≡ a = grind (arith, nat_tests, h) in λ i. same i ∷ bs

opened_is : (text rest : List ℕ) → opened text ≡ Some rest → (pre : List ℕ) × (text ≡ pre ++ rest) × Opens 1 pre
opened_is text rest e = elim (decided (begins_with 37 text)) as (λ _. (pre : List ℕ) × (text ≡ pre ++ rest) × Opens 1 pre) [
  | inr h ↦ absurd (let none : None ≡ Some rest = rw h at e in cc)
  | inl h ↦ (let word : opened_word (drop 1 text) ≡ Some rest = rw h at e in word_is word h)
]
  where
    word_is : opened_word (drop 1 text) ≡ Some rest → begins_with 37 text ≡ true → (pre : List ℕ) × (text ≡ pre ++ rest) × Opens 1 pre
    word_is word h =
        let t : List ℕ = drop 1 text in
        let split : (front : List ℕ) × (t ≡ front ++ skip class.Word t) × AllByRecursion (λ b. is_in class.Word b ≡ true) front = skip_split class.Word t in
        elim (decided (begins_in class.Word t && begins_with 40 (skip class.Word t))) as (λ _. (pre : List ℕ) × (text ≡ pre ++ rest) × Opens 1 pre) [
          | inr g ↦ absurd (let none : None ≡ Some rest = rw g at word in cc)
          | inl g ↦ (let there : Some (drop 1 (skip class.Word t)) ≡ Some rest = rw g at word in
              let same : drop 1 (skip class.Word t) ≡ rest = cc in
              let paren : skip class.Word t ≡ 40 ∷ drop 1 (skip class.Word t) = begins_is 40 (skip class.Word t) (both (begins_in class.Word t) (begins_with 40 (skip class.Word t)) g).1 in
              let flats : AllByRecursion (λ b. is_in class.Operand b ≡ true) split.0 = all_weaker (λ b. is_in class.Word b ≡ true) (λ b. is_in class.Operand b ≡ true) word_operand split.0 split.2 in
              let whole : text ≡ (37 ∷ split.0 ++ 40 ∷ []) ++ rest =
              begins_is 37 text h ∙ ap (λ u. 37 ∷ u) (split.1 ∙ ap (λ u. split.0 ++ u) (paren ∙ ap (λ u. 40 ∷ u) same)) ∙ ap (λ u. 37 ∷ u) (sym (append_assoc split.0 (40 ∷ []) rest)) in (
                37 ∷ split.0 ++ 40 ∷ [],
                whole,
                record {
                  all = (refl, all_join (λ b. tame b ≡ true) split.0 (40 ∷ []) (all_weaker (λ b. is_in class.Operand b ≡ true) (λ b. tame b ≡ true) tame_operand split.0 flats) (refl, tt));
                  depth = λ d. depth_join split.0 (40 ∷ []) d ∙ ap (λ k. k + 1) (all_flat split.0 d flats);
                },
              ))
        ]

core_more : (k : ℕ) (text inner : List ℕ) (o : Option (List ℕ)) → opened text ≡ o → option_and_then (core k) o ≡ Some inner
    → ((rest : List ℕ) → core k rest ≡ Some inner → (pre : List ℕ) × (rest ≡ pre ++ inner) × Opens k pre) → (pre : List ℕ) × (text ≡ pre ++ inner) × Opens (suc k) pre
core_more k text inner None is h deeper = absurd cc
core_more k text inner (Some rest) is h deeper =
    let one : (pre : List ℕ) × (text ≡ pre ++ rest) × Opens 1 pre = opened_is text rest is in
    let more : (pre : List ℕ) × (rest ≡ pre ++ inner) × Opens k pre = deeper rest h in (
      one.0 ++ more.0,
      one.1 ∙ ap (λ t. one.0 ++ t) more.1 ∙ sym (append_assoc one.0 more.0 inner),
      record {
        all = all_join (λ b. tame b ≡ true) one.0 more.0 one.2.all more.2.all;
        depth = λ d. depth_join one.0 more.0 d ∙ ap (λ n. depth_over n more.0) (one.2.depth d) ∙ more.2.depth (d + 1) ∙ omega arith;
      },
    )

core_is : (k : ℕ) (text inner : List ℕ) → core k text ≡ Some inner → (pre : List ℕ) × (text ≡ pre ++ inner) × Opens k pre
core_is zero text inner e = let same : text ≡ inner = cc in ([], same, record { all = tt; depth = λ d. omega arith })
core_is (suc k) text inner e = core_more k text inner (opened text) refl e (λ rest h. core_is k rest inner h)

-- ---- the parentheses at the end

pred : (m : ℕ) → suc m - 1 ≡ m
pred m = omega arith

last_or_before : (k n : ℕ) → k < suc n → (k < n) ⊎ (k ≡ n)
last_or_before k n lt = elim (decided (nat_lt k n)) [ inl h ↦ inl (grind (arith, nat_tests, h)) | inr h ↦ inr (grind (arith, nat_tests, h, lt)) ]

ends_pass : (p : ℕ → Bool) (text : List ℕ) (n : ℕ) → n ≤ length text → (k : ℕ) → n ≤ k + suffix_len p (take n text) → k < n → p (get_or text k 0) ≡ true
ends_pass p text zero le k low lt = absurd (omega (arith, lt))
ends_pass p text (suc n) le k low lt =
    let last : get_or text (suc n - 1) 0 ≡ get_or text n 0 = ap (λ m. get_or text m 0) (pred n) in
    let front : suffix_len p (take (suc n - 1) text) ≡ suffix_len p (take n text) = ap (λ m. suffix_len p (take m text)) (pred n) in
    elim (decided (p (get_or text n 0))) as (λ _. p (get_or text k 0) ≡ true) [
      | inl h ↦ (let grows : suffix_len p (take (suc n) text) ≡ 1 + suffix_len p (take (suc n - 1) text) = suffix_len-take_yes p text (suc n) 0 (omega arith) le (ap p last ∙ h) in
          elim (last_or_before k n lt) [
            | inl below ↦ ends_pass p text n (omega (arith, le)) k (omega (arith, low, grows, front)) below
            | inr same ↦ ap (λ m. p (get_or text m 0)) same ∙ h
          ])
      | inr h ↦ absurd (let none : suffix_len p (take (suc n) text) ≡ 0 = suffix_len-take_no p text (suc n) 0 (omega arith) le (ap p last ∙ h) in omega (arith, low, none, lt))
    ]

nothing_left : (text : List ℕ) (k : ℕ) → length text ≤ k → drop k text ≡ []
nothing_left text k le = nil_from_length (drop k text) (omega (arith, length-drop k text))

all_from : (P : ℕ → Type 0) (text : List ℕ) (n k : ℕ) → length text ≤ n + k → ((j : ℕ) → k ≤ j → j < length text → P (get_or text j 0)) → AllByRecursion P (drop k text)
all_from P text zero k le each = subst (AllByRecursion P) (sym (nothing_left text k (omega (arith, le)))) tt
all_from P text (suc n) k le each = elim (decided (nat_lt k (length text))) [
  | inl h ↦ (let lt : k < length text = grind (arith, nat_tests, h) in
      let here : drop k text ≡ get_or text k 0 ∷ drop (k + 1) text = rw (add-one, drop-cons text k 0) refl in
      subst (AllByRecursion P) (sym here) (each k (omega arith) lt, all_from P text n (k + 1) (omega (arith, le)) (λ j low high. each j (omega (arith, low)) high)))
  | inr h ↦ subst (AllByRecursion P) (sym (nothing_left text k (grind (arith, nat_tests, h)))) tt
]

closing_is : (b : ℕ) → is_in class.Close b ≡ true → b ≡ 41
closing_is b h = grind (arith, nat_tests, h)

all_close : (text : List ℕ) (d : ℕ) → AllByRecursion (λ b. b ≡ 41) text → depth_over d text ≡ d - length text
all_close [] d all = omega arith
all_close (b ∷ bs) d all = ap (λ x. depth_over (depth_after d x) bs) all.0 ∙ all_close bs (d - 1) all.1 ∙ omega arith

-- ---- a symbolic immediate

abbrev pub trailing_close : List ℕ → ℕ
trailing_close text = trailing class.Close text

pub split_off : (text : List ℕ) → AllByRecursion (λ b. b ≡ 41) (drop (length text - trailing_close text) text) × (trailing_close text ≤ length text)
split_off text =
    let is : trailing_close text ≡ suffix_len (is_in class.Close) text = length-prefix_len (is_in class.Close) (reverse text) in
    let within : suffix_len (is_in class.Close) text ≤ length text = suffix_len-le-length (is_in class.Close) text in
    let whole : take (length text) text ≡ text = take_all (length text) text (omega arith) in
    let same : suffix_len (is_in class.Close) (take (length text) text) ≡ suffix_len (is_in class.Close) text = ap (suffix_len (is_in class.Close)) whole in (
      all_from (λ b. b ≡ 41) text (length text) (length text - trailing_close text) (omega arith)
          (λ j low high. closing_is (get_or text j 0) (ends_pass (is_in class.Close) text (length text) (omega arith) j (omega (arith, low, is, same, within)) high)),
      omega (arith, is, within),
    )

-- ---- what is a symbol without relocations

-- all its bytes are of operands, and it is no number
record IsInner (text : List ℕ) : Type 0 where
  all : AllByRecursion (λ b. is_in class.Operand b ≡ true) text
  some : 0 < length text
  number : number_at text ≡ None

value_none : (base v : ℕ) (ds : List ℕ) (x : ℕ) → nat_lt (digit_of x) base ≡ false → value_from base v (ds ++ x ∷ []) ≡ None
value_none base v [] x h = rw h refl
value_none base v (b ∷ bs) x h = elim (decided (nat_lt (digit_of b) base)) [
  | inl g ↦ rw g (value_none base (min (base * v + digit_of b) (2 ^ 64)) bs x h)
  | inr g ↦ rw g refl
]

start_number : (b : ℕ) (bs : List ℕ) → begins_symbol b ≡ true → number_at (b ∷ bs) ≡ None
start_number b bs h =
    let minus : nat_eq b 45 ≡ false = grind (arith, nat_tests, h) in
    let plus : nat_eq b 43 ≡ false = grind (arith, nat_tests, h) in
    let nought : nat_eq b 48 ≡ false = grind (arith, nat_tests, h) in
    let digit : nat_lt (digit_of b) 10 ≡ false = grind (arith, nat_tests, h) in
    go bs minus plus nought digit
  where
    go : (cs : List ℕ) → nat_eq b 45 ≡ false → nat_eq b 43 ≡ false → nat_eq b 48 ≡ false → nat_lt (digit_of b) 10 ≡ false → number_at (b ∷ cs) ≡ None
    go [] minus plus nought digit = rw (minus, plus, nought, digit) refl
    go (c ∷ cs) minus plus nought digit = rw (minus, plus, nought, digit) refl

digit_operand : (b : ℕ) → is_digit b ≡ true → is_in class.Operand b ≡ true
digit_operand b h = grind (arith, nat_tests, h)

-- digits and another byte
two_none : (d x : ℕ) → nat_eq x 120 ≡ false → nat_eq x 88 ≡ false → nat_eq x 66 ≡ false → nat_lt (digit_of x) 10 ≡ false → nat_lt (digit_of x) 8 ≡ false → size_at (d ∷ x ∷ []) ≡ None
two_none d x h1 h2 h3 ten eight = elim (decided (nat_eq d 48)) [
  | inl h ↦ elim (decided (nat_eq x 98)) [
    | inl g ↦ rw (h, h1, h2, g) refl
    | inr g ↦ rw (h, h1, h2, g, h3) (value_none 8 0 (d ∷ []) x eight)
  ]
  | inr h ↦ rw h (value_none 10 0 (d ∷ []) x ten)
]

more_none : (d c : ℕ) (cs : List ℕ) (x : ℕ) → is_digit c ≡ true → nat_lt (digit_of x) 10 ≡ false → nat_lt (digit_of x) 8 ≡ false → size_at (d ∷ c ∷ cs ++ x ∷ []) ≡ None
more_none d c cs x digit ten eight =
    let h1 : nat_eq c 120 ≡ false = grind (arith, nat_tests, digit) in
    let h2 : nat_eq c 88 ≡ false = grind (arith, nat_tests, digit) in
    let h3 : nat_eq c 98 ≡ false = grind (arith, nat_tests, digit) in
    let h4 : nat_eq c 66 ≡ false = grind (arith, nat_tests, digit) in
    elim (decided (nat_eq d 48)) [
      | inl h ↦ rw (h, h1, h2, h3, h4) (value_none 8 0 (d ∷ c ∷ cs) x eight)
      | inr h ↦ rw h (value_none 10 0 (d ∷ c ∷ cs) x ten)
    ]

local_inner : (ds : List ℕ) (x : ℕ) → AllByRecursion (λ b. is_digit b ≡ true) ds → 0 < length ds → is_in class.Operand x ≡ true → nat_eq x 120 ≡ false → nat_eq x 88 ≡ false → nat_eq x 66 ≡ false → nat_lt (digit_of x) 10 ≡ false → nat_lt (digit_of x) 8 ≡ false → IsInner (ds ++ x ∷ [])
local_inner [] x all some in_ h1 h2 h3 ten eight = absurd (omega (arith, some))
local_inner (d ∷ []) x all some in_ h1 h2 h3 ten eight = record {
  all = (digit_operand d all.0, (in_, tt));
  some = omega arith;
  number = number_unsigned d (x ∷ []) all.0 ∙ ap (option_map pos) (two_none d x h1 h2 h3 ten eight);
}
local_inner (d ∷ c ∷ cs) x all some in_ h1 h2 h3 ten eight = record {
  all = all_join (λ b. is_in class.Operand b ≡ true) (d ∷ c ∷ cs) (x ∷ []) (all_weaker (λ b. is_digit b ≡ true) (λ b. is_in class.Operand b ≡ true) digit_operand (d ∷ c ∷ cs) all) (in_, tt);
  some = omega arith;
  number = number_unsigned d (c ∷ cs ++ x ∷ []) all.0 ∙ ap (option_map pos) (more_none d c cs x all.1.0 ten eight);
}

pub either_true : (a b : Bool) → a || b ≡ true → (a ≡ true) ⊎ (b ≡ true)
either_true true b h = inl refl
either_true false b h = inr h

plain_inner : (text : List ℕ) → is_plain text ≡ true → IsInner text
plain_inner [] h = absurd cc
plain_inner (b ∷ bs) h =
    let one : (begins_in class.Start (b ∷ bs) && is_empty (skip class.Operand (b ∷ bs)) && not (is_some (register_named (b ∷ bs))) ≡ true) × (not (pointwise nat_eq (b ∷ bs) (codes ".") || begins 46 43 (b ∷ bs) || begins 46 45 (b ∷ bs)) ≡ true) =
    both (begins_in class.Start (b ∷ bs) && is_empty (skip class.Operand (b ∷ bs)) && not (is_some (register_named (b ∷ bs)))) (not (pointwise nat_eq (b ∷ bs) (codes ".") || begins 46 43 (b ∷ bs) || begins 46 45 (b ∷ bs))) h in
    let two : (begins_in class.Start (b ∷ bs) && is_empty (skip class.Operand (b ∷ bs)) ≡ true) × (not (is_some (register_named (b ∷ bs))) ≡ true) = both (begins_in class.Start (b ∷ bs) && is_empty (skip class.Operand (b ∷ bs))) (not (is_some (register_named (b ∷ bs)))) one.0 in
    let three : (begins_symbol b ≡ true) × (is_empty (skip class.Operand (b ∷ bs)) ≡ true) = both (begins_symbol b) (is_empty (skip class.Operand (b ∷ bs))) two.0 in
    let split : (front : List ℕ) × (b ∷ bs ≡ front ++ skip class.Operand (b ∷ bs)) × AllByRecursion (λ x. is_in class.Operand x ≡ true) front = skip_split class.Operand (b ∷ bs) in
    let whole : b ∷ bs ≡ split.0 = split.1 ∙ ap (λ t. split.0 ++ t) (empty_is (skip class.Operand (b ∷ bs)) three.1) ∙ append-nil split.0 in
    record { all = subst (AllByRecursion (λ x. is_in class.Operand x ≡ true)) (sym whole) split.2; some = omega arith; number = start_number b bs three.0 }

pub some_front : (text front rest : List ℕ) → text ≡ front ++ rest → begins_in class.Digit text ≡ true → skip class.Digit text ≡ rest → begins_in class.Digit rest ≡ false → 0 < length front
some_front text [] rest e h s none = absurd (let no : true ≡ false = sym h ∙ ap (begins_in class.Digit) e ∙ none in cc)
some_front text (b ∷ bs) rest e h s none = omega arith

-- the digits of a label, and the byte behind them
pub inner_of : (text : List ℕ) → is_local text ≡ true → (ds : List ℕ) × (b : ℕ) × (text ≡ ds ++ b ∷ []) × AllByRecursion (λ x. is_in class.Digit x ≡ true) ds × (0 < length ds) × (nat_eq b 98 || nat_eq b 102 ≡ true)
inner_of text h =
    let two : (begins_in class.Digit text ≡ true) × (pointwise nat_eq (skip class.Digit text) (codes "b") || pointwise nat_eq (skip class.Digit text) (codes "f") ≡ true) =
    both (begins_in class.Digit text) (pointwise nat_eq (skip class.Digit text) (codes "b") || pointwise nat_eq (skip class.Digit text) (codes "f")) h in
    let split : (front : List ℕ) × (text ≡ front ++ skip class.Digit text) × AllByRecursion (λ x. is_digit x ≡ true) front = skip_split class.Digit text in
    elim (either_true (pointwise nat_eq (skip class.Digit text) (codes "b")) (pointwise nat_eq (skip class.Digit text) (codes "f")) two.1) [
      | inl g ↦ (let end : skip class.Digit text ≡ 98 ∷ [] = same_text (skip class.Digit text) (98 ∷ []) (sym g) in
          let whole : text ≡ split.0 ++ 98 ∷ [] = split.1 ∙ ap (λ t. split.0 ++ t) end in
          (split.0, 98, whole, split.2, some_front text split.0 (98 ∷ []) whole two.0 end refl, refl))
      | inr g ↦ (let end : skip class.Digit text ≡ 102 ∷ [] = same_text (skip class.Digit text) (102 ∷ []) (sym g) in
          let whole : text ≡ split.0 ++ 102 ∷ [] = split.1 ∙ ap (λ t. split.0 ++ t) end in
          (split.0, 102, whole, split.2, some_front text split.0 (102 ∷ []) whole two.0 end refl, refl))
    ]

local_is : (text : List ℕ) → is_local text ≡ true → IsInner text
local_is text h =
    let two : (begins_in class.Digit text ≡ true) × (pointwise nat_eq (skip class.Digit text) (codes "b") || pointwise nat_eq (skip class.Digit text) (codes "f") ≡ true) =
    both (begins_in class.Digit text) (pointwise nat_eq (skip class.Digit text) (codes "b") || pointwise nat_eq (skip class.Digit text) (codes "f")) h in
    let split : (front : List ℕ) × (text ≡ front ++ skip class.Digit text) × AllByRecursion (λ x. is_digit x ≡ true) front = skip_split class.Digit text in
    elim (either_true (pointwise nat_eq (skip class.Digit text) (codes "b")) (pointwise nat_eq (skip class.Digit text) (codes "f")) two.1) [
      | inl g ↦ (let end : skip class.Digit text ≡ 98 ∷ [] = same_text (skip class.Digit text) (98 ∷ []) (sym g) in
          let whole : text ≡ split.0 ++ 98 ∷ [] = split.1 ∙ ap (λ t. split.0 ++ t) end in
          subst IsInner (sym whole) (local_inner split.0 98 split.2 (some_front text split.0 (98 ∷ []) whole two.0 end refl) refl refl refl refl refl refl))
      | inr g ↦ (let end : skip class.Digit text ≡ 102 ∷ [] = same_text (skip class.Digit text) (102 ∷ []) (sym g) in
          let whole : text ≡ split.0 ++ 102 ∷ [] = split.1 ∙ ap (λ t. split.0 ++ t) end in
          subst IsInner (sym whole) (local_inner split.0 102 split.2 (some_front text split.0 (102 ∷ []) whole two.0 end refl) refl refl refl refl refl refl))
    ]

inner_is : (o : Option (List ℕ)) → is_core o ≡ true → (w : List ℕ) × (o ≡ Some w) × IsInner w
inner_is None h = absurd cc
inner_is (Some w) h = (w, refl, elim (either_true (is_plain w) (is_local w) h) [ inl g ↦ plain_inner w g | inr g ↦ local_is w g ])

-- ---- the whole

first_of_some : (text : List ℕ) → 0 < length text → (b : ℕ) × (bs : List ℕ) × (text ≡ b ∷ bs)
first_of_some [] lt = absurd (omega (arith, lt))
first_of_some (b ∷ bs) lt = (b, bs, refl)

percent_number : (rest : List ℕ) → number_at (37 ∷ rest) ≡ None
percent_number [] = refl
percent_number (c ∷ cs) = refl

opened_number : (text rest closing : List ℕ) → opened text ≡ Some rest → number_at (text ++ closing) ≡ None
opened_number text rest closing e = elim (decided (begins_with 37 text)) [
  | inl h ↦ ap (λ t. number_at (t ++ closing)) (begins_is 37 text h) ∙ percent_number (drop 1 text ++ closing)
  | inr h ↦ absurd (let none : None ≡ Some rest = rw h at e in cc)
]

core_number : (k : ℕ) (text inner closing : List ℕ) → core k text ≡ Some inner → length closing ≡ k → IsInner inner → number_at (text ++ closing) ≡ None
core_number zero text inner closing e len is =
    let same : text ≡ inner = cc in
    ap (λ t. number_at (text ++ t)) (nil_from_length closing len) ∙ ap number_at (append-nil text ∙ same) ∙ is.number
core_number (suc k) text inner closing e len is = go (opened text) refl e
  where
    go : (o : Option (List ℕ)) → opened text ≡ o → option_and_then (core k) o ≡ Some inner → number_at (text ++ closing) ≡ None
    go None g h = absurd cc
    go (Some rest) g h = opened_number text rest closing g

pub symbol_number : (text : List ℕ) → is_symbolic text ≡ true → number_at text ≡ None
symbol_number text h =
    let n : ℕ = length text - trailing_close text in
    let inner : (w : List ℕ) × (core (trailing_close text) (take n text) ≡ Some w) × IsInner w = inner_is (core (trailing_close text) (take n text)) h in
    let off : AllByRecursion (λ b. b ≡ 41) (drop n text) × (trailing_close text ≤ length text) = split_off text in
    let len : length (drop n text) ≡ trailing_close text = omega (arith, length-drop n text, off.1) in
    ap number_at (sym (take-append-drop n text)) ∙ core_number (trailing_close text) (take n text) inner.0 (drop n text) inner.1 len inner.2

close_tame : (b : ℕ) → b ≡ 41 → tame b ≡ true
close_tame b e = ap tame e

pub symbol_operand : (text : List ℕ) → is_symbolic text ≡ true → IsOperand text
symbol_operand text h =
    let n : ℕ = length text - trailing_close text in
    let closing : List ℕ = drop n text in
    let inner : (w : List ℕ) × (core (trailing_close text) (take n text) ≡ Some w) × IsInner w = inner_is (core (trailing_close text) (take n text)) h in
    let off : AllByRecursion (λ b. b ≡ 41) (drop n text) × (trailing_close text ≤ length text) = split_off text in
    let len : length (drop n text) ≡ trailing_close text = omega (arith, length-drop n text, off.1) in
    let front : (pre : List ℕ) × (take n text ≡ pre ++ inner.0) × Opens (trailing_close text) pre = core_is (trailing_close text) (take n text) inner.0 inner.1 in
    let whole : text ≡ (front.0 ++ inner.0) ++ closing = sym (take-append-drop n text) ∙ ap (λ t. t ++ closing) front.1 in
    let size : length text ≡ length (front.0 ++ inner.0) + length closing = ap length whole ∙ length-append (front.0 ++ inner.0) closing in
    let size_front : length (front.0 ++ inner.0) ≡ length front.0 + length inner.0 = length-append front.0 inner.0 in
    let some : (b : ℕ) × (bs : List ℕ) × (text ≡ b ∷ bs) = first_of_some text (omega (arith, size, size_front, inner.2.some)) in
    record {
      all = subst (AllByRecursion (λ b. tame b ≡ true)) (sym whole) (all_join (λ b. tame b ≡ true) (front.0 ++ inner.0) closing
          (all_join (λ b. tame b ≡ true) front.0 inner.0 front.2.all (all_weaker (λ b. is_in class.Operand b ≡ true) (λ b. tame b ≡ true) tame_operand inner.0 inner.2.all))
          (all_weaker (λ b. b ≡ 41) (λ b. tame b ≡ true) close_tame closing off.0));
      keeps = λ d. ap (depth_over d) whole ∙ depth_join (front.0 ++ inner.0) closing d ∙ ap (λ k. depth_over k closing) (depth_join front.0 inner.0 d ∙ ap (λ k. depth_over k inner.0) (front.2.depth d) ∙ all_flat inner.0 (d + trailing_close text) inner.2.all)
          ∙ all_close closing (d + trailing_close text) off.0 ∙ omega (arith, len);
      first = some.0;
      rest = some.1;
      whole = some.2;
    }

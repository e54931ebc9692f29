-- no operands fit two forms of a mnemonic
use Rattle.std.proofs.Common.{zero, suc, ◌≡◌, ◌⊎◌, ℕ, ℤ, ◌+◌, inl, inr, List, [], ◌∷◌, length, None, Some, Ok, Err, Option, sym, ◌∙◌, ap, refl, subst, arith, nat_eq, true, false, Bool}
use Rattle.std.specs.Prelude.{◌&&◌, ◌||◌, not, slice_get, codes}
use Rattle.std.specs.Option.{option_or}
use Rattle.std.specs.List.{list_all, ends_with}
use Rattle.std.specs.Cmp.Lexicographic.{pointwise, same_text}
use Rattle.std.proofs.lemmas.Bool.Decides.{nat_tests}
use Rattle.rv_isa.specs.declared.facts.ImmRange.{ImmRange}
use Rattle.rv_isa.specs.Registers.{place_from, register_named, abi_names, numbered_names}
use Rattle.rv_isa.specs.Opcodes.{upper, signed_12, shift_64, shift_32, jump, branch}
use Rattle.rv_asm.specs.declared.fault.Cause.TheVariants as cause
use Rattle.rv_asm.specs.declared.form.Makes.{Makes}
use Rattle.rv_asm.specs.declared.operand.Shape.{Shape}
use Rattle.rv_asm.specs.declared.operand.Shape.TheVariants as shape
use Rattle.rv_asm.specs.Numbers.{number_at}
use Rattle.rv_asm.specs.Symbols.{is_symbolic}
use Rattle.rv_asm.specs.Operands.{Operands, no_operands, number_or_symbol, immediate, accept, accept_all}
use Rattle.rv_asm.specs.Forms.{Row, Fit, taken, fits}
use Rattle.rv_asm.specs.Table.{forms}
use Rattle.rv_asm.proofs.Cut.{decided}
use Rattle.rv_asm.proofs.Right.{mapped, chained}

-- ---- a register's name is no number, no symbol and no offset

abbrev is_number : Option ℤ → Bool
is_number None = false
is_number (Some n) = true

abbrev is_name_alone : List ℕ → Bool
is_name_alone text = not (is_number (number_at text)) && not (is_symbolic text) && not (ends_with nat_eq text (codes ")"))

both : (a b : Bool) → a && b ≡ true → (a ≡ true) × (b ≡ true)
both true b h = (refl, h)
both false b h = absurd cc

opposite : (t : Bool) → not t ≡ true → t ≡ false
opposite true h = absurd cc
opposite false h = refl

name_passes : (test : List ℕ → Bool) (n : ℕ) (names : List (List ℕ)) (text : List ℕ) (k : ℕ) → list_all test names ≡ true → place_from n names text ≡ Some k → test text ≡ true
name_passes test n [] text k all e = absurd cc
name_passes test n (name ∷ names) text k all e =
    let two : (test name ≡ true) × (list_all test names ≡ true) = both (test name) (list_all test names) all in
    elim (decided (pointwise nat_eq text name)) [
      | inl h ↦ ap test (same_text text name (sym h)) ∙ two.0
      | inr h ↦ (let more : place_from (n + 1) names text ≡ Some k = rw h at e in name_passes test (n + 1) names text k two.1 more)
    ]

either_passes : (test : List ℕ → Bool) (text : List ℕ) (a b : Option ℕ) (k : ℕ) → ((j : ℕ) → a ≡ Some j → test text ≡ true) → ((j : ℕ) → b ≡ Some j → test text ≡ true) → option_or a b ≡ Some k → test text ≡ true
either_passes test text None b k pa pb e = pb k e
either_passes test text (Some j) b k pa pb e = pa k e

register_alone : (text : List ℕ) (k : ℕ) → register_named text ≡ Some k → is_name_alone text ≡ true
register_alone text k e = elim (decided (pointwise nat_eq text (102 ∷ 112 ∷ []))) [
  | inl h ↦ ap is_name_alone (same_text text (102 ∷ 112 ∷ []) (sym h)) ∙ refl
  | inr h ↦ (let more : option_or (place_from 0 abi_names text) (place_from 0 numbered_names text) ≡ Some k = rw h at e in
      either_passes is_name_alone text (place_from 0 abi_names text) (place_from 0 numbered_names text) k
      (λ j f. name_passes is_name_alone 0 abi_names text j refl f) (λ j f. name_passes is_name_alone 0 numbered_names text j refl f) more)
]

-- ---- operands that no text can be both of

abbrev is_register : Shape → Bool
is_register shape.Rd = true
is_register shape.Rs1 = true
is_register shape.Rs2 = true
is_register _ = false

abbrev is_value : Shape → Bool
is_value shape.Upper = true
is_value shape.Signed12 = true
is_value shape.Shift64 = true
is_value shape.Shift32 = true
is_value shape.Branch = true
is_value shape.Jump = true
is_value shape.Offset = true
is_value _ = false

named_register : (x : Shape) (text : List ℕ) (p q : Operands) → is_register x ≡ true → accept x text p ≡ Some q → (r : ℕ) × (register_named text ≡ Some r)
named_register shape.Rd text p q h e = (let found : (r : ℕ) × (register_named text ≡ Some r) × (record p { rd = r } ≡ q) = mapped (λ r. record p { rd = r }) (register_named text) q e in (found.0, found.1))
named_register shape.Rs1 text p q h e = (let found : (r : ℕ) × (register_named text ≡ Some r) × (record p { rs1 = r } ≡ q) = mapped (λ r. record p { rs1 = r }) (register_named text) q e in (found.0, found.1))
named_register shape.Rs2 text p q h e = (let found : (r : ℕ) × (register_named text ≡ Some r) × (record p { rs2 = r } ≡ q) = mapped (λ r. record p { rs2 = r }) (register_named text) q e in (found.0, found.1))
named_register shape.Upper text p q h e = absurd cc
named_register shape.Signed12 text p q h e = absurd cc
named_register shape.Shift64 text p q h e = absurd cc
named_register shape.Shift32 text p q h e = absurd cc
named_register shape.Branch text p q h e = absurd cc
named_register shape.Jump text p q h e = absurd cc
named_register shape.Offset text p q h e = absurd cc
named_register shape.Wide text p q h e = absurd cc
named_register shape.Symbol text p q h e = absurd cc
named_register shape.ThreadAdd text p q h e = absurd cc
named_register shape.Pred text p q h e = absurd cc
named_register shape.Succ text p q h e = absurd cc

no_number : (o : Option ℤ) → is_number o ≡ false → o ≡ None
no_number None h = refl
no_number (Some n) h = absurd cc

record IsAlone (text : List ℕ) : Type 0 where
  number : number_at text ≡ None
  symbol : is_symbolic text ≡ false
  offset : ends_with nat_eq text (codes ")") ≡ false

alone_is : (text : List ℕ) → is_name_alone text ≡ true → IsAlone text
alone_is text h =
    let two : (not (is_number (number_at text)) && not (is_symbolic text) ≡ true) × (not (ends_with nat_eq text (codes ")")) ≡ true) = both (not (is_number (number_at text)) && not (is_symbolic text)) (not (ends_with nat_eq text (codes ")"))) h in
    let one : (not (is_number (number_at text)) ≡ true) × (not (is_symbolic text) ≡ true) = both (not (is_number (number_at text))) (not (is_symbolic text)) two.0 in
    record { number = no_number (number_at text) (opposite (is_number (number_at text)) one.0); symbol = opposite (is_symbolic text) one.1; offset = opposite (ends_with nat_eq text (codes ")")) two.1 }

no_immediate : (b : ImmRange) (text : List ℕ) (p : Operands) → IsAlone text → immediate b text p ≡ None
no_immediate b text p is = ap (number_or_symbol b text p) is.number ∙ rw is.symbol refl

no_value : (y : Shape) (text : List ℕ) (p : Operands) → is_value y ≡ true → IsAlone text → accept y text p ≡ None
no_value shape.Upper text p h is = no_immediate upper text p is
no_value shape.Signed12 text p h is = no_immediate signed_12 text p is
no_value shape.Shift64 text p h is = no_immediate shift_64 text p is
no_value shape.Shift32 text p h is = no_immediate shift_32 text p is
no_value shape.Branch text p h is = no_immediate branch text p is
no_value shape.Jump text p h is = no_immediate jump text p is
no_value shape.Offset text p h is = rw is.offset refl
no_value shape.Rd text p h is = absurd cc
no_value shape.Rs1 text p h is = absurd cc
no_value shape.Rs2 text p h is = absurd cc
no_value shape.Wide text p h is = absurd cc
no_value shape.Symbol text p h is = absurd cc
no_value shape.ThreadAdd text p h is = absurd cc
no_value shape.Pred text p h is = absurd cc
no_value shape.Succ text p h is = absurd cc

not_both : (x y : Shape) (text : List ℕ) (p p2 q q2 : Operands) → is_register x ≡ true → is_value y ≡ true → accept x text p ≡ Some p2 → accept y text q ≡ Some q2 → ⊥
not_both x y text p p2 q q2 hx hy ex ey =
    let named : (r : ℕ) × (register_named text ≡ Some r) = named_register x text p p2 hx ex in
    let none : accept y text q ≡ None = no_value y text q hy (alone_is text (register_alone text named.0 named.1)) in
    let no : None ≡ Some q2 = sym none ∙ ey in
    cc

abbrev clash : Shape → Shape → Bool
clash x y = (is_register x && is_value y) || (is_value x && is_register y)

either_true : (a b : Bool) → a || b ≡ true → (a ≡ true) ⊎ (b ≡ true)
either_true true b h = inl refl
either_true false b h = inr h

clashes : (x y : Shape) (text : List ℕ) (p p2 q q2 : Operands) → clash x y ≡ true → accept x text p ≡ Some p2 → accept y text q ≡ Some q2 → ⊥
clashes x y text p p2 q q2 h ex ey = elim (either_true (is_register x && is_value y) (is_value x && is_register y) h) [
  | inl g ↦ (let two : (is_register x ≡ true) × (is_value y ≡ true) = both (is_register x) (is_value y) g in not_both x y text p p2 q q2 two.0 two.1 ex ey)
  | inr g ↦ (let two : (is_value x ≡ true) × (is_register y ≡ true) = both (is_value x) (is_register y) g in not_both y x text q q2 p p2 two.1 two.0 ey ex)
]

-- lists of another length, or with such a place
abbrev apart : List Shape → List Shape → Bool
apart [] [] = false
apart [] (y ∷ ys) = true
apart (x ∷ xs) [] = true
apart (x ∷ xs) (y ∷ ys) = clash x y || apart xs ys

apart_refuses : (xs ys : List Shape) (texts : List (List ℕ)) (p p2 q q2 : Operands) → apart xs ys ≡ true → length xs ≡ length texts → length ys ≡ length texts
    → accept_all xs texts p ≡ Some p2 → accept_all ys texts q ≡ Some q2 → ⊥
apart_refuses [] [] texts p p2 q q2 h lx ly ex ey = cc
apart_refuses [] (y ∷ ys) texts p p2 q q2 h lx ly ex ey = omega (arith, lx, ly)
apart_refuses (x ∷ xs) [] texts p p2 q q2 h lx ly ex ey = omega (arith, lx, ly)
apart_refuses (x ∷ xs) (y ∷ ys) [] p p2 q q2 h lx ly ex ey = omega (arith, lx)
apart_refuses (x ∷ xs) (y ∷ ys) (text ∷ texts) p p2 q q2 h lx ly ex ey =
    let one : (r : Operands) × (accept x text p ≡ Some r) × (accept_all xs texts r ≡ Some p2) = chained (accept_all xs texts) (accept x text p) p2 ex in
    let two : (r : Operands) × (accept y text q ≡ Some r) × (accept_all ys texts r ≡ Some q2) = chained (accept_all ys texts) (accept y text q) q2 ey in
    elim (either_true (clash x y) (apart xs ys) h) [
      | inl g ↦ clashes x y text p one.0 q two.0 g one.1 two.1
      | inr g ↦ apart_refuses xs ys texts one.0 p2 two.0 q2 g (omega (arith, lx)) (omega (arith, ly)) one.2 two.2
    ]

-- ---- the table

abbrev rows_apart : Row → Row → Bool
rows_apart r s = not (pointwise nat_eq r.mnemonic s.mnemonic) || apart r.shapes s.shapes

abbrev all_apart : List Row → Bool
all_apart [] = true
all_apart (r ∷ rs) = list_all (rows_apart r) rs && all_apart rs

table_apart : all_apart forms ≡ true
table_apart = refl

length_is : (a b : ℕ) → nat_eq a b ≡ true → a ≡ b
length_is a b h = grind (arith, nat_tests, h)

some_operands : (makes : Makes) (o : Option Operands) (fit : Fit) → taken makes o ≡ Ok fit → (p : Operands) × (o ≡ Some p)
some_operands makes None fit e = absurd cc
some_operands makes (Some p) fit e = (p, refl)

accepts : (r : Row) (texts : List (List ℕ)) (fit : Fit) → fits r texts ≡ Ok fit → (length r.shapes ≡ length texts) × ((p : Operands) × (accept_all r.shapes texts no_operands ≡ Some p))
accepts r texts fit e = elim (decided (nat_eq (length r.shapes) (length texts))) [
  | inl g ↦ (let there : taken r.makes (accept_all r.shapes texts no_operands) ≡ Ok fit = rw g at e in
      (length_is (length r.shapes) (length texts) g, some_operands r.makes (accept_all r.shapes texts no_operands) fit there))
  | inr g ↦ (let no : Err cause.OperandCount ≡ Ok fit = rw g at e in absurd cc)
]

same_named : (a b : List ℕ) → a ≡ b → pointwise nat_eq a b ≡ true
same_named a b e = subst (λ t. pointwise nat_eq a t ≡ true) e (itself a)
  where
    itself : (t : List ℕ) → pointwise nat_eq t t ≡ true
    itself [] = refl
    itself (x ∷ xs) = (let one : nat_eq x x ≡ true = grind (arith, nat_tests) in rw one (itself xs))

two_fit : (r s : Row) (texts : List (List ℕ)) (f g : Fit) → rows_apart r s ≡ true → r.mnemonic ≡ s.mnemonic → fits r texts ≡ Ok f → fits s texts ≡ Ok g → ⊥
two_fit r s texts f g h same er es =
    let named : pointwise nat_eq r.mnemonic s.mnemonic ≡ true = same_named r.mnemonic s.mnemonic same in
    let far : apart r.shapes s.shapes ≡ true = (λ i. not (sym named i) || apart r.shapes s.shapes) ∙ h in
    let one : (length r.shapes ≡ length texts) × ((p : Operands) × (accept_all r.shapes texts no_operands ≡ Some p)) = accepts r texts f er in
    let two : (length s.shapes ≡ length texts) × ((p : Operands) × (accept_all s.shapes texts no_operands ≡ Some p)) = accepts s texts g es in
    apart_refuses r.shapes s.shapes texts no_operands one.1.0 no_operands two.1.0 far one.0 two.0 one.1.1 two.1.1

behind_apart : (r : Row) (rs : List Row) (k : ℕ) (s : Row) → list_all (rows_apart r) rs ≡ true → slice_get rs k ≡ Some s → rows_apart r s ≡ true
behind_apart r [] k s all e = absurd cc
behind_apart r (x ∷ xs) zero s all e = (let same : x ≡ s = cc in ap (rows_apart r) (sym same) ∙ (both (rows_apart r x) (list_all (rows_apart r) xs) all).0)
behind_apart r (x ∷ xs) (suc k) s all e = behind_apart r xs k s (both (rows_apart r x) (list_all (rows_apart r) xs) all).1 e

one_place : (rows : List Row) (texts : List (List ℕ)) (j k : ℕ) (r s : Row) (f g : Fit) → all_apart rows ≡ true → slice_get rows j ≡ Some r → slice_get rows k ≡ Some s → r.mnemonic ≡ s.mnemonic → fits r texts ≡ Ok f → fits s texts ≡ Ok g → j ≡ k
one_place [] texts j k r s f g all er es same fr fs = absurd cc
one_place (x ∷ xs) texts zero zero r s f g all er es same fr fs = refl
one_place (x ∷ xs) texts zero (suc k) r s f g all er es same fr fs =
    let here : x ≡ r = cc in
    let first : list_all (rows_apart r) xs ≡ true = ap (λ y. list_all (rows_apart y) xs) (sym here) ∙ (both (list_all (rows_apart x) xs) (all_apart xs) all).0 in
    absurd (two_fit r s texts f g (behind_apart r xs k s first es) same fr fs)
one_place (x ∷ xs) texts (suc j) zero r s f g all er es same fr fs =
    let here : x ≡ s = cc in
    let first : list_all (rows_apart s) xs ≡ true = ap (λ y. list_all (rows_apart y) xs) (sym here) ∙ (both (list_all (rows_apart x) xs) (all_apart xs) all).0 in
    absurd (two_fit s r texts g f (behind_apart s xs j r first er) (sym same) fs fr)
one_place (x ∷ xs) texts (suc j) (suc k) r s f g all er es same fr fs = ap (λ n. suc n) (one_place xs texts j k r s f g (both (list_all (rows_apart x) xs) (all_apart xs) all).1 er es same fr fs)

pub one_form : (texts : List (List ℕ)) (j k : ℕ) (r s : Row) (f g : Fit) → slice_get forms j ≡ Some r → slice_get forms k ≡ Some s → r.mnemonic ≡ s.mnemonic → fits r texts ≡ Ok f → fits s texts ≡ Ok g → j ≡ k
one_form texts j k r s f g er es same fr fs = one_place forms texts j k r s f g table_apart er es same fr fs

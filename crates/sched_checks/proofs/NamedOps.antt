-- A list of opcodes that names none twice.
use Rattle.std.proofs.Common.{◌≡◌, ℕ, List, [], ◌∷◌, ◌++◌, Bool, true, false, ◌||◌, Some, refl, sym, ◌∙◌, ap, true≢false}
use Rattle.std.specs.Prelude.{slice_get}
use Rattle.std.specs.Cmp.Lexicographic.{pointwise, same_text}
use Rattle.std.specs.List.{list_any, position_or_len}
use Rattle.std.proofs.lemmas.Bool.{eq-eqb, ne_eqb}
use Rattle.std.proofs.lemmas.List.Folds.{list_any-append}
use Rattle.std.proofs.Common.{nat_eq}
use Rattle.rv_isa.specs.declared.op.Op.{Op}
use Rattle.rv_isa.specs.Opcodes.{facts_of, opcodes, op_number, same_op}
use Rattle.rv_isa.proofs.OpNumbers.{at_its_number}

pub absorbs : (x b : Bool) → (b ≡ true → x ≡ true) → x ≡ (x || b)
absorbs true b h = refl
absorbs false true h = h refl
absorbs false false h = refl

-- an opcode that is named already adds nothing
pub named_already : (o p : Op) (ops : List Op) → true ≡ list_any (same_op p) ops → list_any (same_op o) ops ≡ (list_any (same_op o) ops || same_op o p)
named_already o p ops h = absorbs (list_any (same_op o) ops) (same_op o p) (λ e.
    ap (λ m. list_any (λ q. pointwise nat_eq m (facts_of q).mnemonic) ops) (same_text (facts_of o).mnemonic (facts_of p).mnemonic (sym e)) ∙ sym h)

or_false : (b : Bool) → (b || false) ≡ b
or_false true = refl
or_false false = refl

pub named_last : (o p : Op) (ops : List Op) → list_any (same_op o) (ops ++ p ∷ []) ≡ (list_any (same_op o) ops || same_op o p)
named_last o p ops = list_any-append (same_op o) ops (p ∷ []) ∙ ap (λ b. list_any (same_op o) ops || b) (or_false (same_op o p))

-- opcodes are one where their numbers are

same_text_as : (a : List ℕ) → pointwise nat_eq a a ≡ true
same_text_as [] = refl
same_text_as (x ∷ xs) = let e : nat_eq x x ≡ true = eq-eqb x x refl in rw e (same_text_as xs)

one_number : (a b : Op) → op_number a ≡ op_number b → same_op a b ≡ true
one_number a b e =
    let same : Some a ≡ Some b = sym (at_its_number a) ∙ ap (slice_get opcodes) e ∙ at_its_number b in
    let one : a ≡ b = cc in
    ap (λ o. pointwise nat_eq (facts_of a).mnemonic (facts_of o).mnemonic) (sym one) ∙ same_text_as (facts_of a).mnemonic

pub same_number : (a b : Op) → nat_eq (op_number a) (op_number b) ≡ same_op a b
same_number a b = by_test (same_op a b) refl
  where
    by_test : (t : Bool) → same_op a b ≡ t → nat_eq (op_number a) (op_number b) ≡ t
    by_test true h = eq-eqb (op_number a) (op_number b) (ap (λ m. position_or_len (λ o. pointwise nat_eq m (facts_of o).mnemonic) opcodes) (same_text (facts_of a).mnemonic (facts_of b).mnemonic (sym h)))
    by_test false h = ne_eqb (op_number a) (op_number b) (λ e. true≢false (sym (one_number a b e) ∙ h))

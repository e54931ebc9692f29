-- the first of all faults from the first of each rank, and the one answer of a text
use Rattle.std.proofs.Common.{◌≡◌, ◌⊎◌, ℕ, ◌+◌, ◌*◌, ◌<◌, inl, inr, List, [], ◌∷◌, ◌++◌, length, None, Some, sym, ◌∙◌, ap, refl, subst, arith, nat_eq, nat_lt}
use Rattle.std.proofs.lemmas.List.{append-nil, length-append}
use Rattle.std.specs.List.{flat_map}
use Rattle.std.specs.declared.option.Option.{Option}
use Rattle.rv_asm.specs.declared.fault.AsmRefusal.{AsmRefusal}
use Rattle.rv_asm.specs.declared.fault.Cause.{Cause}
use Rattle.rv_asm.specs.declared.fault.Cause.TheVariants as cause
use Rattle.rv_asm.specs.declared.fault.Fault.{Fault}
use Rattle.rv_asm.specs.declared.item.Item.{Item}
use Rattle.rv_asm.specs.Pieces.{Piece, IsCut}
use Rattle.rv_asm.specs.Operands.{with_front}
use Rattle.rv_asm.specs.Faults.{key, earlier, least, IsFirst, IsMemory, kind_of, refusal_of}
use Rattle.rv_asm.specs.LongLines.{lines_of, long_in, long_from}
use Rattle.rv_asm.specs.Steps.{Known, start, run, first_of}
use Rattle.rv_asm.specs.Program.{items_from, names_from, statements, own_of, bad_of, comment_of, unclosed_of, of_each, faults_of, IsProgram, IsFault}
use Rattle.rv_asm.proofs.Cut.{decided, cut_unique, some_cut_of}
use Rattle.rv_asm.proofs.First.{keeps, earlier_assoc, least_append, least_none, least_some, first_unique}
use Rattle.rv_asm.proofs.Ran.{IsRead, is_read, front_front}

-- a line that is too long comes before those of the lines behind it
kept : (f : Fault) (n : ℕ) (ls : List (List ℕ)) → key f < 5 * n → earlier (Some f) (least (long_in n ls)) ≡ Some f
kept f n [] lt = refl
kept f n (l ∷ ls) lt =
    let more : earlier (Some f) (least (long_in (n + 1) ls)) ≡ Some f = kept f (n + 1) ls (omega (arith, lt)) in
    let g : Fault = record { line = n; cause = cause.LongLine } in
    elim (decided (nat_lt 4096 (length l))) [
      | inl h ↦ rw h (earlier_assoc (Some f) (Some g) (least (long_in (n + 1) ls)) ∙ ap (λ o. earlier o (least (long_in (n + 1) ls))) (keeps f g (omega (arith, lt))) ∙ more)
      | inr h ↦ rw h more
    ]

lines_nil : (text : List ℕ) → with_front [] (lines_of text) ≡ lines_of text
lines_nil [] = refl
lines_nil (b ∷ bs) = elim (decided (nat_eq b 10)) [ inl h ↦ rw h refl | inr h ↦ rw h (front_front [] (b ∷ []) (lines_of bs)) ]

long_is : (n : ℕ) (front text : List ℕ) → long_from n (length front) text ≡ least (long_in n (with_front front (lines_of text)))
long_is n front [] = elim (decided (nat_lt 4096 (length front))) [
  | inl h ↦ rw (append-nil front, h) refl
  | inr h ↦ rw (append-nil front, h) refl
]
long_is n front (b ∷ bs) =
    let f : Fault = record { line = n; cause = cause.LongLine } in
    elim (decided (nat_eq b 10)) [
      | inl h ↦ elim (decided (nat_lt 4096 (length front))) [
        | inl g ↦ rw (h, append-nil front, g) (sym (kept f (n + 1) (lines_of bs) (omega arith)))
        | inr g ↦ rw (h, append-nil front, g) (long_is (n + 1) [] bs ∙ ap (λ ls. least (long_in (n + 1) ls)) (lines_nil bs))
      ]
      | inr h ↦ rw h (ap (λ c. long_from n c bs) (sym (length-append front (b ∷ []))) ∙ long_is n (front ++ b ∷ []) bs ∙ ap (λ ls. least (long_in n ls)) (sym (front_front front (b ∷ []) (lines_of bs))))
    ]

five : (a b c d e : List Fault) → least (a ++ b ++ c ++ d ++ e) ≡ earlier (earlier (earlier (earlier (least a) (least b)) (least c)) (least d)) (least e)
five a b c d e =
    least_append (a ++ b ++ c ++ d) e
    ∙ ap (λ o. earlier o (least e)) (least_append (a ++ b ++ c) d
    ∙ ap (λ o. earlier o (least d)) (least_append (a ++ b) c
    ∙ ap (λ o. earlier o (least c)) (least_append a b)))

-- what the five firsts come to is the first of all
first_is : (text : List ℕ) (pieces : List Piece) (r : Known) (long : Option Fault) → IsRead pieces r → long ≡ long_from 1 0 text → first_of long r ≡ least (faults_of text pieces)
first_is text pieces r long is e =
    let long_is_least : long ≡ least (long_in 1 (lines_of text)) = e ∙ long_is 1 [] text ∙ ap (λ ls. least (long_in 1 ls)) (lines_nil text) in
    (λ i. earlier (earlier (earlier (earlier (long_is_least i) (is.bad_is i)) (is.own_is i)) (is.comment_is i)) (is.unclosed_is i))
    ∙ sym (five (long_in 1 (lines_of text)) (of_each bad_of 1 pieces) (flat_map own_of (statements 1 pieces)) (of_each comment_of 1 pieces) (of_each unclosed_of 1 pieces))

pub is_program : (text : List ℕ) (all : List Item) (symbols : List (List ℕ)) (r : Known) (long : Option Fault) → (pieces : List Piece) × IsCut text pieces × (r ≡ run start pieces) → long ≡ long_from 1 0 text
    → all ≡ r.items → symbols ≡ r.names → first_of long r ≡ None → IsProgram text all symbols
is_program text all symbols r long (pieces, cut, is_r) e is_items is_names none =
    let read : IsRead pieces r = subst (IsRead pieces) (sym is_r) (is_read pieces cut.first) in
    record {
      pieces = pieces;
      cut = cut;
      no_fault = least_none (faults_of text pieces) (sym (first_is text pieces r long read e) ∙ none);
      items = is_items ∙ read.items_are;
      names = is_names ∙ read.names_are;
    }

pub is_fault : (text : List ℕ) (f : Fault) (told : AsmRefusal) (r : Known) (long : Option Fault) → (pieces : List Piece) × IsCut text pieces × (r ≡ run start pieces) → long ≡ long_from 1 0 text
    → Some f ≡ first_of long r → told ≡ refusal_of f → IsFault text told
is_fault text f told r long (pieces, cut, is_r) e some is_told =
    let read : IsRead pieces r = subst (IsRead pieces) (sym is_r) (is_read pieces cut.first) in
    record { pieces = pieces; cut = cut; fault = f; first = least_some (faults_of text pieces) f (sym (some ∙ first_is text pieces r long read e)); told = is_told }

no_first : (a b : List Fault) (f : Fault) → a ++ f ∷ b ≡ [] → ⊥
no_first [] b f e = cc
no_first (x ∷ xs) b f e = cc

pub one_items : (text : List ℕ) (a b : List Item) (m n : List (List ℕ)) → IsProgram text a m → IsProgram text b n → a ≡ b
one_items text a b m n p q = p.items ∙ ap (λ c. items_from [] (statements 1 c)) (cut_unique text p.pieces q.pieces p.cut q.cut) ∙ sym q.items

pub one_names : (text : List ℕ) (a b : List Item) (m n : List (List ℕ)) → IsProgram text a m → IsProgram text b n → m ≡ n
one_names text a b m n p q = p.names ∙ ap (λ c. names_from [] (statements 1 c)) (cut_unique text p.pieces q.pieces p.cut q.cut) ∙ sym q.names

pub one_fault : (text : List ℕ) (r s : AsmRefusal) → IsFault text r → IsFault text s → r ≡ s
one_fault text r s p q =
    let first : IsFirst (faults_of text q.pieces) p.fault = subst (λ c. IsFirst (faults_of text c) p.fault) (cut_unique text p.pieces q.pieces p.cut q.cut) p.first in
    p.told ∙ ap refusal_of (first_unique (faults_of text q.pieces) p.fault q.fault first q.first) ∙ sym q.told

pub not_both : (text : List ℕ) (a : List Item) (m : List (List ℕ)) (r : AsmRefusal) → IsProgram text a m → IsFault text r → ⊥
not_both text a m r p q =
    let none : faults_of text q.pieces ≡ [] = ap (faults_of text) (sym (cut_unique text p.pieces q.pieces p.cut q.cut)) ∙ p.no_fault in
    no_first q.first.before q.first.after q.fault (sym q.first.among ∙ none)

pub some_answer : (text : List ℕ) → ((items : List Item) × (names : List (List ℕ)) × IsProgram text items names) ⊎ ((r : AsmRefusal) × IsFault text r)
some_answer text =
    let there : (pieces : List Piece) × IsCut text pieces = some_cut_of text in
    go there.0 there.1 (least (faults_of text there.0)) refl
  where
    go : (pieces : List Piece) → IsCut text pieces → (o : Option Fault) → least (faults_of text pieces) ≡ o → ((items : List Item) × (names : List (List ℕ)) × IsProgram text items names) ⊎ ((r : AsmRefusal) × IsFault text r)
    go pieces cut None e = inl (
      items_from [] (statements 1 pieces),
      names_from [] (statements 1 pieces),
      record { pieces = pieces; cut = cut; no_fault = least_none (faults_of text pieces) e; items = refl; names = refl },
    )
    go pieces cut (Some f) e = inr (refusal_of f, record { pieces = pieces; cut = cut; fault = f; first = least_some (faults_of text pieces) f e; told = refl })

-- no fault of a text is told as want of memory
told_of_text : (cause : Cause) → IsMemory (kind_of cause) → ⊥
told_of_text cause.LongLine e = cc
told_of_text cause.BadByte e = cc
told_of_text cause.Directive e = cc
told_of_text cause.Compressed e = cc
told_of_text cause.UnknownMnemonic e = cc
told_of_text cause.OperandCount e = cc
told_of_text cause.BadOperand e = cc
told_of_text cause.ImmediateRange e = cc
told_of_text cause.Instrument e = cc
told_of_text cause.OpenComment e = cc

pub no_line : (f : Fault) (told : AsmRefusal) → told ≡ refusal_of f → IsMemory told.kind → told.line ≡ 0
no_line f told e memory = absurd (told_of_text f.cause (sym (ap (λ r. r.kind) e) ∙ memory))

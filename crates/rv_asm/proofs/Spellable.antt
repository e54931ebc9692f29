-- each instruction of a program can be spelled with its names, and each name is a symbolic immediate
use Rattle.std.proofs.Common.{zero, suc, ◌≡◌, ◌≢◌, ◌⊎◌, ℕ, ℤ, pos, ◌+◌, ◌*◌, ◌^◌, ◌<◌, ◌≤◌, inl, inr, List, [], ◌∷◌, ◌++◌, length, map, None, Some, Ok, Err, sym, ◌∙◌, ap, refl, subst, arith, nat_eq, true, false, Bool, cond, ◌&&◌, length-append}
use Rattle.std.specs.Prelude.{◌||◌, All, codes}
use Rattle.std.specs.List.{AllByRecursion, list_all, list_any, starts_with}
use Rattle.std.specs.Ordering.{int_eq}
use Rattle.std.specs.declared.option.Option.{Option}
use Rattle.std.specs.declared.result.Result.{Result}
use Rattle.rv_isa.specs.declared.op.Op.{Op}
use Rattle.rv_isa.specs.declared.op.Op.TheVariants as op
use Rattle.rv_isa.specs.declared.instr.Imm.{Imm}
use Rattle.rv_isa.specs.declared.instr.Imm.TheVariants as imm
use Rattle.rv_isa.specs.declared.instr.Instr.{Instr}
use Rattle.rv_isa.specs.Instruction.{is_lawful}
use Rattle.rv_isa.specs.Spelling.{IsNamed}
use Rattle.rv_isa.specs.Symbol.{IsSymbolText}
use Rattle.rv_expand.specs.declared.pseudo.Operand.{Operand}
use Rattle.rv_expand.specs.declared.pseudo.Operand.TheVariants as asks
use Rattle.rv_expand.specs.declared.pseudo.PseudoKind.{PseudoKind}
use Rattle.rv_expand.specs.declared.pseudo.PseudoKind.TheVariants as kind
use Rattle.rv_expand.specs.Constant.{added, high_part, is_word, low_bits, low_part, quotient_of, shifted, word}
use Rattle.rv_expand.specs.Expansion.{expanded, loaded}
use Rattle.rv_expand.specs.Forms.{number}
use Rattle.rv_expand.specs.Operands.{fits, is_that, operands_of}
use Rattle.rv_expand.proofs.Expansions.{expanded_lawful}
use Rattle.rv_expand.proofs.Lawful.{shifted_lawful, length-shifted}
use Rattle.rv_asm.specs.declared.class.ByteClass.TheVariants as class
use Rattle.rv_asm.specs.declared.fault.Cause.{Cause}
use Rattle.rv_asm.specs.declared.fault.Cause.TheVariants as cause
use Rattle.rv_asm.specs.declared.form.Makes.{Makes}
use Rattle.rv_asm.specs.declared.form.Makes.TheVariants.{One, Several}
use Rattle.rv_asm.specs.declared.item.Item.{Item}
use Rattle.rv_asm.specs.declared.item.Item.TheVariants as item
use Rattle.rv_asm.specs.declared.mark.Remark.{Remark}
use Rattle.rv_asm.specs.declared.mark.Remark.TheVariants as remark
use Rattle.rv_asm.specs.declared.pieces.PieceKind.{PieceKind}
use Rattle.rv_asm.specs.declared.pieces.PieceKind.TheVariants as kinds
use Rattle.rv_asm.specs.Statement.{skip, is_empty, is_assignment, is_directive, behind_labels}
use Rattle.rv_asm.specs.Operands.{Operands, operands_in, with_front}
use Rattle.rv_asm.specs.Forms.{Fit, map_ok}
use Rattle.rv_asm.specs.Table.{forms}
use Rattle.rv_asm.specs.Meaning.{first_word, behind_word, is_refused, fit_in, instruction_in, meaning_at}
use Rattle.rv_asm.specs.Names.{is_same, with_name, number_of}
use Rattle.rv_asm.specs.Marks.{mark_at, remark_of, comment_text}
use Rattle.rv_asm.specs.Items.{numbered, named, pseudo_of, made_by, is_right, code_of, items_at, names_at}
use Rattle.rv_asm.specs.Pieces.{Piece, IsPiece, ArePieces, joined, kind_at, after, separates}
use Rattle.rv_asm.specs.Extents.{feeds, len_of}
use Rattle.rv_asm.specs.Program.{Placed, placed, statements, meaning_of, line_of, marked, marks_of, items_from, names_from, text_of, IsProgram}
use Rattle.rv_asm.specs.Spellable.{IsSpellableItem}
use Rattle.rv_asm.proofs.Cut.{decided, len_some, piece_len, some_bytes}
use Rattle.rv_asm.proofs.Right.{fit_right}
use Rattle.rv_asm.proofs.Holds.{HoldsImm, Holds, judged_holds}
use Rattle.rv_asm.proofs.SymbolTexts.{symbol_text}

-- ---- lists

pub all_of : {X : Type 0} (P : X → Type 0) (xs : List X) → AllByRecursion P xs → All P xs
all_of P [] all k d lt = absurd (omega (arith, lt))
all_of P (x ∷ xs) all zero d lt = all.0
all_of P (x ∷ xs) all (suc k) d lt = all_of P xs all.1 k d (omega (arith, lt))

all_join : {X : Type 0} (P : X → Type 0) (a b : List X) → AllByRecursion P a → AllByRecursion P b → AllByRecursion P (a ++ b)
all_join P [] b pa pb = pb
all_join P (x ∷ xs) b pa pb = (pa.0, all_join P xs b pa.1 pb)

all_weaker : {X : Type 0} (P Q : X → Type 0) → ((x : X) → P x → Q x) → (xs : List X) → AllByRecursion P xs → AllByRecursion Q xs
all_weaker P Q h [] all = tt
all_weaker P Q h (x ∷ xs) all = (h x all.0, all_weaker P Q h xs all.1)

both : (a b : Bool) → a && b ≡ true → (a ≡ true) × (b ≡ true)
both true b h = (refl, h)
both false b h = absurd cc

-- ---- the instructions that a form stands for

abbrev NamedAll : ℕ → List Instr → Type 0
NamedAll c is = AllByRecursion (λ i. IsNamed c i.imm) is

added_named : (c : ℕ) (o : Op) (rd : ℕ) (low : ℤ) → NamedAll c (added o rd low)
added_named c o rd low = go (int_eq low (pos 0))
  where
    go : (b : Bool) → NamedAll c (cond b [] (number o rd rd low ∷ []))
    go true = tt
    go false = (tt, tt)

word_named : (c rd : ℕ) (v : ℤ) → NamedAll c (word rd v)
word_named c rd v = go (int_eq (high_part v) (pos 0))
  where
    go : (b : Bool) → NamedAll c (cond b (number op.Addi rd 0 (low_part v) ∷ []) (number op.Lui rd 0 (high_part v) ∷ added op.Addiw rd (low_part v)))
    go true = (tt, tt)
    go false = (tt, added_named c op.Addiw rd (low_part v))

shifted_named : (c n rd : ℕ) (v : ℤ) → NamedAll c (shifted n rd v)
shifted_named c zero rd v = word_named c rd v
shifted_named c (suc n) rd v = go (is_word v) (shifted_named c n rd (quotient_of v))
  where
    go : (b : Bool) → NamedAll c (shifted n rd (quotient_of v)) → NamedAll c (cond b (word rd v) (shifted n rd (quotient_of v) ++ low_bits rd v))
    go true h = word_named c rd v
    go false h = all_join (λ i. IsNamed c i.imm) (shifted n rd (quotient_of v)) (low_bits rd v) h (tt, added_named c op.Addi rd (low_part v))

loaded_named : (c rd : ℕ) (n : Imm) → NamedAll c (loaded rd n)
loaded_named c rd imm.None = tt
loaded_named c rd (imm.Value v) = shifted_named c 3 rd v
loaded_named c rd (imm.Symbol k) = tt

expanded_named : (c : ℕ) (k : PseudoKind) (rd rs rt : ℕ) (n : Imm) → IsNamed c n → NamedAll c (expanded k rd rs rt n)
expanded_named c kind.Nop rd rs rt n h = (tt, tt)
expanded_named c kind.Li rd rs rt n h = loaded_named c rd n
expanded_named c kind.Mv rd rs rt n h = (tt, tt)
expanded_named c kind.Not rd rs rt n h = (tt, tt)
expanded_named c kind.Neg rd rs rt n h = (tt, tt)
expanded_named c kind.Negw rd rs rt n h = (tt, tt)
expanded_named c kind.SextW rd rs rt n h = (tt, tt)
expanded_named c kind.ZextB rd rs rt n h = (tt, tt)
expanded_named c kind.Seqz rd rs rt n h = (tt, tt)
expanded_named c kind.Snez rd rs rt n h = (tt, tt)
expanded_named c kind.Sltz rd rs rt n h = (tt, tt)
expanded_named c kind.Sgtz rd rs rt n h = (tt, tt)
expanded_named c kind.Sgt rd rs rt n h = (tt, tt)
expanded_named c kind.Sgtu rd rs rt n h = (tt, tt)
expanded_named c kind.Beqz rd rs rt n h = (h, tt)
expanded_named c kind.Bnez rd rs rt n h = (h, tt)
expanded_named c kind.Blez rd rs rt n h = (h, tt)
expanded_named c kind.Bgez rd rs rt n h = (h, tt)
expanded_named c kind.Bltz rd rs rt n h = (h, tt)
expanded_named c kind.Bgtz rd rs rt n h = (h, tt)
expanded_named c kind.Bgt rd rs rt n h = (h, tt)
expanded_named c kind.Ble rd rs rt n h = (h, tt)
expanded_named c kind.Bgtu rd rs rt n h = (h, tt)
expanded_named c kind.Bleu rd rs rt n h = (h, tt)
expanded_named c kind.J rd rs rt n h = (h, tt)
expanded_named c kind.Jal rd rs rt n h = (h, tt)
expanded_named c kind.Jr rd rs rt n h = (tt, tt)
expanded_named c kind.JrOff rd rs rt n h = (h, tt)
expanded_named c kind.Jalr rd rs rt n h = (tt, tt)
expanded_named c kind.JalrTo rd rs rt n h = (tt, tt)
expanded_named c kind.JalrOff rd rs rt n h = (h, tt)
expanded_named c kind.Ret rd rs rt n h = (tt, tt)
expanded_named c kind.Call rd rs rt n h = (h, (h, tt))
expanded_named c kind.Tail rd rs rt n h = (h, (h, tt))
expanded_named c kind.La rd rs rt n h = (h, (h, tt))
expanded_named c kind.Lla rd rs rt n h = (h, (h, tt))
expanded_named c kind.Fence rd rs rt n h = (tt, tt)
expanded_named c kind.AddImm rd rs rt n h = (h, tt)
expanded_named c kind.AndImm rd rs rt n h = (h, tt)
expanded_named c kind.OrImm rd rs rt n h = (h, tt)
expanded_named c kind.XorImm rd rs rt n h = (h, tt)
expanded_named c kind.SltImm rd rs rt n h = (h, tt)
expanded_named c kind.SltuImm rd rs rt n h = (h, tt)
expanded_named c kind.SllImm rd rs rt n h = (h, tt)
expanded_named c kind.SrlImm rd rs rt n h = (h, tt)
expanded_named c kind.SraImm rd rs rt n h = (h, tt)
expanded_named c kind.AddwImm rd rs rt n h = (h, tt)
expanded_named c kind.SllwImm rd rs rt n h = (h, tt)
expanded_named c kind.SrlwImm rd rs rt n h = (h, tt)
expanded_named c kind.SrawImm rd rs rt n h = (h, tt)
expanded_named c kind.AddTprel rd rs rt n h = (tt, tt)

length-loaded : (rd : ℕ) (n : Imm) → length (loaded rd n) ≤ 8
length-loaded rd imm.None = omega arith
length-loaded rd (imm.Value v) = omega (arith, length-shifted 3 rd v)
length-loaded rd (imm.Symbol k) = omega arith

length-expanded : (k : PseudoKind) (rd rs rt : ℕ) (n : Imm) → length (expanded k rd rs rt n) ≤ 8
length-expanded kind.Li rd rs rt n = length-loaded rd n
length-expanded _ rd rs rt n = omega arith

loaded_lawful : (rd : ℕ) (n : Imm) (symbol : List ℕ) → rd < 32 → HoldsImm n symbol → list_all is_lawful (loaded rd n) ≡ true
loaded_lawful rd imm.None symbol d h = refl
loaded_lawful rd (imm.Value v) symbol d h = shifted_lawful 3 rd v d h
loaded_lawful rd (imm.Symbol k) symbol d h = refl

is_li : (k : PseudoKind) → (k ≡ kind.Li) ⊎ (k ≢ kind.Li)
is_li kind.Li = inl refl
is_li _ = inr (λ e. cc)

several_lawful : (k : PseudoKind) (p : Operands) (n : Imm) → Holds p → HoldsImm n p.symbol → fits (pseudo_of k p n) ≡ true → list_all is_lawful (expanded k p.rd p.rs1 p.rs2 n) ≡ true
several_lawful k p n so h fit = elim (is_li k) [
  | inl e ↦ ap (λ j. list_all is_lawful (expanded j p.rd p.rs1 p.rs2 n)) e ∙ loaded_lawful p.rd n p.symbol so.rd h
  | inr other ↦ expanded_lawful k p.rd p.rs1 p.rs2 n so.rd so.rs1 so.rs2 other fit
]

all_lawful : (is : List Instr) → list_all is_lawful is ≡ true → AllByRecursion (λ i. is_lawful i ≡ true) is
all_lawful [] h = tt
all_lawful (i ∷ is) h = let two : (is_lawful i ≡ true) × (list_all is_lawful is ≡ true) = both (is_lawful i) (list_all is_lawful is) h in (two.0, all_lawful is two.1)

made_lawful : (m : Makes) (p : Operands) (n : Imm) → Holds p → HoldsImm n p.symbol → is_right m p n ≡ true → AllByRecursion (λ i. is_lawful i ≡ true) (made_by m p n)
made_lawful (One o) p n so h right = (right, tt)
made_lawful (Several k) p n so h right = all_lawful (expanded k p.rd p.rs1 p.rs2 n) (several_lawful k p n so h right)

made_named : (c : ℕ) (m : Makes) (p : Operands) (n : Imm) → IsNamed c n → NamedAll c (made_by m p n)
made_named c (One o) p n h = (h, tt)
made_named c (Several k) p n h = expanded_named c k p.rd p.rs1 p.rs2 n h

length-made : (m : Makes) (p : Operands) (n : Imm) → length (made_by m p n) ≤ 8
length-made (One o) p n = omega arith
length-made (Several k) p n = length-expanded k p.rd p.rs1 p.rs2 n

-- ---- the symbol's number

that_symbol : (o : Operand) (j k : ℕ) → is_that o (imm.Symbol j) ≡ is_that o (imm.Symbol k)
that_symbol asks.Nothing j k = refl
that_symbol asks.AnyNumber j k = refl
that_symbol (asks.Of o) j k = refl
that_symbol asks.Symbol j k = refl

right_symbol : (m : Makes) (p : Operands) (j k : ℕ) → is_right m p (imm.Symbol j) ≡ is_right m p (imm.Symbol k)
right_symbol (One o) p j k = refl
right_symbol (Several s) p j k = ap (λ b. (((operands_of s).rd || nat_eq p.rd 0) && ((operands_of s).rs || nat_eq p.rs1 0) && ((operands_of s).rt || nat_eq p.rs2 0)) && b) (that_symbol (operands_of s).imm j k)

numbered_right : (m : Makes) (p : Operands) (names : List (List ℕ)) (n : Imm) → is_right m p n ≡ true → is_right m p (numbered names p.symbol n) ≡ true
numbered_right m p names imm.None h = h
numbered_right m p names (imm.Value v) h = h
numbered_right m p names (imm.Symbol k) h = right_symbol m p (number_of names p.symbol) k ∙ h

numbered_holds : (names : List (List ℕ)) (symbol : List ℕ) (n : Imm) → HoldsImm n symbol → HoldsImm (numbered names symbol n) symbol
numbered_holds names symbol imm.None h = tt
numbered_holds names symbol (imm.Value v) h = h
numbered_holds names symbol (imm.Symbol k) h = h

place_found : (name : List ℕ) (names : List (List ℕ)) → list_any (is_same name) names ≡ true → number_of names name < length names
place_found name [] h = absurd cc
place_found name (x ∷ xs) h = elim (decided (is_same name x)) as (λ _. number_of (x ∷ xs) name < length (x ∷ xs)) [
  | inl g ↦ (let here : number_of (x ∷ xs) name ≡ 0 = rw g refl in omega (arith, here))
  | inr g ↦ (let more : list_any (is_same name) xs ≡ true = rw g at h in
      let here : number_of (x ∷ xs) name ≡ 1 + number_of xs name = rw g refl in
      omega (arith, here, place_found name xs more))
]

place_high : (name : List ℕ) (names : List (List ℕ)) → number_of names name ≤ length names
place_high name [] = omega arith
place_high name (x ∷ xs) = elim (decided (is_same name x)) as (λ _. number_of (x ∷ xs) name ≤ length (x ∷ xs)) [
  | inl g ↦ (let here : number_of (x ∷ xs) name ≡ 0 = rw g refl in omega (arith, here))
  | inr g ↦ (let here : number_of (x ∷ xs) name ≡ 1 + number_of xs name = rw g refl in omega (arith, here, place_high name xs))
]

number_low : (name : List ℕ) (names : List (List ℕ)) → number_of names name < length (with_name names name)
number_low name names = elim (decided (list_any (is_same name) names)) as (λ _. number_of names name < length (with_name names name)) [
  | inl h ↦ (let same : with_name names name ≡ names = rw h refl in subst (λ t. number_of names name < length t) (sym same) (place_found name names h))
  | inr h ↦ (let same : with_name names name ≡ names ++ name ∷ [] = rw h refl in
      let size : length (names ++ name ∷ []) ≡ length names + 1 = length-append names (name ∷ []) in
      subst (λ t. number_of names name < length t) (sym same) (omega (arith, size, place_high name names)))
]

numbered_named : (names : List (List ℕ)) (symbol : List ℕ) (n : Imm) → IsNamed (length (named names symbol n)) (numbered names symbol n)
numbered_named names symbol imm.None = tt
numbered_named names symbol (imm.Value v) = tt
numbered_named names symbol (imm.Symbol k) = number_low symbol names

-- ---- the names

with_grows : (names : List (List ℕ)) (name : List ℕ) → length names ≤ length (with_name names name)
with_grows names name = elim (decided (list_any (is_same name) names)) as (λ _. length names ≤ length (with_name names name)) [
  | inl h ↦ (let same : with_name names name ≡ names = rw h refl in omega (arith, ap length same))
  | inr h ↦ (let same : with_name names name ≡ names ++ name ∷ [] = rw h refl in
      let size : length (names ++ name ∷ []) ≡ length names + 1 = length-append names (name ∷ []) in
      omega (arith, ap length same, size))
]

named_grows : (names : List (List ℕ)) (symbol : List ℕ) (n : Imm) → length names ≤ length (named names symbol n)
named_grows names symbol imm.None = omega arith
named_grows names symbol (imm.Value v) = omega arith
named_grows names symbol (imm.Symbol k) = with_grows names symbol

at_grows : (names : List (List ℕ)) (found : Result (Option Fit) Cause) → length names ≤ length (names_at names found)
at_grows names (Ok None) = omega arith
at_grows names (Ok (Some fit)) = named_grows names fit.operands.symbol fit.operands.imm
at_grows names (Err c) = omega arith

all_grow : (names : List (List ℕ)) (ss : List (List Placed)) → length names ≤ length (names_from names ss)
all_grow names [] = omega arith
all_grow names (s ∷ ss) = omega (arith, at_grows names (meaning_of s), all_grow (names_at names (meaning_of s)) ss)

with_symbols : (names : List (List ℕ)) (name : List ℕ) → AllByRecursion IsSymbolText names → IsSymbolText name → AllByRecursion IsSymbolText (with_name names name)
with_symbols names name all one = elim (decided (list_any (is_same name) names)) as (λ _. AllByRecursion IsSymbolText (with_name names name)) [
  | inl h ↦ (let same : with_name names name ≡ names = rw h refl in subst (AllByRecursion IsSymbolText) (sym same) all)
  | inr h ↦ (let same : with_name names name ≡ names ++ name ∷ [] = rw h refl in subst (AllByRecursion IsSymbolText) (sym same) (all_join IsSymbolText names (name ∷ []) all (one, tt)))
]

named_symbols : (names : List (List ℕ)) (symbol : List ℕ) (n : Imm) → HoldsImm n symbol → AllByRecursion IsSymbolText names → AllByRecursion IsSymbolText (named names symbol n)
named_symbols names symbol imm.None h all = all
named_symbols names symbol (imm.Value v) h all = all
named_symbols names symbol (imm.Symbol k) h all = with_symbols names symbol all (symbol_text symbol h)

-- ---- what a statement means

fit_holds : (mnemonic : List ℕ) (texts : List (List ℕ)) (fit : Fit) → fit_in mnemonic texts ≡ Ok fit → Holds fit.operands
unfolding fit_in
fit_holds mnemonic texts fit e = judged_holds forms cause.UnknownMnemonic mnemonic texts fit e

record IsMeant (fit : Fit) : Type 0 where
  holds : Holds fit.operands
  right : is_right fit.makes fit.operands fit.operands.imm ≡ true

instruction_meant : (text : List ℕ) (fit : Fit) → instruction_in text ≡ Ok fit → IsMeant fit
instruction_meant text fit e = elim (decided (starts_with nat_eq text (codes "c."))) [
  | inl h ↦ absurd (let no : Err cause.Compressed ≡ Ok fit = rw h at e in cc)
  | inr h ↦ (let there : fit_in (first_word text) (operands_in (behind_word text)) ≡ Ok fit = rw h at e in
      record { holds = fit_holds (first_word text) (operands_in (behind_word text)) fit there; right = fit_right (first_word text) (operands_in (behind_word text)) fit there })
]

some_of : (r : Result Fit Cause) (fit : Fit) → map_ok Some r ≡ Ok (Some fit) → r ≡ Ok fit
some_of (Ok f) fit e = cc
some_of (Err c) fit e = absurd cc

meant_at : (text : List ℕ) (fit : Fit) → meaning_at text ≡ Ok (Some fit) → IsMeant fit
meant_at text fit e = elim (decided (is_empty text)) [
  | inl h ↦ absurd (let no : Ok None ≡ Ok (Some fit) = rw h at e in cc)
  | inr h ↦ elim (decided (is_assignment text)) [
    | inl g ↦ absurd (let no : Ok None ≡ Ok (Some fit) = rw (h, g) at e in cc)
    | inr g ↦ elim (decided (is_directive text)) [
      | inl f ↦ elim (decided (is_refused (first_word text))) [
        | inl d ↦ absurd (let no : Err cause.Directive ≡ Ok (Some fit) = rw (h, g, f, d) at e in cc)
        | inr d ↦ absurd (let no : Ok None ≡ Ok (Some fit) = rw (h, g, f, d) at e in cc)
      ]
      | inr f ↦ (let there : map_ok Some (instruction_in text) ≡ Ok (Some fit) = rw (h, g, f) at e in instruction_meant text fit (some_of (instruction_in text) fit there))
    ]
  ]
]

-- ---- the items of statements

module _ (all : List (List ℕ)) where
  named_wider : (c : ℕ) (n : Imm) → c ≤ length all → IsNamed c n → IsNamed (length all) n
  named_wider c imm.None le h = tt
  named_wider c (imm.Value v) le h = tt
  named_wider c (imm.Symbol k) le h = omega (arith, le, h)

  list_spellable : (line : ℕ) (is : List Instr) → AllByRecursion (λ i. is_lawful i ≡ true) is → NamedAll (length all) is → AllByRecursion (IsSpellableItem all) (map (λ i. item.Code line i) is)
  list_spellable line [] lawful names = tt
  list_spellable line (i ∷ is) lawful names = (record { lawful = lawful.0; named = names.0 }, list_spellable line is lawful.1 names.1)

  fit_spellable : (line : ℕ) (names : List (List ℕ)) (fit : Fit) → IsMeant fit → length (named names fit.operands.symbol fit.operands.imm) ≤ length all → AllByRecursion (IsSpellableItem all) (items_at line names (Ok (Some fit)))
  fit_spellable line names fit is le =
      let p : Operands = fit.operands in
      let n : Imm = numbered names p.symbol p.imm in
      list_spellable line (made_by fit.makes p n)
      (made_lawful fit.makes p n is.holds (numbered_holds names p.symbol p.imm is.holds.imm) (numbered_right fit.makes p names p.imm is.right))
      (made_named (length all) fit.makes p n (named_wider (length (named names p.symbol p.imm)) n le (numbered_named names p.symbol p.imm)))

  found_spellable : (line : ℕ) (names : List (List ℕ)) (found : Result (Option Fit) Cause) → ((fit : Fit) → found ≡ Ok (Some fit) → IsMeant fit) → length (names_at names found) ≤ length all
      → AllByRecursion (IsSpellableItem all) (items_at line names found)
  found_spellable line names (Ok None) meant le = tt
  found_spellable line names (Ok (Some fit)) meant le = fit_spellable line names fit (meant fit refl) le
  found_spellable line names (Err c) meant le = tt

  mark_spellable : (line : ℕ) (r : Remark) (text : List ℕ) → AllByRecursion (IsSpellableItem all) (mark_at line r text)
  mark_spellable line remark.Begin text = (tt, tt)
  mark_spellable line remark.End text = (tt, tt)
  mark_spellable line remark.Plain text = tt
  mark_spellable line remark.Refused text = tt

  marked_spellable : (line : ℕ) (k : PieceKind) (bytes : List ℕ) → AllByRecursion (IsSpellableItem all) (marked line k bytes)
  marked_spellable line kinds.Line bytes = mark_spellable line (remark_of (comment_text bytes)) (comment_text bytes)
  marked_spellable line kinds.Block bytes = tt
  marked_spellable line kinds.Quoted bytes = tt
  marked_spellable line kinds.Feed bytes = tt
  marked_spellable line kinds.Semi bytes = tt
  marked_spellable line kinds.Return bytes = tt
  marked_spellable line kinds.Byte bytes = tt

  marks_spellable : (s : List Placed) → AllByRecursion (IsSpellableItem all) (marks_of s)
  marks_spellable [] = tt
  marks_spellable (p ∷ ps) = all_join (IsSpellableItem all) (marked p.line p.kind p.bytes) (marks_of ps) (marked_spellable p.line p.kind p.bytes) (marks_spellable ps)

  items_spellable : (names : List (List ℕ)) (ss : List (List Placed)) → length (names_from names ss) ≤ length all → AllByRecursion (IsSpellableItem all) (items_from names ss)
  items_spellable names [] le = tt
  items_spellable names (s ∷ ss) le =
      let found : Result (Option Fit) Cause = meaning_of s in
      let after_it : length (names_at names found) ≤ length all = omega (arith, all_grow (names_at names found) ss, le) in
      all_join (IsSpellableItem all) (items_at (line_of s) names found ++ marks_of s) (items_from (names_at names found) ss)
      (all_join (IsSpellableItem all) (items_at (line_of s) names found) (marks_of s)
      (found_spellable (line_of s) names found (λ fit e. meant_at (skip class.Blank (behind_labels (text_of s))) fit e) after_it) (marks_spellable s))
      (items_spellable (names_at names found) ss le)

found_symbols : (names : List (List ℕ)) (found : Result (Option Fit) Cause) → ((fit : Fit) → found ≡ Ok (Some fit) → IsMeant fit) → AllByRecursion IsSymbolText names → AllByRecursion IsSymbolText (names_at names found)
found_symbols names (Ok None) meant all = all
found_symbols names (Ok (Some fit)) meant all = named_symbols names fit.operands.symbol fit.operands.imm (meant fit refl).holds.imm all
found_symbols names (Err c) meant all = all

names_symbols : (names : List (List ℕ)) (ss : List (List Placed)) → AllByRecursion IsSymbolText names → AllByRecursion IsSymbolText (names_from names ss)
names_symbols names [] all = all
names_symbols names (s ∷ ss) all = names_symbols (names_at names (meaning_of s)) ss (found_symbols names (meaning_of s) (λ fit e. meant_at (skip class.Blank (behind_labels (text_of s))) fit e) all)

-- ---- how many they are

length-code : (line : ℕ) (is : List Instr) → length (map (λ i. item.Code line i) is) ≡ length is
length-code line [] = refl
length-code line (i ∷ is) = ap (λ n. suc n) (length-code line is)

length-at : (line : ℕ) (names : List (List ℕ)) (found : Result (Option Fit) Cause) → length (items_at line names found) ≤ 8
length-at line names (Ok None) = omega arith
length-at line names (Ok (Some fit)) = omega (arith, length-code line (code_of names fit), length-made fit.makes fit.operands (numbered names fit.operands.symbol fit.operands.imm))
length-at line names (Err c) = omega arith

length-mark : (line : ℕ) (r : Remark) (text : List ℕ) → length (mark_at line r text) ≤ 1
length-mark line remark.Begin text = omega arith
length-mark line remark.End text = omega arith
length-mark line remark.Plain text = omega arith
length-mark line remark.Refused text = omega arith

length-marked : (line : ℕ) (k : PieceKind) (bytes : List ℕ) → length (marked line k bytes) ≤ 1
length-marked line kinds.Line bytes = length-mark line (remark_of (comment_text bytes)) (comment_text bytes)
length-marked line kinds.Block bytes = omega arith
length-marked line kinds.Quoted bytes = omega arith
length-marked line kinds.Feed bytes = omega arith
length-marked line kinds.Semi bytes = omega arith
length-marked line kinds.Return bytes = omega arith
length-marked line kinds.Byte bytes = omega arith

length-marks : (s : List Placed) → length (marks_of s) ≤ length s
length-marks [] = omega arith
length-marks (p ∷ ps) = omega (arith, length-append (marked p.line p.kind p.bytes) (marks_of ps), length-marked p.line p.kind p.bytes, length-marks ps)

abbrev count_all : List (List Placed) → ℕ
count_all [] = 0
count_all (s ∷ ss) = 8 + length s + count_all ss

length-items : (names : List (List ℕ)) (ss : List (List Placed)) → length (items_from names ss) ≤ count_all ss
length-items names [] = omega arith
length-items names (s ∷ ss) =
    let found : Result (Option Fit) Cause = meaning_of s in
    let more : List Item = items_from (names_at names found) ss in
    omega (arith, length-append (items_at (line_of s) names found ++ marks_of s) more, length-append (items_at (line_of s) names found) (marks_of s), length-at (line_of s) names found, length-marks s, length-items (names_at names found) ss)

count_front : (p : Placed) (ss : List (List Placed)) → count_all (with_front (p ∷ []) ss) ≤ 9 + count_all ss
count_front p [] = omega arith
count_front p (s ∷ ss) = omega arith

count_statements : (n : ℕ) (ps : List Piece) → count_all (statements n ps) ≤ 8 + 9 * length ps
count_statements n [] = omega arith
count_statements n (p ∷ ps) =
    let more : count_all (statements (n + feeds p.bytes) ps) ≤ 8 + 9 * length ps = count_statements (n + feeds p.bytes) ps in
    elim (decided (separates p.kind)) as (λ _. count_all (statements n (p ∷ ps)) ≤ 8 + 9 * length (p ∷ ps)) [
      | inl h ↦ (let here : statements n (p ∷ ps) ≡ [] ∷ statements (n + feeds p.bytes) ps = rw h refl in omega (arith, ap count_all here, more))
      | inr h ↦ (let here : statements n (p ∷ ps) ≡ with_front (placed n p ∷ []) (statements (n + feeds p.bytes) ps) = rw h refl in
          omega (arith, ap count_all here, count_front (placed n p) (statements (n + feeds p.bytes) ps), more))
    ]

some_byte : (q : Bool) (p : Piece) (rest text : List ℕ) → p.bytes ++ rest ≡ text → IsPiece q p rest → 1 ≤ length p.bytes
some_byte q p rest [] e is = absurd (some_bytes q p rest is e)
some_byte q p rest (b ∷ bs) e is =
    let len : len_of p.kind (p.bytes ++ rest) ≡ length p.bytes = piece_len p.kind p.bytes rest is.reaches in
    let same : len_of p.kind (p.bytes ++ rest) ≡ len_of (kind_at q (b ∷ bs)) (b ∷ bs) = (λ i. len_of (is.first i) (p.bytes ++ rest)) ∙ (λ i. len_of (kind_at q (e i)) (e i)) in
    omega (arith, len, same, len_some q (b ∷ bs) (omega arith))

few_pieces : (kept : List ℕ) (ps : List Piece) → ArePieces kept ps → length ps ≤ length (joined ps)
few_pieces kept [] all = omega arith
few_pieces kept (p ∷ ps) all = omega (arith, length-append p.bytes (joined ps), some_byte _ p (joined ps) (p.bytes ++ joined ps) refl all.0, few_pieces (after kept p.kind p.bytes) ps all.1)

-- ---- a program

pub spellable : (text : List ℕ) (items : List Item) (names : List (List ℕ)) → IsProgram text items names → All (IsSpellableItem names) items
spellable text items names is =
    subst (All (IsSpellableItem names)) (sym is.items) (all_of (IsSpellableItem names) (items_from [] (statements 1 is.pieces))
    (items_spellable names [] (statements 1 is.pieces) (omega (arith, ap length is.names))))

pub symbols : (text : List ℕ) (items : List Item) (names : List (List ℕ)) → IsProgram text items names → All IsSymbolText names
symbols text items names is = subst (All IsSymbolText) (sym is.names) (all_of IsSymbolText (names_from [] (statements 1 is.pieces)) (names_symbols [] (statements 1 is.pieces) tt))

pub few : (text : List ℕ) (items : List Item) (names : List (List ℕ)) → IsProgram text items names → length text ≤ 8388608 → length items < 2 ^ 32
few text items names is le =
    let count : length items ≤ count_all (statements 1 is.pieces) = omega (arith, ap length is.items, length-items [] (statements 1 is.pieces)) in
    omega (arith, count, count_statements 1 is.pieces, few_pieces [] is.pieces is.cut.first, ap length is.cut.joined, le)

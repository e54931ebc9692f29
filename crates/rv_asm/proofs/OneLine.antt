-- the program of a text of one line that has one statement and no comment
use Rattle.std.proofs.Common.{◌≡◌, ℕ, ◌+◌, ◌≤◌, inl, inr, List, [], ◌∷◌, ◌++◌, length, Some, Ok, sym, ◌∙◌, ap, refl, arith, nat_eq, nat_lt, true, false, Bool, append_assoc, add-zero}
use Rattle.std.specs.Prelude.{◌||◌, map}
use Rattle.std.specs.List.{AllByRecursion, flat_map}
use Rattle.std.proofs.lemmas.Bool.Decides.{nat_tests}
use Rattle.std.proofs.lemmas.List.{append-nil}
use Rattle.rv_asm.specs.declared.class.ByteClass.TheVariants as class
use Rattle.rv_asm.specs.declared.fault.Fault.{Fault}
use Rattle.rv_asm.specs.declared.item.Item.TheVariants as item
use Rattle.rv_asm.specs.declared.pieces.PieceKind.{PieceKind}
use Rattle.rv_asm.specs.declared.pieces.PieceKind.TheVariants as kind
use Rattle.rv_asm.specs.Statement.{is_in, more, behind, behind_labels}
use Rattle.rv_asm.specs.Pieces.{Piece, kind_at, joined, ArePieces}
use Rattle.rv_asm.specs.Extents.{feeds}
use Rattle.rv_asm.specs.Operands.{with_front}
use Rattle.rv_asm.specs.Forms.{Fit}
use Rattle.rv_asm.specs.Meaning.{meaning}
use Rattle.rv_asm.specs.Items.{code_of, items_at, names_at, faults_at, named}
use Rattle.rv_asm.specs.LongLines.{lines_of, long_in}
use Rattle.rv_asm.specs.Program.{Placed, statements, text_of, line_of, meaning_of, marks_of, own_of, is_plain_byte, bad_of, comment_of, unclosed_of, of_each, faults_of, items_from, names_from, IsProgram}
use Rattle.rv_asm.proofs.Cut.{decided}
use Rattle.rv_asm.proofs.Settled.{other_more}

-- the bytes of operands, and with them those between operands
abbrev pub tame : ℕ → Bool
tame b = is_in class.Operand b || nat_eq b 37 || nat_eq b 40 || nat_eq b 41

abbrev pub calm : ℕ → Bool
calm b = tame b || nat_eq b 32 || nat_eq b 44

abbrev pub AreCalm : List ℕ → Type 0
AreCalm text = AllByRecursion (λ b. calm b ≡ true) text

-- what such a byte is not
pub record Others (b : ℕ) : Type 0 where
  pub hash : nat_eq b 35 ≡ false
  pub slash : nat_eq b 47 ≡ false
  pub quote : nat_eq b 34 ≡ false
  pub feed : nat_eq b 10 ≡ false
  pub semi : nat_eq b 59 ≡ false
  pub return_ : nat_eq b 13 ≡ false
  pub colon : nat_eq b 58 ≡ false
  pub plain : is_plain_byte b ≡ true

not_one : (b x : ℕ) → calm b ≡ true → calm x ≡ false → nat_eq b x ≡ false
not_one b x h g = elim (decided (nat_eq b x)) as (λ _. nat_eq b x ≡ false) [
  | inl e ↦ (let same : b ≡ x = grind (arith, nat_tests, e) in let no : true ≡ false = sym h ∙ ap calm same ∙ g in absurd cc)
  | inr e ↦ e
]

plain_is : (b : ℕ) → calm b ≡ true → is_plain_byte b ≡ true
plain_is b h = grind (arith, nat_tests, h)

pub others : (b : ℕ) → calm b ≡ true → Others b
others b h = record {
  hash = not_one b 35 h refl;
  slash = not_one b 47 h refl;
  quote = not_one b 34 h refl;
  feed = not_one b 10 h refl;
  semi = not_one b 59 h refl;
  return_ = not_one b 13 h refl;
  colon = not_one b 58 h refl;
  plain = plain_is b h;
}

-- ---- the cut

abbrev pieces_of : List ℕ → List Piece
pieces_of [] = []
pieces_of (b ∷ bs) = record { kind = kind.Byte; bytes = b ∷ [] } ∷ pieces_of bs

pub calm_kind : (q : Bool) (b : ℕ) (bs : List ℕ) → Others b → kind_at q (b ∷ bs) ≡ kind.Byte
calm_kind true b [] o = rw (o.hash, o.quote, o.feed, o.semi, o.return_) refl
calm_kind false b [] o = rw (o.hash, o.feed, o.semi, o.return_) refl
calm_kind true b (c ∷ cs) o = rw (o.hash, o.slash, o.quote, o.feed, o.semi, o.return_) refl
calm_kind false b (c ∷ cs) o = rw (o.hash, o.slash, o.feed, o.semi, o.return_) refl

joined_is : (text : List ℕ) → joined (pieces_of text) ≡ text
joined_is [] = refl
joined_is (b ∷ bs) = ap (λ t. b ∷ t) (joined_is bs)

are_pieces : (text kept : List ℕ) → AreCalm text → ArePieces kept (pieces_of text)
are_pieces [] kept all = tt
are_pieces (b ∷ bs) kept all = (record { first = sym (calm_kind _ b (joined (pieces_of bs)) (others b all.0)); reaches = refl }, are_pieces bs (more kept b) all.1)

-- ---- the statement

abbrev pub placed_of : ℕ → List ℕ → List Placed
placed_of n [] = []
placed_of n (b ∷ bs) = record { line = n; kind = kind.Byte; bytes = b ∷ [] } ∷ placed_of n bs

pub no_feed : (n b : ℕ) → Others b → n + feeds (b ∷ []) ≡ n
no_feed n b o = rw o.feed (add-zero n)

one_statement : (n : ℕ) (text : List ℕ) → AreCalm text → statements n (pieces_of text) ≡ placed_of n text ∷ []
one_statement n [] all = refl
one_statement n (b ∷ bs) all =
    let p : Placed = record { line = n; kind = kind.Byte; bytes = b ∷ [] } in
    ap (λ m. with_front (p ∷ []) (statements m (pieces_of bs))) (no_feed n b (others b all.0)) ∙ ap (with_front (p ∷ [])) (one_statement n bs all.1)

pub its_text : (n : ℕ) (text : List ℕ) → text_of (placed_of n text) ≡ text
its_text n [] = refl
its_text n (b ∷ bs) = ap (λ t. b ∷ t) (its_text n bs)

pub its_marks : (n : ℕ) (text : List ℕ) → marks_of (placed_of n text) ≡ []
its_marks n [] = refl
its_marks n (b ∷ bs) = its_marks n bs

pub its_line : (n b : ℕ) (bs : List ℕ) → is_in class.Blank b ≡ false → line_of (placed_of n (b ∷ bs)) ≡ n
its_line n b bs h = rw h refl

pub no_labels : (kept text : List ℕ) → AreCalm text → behind kept text ≡ kept ++ text
no_labels kept [] all = sym (append-nil kept)
no_labels kept (b ∷ bs) all = ap (λ k. behind k bs) (other_more kept b (others b all.0).colon) ∙ no_labels (kept ++ b ∷ []) bs all.1 ∙ append_assoc kept (b ∷ []) bs

-- ---- the faults

no_fault : (f : ℕ → PieceKind → List ℕ → List Fault) (n : ℕ) (text : List ℕ) → ((m b : ℕ) → calm b ≡ true → f m kind.Byte (b ∷ []) ≡ []) → AreCalm text → of_each f n (pieces_of text) ≡ []
no_fault f n [] none all = refl
no_fault f n (b ∷ bs) none all = ap (λ t. t ++ of_each f (n + feeds (b ∷ [])) (pieces_of bs)) (none n b all.0) ∙ no_fault f (n + feeds (b ∷ [])) bs none all.1

pub no_bad : (m b : ℕ) → calm b ≡ true → bad_of m kind.Byte (b ∷ []) ≡ []
no_bad m b h = let o : Others b = others b h in rw o.plain refl

one_line : (text : List ℕ) → AreCalm text → lines_of text ≡ text ∷ []
one_line [] all = refl
one_line (b ∷ bs) all = rw (others b all.0).feed (ap (with_front (b ∷ [])) (one_line bs all.1))

not_long : (text : List ℕ) → AreCalm text → length text ≤ 4096 → long_in 1 (lines_of text) ≡ []
not_long text all le = ap (long_in 1) (one_line text all) ∙ (let test : nat_lt 4096 (length text) ≡ false = grind (arith, nat_tests, le) in rw test refl)

-- ---- the program

pub one_program : (b : ℕ) (bs : List ℕ) (fit : Fit) → AreCalm (b ∷ bs) → is_in class.Blank b ≡ false → length (b ∷ bs) ≤ 4096 → meaning (b ∷ bs) ≡ Ok (Some fit)
    → IsProgram (b ∷ bs) (map (λ i. item.Code 1 i) (code_of [] fit)) (named [] fit.operands.symbol fit.operands.imm)
one_program b bs fit all first le e =
    let text : List ℕ = b ∷ bs in
    let ps : List Piece = pieces_of text in
    let s : List Placed = placed_of 1 text in
    let cut : statements 1 ps ≡ s ∷ [] = one_statement 1 text all in
    let means : meaning_of s ≡ Ok (Some fit) = ap (λ t. meaning (behind_labels t)) (its_text 1 text) ∙ ap meaning (no_labels [] text all) ∙ e in
    let own : flat_map own_of (statements 1 ps) ≡ [] = ap (flat_map own_of) cut ∙ ap (λ m. faults_at (line_of s) m ++ []) means in
    let nothing : faults_of text ps ≡ [] = λ i. not_long text all le i ++ no_fault bad_of 1 text no_bad all i ++ own i ++ no_fault comment_of 1 text (λ m x h. refl) all i ++ no_fault unclosed_of 1 text (λ m x h. refl) all i in
    record {
      pieces = ps;
      cut = record { joined = joined_is text; first = are_pieces text [] all };
      no_fault = nothing;
      items = sym (ap (items_from []) cut ∙ (λ i. items_at (its_line 1 b bs first i) [] (means i) ++ its_marks 1 text i ++ []) ∙ append-nil (map (λ j. item.Code 1 j) (code_of [] fit) ++ []) ∙ append-nil (map (λ j. item.Code 1 j) (code_of [] fit)));
      names = sym (ap (names_from []) cut ∙ ap (names_at []) means);
    }

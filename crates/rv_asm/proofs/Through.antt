-- the reader's loop: whatever pieces the rest has, the whole text has pieces that come to the same
use Rattle.std.proofs.Common.{◌≡◌, ℕ, ◌<◌, List, [], ◌∷◌, ◌++◌, take, drop, length, sym, refl, ◌∙◌, ap, subst, Bool, true, false}
use Rattle.std.specs.Prelude.{◌&&◌, if◌then◌else◌}
use Rattle.std.proofs.lemmas.List.{take-append-drop}
use Rattle.rv_asm.specs.declared.pieces.PieceKind.{PieceKind}
use Rattle.rv_asm.specs.declared.pieces.PieceKind.TheVariants as kind
use Rattle.rv_asm.specs.Statement.{begins_with, takes_strings}
use Rattle.rv_asm.specs.Pieces.{after as kept_after, Piece, kind_at, begins, is_return, IsPiece, joined, ArePieces, IsCut}
use Rattle.rv_asm.specs.Extents.{len_of}
use Rattle.rv_asm.specs.Steps.{Known, start, step, ended, run}
use Rattle.rv_asm.proofs.Cut.{lawful}
use Rattle.rv_asm.proofs.Ran.{taken_text}

-- whether strings are taken matters at a `"` alone
both_asked : (q b : Bool) → (b && q) && b ≡ q && b
both_asked true true = refl
both_asked true false = refl
both_asked false true = refl
both_asked false false = refl

same_kind : (q : Bool) (text : List ℕ) → kind_at (begins_with 34 text && q) text ≡ kind_at q text
same_kind q text i =
    if begins_with 35 text then kind.Line else
    if begins 47 47 text then kind.Line else
    if begins 47 42 text then kind.Block else
    if both_asked q (begins_with 34 text) i then kind.Quoted else
    if begins_with 10 text then kind.Feed else
    if begins_with 59 text then kind.Semi else
    if is_return text then kind.Return else kind.Byte

abbrev pub GoesOn : List ℕ → Known → List ℕ → Type 0
GoesOn text s rest = (more : List Piece) → ArePieces s.text more → joined more ≡ rest → (pieces : List Piece) × IsCut text pieces × (run s more ≡ run start pieces)

pub goes_one : (text : List ℕ) (s t : Known) (rest : List ℕ) (asks : Bool) (k : PieceKind) (n : ℕ) (front after : List ℕ) → 0 < length rest
    → asks ≡ begins_with 34 rest && takes_strings s.text
    → k ≡ kind_at asks rest → n ≡ len_of k rest → front ≡ take n rest → after ≡ drop n rest → t ≡ step s (record { kind = k; bytes = front })
    → GoesOn text s rest → GoesOn text t after
goes_one text s t rest asks k n front after lt is_asked is_kind is_n is_front is_after is_t so_far more are whole =
    let q : Bool = takes_strings s.text in
    let p : Piece = record { kind = k; bytes = front } in
    let kinds : k ≡ kind_at q rest = is_kind ∙ ap (λ b. kind_at b rest) is_asked ∙ same_kind q rest in
    let len : len_of (kind_at q rest) rest ≡ n = ap (λ x. len_of x rest) (sym kinds) ∙ sym is_n in
    let bytes : take (len_of (kind_at q rest) rest) rest ≡ front = ap (λ m. take m rest) len ∙ sym is_front in
    let behind_it : drop (len_of (kind_at q rest) rest) rest ≡ joined more = ap (λ m. drop m rest) len ∙ sym is_after ∙ sym whole in
    let same : record { kind = kind_at q rest; bytes = take (len_of (kind_at q rest) rest) rest } ≡ p = λ i. record { kind = sym kinds i; bytes = bytes i } in
    let piece : IsPiece q p (joined more) = subst (λ x. IsPiece q x (joined more)) same (subst (λ r. IsPiece q (record { kind = kind_at q rest; bytes = take (len_of (kind_at q rest) rest) rest }) r) behind_it (lawful q rest lt)) in
    let text_is : front ++ joined more ≡ rest = (λ i. is_front i ++ (whole ∙ is_after) i) ∙ take-append-drop n rest in
    let texts : t.text ≡ kept_after s.text k front = ap (λ u. u.text) is_t ∙ taken_text s k front (joined more) piece.reaches in
    let all : (pieces : List Piece) × IsCut text pieces × (run s (p ∷ more) ≡ run start pieces) = so_far (p ∷ more) (piece, subst (λ b. ArePieces b more) texts are) text_is in
    (all.0, all.1, ap (λ u. run u more) is_t ∙ all.2)

pub goes_end : (text : List ℕ) (s t : Known) (rest : List ℕ) → rest ≡ [] → t ≡ ended s → GoesOn text s rest → (pieces : List Piece) × IsCut text pieces × (t ≡ run start pieces)
goes_end text s t rest none is_t so_far =
    let all : (pieces : List Piece) × IsCut text pieces × (run s [] ≡ run start pieces) = so_far [] tt (sym none) in
    (all.0, all.1, is_t ∙ all.2)

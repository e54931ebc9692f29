use Rattle.std.proofs.Common.{suc, zero, ◌≡◌, ◌≢◌, ℕ, ◌+◌, ◌-◌, ◌<◌, ◌≤◌, ◌⊎◌, inl, inr, List, [], ◌∷◌, ◌++◌, take, drop, length, get_or, None, Some, sym, ◌∙◌, ap, refl, subst, arith, add-one, drop-cons, append_assoc, nat_eq, true, false, Bool}
use Rattle.std.specs.Prelude.{if◌then◌else◌, ◌&&◌}
use Rattle.std.proofs.lemmas.Bool.Decides.{nat_tests}
use Rattle.std.proofs.lemmas.List.{length-append, length-drop, append-nil, take_all}
use Rattle.std.proofs.Math.Seq.{take-append_seam, drop-append_seam}
use Rattle.std.specs.List.{AllByRecursion}
use Rattle.std.specs.declared.option.Option.{Option}
use Rattle.rv_asm.specs.declared.pieces.PieceKind.{PieceKind}
use Rattle.rv_asm.specs.declared.pieces.PieceKind.TheVariants as kind
use Rattle.rv_asm.specs.Statement.{begins_with, takes_strings}
use Rattle.rv_asm.specs.Pieces.{Piece, begins, is_return, kind_at, has_close, EndsLine, IsBody, Reaches, closes, IsQuoted, after, IsPiece, joined, ArePieces, IsCut}
use Rattle.rv_asm.specs.Extents.{quote_from, feed_from, close_from, or_end, len_of}

pub decided : (b : Bool) → (b ≡ true) ⊎ (b ≡ false)
decided true = inl refl
decided false = inr refl

-- ---- how far a piece goes is a function of the text

feed_reach : (k : ℕ) (bytes rest : List ℕ) → AllByRecursion (λ b. b ≢ 10) bytes → EndsLine rest → feed_from k (bytes ++ rest) ≡ k + length bytes
feed_reach k [] [] all ends = omega arith
feed_reach k [] (r ∷ rs) all ends = grind (arith, nat_tests)
feed_reach k (b ∷ bs) rest all ends =
    let more : feed_from (k + 1) (bs ++ rest) ≡ k + 1 + length bs = feed_reach (k + 1) bs rest all.1 ends in
    let other : b ≡ 10 → ⊥ = all.0 in
    grind (arith, nat_tests, more, other)

close_found : (k : ℕ) (front rest : List ℕ) → has_close (front ++ 42 ∷ []) ≡ false → close_from k (front ++ 42 ∷ 47 ∷ rest) ≡ Some (k + length front + 2)
close_found k [] rest none = ap Some (omega arith)
close_found k (x ∷ []) rest none = grind (arith, nat_tests)
close_found k (x ∷ y ∷ ys) rest none =
    let more : has_close (y ∷ ys ++ 42 ∷ []) ≡ false → close_from (k + 1) (y ∷ ys ++ 42 ∷ 47 ∷ rest) ≡ Some (k + 1 + length (y ∷ ys) + 2) = close_found (k + 1) (y ∷ ys) rest in
    grind (arith, nat_tests, more)

close_none : (k : ℕ) (body : List ℕ) → has_close body ≡ false → close_from k body ≡ None
close_none k [] none = refl
close_none k (b ∷ bs) none =
    let more : has_close bs ≡ false → close_from (k + 1) bs ≡ None = close_none (k + 1) bs in
    grind (arith, nat_tests, more)

body_len : (body rest : List ℕ) → IsBody body rest → or_end (47 ∷ 42 ∷ body ++ rest) (close_from 0 (body ++ rest)) ≡ length body + 2
body_len body rest (inl (front, whole, none)) =
    let text : body ++ rest ≡ front ++ 42 ∷ 47 ∷ rest = ap (λ b. b ++ rest) whole ∙ append_assoc front (42 ∷ 47 ∷ []) rest in
    let len : length body ≡ length front + 2 = ap length whole ∙ length-append front (42 ∷ 47 ∷ []) in
    ap (λ t. or_end (47 ∷ 42 ∷ t) (close_from 0 t)) text ∙ ap (or_end (47 ∷ 42 ∷ front ++ 42 ∷ 47 ∷ rest)) (close_found 0 front rest none) ∙ omega (arith, len)
body_len body rest (inr (none, end)) =
    let text : body ++ rest ≡ body = ap (λ r. body ++ r) end ∙ append-nil body in
    ap (λ t. or_end (47 ∷ 42 ∷ t) (close_from 0 t)) text ∙ ap (or_end (47 ∷ 42 ∷ body)) (close_none 0 body none) ∙ omega arith

quote_reach : (k prev : ℕ) (body rest : List ℕ) → IsQuoted prev body rest → quote_from k prev (body ++ rest) ≡ k + length body
quote_reach k prev [] [] ends = omega arith
quote_reach k prev [] (r ∷ rs) ends = grind (arith, nat_tests)
quote_reach k prev (b ∷ bs) rest (inl (t, none)) =
    let here : nat_eq b 10 ≡ false = grind (arith, nat_tests, t) in
    let len : length bs ≡ 0 = ap length none in
    rw (here, t) (omega (arith, len))
quote_reach k prev (b ∷ bs) rest (inr (t, other, more)) =
    let here : nat_eq b 10 ≡ false = grind (arith, nat_tests, other) in
    rw (here, t) (quote_reach (k + 1) b bs rest more ∙ omega arith)

pub piece_len : (kind : PieceKind) (bytes rest : List ℕ) → Reaches kind bytes rest → len_of kind (bytes ++ rest) ≡ length bytes
piece_len kind.Line bytes rest r = feed_reach 0 bytes rest r.0 r.1 ∙ omega arith
piece_len kind.Block bytes rest (body, whole, is_body) = subst (λ b. len_of kind.Block (b ++ rest) ≡ length b) (sym whole) (body_len body rest is_body ∙ omega arith)
piece_len kind.Quoted bytes rest (body, whole, quoted) = subst (λ b. len_of kind.Quoted (b ++ rest) ≡ length b) (sym whole) (ap (λ k. k + 1) (quote_reach 0 34 body rest quoted) ∙ omega arith)
piece_len kind.Feed bytes rest r = sym r
piece_len kind.Semi bytes rest r = sym r
piece_len kind.Return bytes rest r = sym r
piece_len kind.Byte bytes rest r = sym r

-- ---- two lawful cuts are one

same_front : (a b x y : List ℕ) → length a ≡ length b → a ++ x ≡ b ++ y → (a ≡ b) × (x ≡ y)
same_front [] [] x y len e = (refl, e)
same_front [] (b ∷ bs) x y len e = absurd (omega (arith, len))
same_front (a ∷ as_) [] x y len e = absurd (omega (arith, len))
same_front (a ∷ as_) (b ∷ bs) x y len e =
    let lens : length as_ ≡ length bs = omega (arith, len) in
    let head : a ≡ b = cc in
    let tail : as_ ++ x ≡ bs ++ y = cc in
    let more : (as_ ≡ bs) × (x ≡ y) = same_front as_ bs x y lens tail in
    (λ i. head i ∷ more.0 i, more.1)

nothing_at : (q : Bool) → kind_at q [] ≡ kind.Byte
nothing_at true = refl
nothing_at false = refl

pub some_bytes : (q : Bool) (p : Piece) (rest : List ℕ) → IsPiece q p rest → p.bytes ++ rest ≡ [] → ⊥
some_bytes q p rest is none =
    let kind : p.kind ≡ kind.Byte = is.first ∙ ap (kind_at q) none ∙ nothing_at q in
    let len : len_of p.kind (p.bytes ++ rest) ≡ length p.bytes = piece_len p.kind p.bytes rest is.reaches in
    let one : 1 ≡ length p.bytes = sym (ap (λ k. len_of k (p.bytes ++ rest)) kind) ∙ len in
    let sum : length p.bytes + length rest ≡ 0 = sym (length-append p.bytes rest) ∙ ap length none in
    omega (arith, one, sum)

pieces_unique : (before : List ℕ) (a b : List Piece) → ArePieces before a → ArePieces before b → joined a ≡ joined b → a ≡ b
pieces_unique before [] [] fa fb e = refl
pieces_unique before [] (q ∷ qs) fa fb e = absurd (some_bytes (takes_strings before) q (joined qs) fb.0 (sym e))
pieces_unique before (p ∷ ps) [] fa fb e = absurd (some_bytes (takes_strings before) p (joined ps) fa.0 e)
pieces_unique before (p ∷ ps) (q ∷ qs) fa fb e =
    let kind : p.kind ≡ q.kind = fa.0.first ∙ ap (kind_at (takes_strings before)) e ∙ sym fb.0.first in
    let lp : len_of p.kind (p.bytes ++ joined ps) ≡ length p.bytes = piece_len p.kind p.bytes (joined ps) fa.0.reaches in
    let lq : len_of q.kind (q.bytes ++ joined qs) ≡ length q.bytes = piece_len q.kind q.bytes (joined qs) fb.0.reaches in
    let len : length p.bytes ≡ length q.bytes = sym lp ∙ ap (λ k. len_of k (p.bytes ++ joined ps)) kind ∙ ap (len_of q.kind) e ∙ lq in
    let front : (p.bytes ≡ q.bytes) × (joined ps ≡ joined qs) = same_front p.bytes q.bytes (joined ps) (joined qs) len e in
    let here : p ≡ q = λ i. record { kind = kind i; bytes = front.0 i } in
    let fb_more : ArePieces (after before p.kind p.bytes) qs = subst (λ r. ArePieces r qs) (λ i. after before (sym kind i) (sym front.0 i)) fb.1 in
    let rest : ps ≡ qs = pieces_unique (after before p.kind p.bytes) ps qs fa.1 fb_more front.1 in
    λ i. here i ∷ rest i

pub cut_unique : (text : List ℕ) (a b : List Piece) → IsCut text a → IsCut text b → a ≡ b
cut_unique text a b ca cb = pieces_unique [] a b ca.first cb.first (ca.joined ∙ sym cb.joined)

-- ---- and there is one

line_cut : (text : List ℕ) → (a : List ℕ) × (b : List ℕ) × (text ≡ a ++ b) × AllByRecursion (λ x. x ≢ 10) a × EndsLine b
line_cut [] = ([], [], refl, tt, tt)
line_cut (x ∷ xs) = elim (decided (nat_eq x 10)) [
  | inl h ↦ ([], x ∷ xs, refl, tt, grind (arith, nat_tests, h))
  | inr h ↦ (let more : (a : List ℕ) × (b : List ℕ) × (xs ≡ a ++ b) × AllByRecursion (λ x. x ≢ 10) a × EndsLine b = line_cut xs in
      let other : x ≡ 10 → ⊥ = λ e. grind (arith, nat_tests, h, e) in
      (x ∷ more.0, more.1, ap (λ t. x ∷ t) more.2, (other, more.3), more.4))
]

same_begin : (b : ℕ) (front rest : List ℕ) → begins 42 47 (b ∷ front ++ 42 ∷ []) ≡ begins 42 47 (b ∷ front ++ 42 ∷ 47 ∷ rest)
same_begin b [] rest = refl
same_begin b (y ∷ ys) rest = refl

closed_here : (b : ℕ) (bs : List ℕ) → begins 42 47 (b ∷ bs) ≡ true → (a : List ℕ) × (r : List ℕ) × (b ∷ bs ≡ a ++ r) × IsBody a r
closed_here b [] h = absurd cc
closed_here b (c ∷ cs) h =
    let star : b ≡ 42 = grind (arith, nat_tests, h) in
    let slash : c ≡ 47 = grind (arith, nat_tests, h) in
    (42 ∷ 47 ∷ [], cs, λ i. star i ∷ slash i ∷ cs, inl ([], refl, refl))

closed_later : (b : ℕ) (bs body rest : List ℕ) → bs ≡ body ++ rest → begins 42 47 (b ∷ bs) ≡ false → IsBody body rest → IsBody (b ∷ body) rest
closed_later b bs body rest e h (inl (front, whole, none)) =
    let text : bs ≡ front ++ 42 ∷ 47 ∷ rest = e ∙ ap (λ t. t ++ rest) whole ∙ append_assoc front (42 ∷ 47 ∷ []) rest in
    let test : begins 42 47 (b ∷ front ++ 42 ∷ []) ≡ false = same_begin b front rest ∙ ap (λ t. begins 42 47 (b ∷ t)) (sym text) ∙ h in
    inl (b ∷ front, ap (λ t. b ∷ t) whole, rw (test, none) refl)
closed_later b bs body rest e h (inr (none, end)) =
    let text : bs ≡ body = e ∙ ap (λ r. body ++ r) end ∙ append-nil body in
    let test : begins 42 47 (b ∷ body) ≡ false = ap (λ t. begins 42 47 (b ∷ t)) (sym text) ∙ h in
    inr (rw (test, none) refl, end)

body_cut : (text : List ℕ) → (a : List ℕ) × (b : List ℕ) × (text ≡ a ++ b) × IsBody a b
body_cut [] = ([], [], refl, inr (refl, refl))
body_cut (b ∷ bs) = elim (decided (begins 42 47 (b ∷ bs))) [
  | inl h ↦ closed_here b bs h
  | inr h ↦ (let more : (a : List ℕ) × (r : List ℕ) × (bs ≡ a ++ r) × IsBody a r = body_cut bs in
      (b ∷ more.0, more.1, ap (λ t. b ∷ t) more.2, closed_later b bs more.0 more.1 more.2 h more.3))
]

abbrev chain : Bool → Bool → Bool → Bool → Bool → Bool → Bool → PieceKind
chain a b c d e f g = if a then kind.Line else if b then kind.Line else if c then kind.Block else if d then kind.Quoted else if e then kind.Feed else if f then kind.Semi else if g then kind.Return else kind.Byte

third : (a b c d e f g : Bool) → chain a b c d e f g ≡ kind.Block → c ≡ true
third true b c d e f g h = absurd cc
third false true c d e f g h = absurd cc
third false false true d e f g h = refl
third false false false true e f g h = absurd cc
third false false false false true f g h = absurd cc
third false false false false false true g h = absurd cc
third false false false false false false true h = absurd cc
third false false false false false false false h = absurd cc

fourth : (a b c d e f g : Bool) → chain a b c d e f g ≡ kind.Quoted → d ≡ true
fourth true b c d e f g h = absurd cc
fourth false true c d e f g h = absurd cc
fourth false false true d e f g h = absurd cc
fourth false false false true e f g h = refl
fourth false false false false true f g h = absurd cc
fourth false false false false false true g h = absurd cc
fourth false false false false false false true h = absurd cc
fourth false false false false false false false h = absurd cc

right_of : (a b : Bool) → a && b ≡ true → b ≡ true
right_of true b h = h
right_of false b h = absurd cc

quote_begins : (q : Bool) (x : ℕ) (xs : List ℕ) → kind_at q (x ∷ xs) ≡ kind.Quoted → x ≡ 34
quote_begins q x xs h =
    let both : q && begins_with 34 (x ∷ xs) ≡ true = fourth (begins_with 35 (x ∷ xs)) (begins 47 47 (x ∷ xs)) (begins 47 42 (x ∷ xs)) (q && begins_with 34 (x ∷ xs)) (begins_with 10 (x ∷ xs)) (begins_with 59 (x ∷ xs)) (is_return (x ∷ xs)) h in
    let one : begins_with 34 (x ∷ xs) ≡ true = right_of q (begins_with 34 (x ∷ xs)) both in
    grind (arith, nat_tests, one)

quote_cut : (prev : ℕ) (text : List ℕ) → (a : List ℕ) × (b : List ℕ) × (text ≡ a ++ b) × IsQuoted prev a b
quote_cut prev [] = ([], [], refl, tt)
quote_cut prev (x ∷ xs) = elim (decided (nat_eq x 10)) [
  | inl h ↦ ([], x ∷ xs, refl, grind (arith, nat_tests, h))
  | inr h ↦ elim (decided (closes prev x)) [
    | inl g ↦ (x ∷ [], xs, refl, inl (g, refl))
    | inr g ↦ (let more : (a : List ℕ) × (b : List ℕ) × (xs ≡ a ++ b) × IsQuoted x a b = quote_cut x xs in
        let other : x ≡ 10 → ⊥ = λ e. grind (arith, nat_tests, h, e) in
        (x ∷ more.0, more.1, ap (λ t. x ∷ t) more.2, inr (g, other, more.3)))
  ]
]

block_begins : (q : Bool) (x : ℕ) (xs : List ℕ) → kind_at q (x ∷ xs) ≡ kind.Block → (ys : List ℕ) × (x ≡ 47) × (xs ≡ 42 ∷ ys)
block_begins q x [] h = absurd (let no_block : false ≡ true = third (begins_with 35 (x ∷ [])) (begins 47 47 (x ∷ [])) false (q && begins_with 34 (x ∷ [])) (begins_with 10 (x ∷ [])) (begins_with 59 (x ∷ [])) (is_return (x ∷ [])) h in cc)
block_begins q x (y ∷ ys) h =
    let both : begins 47 42 (x ∷ y ∷ ys) ≡ true = third (begins_with 35 (x ∷ y ∷ ys)) (begins 47 47 (x ∷ y ∷ ys)) (begins 47 42 (x ∷ y ∷ ys)) (q && begins_with 34 (x ∷ y ∷ ys)) (begins_with 10 (x ∷ y ∷ ys)) (begins_with 59 (x ∷ y ∷ ys)) (is_return (x ∷ y ∷ ys)) h in
    let star : y ≡ 42 = grind (arith, nat_tests, both) in
    (ys, grind (arith, nat_tests, both), λ i. star i ∷ ys)

not_feed : (q : Bool) (xs : List ℕ) → kind_at q (10 ∷ xs) ≡ kind.Line → ⊥
not_feed true [] h = cc
not_feed true (y ∷ ys) h = cc
not_feed false [] h = cc
not_feed false (y ∷ ys) h = cc

feed_low : (k : ℕ) (text : List ℕ) → k ≤ feed_from k text
feed_low k [] = omega arith
feed_low k (b ∷ bs) = let more : k + 1 ≤ feed_from (k + 1) bs = feed_low (k + 1) bs in grind (arith, nat_tests, more)

end_some : (x : ℕ) (xs : List ℕ) (o : Option ℕ) → 1 ≤ or_end (x ∷ xs) o
end_some x xs None = omega arith
end_some x xs (Some k) = omega arith

len_some_of : (q : Bool) (k : PieceKind) (x : ℕ) (xs : List ℕ) → kind_at q (x ∷ xs) ≡ k → 1 ≤ len_of k (x ∷ xs)
len_some_of q kind.Line x xs h =
    let low : 1 ≤ feed_from 1 xs = feed_low 1 xs in
    let other : x ≡ 10 → ⊥ = λ e. not_feed q xs (ap (λ b. kind_at q (b ∷ xs)) (sym e) ∙ h) in
    grind (arith, nat_tests, low, other)
len_some_of q kind.Block x xs h = end_some x xs _
len_some_of q kind.Quoted x xs h = omega arith
len_some_of q kind.Feed x xs h = omega arith
len_some_of q kind.Semi x xs h = omega arith
len_some_of q kind.Return x xs h = omega arith
len_some_of q kind.Byte x xs h = omega arith

pub len_some : (q : Bool) (text : List ℕ) → 0 < length text → 1 ≤ len_of (kind_at q text) text
len_some q [] lt = absurd (omega (arith, lt))
len_some q (x ∷ xs) lt = len_some_of q (kind_at q (x ∷ xs)) x xs refl

piece_of : (q : Bool) (k : PieceKind) (x : ℕ) (xs : List ℕ) → kind_at q (x ∷ xs) ≡ k → (p : Piece) × (rest : List ℕ) × (x ∷ xs ≡ p.bytes ++ rest) × IsPiece q p rest
piece_of q kind.Line x xs h =
    let cut : (a : List ℕ) × (b : List ℕ) × (x ∷ xs ≡ a ++ b) × AllByRecursion (λ x. x ≢ 10) a × EndsLine b = line_cut (x ∷ xs) in
    (record { kind = kind.Line; bytes = cut.0 }, cut.1, cut.2, record { first = sym h ∙ ap (kind_at q) cut.2; reaches = (cut.3, cut.4) })
piece_of q kind.Block x xs h =
    let begun : (ys : List ℕ) × (x ≡ 47) × (xs ≡ 42 ∷ ys) = block_begins q x xs h in
    let cut : (a : List ℕ) × (b : List ℕ) × (begun.0 ≡ a ++ b) × IsBody a b = body_cut begun.0 in
    let whole : x ∷ xs ≡ 47 ∷ 42 ∷ cut.0 ++ cut.1 = (λ i. begun.1 i ∷ begun.2 i) ∙ ap (λ t. 47 ∷ 42 ∷ t) cut.2 in
    (record { kind = kind.Block; bytes = 47 ∷ 42 ∷ cut.0 }, cut.1, whole, record { first = sym h ∙ ap (kind_at q) whole; reaches = (cut.0, refl, cut.3) })
piece_of q kind.Quoted x xs h =
    let cut : (a : List ℕ) × (b : List ℕ) × (xs ≡ a ++ b) × IsQuoted 34 a b = quote_cut 34 xs in
    let whole : x ∷ xs ≡ 34 ∷ cut.0 ++ cut.1 = (λ i. quote_begins q x xs h i ∷ cut.2 i) in
    (record { kind = kind.Quoted; bytes = 34 ∷ cut.0 }, cut.1, whole, record { first = sym h ∙ ap (kind_at q) whole; reaches = (cut.0, refl, cut.3) })
piece_of q kind.Feed x xs h = (record { kind = kind.Feed; bytes = x ∷ [] }, xs, refl, record { first = sym h; reaches = refl })
piece_of q kind.Semi x xs h = (record { kind = kind.Semi; bytes = x ∷ [] }, xs, refl, record { first = sym h; reaches = refl })
piece_of q kind.Return x xs h = (record { kind = kind.Return; bytes = x ∷ [] }, xs, refl, record { first = sym h; reaches = refl })
piece_of q kind.Byte x xs h = (record { kind = kind.Byte; bytes = x ∷ [] }, xs, refl, record { first = sym h; reaches = refl })

some_piece : (q : Bool) (x : ℕ) (xs : List ℕ) → (p : Piece) × (rest : List ℕ) × (x ∷ xs ≡ p.bytes ++ rest) × IsPiece q p rest
some_piece q x xs = piece_of q (kind_at q (x ∷ xs)) x xs refl

some_of : (q : Bool) (x : ℕ) (xs : List ℕ) (p : Piece) (rest : List ℕ) → x ∷ xs ≡ p.bytes ++ rest → IsPiece q p rest → 1 ≤ length p.bytes
some_of q x xs p rest e is =
    let low : 1 ≤ len_of (kind_at q (x ∷ xs)) (x ∷ xs) = len_some_of q (kind_at q (x ∷ xs)) x xs refl in
    let len : len_of (kind_at q (x ∷ xs)) (x ∷ xs) ≡ length p.bytes = ap (λ t. len_of (kind_at q t) t) e ∙ ap (λ k. len_of k (p.bytes ++ rest)) (sym is.first) ∙ piece_len p.kind p.bytes rest is.reaches in
    omega (arith, low, len)

some_cut : (n : ℕ) (before text : List ℕ) → length text ≤ n → (pieces : List Piece) × (joined pieces ≡ text) × ArePieces before pieces
some_cut n before [] le = ([], refl, tt)
some_cut zero before (x ∷ xs) le = absurd (omega (arith, le))
some_cut (suc n) before (x ∷ xs) le =
    let q : Bool = takes_strings before in
    let one : (p : Piece) × (rest : List ℕ) × (x ∷ xs ≡ p.bytes ++ rest) × IsPiece (takes_strings before) p rest = some_piece q x xs in
    let some : 1 ≤ length one.0.bytes = some_of q x xs one.0 one.1 one.2 one.3 in
    let len : length (x ∷ xs) ≡ length one.0.bytes + length one.1 = ap length one.2 ∙ length-append one.0.bytes one.1 in
    let now : List ℕ = after before one.0.kind one.0.bytes in
    let more : (pieces : List Piece) × (joined pieces ≡ one.1) × ArePieces now pieces = some_cut n now one.1 (omega (arith, len, some, le)) in
    (one.0 ∷ more.0, ap (λ t. one.0.bytes ++ t) more.1 ∙ sym one.2, (subst (λ t. IsPiece q one.0 t) (sym more.1) one.3, more.2))

pub some_cut_of : (text : List ℕ) → (pieces : List Piece) × IsCut text pieces
some_cut_of text = let all : (pieces : List Piece) × (joined pieces ≡ text) × ArePieces [] pieces = some_cut (length text) [] text (omega arith) in (all.0, record { joined = all.1; first = all.2 })

pub close_step : (k : ℕ) (text : List ℕ) → k < length text → false ≡ begins 42 47 (take (length text - k) (drop k text)) → close_from (k + 1) (drop (k + 1) text) ≡ close_from k (drop k text)
close_step k text lt none_there =
    let none : begins 42 47 (drop k text) ≡ false = sym (ap (begins 42 47) (take_all (length text - k) (drop k text) (omega (arith, length-drop k text)))) ∙ sym none_there in
    let here : drop k text ≡ get_or text k 0 ∷ drop (k + 1) text = rw (add-one, drop-cons text k 0) refl in
    let test : begins 42 47 (get_or text k 0 ∷ drop (k + 1) text) ≡ false = ap (begins 42 47) (sym here) ∙ none in
    let step : close_from k (get_or text k 0 ∷ drop (k + 1) text) ≡ close_from (k + 1) (drop (k + 1) text) = rw test refl in
    sym (ap (close_from k) here ∙ step)

-- what the reader cuts off is the piece at its place
pub lawful : (q : Bool) (text : List ℕ) → 0 < length text → IsPiece q (record { kind = kind_at q text; bytes = take (len_of (kind_at q text) text) text }) (drop (len_of (kind_at q text) text) text)
lawful q [] lt = absurd (omega (arith, lt))
lawful q (x ∷ xs) lt =
    let one : (p : Piece) × (rest : List ℕ) × (x ∷ xs ≡ p.bytes ++ rest) × IsPiece q p rest = some_piece q x xs in
    let len : length one.0.bytes ≡ len_of (kind_at q (x ∷ xs)) (x ∷ xs) = sym (piece_len one.0.kind one.0.bytes one.1 one.3.reaches) ∙ ap (λ k. len_of k (one.0.bytes ++ one.1)) one.3.first ∙ ap (λ t. len_of (kind_at q t) t) (sym one.2) in
    let kind : one.0.kind ≡ kind_at q (x ∷ xs) = one.3.first ∙ ap (kind_at q) (sym one.2) in
    let front : one.0.bytes ≡ take (len_of (kind_at q (x ∷ xs)) (x ∷ xs)) (x ∷ xs) = sym (take-append_seam one.0.bytes one.1) ∙ (λ i. take (len i) (sym one.2 i)) in
    let after : one.1 ≡ drop (len_of (kind_at q (x ∷ xs)) (x ∷ xs)) (x ∷ xs) = sym (drop-append_seam one.0.bytes one.1) ∙ (λ i. drop (len i) (sym one.2 i)) in
    subst (λ r. IsPiece q (record { kind = kind_at q (x ∷ xs); bytes = take (len_of (kind_at q (x ∷ xs)) (x ∷ xs)) (x ∷ xs) }) r) after
    (subst (λ p. IsPiece q p one.1) (λ i. record { kind = kind i; bytes = front i }) one.3)

pub line_low : (q : Bool) (text : List ℕ) → 0 < length text → kind.Line ≡ kind_at q text → 1 ≤ feed_from 0 text
line_low q text lt kind = subst (λ k. 1 ≤ len_of k text) (sym kind) (len_some q text lt)

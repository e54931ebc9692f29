-- what the reader's steps over all pieces come to is what the definitions say of their statements
use Rattle.std.proofs.Common.{◌≡◌, ℕ, ◌+◌, ◌≤◌, subst, inl, inr, List, [], ◌∷◌, ◌++◌, drop, sym, ◌∙◌, ap, refl, arith, append_assoc, nat_eq, true, false}
use Rattle.std.proofs.lemmas.Bool.Decides.{nat_tests}
use Rattle.std.proofs.lemmas.List.{append-nil}
use Rattle.std.specs.Prelude.{not, is_some, ◌&&◌, if◌then◌else◌}
use Rattle.std.specs.List.{flat_map, AllByRecursion}
use Rattle.std.specs.declared.option.Option.{Option}
use Rattle.rv_asm.specs.declared.class.ByteClass.TheVariants as class
use Rattle.rv_asm.specs.declared.fault.Fault.{Fault}
use Rattle.rv_asm.specs.declared.item.Item.{Item}
use Rattle.rv_asm.specs.declared.pieces.PieceKind.{PieceKind}
use Rattle.rv_asm.specs.declared.pieces.PieceKind.TheVariants as kind
use Rattle.rv_asm.specs.Statement.{skip, is_empty, more, behind, behind_labels}
use Rattle.rv_asm.specs.Pieces.{after, Piece, begins, has_close, Reaches, joined, ArePieces, left, separates}
use Rattle.rv_asm.specs.Extents.{feeds, close_from}
use Rattle.rv_asm.specs.Operands.{with_front}
use Rattle.rv_asm.specs.Meaning.{meaning}
use Rattle.rv_asm.specs.Faults.{earlier, least}
use Rattle.rv_asm.specs.Items.{items_at, names_at, faults_at}
use Rattle.rv_asm.specs.Program.{Placed, placed, statements, text_of, line_of, meaning_of, marked, marks_of, items_from, names_from, own_of, is_plain_byte, bad_of, comment_of, unclosed_of, of_each}
use Rattle.rv_asm.specs.Steps.{Known, start, put, ended, taken, step, run}
use Rattle.rv_asm.proofs.Cut.{decided}
use Rattle.rv_asm.proofs.First.{earlier_none, earlier_assoc, least_append}

-- a state in whose statement these pieces stand so far
pub record Stands (s : Known) (front : List Placed) : Type 0 where
  pub line : 1 ≤ s.line
  pub text : s.text ≡ behind_labels (text_of front)
  pub begun : s.begun ≡ line_of front
  pub marks : s.marks ≡ marks_of front
  pub low : AllByRecursion (λ p. 1 ≤ p.line) front

close_same : (k : ℕ) (text : List ℕ) → is_some (close_from k text) ≡ has_close text
close_same k [] = refl
close_same k (b ∷ bs) = elim (decided (begins 42 47 (b ∷ bs))) [
  | inl h ↦ rw h refl
  | inr h ↦ (let more : is_some (close_from (k + 1) bs) ≡ has_close bs = close_same (k + 1) bs in rw h more)
]

-- ---- what a piece changes

behind_append : (kept a b : List ℕ) → behind kept (a ++ b) ≡ behind (behind kept a) b
behind_append kept [] b = refl
behind_append kept (x ∷ xs) b = behind_append (more kept x) xs b

flat_append : {X Y : Type 0} (f : X → List Y) (a b : List X) → flat_map f (a ++ b) ≡ flat_map f a ++ flat_map f b
flat_append f [] b = refl
flat_append f (x ∷ xs) b = ap (λ t. f x ++ t) (flat_append f xs b) ∙ sym (append_assoc (f x) (flat_map f xs) (flat_map f b))

flat_one : {X Y : Type 0} (f : X → List Y) (a : List X) (x : X) → flat_map f (a ++ x ∷ []) ≡ flat_map f a ++ f x
flat_one f a x = flat_append f a (x ∷ []) ∙ ap (λ t. flat_map f a ++ t) (append-nil (f x))

line_more : (front : List Placed) (p : Placed) → AllByRecursion (λ q. 1 ≤ q.line) front → (if nat_eq (line_of front) 0 && not (is_empty (skip class.Blank (left p.kind p.bytes))) then p.line else line_of front) ≡ line_of (front ++ p ∷ [])
line_more [] p low = elim (decided (is_empty (skip class.Blank (left p.kind p.bytes)))) [ inl h ↦ rw h refl | inr h ↦ rw h refl ]
line_more (q ∷ qs) p low = elim (decided (is_empty (skip class.Blank (left q.kind q.bytes)))) [
  | inl h ↦ rw h (line_more qs p low.1)
  | inr h ↦ (let some : nat_eq q.line 0 ≡ false = grind (arith, nat_tests, low.0) in rw (h, some) refl)
]

all_append : (a b : List Placed) → AllByRecursion (λ m. 1 ≤ m.line) a → AllByRecursion (λ m. 1 ≤ m.line) b → AllByRecursion (λ m. 1 ≤ m.line) (a ++ b)
all_append [] b pa pb = pb
all_append (x ∷ xs) b pa pb = (pa.0, all_append xs b pa.1 pb)

-- a state that differs in its statement alone
pub record Adds (s t : Known) (p : Placed) : Type 0 where
  pub stands : (front : List Placed) → Stands s front → Stands t (front ++ p ∷ [])
  pub items : t.items ≡ s.items
  pub names : t.names ≡ s.names
  pub own : t.own ≡ s.own

-- the statement goes on with what a piece leaves, and its marks go behind the others
goes_on : (s t : Known) (p : Placed) (front : List Placed) → p.line ≡ s.line → t.line ≡ s.line → t.begun ≡ (put s (left p.kind p.bytes)).begun → t.text ≡ (put s (left p.kind p.bytes)).text → t.marks ≡ s.marks ++ marked p.line p.kind p.bytes
    → Stands s front → Stands t (front ++ p ∷ [])
goes_on s t p front here line begun text marks st =
    record {
      line = subst (λ n. 1 ≤ n) (sym line) st.line;
      text = text ∙ ap (λ k. behind k (left p.kind p.bytes)) st.text ∙ sym (behind_append [] (text_of front) (left p.kind p.bytes)) ∙ ap behind_labels (sym (flat_one (λ q. left q.kind q.bytes) front p));
      begun = begun ∙ (λ i. if nat_eq (st.begun i) 0 && not (is_empty (skip class.Blank (left p.kind p.bytes))) then sym here i else st.begun i) ∙ line_more front p st.low;
      marks = marks ∙ ap (λ m. m ++ marked p.line p.kind p.bytes) st.marks ∙ sym (flat_one (λ q. marked q.line q.kind q.bytes) front p);
      low = all_append front (p ∷ []) st.low (subst (λ n. 1 ≤ n) (sym here) st.line, tt);
    }

same_begun : (begun line : ℕ) → begun ≡ (if nat_eq begun 0 && false then line else begun)
same_begun begun line = elim (decided (nat_eq begun 0)) [ inl h ↦ rw h refl | inr h ↦ rw h refl ]

adds : (s : Known) (k : PieceKind) (bytes rest : List ℕ) → Reaches k bytes rest → separates k ≡ false → Adds s (taken s k bytes) (record { line = s.line; kind = k; bytes = bytes })
adds s kind.Line bytes rest r e = record { stands = λ front st. goes_on s (taken s kind.Line bytes) (record { line = s.line; kind = kind.Line; bytes = bytes }) front refl refl refl refl refl st; items = refl; names = refl; own = refl }
adds s kind.Block bytes rest r e = record { stands = λ front st. goes_on s (taken s kind.Block bytes) (record { line = s.line; kind = kind.Block; bytes = bytes }) front refl refl refl refl (sym (append-nil s.marks)) st; items = refl; names = refl; own = refl }
adds s kind.Quoted bytes rest r e = record { stands = λ front st. goes_on s (taken s kind.Quoted bytes) (record { line = s.line; kind = kind.Quoted; bytes = bytes }) front refl refl refl refl (sym (append-nil s.marks)) st; items = refl; names = refl; own = refl }
adds s kind.Feed bytes rest r e = absurd cc
adds s kind.Semi bytes rest r e = absurd cc
adds s kind.Return bytes rest r e = record { stands = λ front st. goes_on s s (record { line = s.line; kind = kind.Return; bytes = bytes }) front refl refl (same_begun s.begun s.line) refl (sym (append-nil s.marks)) st; items = refl; names = refl; own = refl }
adds s kind.Byte [] rest r e = absurd (omega (arith, r))
adds s kind.Byte (b ∷ []) rest r e = record { stands = λ front st. goes_on s (taken s kind.Byte (b ∷ [])) (record { line = s.line; kind = kind.Byte; bytes = b ∷ [] }) front refl refl refl refl (sym (append-nil s.marks)) st; items = refl; names = refl; own = refl }
adds s kind.Byte (b ∷ c ∷ cs) rest r e = absurd (omega (arith, r))

taken_bad : (s : Known) (k : PieceKind) (bytes rest : List ℕ) → Reaches k bytes rest → (taken s k bytes).bad ≡ earlier s.bad (least (bad_of s.line k bytes))
taken_bad s kind.Line bytes rest r = sym (earlier_none s.bad)
taken_bad s kind.Block bytes rest r = sym (earlier_none s.bad)
taken_bad s kind.Quoted bytes rest r = sym (earlier_none s.bad)
taken_bad s kind.Feed bytes rest r = sym (earlier_none s.bad)
taken_bad s kind.Semi bytes rest r = sym (earlier_none s.bad)
taken_bad s kind.Return bytes rest r = sym (earlier_none s.bad)
taken_bad s kind.Byte [] rest r = absurd (omega (arith, r))
taken_bad s kind.Byte (b ∷ []) rest r = elim (decided (is_plain_byte b)) [ inl h ↦ rw h (sym (earlier_none s.bad)) | inr h ↦ rw h refl ]
taken_bad s kind.Byte (b ∷ c ∷ cs) rest r = absurd (omega (arith, r))

taken_comment : (s : Known) (k : PieceKind) (bytes : List ℕ) → (taken s k bytes).comment ≡ earlier s.comment (least (comment_of s.line k bytes))
taken_comment s kind.Line bytes = refl
taken_comment s kind.Block bytes = sym (earlier_none s.comment)
taken_comment s kind.Quoted bytes = sym (earlier_none s.comment)
taken_comment s kind.Feed bytes = sym (earlier_none s.comment)
taken_comment s kind.Semi bytes = sym (earlier_none s.comment)
taken_comment s kind.Return bytes = sym (earlier_none s.comment)
taken_comment s kind.Byte [] = sym (earlier_none s.comment)
taken_comment s kind.Byte (b ∷ bs) = sym (earlier_none s.comment)

taken_unclosed : (s : Known) (k : PieceKind) (bytes : List ℕ) → (taken s k bytes).unclosed ≡ earlier s.unclosed (least (unclosed_of s.line k bytes))
taken_unclosed s kind.Line bytes = sym (earlier_none s.unclosed)
taken_unclosed s kind.Block bytes = elim (decided (has_close (drop 2 bytes))) [
  | inl h ↦ (let same : is_some (close_from 0 (drop 2 bytes)) ≡ true = close_same 0 (drop 2 bytes) ∙ h in rw (same, h) (sym (earlier_none s.unclosed)))
  | inr h ↦ (let same : is_some (close_from 0 (drop 2 bytes)) ≡ false = close_same 0 (drop 2 bytes) ∙ h in rw (same, h) refl)
]
taken_unclosed s kind.Quoted bytes = sym (earlier_none s.unclosed)
taken_unclosed s kind.Feed bytes = sym (earlier_none s.unclosed)
taken_unclosed s kind.Semi bytes = sym (earlier_none s.unclosed)
taken_unclosed s kind.Return bytes = sym (earlier_none s.unclosed)
taken_unclosed s kind.Byte [] = sym (earlier_none s.unclosed)
taken_unclosed s kind.Byte (b ∷ bs) = sym (earlier_none s.unclosed)

ends_taken : (s : Known) (k : PieceKind) (bytes : List ℕ) → separates k ≡ true → taken s k bytes ≡ ended s
ends_taken s kind.Line bytes e = absurd cc
ends_taken s kind.Block bytes e = absurd cc
ends_taken s kind.Quoted bytes e = absurd cc
ends_taken s kind.Feed bytes e = refl
ends_taken s kind.Semi bytes e = refl
ends_taken s kind.Return bytes e = absurd cc
ends_taken s kind.Byte bytes e = absurd cc

-- ---- what the end of a statement gives

ended_items : (s : Known) (front : List Placed) → Stands s front → (ended s).items ≡ s.items ++ items_at (line_of front) s.names (meaning_of front) ++ marks_of front
ended_items s front st i = s.items ++ items_at (st.begun i) s.names (meaning (st.text i)) ++ st.marks i

ended_names : (s : Known) (front : List Placed) → Stands s front → (ended s).names ≡ names_at s.names (meaning_of front)
ended_names s front st i = names_at s.names (meaning (st.text i))

ended_own : (s : Known) (front : List Placed) → Stands s front → (ended s).own ≡ earlier s.own (least (own_of front))
ended_own s front st i = earlier s.own (least (faults_at (st.begun i) (meaning (st.text i))))

-- ---- what all pieces come to

pub front_front : {X : Type 0} (a b : List X) (ss : List (List X)) → with_front a (with_front b ss) ≡ with_front (a ++ b) ss
front_front a b [] = refl
front_front a b (s ∷ ss) = ap (λ t. t ∷ ss) (sym (append_assoc a b s))

front_nil : (n : ℕ) (ps : List Piece) → with_front [] (statements n ps) ≡ statements n ps
front_nil n [] = refl
front_nil n (p ∷ ps) = elim (decided (separates p.kind)) [
  | inl h ↦ rw h refl
  | inr h ↦ rw h (front_front [] (placed n p ∷ []) (statements (n + feeds p.bytes) ps))
]

-- what a state comes to by these pieces, where these stand in its statement
pub record Comes (s : Known) (front : List Placed) (ps : List Piece) (r : Known) : Type 0 where
  pub items_are : r.items ≡ s.items ++ items_from s.names (with_front front (statements s.line ps))
  pub names_are : r.names ≡ names_from s.names (with_front front (statements s.line ps))
  pub own_is : r.own ≡ earlier s.own (least (flat_map own_of (with_front front (statements s.line ps))))
  pub bad_is : r.bad ≡ earlier s.bad (least (of_each bad_of s.line ps))
  pub comment_is : r.comment ≡ earlier s.comment (least (of_each comment_of s.line ps))
  pub unclosed_is : r.unclosed ≡ earlier s.unclosed (least (of_each unclosed_of s.line ps))

-- what comes first of what stood before, of what is here, and of what follows
joins : (a b r : Option Fault) (here after_it : List Fault) → b ≡ earlier a (least here) → r ≡ earlier b (least after_it) → r ≡ earlier a (least (here ++ after_it))
joins a b r here after_it e f = f ∙ ap (λ o. earlier o (least after_it)) e ∙ sym (earlier_assoc a (least here) (least after_it)) ∙ ap (earlier a) (sym (least_append here after_it))

regroup : (a b c d : List Item) → ((a ++ b) ++ c) ++ d ≡ a ++ ((b ++ c) ++ d)
regroup a b c d = simp append_assoc

ran_end : (p : Piece) (ps : List Piece) (s : Known) (front : List Placed) → Reaches p.kind p.bytes (joined ps) → Stands s front → separates p.kind ≡ true
    → ((u : Known) → Stands u [] → Comes u [] ps (run u ps)) → Comes s front (p ∷ ps) (run (step s p) ps)
ran_end p ps s front reaches st h goes =
    let t : Known = step s p in
    let is : taken s p.kind p.bytes ≡ ended s = ends_taken s p.kind p.bytes h in
    let n : ℕ = s.line + feeds p.bytes in
    let m : Comes t [] ps (run t ps) = goes t (record { line = omega (arith, st.line); text = ap (λ k. k.text) is; begun = ap (λ k. k.begun) is; marks = ap (λ k. k.marks) is; low = tt }) in
    let cut : with_front front (statements s.line (p ∷ ps)) ≡ front ∷ statements n ps = rw h (ap (λ u. u ∷ statements n ps) (append-nil front)) in
    let t_items : t.items ≡ s.items ++ items_at (line_of front) s.names (meaning_of front) ++ marks_of front = ap (λ k. k.items) is ∙ ended_items s front st in
    let t_names : t.names ≡ names_at s.names (meaning_of front) = ap (λ k. k.names) is ∙ ended_names s front st in
    let t_own : t.own ≡ earlier s.own (least (own_of front)) = ap (λ k. k.own) is ∙ ended_own s front st in
    record {
      items_are = m.items_are ∙ (λ i. t_items i ++ items_from (t_names i) (front_nil n ps i)) ∙ regroup s.items (items_at (line_of front) s.names (meaning_of front)) (marks_of front) (items_from (names_at s.names (meaning_of front)) (statements n ps))
          ∙ ap (λ c. s.items ++ items_from s.names c) (sym cut);
      names_are = m.names_are ∙ (λ i. names_from (t_names i) (front_nil n ps i)) ∙ ap (names_from s.names) (sym cut);
      own_is = joins s.own t.own (run t ps).own (own_of front) (flat_map own_of (statements n ps)) t_own (m.own_is ∙ ap (λ c. earlier t.own (least (flat_map own_of c))) (front_nil n ps))
          ∙ ap (λ c. earlier s.own (least (flat_map own_of c))) (sym cut);
      bad_is = joins s.bad t.bad (run t ps).bad (bad_of s.line p.kind p.bytes) (of_each bad_of n ps) (taken_bad s p.kind p.bytes (joined ps) reaches) m.bad_is;
      comment_is = joins s.comment t.comment (run t ps).comment (comment_of s.line p.kind p.bytes) (of_each comment_of n ps) (taken_comment s p.kind p.bytes) m.comment_is;
      unclosed_is = joins s.unclosed t.unclosed (run t ps).unclosed (unclosed_of s.line p.kind p.bytes) (of_each unclosed_of n ps) (taken_unclosed s p.kind p.bytes) m.unclosed_is;
    }

ran_more : (p : Piece) (ps : List Piece) (s : Known) (front : List Placed) → Reaches p.kind p.bytes (joined ps) → Stands s front → separates p.kind ≡ false
    → ((u : Known) (f : List Placed) → Stands u f → Comes u f ps (run u ps)) → Comes s front (p ∷ ps) (run (step s p) ps)
ran_more p ps s front reaches st h goes =
    let t : Known = step s p in
    let n : ℕ = s.line + feeds p.bytes in
    let q : Placed = placed s.line p in
    let a : Adds s (taken s p.kind p.bytes) q = adds s p.kind p.bytes (joined ps) reaches h in
    let st2 : Stands (taken s p.kind p.bytes) (front ++ q ∷ []) = a.stands front st in
    let m : Comes t (front ++ q ∷ []) ps (run t ps) = goes t (front ++ q ∷ []) (record { line = omega (arith, st.line); text = st2.text; begun = st2.begun; marks = st2.marks; low = st2.low }) in
    let cut : with_front front (statements s.line (p ∷ ps)) ≡ with_front (front ++ q ∷ []) (statements n ps) = rw h (front_front front (q ∷ []) (statements n ps)) in
    record {
      items_are = m.items_are ∙ (λ i. a.items i ++ items_from (a.names i) (sym cut i));
      names_are = m.names_are ∙ (λ i. names_from (a.names i) (sym cut i));
      own_is = m.own_is ∙ (λ i. earlier (a.own i) (least (flat_map own_of (sym cut i))));
      bad_is = joins s.bad t.bad (run t ps).bad (bad_of s.line p.kind p.bytes) (of_each bad_of n ps) (taken_bad s p.kind p.bytes (joined ps) reaches) m.bad_is;
      comment_is = joins s.comment t.comment (run t ps).comment (comment_of s.line p.kind p.bytes) (of_each comment_of n ps) (taken_comment s p.kind p.bytes) m.comment_is;
      unclosed_is = joins s.unclosed t.unclosed (run t ps).unclosed (unclosed_of s.line p.kind p.bytes) (of_each unclosed_of n ps) (taken_unclosed s p.kind p.bytes) m.unclosed_is;
    }

last_items : (a b c : List Item) → (a ++ b) ++ c ≡ a ++ ((b ++ c) ++ [])
last_items a b c = append_assoc a b c ∙ ap (λ t. a ++ t) (sym (append-nil (b ++ c)))

ran_nothing : (s : Known) (front : List Placed) → Stands s front → Comes s front [] (run s [])
ran_nothing s front st =
    let here : with_front front (statements s.line []) ≡ front ∷ [] = ap (λ t. t ∷ []) (append-nil front) in
    record {
      items_are = ended_items s front st ∙ last_items s.items (items_at (line_of front) s.names (meaning_of front)) (marks_of front) ∙ ap (λ c. s.items ++ items_from s.names c) (sym here);
      names_are = ended_names s front st ∙ ap (names_from s.names) (sym here);
      own_is = ended_own s front st ∙ ap (λ t. earlier s.own (least t)) (sym (append-nil (own_of front))) ∙ ap (λ c. earlier s.own (least (flat_map own_of c))) (sym here);
      bad_is = sym (earlier_none s.bad);
      comment_is = sym (earlier_none s.comment);
      unclosed_is = sym (earlier_none s.unclosed);
    }

ran : (ps : List Piece) (kept : List ℕ) (s : Known) (front : List Placed) → ArePieces kept ps → Stands s front → Comes s front ps (run s ps)
ran [] kept s front are st = ran_nothing s front st
ran (p ∷ ps) kept s front are st = elim (decided (separates p.kind)) [
  | inl h ↦ ran_end p ps s front are.0.reaches st h (λ u stu. ran ps (after kept p.kind p.bytes) u [] are.1 stu)
  | inr h ↦ ran_more p ps s front are.0.reaches st h (λ u f stu. ran ps (after kept p.kind p.bytes) u f are.1 stu)
]

-- at the end of the text
pub record IsRead (pieces : List Piece) (r : Known) : Type 0 where
  pub items_are : r.items ≡ items_from [] (statements 1 pieces)
  pub names_are : r.names ≡ names_from [] (statements 1 pieces)
  pub own_is : r.own ≡ least (flat_map own_of (statements 1 pieces))
  pub bad_is : r.bad ≡ least (of_each bad_of 1 pieces)
  pub comment_is : r.comment ≡ least (of_each comment_of 1 pieces)
  pub unclosed_is : r.unclosed ≡ least (of_each unclosed_of 1 pieces)

pub is_read : (pieces : List Piece) → ArePieces [] pieces → IsRead pieces (run start pieces)
is_read pieces are =
    let m : Comes start [] pieces (run start pieces) = ran pieces [] start [] are (record { line = omega arith; text = refl; begun = refl; marks = refl; low = tt }) in
    record {
      items_are = m.items_are ∙ ap (items_from []) (front_nil 1 pieces);
      names_are = m.names_are ∙ ap (names_from []) (front_nil 1 pieces);
      own_is = m.own_is ∙ ap (λ c. least (flat_map own_of c)) (front_nil 1 pieces);
      bad_is = m.bad_is;
      comment_is = m.comment_is;
      unclosed_is = m.unclosed_is;
    }

-- ---- what the statement has behind its labels so far

pub taken_text : (s : Known) (k : PieceKind) (bytes rest : List ℕ) → Reaches k bytes rest → (taken s k bytes).text ≡ after s.text k bytes
taken_text s kind.Line bytes rest r = refl
taken_text s kind.Block bytes rest r = refl
taken_text s kind.Quoted bytes rest r = refl
taken_text s kind.Feed bytes rest r = refl
taken_text s kind.Semi bytes rest r = refl
taken_text s kind.Return bytes rest r = refl
taken_text s kind.Byte [] rest r = absurd (omega (arith, r))
taken_text s kind.Byte (b ∷ bs) rest r = refl

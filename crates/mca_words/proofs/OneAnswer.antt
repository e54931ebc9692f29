-- The answer that is read is an answer, and there is no other.
use Rattle.std.proofs.Common.{◌≡◌, inl, inr, ℕ, ◌+◌, ◌<◌, ◌≤◌, List, [], ◌∷◌, ◌++◌, zero, suc, length, get_or, take, drop, Some, None, Ok, Err, refl, sym, ◌∙◌, ap, arith, drop-cons, length-append, length-drop, ◌-◌}
use Rattle.std.specs.Prelude.{slice_get}
use Rattle.std.specs.declared.option.Option.{Option}
use Rattle.std.specs.declared.result.Result.{Result}
use Rattle.std.proofs.Math.ListN.{drop_of_length-le}
use Rattle.std.proofs.Math.Seq.{take-suc, take-length, take-append_seam, get_or-append_seam}
use Rattle.std.proofs.lemmas.Bool.{cases_lt}
use Rattle.std.proofs.lemmas.List.{drop-drop, get_or_append_left, take-append-le}
use Rattle.std.proofs.lemmas.Option.{slice_get-get_or, slice_get_within, get_or_from_slice_get}
use Rattle.mca_words.specs.Answer.{answer_from, answer_of, end_answer, end_fault, then_on, fault}
use Rattle.mca_words.specs.FirstFault.{AreSet, IsPieceFault, IsEndFault, IsAnswerTo, IsAnswer}
use Rattle.mca_words.specs.Pieces.{Piece, piece, pieces_of}
use Rattle.mca_words.specs.Settings.{set_by}
use Rattle.mca_words.specs.declared.fault.WordFault.{WordFault}
use Rattle.mca_words.specs.declared.fault.WordKind.{WordKind}
use Rattle.mca_words.specs.declared.options.Options.{Options}
use Rattle.mca_words.specs.declared.settings.Setting.{Setting}
use Rattle.mca_words.specs.declared.settings.Setting.TheVariants.{Input}
use Rattle.mca_words.proofs.Steps.{first_of_rest}

abbrev no_piece : Piece
no_piece = piece 0 [] None

abbrev no_setting : Setting
no_setting = Input []

-- reading comes past the pieces that set something
read_to : (count : ℕ) (pieces : List Piece) (settings : List Setting) → AreSet pieces settings → (k : ℕ) → k ≤ length settings → answer_from count [] pieces ≡ answer_from count (take k settings) (drop k pieces)
read_to count pieces settings set zero within = refl
read_to count pieces settings set (suc k) within =
    let below : k < length settings = omega arith in
    let there : k < length pieces = omega (arith, set.as_many) in
    let one : set_by (take k settings) (get_or pieces k no_piece) ≡ Ok (get_or settings k no_setting) = set.each k _ _ (slice_get-get_or pieces k no_piece there) (slice_get-get_or settings k no_setting below) in
    read_to count pieces settings set k (omega arith)
    ∙ ap (answer_from count (take k settings)) (drop-cons pieces k no_piece there)
    ∙ ap (λ r. then_on (get_or pieces k no_piece).number r (λ setting. answer_from count (take k settings ++ setting ∷ []) (drop (suc k) pieces))) one
    ∙ ap (λ front. answer_from count front (drop (suc k) pieces)) (sym (take-suc settings k no_setting below))

-- reading comes to the end where all pieces set something
read_all : (count : ℕ) (pieces : List Piece) (settings : List Setting) → AreSet pieces settings → length settings ≡ length pieces → answer_from count [] pieces ≡ end_answer count settings (end_fault settings)
read_all count pieces settings set all =
    read_to count pieces settings set (length settings) (omega arith)
    ∙ ap (λ front. answer_from count front (drop (length settings) pieces)) (take-length settings)
    ∙ ap (answer_from count settings) (drop_of_length-le pieces (omega arith))

-- reading ends at a piece with a fault
read_fault : (count : ℕ) (pieces : List Piece) (settings : List Setting) (f : WordFault) → AreSet pieces settings → IsPieceFault pieces settings f → answer_from count [] pieces ≡ Err f
read_fault count pieces settings f set at =
    let n : ℕ = length settings in
    let below : length settings < length pieces = slice_get_within pieces (length settings) at.piece at.there in
    let front : drop (length settings) pieces ≡ at.piece ∷ drop (suc (length settings)) pieces = drop-cons pieces (length settings) no_piece below ∙ ap (λ p. p ∷ drop (suc (length settings)) pieces) (get_or_from_slice_get pieces (length settings) at.piece no_piece at.there) in
    read_to count pieces settings set (length settings) (omega arith)
    ∙ ap (λ s. answer_from count s (drop (length settings) pieces)) (take-length settings)
    ∙ ap (answer_from count settings) front
    ∙ ap (λ r. then_on at.piece.number r (λ setting. answer_from count (settings ++ setting ∷ []) (drop (suc (length settings)) pieces))) at.kind
    ∙ ap (λ number. Err (fault number f.kind)) (sym at.word)

read_end : (count : ℕ) (pieces : List Piece) (settings : List Setting) (f : WordFault) → AreSet pieces settings → IsEndFault count pieces settings f → answer_from count [] pieces ≡ Err f
read_end count pieces settings f set at =
    read_all count pieces settings set at.all ∙ ap (end_answer count settings) at.kind ∙ ap (λ number. Err (fault number f.kind)) (sym at.word)

-- what is an answer is the one that is read
determined : (count : ℕ) (pieces : List Piece) (answer : Result Options WordFault) → IsAnswerTo count pieces answer → answer_from count [] pieces ≡ answer
determined count pieces (Ok options) is = read_all count pieces is.settings is.are_set is.follows.all ∙ ap (end_answer count is.settings) is.follows.none ∙ ap Ok (sym is.follows.same)
determined count pieces (Err f) is = elim is.follows [ inl at ↦ read_fault count pieces is.settings f is.are_set at | inr at ↦ read_end count pieces is.settings f is.are_set at ]

-- there is one answer at most
pub one_answer : (words : List (List ℕ)) (a b : Result Options WordFault) → IsAnswer words a → IsAnswer words b → a ≡ b
one_answer words a b p q = sym (determined (length words + 1) (pieces_of words) a p) ∙ determined (length words + 1) (pieces_of words) b q

-- one more piece sets something
one_more_set : (pieces : List Piece) (settings : List Setting) (p : Piece) (x : Setting) → AreSet pieces settings → slice_get pieces (length settings) ≡ Some p → set_by settings p ≡ Ok x → AreSet pieces (settings ++ x ∷ [])
one_more_set pieces settings p x set there sets = record {
  as_many = let below : length settings < length pieces = slice_get_within pieces (length settings) p there in omega (arith, length-append settings (x ∷ []));
  each = λ k q y at_q at_y. elim (cases_lt k (length settings)) [ inl below ↦ old k q y at_q at_y below | inr past ↦ new k q y at_q at_y past ];
}
  where
    old : (k : ℕ) (q : Piece) (y : Setting) → slice_get pieces k ≡ Some q → slice_get (settings ++ x ∷ []) k ≡ Some y → k < length settings → set_by (take k (settings ++ x ∷ [])) q ≡ Ok y
    old k q y at_q at_y below =
        let left : slice_get settings k ≡ Some y = slice_get-get_or settings k no_setting below ∙ ap Some (sym (get_or_append_left settings (x ∷ []) no_setting k below) ∙ get_or_from_slice_get (settings ++ x ∷ []) k y no_setting at_y) in
        ap (λ s. set_by s q) (take-append-le k settings (x ∷ []) (omega arith)) ∙ set.each k q y at_q left

    new : (k : ℕ) (q : Piece) (y : Setting) → slice_get pieces k ≡ Some q → slice_get (settings ++ x ∷ []) k ≡ Some y → length settings ≤ k → set_by (take k (settings ++ x ∷ [])) q ≡ Ok y
    new k q y at_q at_y past =
        let within : k < length (settings ++ x ∷ []) = slice_get_within (settings ++ x ∷ []) k y at_y in
        let last : k ≡ length settings = omega (arith, length-append settings (x ∷ [])) in
        let same_piece : q ≡ p = sym (get_or_from_slice_get pieces k q no_piece at_q) ∙ ap (λ m. get_or pieces m no_piece) last ∙ get_or_from_slice_get pieces (length settings) p no_piece there in
        let same_setting : x ≡ y = sym (get_or-append_seam settings x [] no_setting) ∙ ap (λ m. get_or (settings ++ x ∷ []) m no_setting) (sym last) ∙ get_or_from_slice_get (settings ++ x ∷ []) k y no_setting at_y in
        ap (λ m. set_by (take m (settings ++ x ∷ [])) q) last
        ∙ ap (λ s. set_by s q) (take-append_seam settings (x ∷ []))
        ∙ ap (set_by settings) same_piece
        ∙ sets
        ∙ ap Ok same_setting

-- after settings, a piece either has a fault or sets something
piece_cases : (count : ℕ) (pieces : List Piece) (settings : List Setting) (p : Piece) (rest : List Piece) (r : Result Setting WordKind) → AreSet pieces settings → slice_get pieces (length settings) ≡ Some p → set_by settings p ≡ r → ((x : Setting) → set_by settings p ≡ Ok x → IsAnswerTo count pieces (answer_from count (settings ++ x ∷ []) rest)) → IsAnswerTo count pieces (then_on p.number r (λ x. answer_from count (settings ++ x ∷ []) rest))
piece_cases count pieces settings p rest (Err kind) set there is on = record {
  settings = settings;
  are_set = set;
  follows = inl (record { piece = p; there = there; kind = is; word = refl });
}
piece_cases count pieces settings p rest (Ok x) set there is on = on x is

end_cases : (count : ℕ) (pieces : List Piece) (settings : List Setting) (o : Option WordKind) → AreSet pieces settings → length settings ≡ length pieces → end_fault settings ≡ o → IsAnswerTo count pieces (end_answer count settings o)
end_cases count pieces settings (Some kind) set all is = record {
  settings = settings;
  are_set = set;
  follows = inr (record { all = all; kind = is; word = refl });
}
end_cases count pieces settings None set all is = record {
  settings = settings;
  are_set = set;
  follows = record { all = all; none = is; same = refl };
}

-- what is read from some piece on is an answer
answered : (count : ℕ) (pieces : List Piece) (settings : List Setting) (rest : List Piece) → AreSet pieces settings → rest ≡ drop (length settings) pieces → IsAnswerTo count pieces (answer_from count settings rest)
answered count pieces settings [] set e =
    let none : 0 ≡ length pieces - length settings = ap length e ∙ length-drop (length settings) pieces in
    let all : length settings ≡ length pieces = omega (arith, set.as_many) in
    end_cases count pieces settings (end_fault settings) set all refl
answered count pieces settings (p ∷ rest) set e =
    let there : slice_get pieces (length settings) ≡ Some p = sym (first_of_rest pieces (length settings)) ∙ ap (λ ps. slice_get ps 0) (sym e) in
    piece_cases count pieces settings p rest (set_by settings p) set there refl (λ x is.
    answered count pieces (settings ++ x ∷ []) rest (one_more_set pieces settings p x set there is)
    (ap (drop 1) e ∙ drop-drop 1 (length settings) pieces ∙ ap (λ m. drop m pieces) (sym (length-append settings (x ∷ [])))))

-- the answer that is read is an answer
pub is_answer : (words : List (List ℕ)) → IsAnswer words (answer_of words)
is_answer words = answered (length words + 1) (pieces_of words) [] (pieces_of words) (record { as_many = omega arith; each = λ k q y at_q at_y. cc }) refl

-- Reading the words piece by piece.
use Rattle.std.proofs.Common.{◌≡◌, ℕ, ◌+◌, ◌<◌, ◌≤◌, List, [], ◌∷◌, ◌++◌, zero, suc, length, get_or, drop, Bool, true, false, cond, Some, None, Ok, Err, refl, sym, ◌∙◌, ap, arith, add-one, drop-cons}
use Rattle.std.specs.Prelude.{slice_get}
use Rattle.std.specs.declared.option.Option.{Option}
use Rattle.std.specs.declared.result.Result.{Result}
use Rattle.std.proofs.lemmas.List.{drop-drop}
use Rattle.std.proofs.lemmas.Option.{slice_get_within}
use Rattle.mca_words.specs.Answer.{answer_from, then_on, rest_answer, next_word, width, fault}
use Rattle.mca_words.specs.Pieces.{Piece, piece, pieces_from, awaits_value}
use Rattle.mca_words.specs.Settings.{set_by}
use Rattle.mca_words.specs.declared.fault.WordKind.{WordKind}
use Rattle.mca_words.specs.declared.settings.Setting.{Setting}

-- the word that follows, where it is the value
abbrev follows : List ℕ → List (List ℕ) → Option (List ℕ)
follows word after = cond (awaits_value word) (slice_get after 0) None

-- the first of the pieces, and those of the words after it
first_piece : (n : ℕ) (word : List ℕ) (after : List (List ℕ)) → pieces_from n (word ∷ after) ≡ piece n word (follows word after) ∷ pieces_from (n + 1 + width (follows word after)) (drop (width (follows word after)) after)
first_piece n word [] = go (awaits_value word)
  where
    go : (b : Bool) → ◌≡◌ {A = List Piece} (piece n word None ∷ []) (piece n word (cond b None None) ∷ pieces_from (n + 1 + width (cond b None None)) (drop (width (cond b None None)) []))
    go true = refl
    go false = refl
first_piece n word (next ∷ words) = go (awaits_value word)
  where
    go : (b : Bool) → ◌≡◌ {A = List Piece} (cond b (piece n word (Some next) ∷ pieces_from (n + 2) words) (piece n word None ∷ pieces_from (n + 1) (next ∷ words))) (piece n word (cond b (Some next) None) ∷ pieces_from (n + 1 + width (cond b (Some next) None)) (drop (width (cond b (Some next) None)) (next ∷ words)))
    go true = ap (λ m. piece n word (Some next) ∷ pieces_from m words) (omega arith)
    go false = ap (λ m. piece n word None ∷ pieces_from m (next ∷ words)) (omega arith)

-- the first of what is left from a place on stands at the place
pub first_of_rest : {X : Type 0} (words : List X) (k : ℕ) → slice_get (drop k words) 0 ≡ slice_get words k
first_of_rest [] zero = refl
first_of_rest [] (suc k) = refl
first_of_rest (word ∷ words) zero = refl
first_of_rest (word ∷ words) (suc k) = first_of_rest words k

-- the piece that stands at a place, and the pieces after it
piece_at : (words : List (List ℕ)) (at : ℕ) → at < length words → pieces_from (at + 1) (drop at words) ≡ piece (at + 1) (get_or words at []) (next_word words at) ∷ pieces_from (at + 1 + width (next_word words at) + 1) (drop (at + 1 + width (next_word words at)) words)
piece_at words at within =
    let word : List ℕ = get_or words at [] in
    let cut : drop at words ≡ word ∷ drop (at + 1) words = rw (add-one, drop-cons words at [] within) in
    let same : follows word (drop (at + 1) words) ≡ next_word words at = ap (λ o. cond (awaits_value word) o None) (first_of_rest words (at + 1)) in
    ap (pieces_from (at + 1)) cut
    ∙ first_piece (at + 1) word (drop (at + 1) words)
    ∙ ap (λ next. piece (at + 1) word next ∷ pieces_from (at + 1 + 1 + width next) (drop (width next) (drop (at + 1) words))) same
    ∙ ap (λ rest. piece (at + 1) word (next_word words at) ∷ pieces_from (at + 1 + 1 + width (next_word words at)) rest) (drop-drop (width (next_word words at)) (at + 1) words)
    ∙ ap (λ m. piece (at + 1) word (next_word words at) ∷ pieces_from m (drop (at + 1 + width (next_word words at)) words)) (omega arith)

-- the place after a piece is no further than the end
pub place_within : (words : List (List ℕ)) (at : ℕ) → at < length words → at + 1 + width (next_word words at) ≤ length words
place_within words at within = go (awaits_value (get_or words at [])) (slice_get words (at + 1)) refl
  where
    go : (b : Bool) (next : Option (List ℕ)) → slice_get words (at + 1) ≡ next → at + 1 + width (cond b next None) ≤ length words
    go false next e = omega arith
    go true None e = omega arith
    go true (Some next) e = let below : at + 1 < length words = slice_get_within words (at + 1) next e in omega arith

-- what is set at a place goes by what is known of the place
same_set : (words : List (List ℕ)) (at : ℕ) (settings items : List Setting) (word : List ℕ) (next : Option (List ℕ)) (r : Result Setting WordKind) → items ≡ settings → word ≡ get_or words at [] → next ≡ next_word words at → set_by items (piece (at + 1) word next) ≡ r → set_by settings (piece (at + 1) (get_or words at []) (next_word words at)) ≡ r
same_set words at settings items word next r same_items same_word same_next e = sym (λ i. set_by (same_items i) (piece (at + 1) (same_word i) (same_next i))) ∙ e

-- a piece with a fault ends the reading
pub step_fault : (words : List (List ℕ)) (at : ℕ) (settings items : List Setting) (word : List ℕ) (next : Option (List ℕ)) (kind : WordKind) → at < length words → items ≡ settings → word ≡ get_or words at [] → next ≡ next_word words at → set_by items (piece (at + 1) word next) ≡ Err kind → rest_answer words at settings ≡ Err (fault (at + 1) kind)
step_fault words at settings items word next kind within same_items same_word same_next e =
    ap (answer_from (length words + 1) settings) (piece_at words at within)
    ∙ ap (λ r. then_on (at + 1) r (λ setting. answer_from (length words + 1) (settings ++ setting ∷ []) (pieces_from (at + 1 + width (next_word words at) + 1) (drop (at + 1 + width (next_word words at)) words)))) (same_set words at settings items word next (Err kind) same_items same_word same_next e)

-- a piece that sets something leaves the words after it
pub step_set : (words : List (List ℕ)) (at : ℕ) (settings items : List Setting) (word : List ℕ) (next : Option (List ℕ)) (setting : Setting) (after : ℕ) → at < length words → items ≡ settings → word ≡ get_or words at [] → next ≡ next_word words at → after ≡ width next → set_by items (piece (at + 1) word next) ≡ Ok setting → rest_answer words at settings ≡ rest_answer words (at + 1 + after) (settings ++ setting ∷ [])
step_set words at settings items word next setting after within same_items same_word same_next counted e =
    ap (answer_from (length words + 1) settings) (piece_at words at within)
    ∙ ap (λ r. then_on (at + 1) r (λ setting'. answer_from (length words + 1) (settings ++ setting' ∷ []) (pieces_from (at + 1 + width (next_word words at) + 1) (drop (at + 1 + width (next_word words at)) words)))) (same_set words at settings items word next (Ok setting) same_items same_word same_next e)
    ∙ ap (λ w. rest_answer words (at + 1 + w) (settings ++ setting ∷ [])) (sym (counted ∙ ap width same_next))

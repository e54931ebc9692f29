-- How the tokens of a text go on behind the piece that begins it.
use Rattle.std.proofs.Common.{◌≡◌, ℕ, ◌+◌, ◌-◌, ◌<◌, ◌≤◌, List, [], ◌∷◌, length, take, drop, suc, zero, refl, ap, sym, ◌∙◌, arith, add-zero, if◌then◌else◌, nat_eq, cond, Bool, true, false}
use Rattle.std.proofs.lemmas.Bool.Decides.{nat_tests}
use Rattle.std.proofs.lemmas.List.Sums.{sum_by-cons}
use Rattle.sched_records.specs.Pieces.{piece_at}
use Rattle.sched_records.specs.Tokens.{Lexeme, feeds, is_gap, lexeme, line_of, bytes_of, tokens_from}
use Rattle.sched_records.specs.declared.piece.Piece.{Piece}

feeds_cons : (b : ℕ) (bs : List ℕ) → feeds (b ∷ bs) ≡ cond (nat_eq b 10) 1 0 + feeds bs
feeds_cons b bs = sum_by-cons (λ c. cond (nat_eq c 10) 1 0) b bs

counted : (is_feed : Bool) (line more all : ℕ) → all ≡ cond is_feed 1 0 + more → (if is_feed then line + 1 else line) + more ≡ line + all
counted true line more all h = omega arith
counted false line more all h = omega arith

line_step : (b : ℕ) (bs : List ℕ) (k line : ℕ) → (if nat_eq b 10 then line + 1 else line) + feeds (take k bs) ≡ line + feeds (take (suc k) (b ∷ bs))
line_step b bs k line = counted (nat_eq b 10) line (feeds (take k bs)) (feeds (b ∷ take k bs)) (feeds_cons b (take k bs))

pub tokens_skip : (text : List ℕ) (k line : ℕ) → k ≤ length text → tokens_from text k line ≡ tokens_from (drop k text) 0 (line + feeds (take k text))
tokens_skip [] zero line h = ap (λ n. tokens_from [] 0 n) (sym (add-zero line))
tokens_skip [] (suc k) line h = absurd (omega arith)
tokens_skip (b ∷ bs) zero line h = ap (λ n. tokens_from (b ∷ bs) 0 n) (sym (add-zero line))
tokens_skip (b ∷ bs) (suc k) line h =
    tokens_skip bs k (if nat_eq b 10 then line + 1 else line) (omega arith) ∙ ap (λ n. tokens_from (drop k bs) 0 n) (line_step b bs k line)

-- behind the first piece
behind_piece : (b : ℕ) (bs : List ℕ) (size line : ℕ) → 0 < size → size ≤ length (b ∷ bs) →
    tokens_from bs (size - 1) (if nat_eq b 10 then line + 1 else line) ≡ tokens_from (drop size (b ∷ bs)) 0 (line + feeds (take size (b ∷ bs)))
behind_piece b bs zero line h g = absurd (omega arith)
behind_piece b bs (suc k) line h g =
    let one_less : suc k - 1 ≡ k = omega arith in
    rw one_less (tokens_skip (b ∷ bs) (suc k) line g)

-- what stands behind a gap is what stands before it
pub gap_step : (text : List ℕ) (line : ℕ) → 0 < (piece_at text).size → (piece_at text).size ≤ length text → is_gap (piece_at text).kind ≡ true →
    tokens_from (drop (piece_at text).size text) 0 (line + feeds (take (piece_at text).size text)) ≡ tokens_from text 0 line
gap_step [] line h g gap = absurd (omega arith)
gap_step (b ∷ bs) line h g gap = sym (rw gap (behind_piece b bs (piece_at (b ∷ bs)).size line h g))

-- a token, and what stands behind it
pub token_step : (text : List ℕ) (line : ℕ) → (0 < length text → 0 < (piece_at text).size) → (piece_at text).size ≤ length text → is_gap (piece_at text).kind ≡ false →
    lexeme (piece_at text) line text ∷ (if nat_eq (length text) 0 then [] else tokens_from (drop (piece_at text).size text) 0 (line + feeds (take (piece_at text).size text))) ≡ tokens_from text 0 line
token_step [] line h g gap = refl
token_step (b ∷ bs) line h g gap =
    let some : nat_eq (length (b ∷ bs)) 0 ≡ false = grind (arith, nat_tests) in
    sym (rw (gap, some) (ap (λ ts. lexeme (piece_at (b ∷ bs)) line (b ∷ bs) ∷ ts) (behind_piece b bs (piece_at (b ∷ bs)).size line (h (omega arith)) g)))

-- the same over what the calls of the reader give
pub token_found : (text bytes front behind : List ℕ) (line at feed_count : ℕ) (p : Piece) (gap empty : Bool) →
    p ≡ piece_at text → (0 < length text → 0 < p.size) → p.size ≤ length text → gap ≡ is_gap p.kind → gap ≡ false →
    at ≡ line_of p line text → bytes ≡ bytes_of p text → empty ≡ nat_eq (length text) 0 →
    front ≡ take p.size text → behind ≡ drop p.size text → feed_count ≡ feeds front →
    ◌≡◌ {A = List Lexeme} (record { line = at; kind = p.kind; bytes = bytes } ∷ (if empty then [] else tokens_from behind 0 (line + feed_count))) (tokens_from text 0 line)
token_found text bytes front behind line at feed_count p gap empty p-is low high gap-is is-no at-is bytes-is empty-is front-is behind-is count-is =
    rw (at-is, bytes-is, empty-is, count-is, front-is, behind-is, p-is)
    (token_step text line (rw p-is at low) (rw p-is at high) (rw p-is at (sym gap-is ∙ is-no)))

pub gap_found : (text front behind : List ℕ) (line feed_count : ℕ) (p : Piece) (gap : Bool) →
    p ≡ piece_at text → 0 < p.size → p.size ≤ length text → gap ≡ is_gap p.kind → gap ≡ true →
    front ≡ take p.size text → behind ≡ drop p.size text → feed_count ≡ feeds front →
    tokens_from behind 0 (line + feed_count) ≡ tokens_from text 0 line
gap_found text front behind line feed_count p gap p-is low high gap-is is-yes front-is behind-is count-is =
    rw (count-is, front-is, behind-is, p-is) (gap_step text line (rw p-is at low) (rw p-is at high) (rw p-is at (sym gap-is ∙ is-yes)))

-- an empty text begins with no gap
pub gap_some : (text : List ℕ) (p : Piece) (gap : Bool) → p ≡ piece_at text → gap ≡ is_gap p.kind → gap ≡ true → 0 < length text
gap_some [] p gap p-is gap-is is-yes = let same : is_gap (piece_at []).kind ≡ true = rw p-is at (sym gap-is ∙ is-yes) in cc
gap_some (b ∷ bs) p gap p-is gap-is is-yes = omega arith

-- the program of a text of several lines, each the spelling of an instruction
use Rattle.std.proofs.Common.{◌≡◌, ℕ, ◌+◌, ◌≤◌, List, [], ◌∷◌, ◌++◌, length, Some, Ok, sym, ◌∙◌, ap, refl, arith, nat_lt, true, false, Bool}
use Rattle.std.specs.Prelude.{map, if◌then◌else◌}
use Rattle.std.specs.List.{AllByRecursion, flat_map}
use Rattle.std.proofs.lemmas.Bool.Decides.{nat_tests}
use Rattle.rv_isa.specs.declared.instr.Instr.{Instr}
use Rattle.rv_isa.specs.Spelling.{spelling}
use Rattle.rv_asm.specs.declared.fault.Cause.TheVariants as cause
use Rattle.rv_asm.specs.declared.fault.Fault.{Fault}
use Rattle.rv_asm.specs.declared.item.Item.TheVariants as item
use Rattle.rv_asm.specs.declared.pieces.PieceKind.{PieceKind}
use Rattle.rv_asm.specs.declared.pieces.PieceKind.TheVariants as kind
use Rattle.rv_asm.specs.Statement.{more, behind_labels}
use Rattle.rv_asm.specs.Pieces.{Piece, kind_at, joined, ArePieces}
use Rattle.rv_asm.specs.Extents.{feeds}
use Rattle.rv_asm.specs.Operands.{with_front}
use Rattle.rv_asm.specs.Meaning.{meaning}
use Rattle.rv_asm.specs.Items.{items_at, names_at, faults_at, named}
use Rattle.rv_asm.specs.LongLines.{lines_of, long_in}
use Rattle.rv_asm.specs.Program.{Placed, statements, line_of, meaning_of, own_of, bad_of, comment_of, unclosed_of, of_each, faults_of, items_from, names_from, IsProgram}
use Rattle.rv_asm.specs.Spelled.{IsSpelledLine, spelled_lines, symbol_in, appeared, renumbered, items_of_lines}
use Rattle.rv_asm.proofs.OneLine.{calm, AreCalm, others, calm_kind, placed_of, no_feed, its_text, its_marks, its_line, no_labels, no_bad}
use Rattle.rv_asm.proofs.RoundTrip.{IsReadLine, line_read}

-- ---- the cut

-- the pieces of a line, its line feed, and what stands behind it
abbrev line_pieces : List ℕ → List Piece → List Piece
line_pieces [] ps = record { kind = kind.Feed; bytes = 10 ∷ [] } ∷ ps
line_pieces (b ∷ bs) ps = record { kind = kind.Byte; bytes = b ∷ [] } ∷ line_pieces bs ps

abbrev pieces_in : List (List ℕ) → List Instr → List Piece
pieces_in names [] = []
pieces_in names (i ∷ is) = line_pieces (spelling i names) (pieces_in names is)

line_joined : (text rest : List ℕ) (ps : List Piece) → joined ps ≡ rest → joined (line_pieces text ps) ≡ text ++ 10 ∷ rest
line_joined [] rest ps e = ap (λ t. 10 ∷ t) e
line_joined (b ∷ bs) rest ps e = ap (λ t. b ∷ t) (line_joined bs rest ps e)

all_joined : (names : List (List ℕ)) (is : List Instr) → joined (pieces_in names is) ≡ spelled_lines names is
all_joined names [] = refl
all_joined names (i ∷ is) = line_joined (spelling i names) (spelled_lines names is) (pieces_in names is) (all_joined names is)

feed_kind : (q : Bool) (rest : List ℕ) → kind_at q (10 ∷ rest) ≡ kind.Feed
feed_kind true [] = refl
feed_kind false [] = refl
feed_kind true (c ∷ cs) = refl
feed_kind false (c ∷ cs) = refl

line_cut : (text kept : List ℕ) (ps : List Piece) → AreCalm text → ArePieces [] ps → ArePieces kept (line_pieces text ps)
line_cut [] kept ps all rest = (record { first = sym (feed_kind _ (joined ps)); reaches = refl }, rest)
line_cut (b ∷ bs) kept ps all rest = (record { first = sym (calm_kind _ b (joined (line_pieces bs ps)) (others b all.0)); reaches = refl }, line_cut bs (more kept b) ps all.1 rest)

-- each line is read, and is none that is too long
abbrev AreRead : List (List ℕ) → List Instr → Type 0
AreRead names is = AllByRecursion (λ i. IsReadLine names i × (length (spelling i names) ≤ 4096)) is

all_cut : (names : List (List ℕ)) (is : List Instr) → AreRead names is → ArePieces [] (pieces_in names is)
all_cut names [] all = tt
all_cut names (i ∷ is) all = line_cut (spelling i names) [] (pieces_in names is) all.0.0.calm (all_cut names is all.1)

-- ---- the statements

line_statement : (n : ℕ) (text : List ℕ) (ps : List Piece) → AreCalm text → statements n (line_pieces text ps) ≡ placed_of n text ∷ statements (n + 1) ps
line_statement n [] ps all = refl
line_statement n (b ∷ bs) ps all =
    let p : Placed = record { line = n; kind = kind.Byte; bytes = b ∷ [] } in
    ap (λ m. with_front (p ∷ []) (statements m (line_pieces bs ps))) (no_feed n b (others b all.0)) ∙ ap (with_front (p ∷ [])) (line_statement n bs ps all.1)

line_meaning : (n : ℕ) (names : List (List ℕ)) (i : Instr) (l : IsReadLine names i) → meaning_of (placed_of n (spelling i names)) ≡ Ok (Some l.fit)
line_meaning n names i l = ap (λ t. meaning (behind_labels t)) (its_text n (spelling i names)) ∙ ap meaning (no_labels [] (spelling i names) l.calm) ∙ l.means

line_number : (n : ℕ) (names : List (List ℕ)) (i : Instr) → IsReadLine names i → line_of (placed_of n (spelling i names)) ≡ n
line_number n names i l = ap (λ t. line_of (placed_of n t)) l.whole ∙ its_line n l.first l.rest l.no_blank

line_items : (n : ℕ) (names before : List (List ℕ)) (i : Instr) → IsReadLine names i
    → items_at (line_of (placed_of n (spelling i names))) before (meaning_of (placed_of n (spelling i names))) ≡ item.Code n (renumbered names before i) ∷ []
line_items n names before i l = (λ t. items_at (line_number n names i l t) before (line_meaning n names i l t)) ∙ ap (map (λ j. item.Code n j)) (l.code before)

all_items : (names before : List (List ℕ)) (n : ℕ) (is : List Instr) → AreRead names is
    → items_of_lines names n before is ≡ items_from before (statements n (pieces_in names is))
all_items names before n [] all = refl
all_items names before n (i ∷ is) all =
    let l : IsReadLine names i = all.0.0 in
    let s : List Placed = placed_of n (spelling i names) in
    let next : List (List ℕ) = named before (symbol_in names i.imm) i.imm in
    let names_next : names_at before (meaning_of s) ≡ next = ap (names_at before) (line_meaning n names i l) ∙ l.names_are before in
    let rest : List (List Placed) = statements (n + 1) (pieces_in names is) in
    sym (ap (items_from before) (line_statement n (spelling i names) (pieces_in names is) l.calm)
    ∙ (λ t. line_items n names before i l t ++ its_marks n (spelling i names) t ++ items_from (names_next t) rest)
    ∙ ap (λ u. item.Code n (renumbered names before i) ∷ u) (sym (all_items names next (n + 1) is all.1)))

all_names : (names before : List (List ℕ)) (n : ℕ) (is : List Instr) → AreRead names is
    → appeared names before is ≡ names_from before (statements n (pieces_in names is))
all_names names before n [] all = refl
all_names names before n (i ∷ is) all =
    let l : IsReadLine names i = all.0.0 in
    let s : List Placed = placed_of n (spelling i names) in
    let names_next : names_at before (meaning_of s) ≡ named before (symbol_in names i.imm) i.imm = ap (names_at before) (line_meaning n names i l) ∙ l.names_are before in
    sym (ap (names_from before) (line_statement n (spelling i names) (pieces_in names is) l.calm)
    ∙ ap (λ m. names_from m (statements (n + 1) (pieces_in names is))) names_next
    ∙ sym (all_names names (named before (symbol_in names i.imm) i.imm) (n + 1) is all.1))

-- ---- the faults

all_own : (names : List (List ℕ)) (n : ℕ) (is : List Instr) → AreRead names is → flat_map own_of (statements n (pieces_in names is)) ≡ []
all_own names n [] all = refl
all_own names n (i ∷ is) all =
    let l : IsReadLine names i = all.0.0 in
    let s : List Placed = placed_of n (spelling i names) in
    ap (flat_map own_of) (line_statement n (spelling i names) (pieces_in names is) l.calm)
    ∙ ap (λ m. faults_at (line_of s) m ++ flat_map own_of (statements (n + 1) (pieces_in names is))) (line_meaning n names i l) ∙ all_own names (n + 1) is all.1

line_none : (f : ℕ → PieceKind → List ℕ → List Fault) (n : ℕ) (text : List ℕ) (ps : List Piece) → ((m b : ℕ) → calm b ≡ true → f m kind.Byte (b ∷ []) ≡ []) → ((m : ℕ) → f m kind.Feed (10 ∷ []) ≡ [])
    → AreCalm text → of_each f n (line_pieces text ps) ≡ of_each f (n + 1) ps
line_none f n [] ps none feed all = ap (λ t. t ++ of_each f (n + 1) ps) (feed n)
line_none f n (b ∷ bs) ps none feed all =
    ap (λ t. t ++ of_each f (n + feeds (b ∷ [])) (line_pieces bs ps)) (none n b all.0) ∙ ap (λ m. of_each f m (line_pieces bs ps)) (no_feed n b (others b all.0)) ∙ line_none f n bs ps none feed all.1

all_none : (f : ℕ → PieceKind → List ℕ → List Fault) (names : List (List ℕ)) (n : ℕ) (is : List Instr) → ((m b : ℕ) → calm b ≡ true → f m kind.Byte (b ∷ []) ≡ []) → ((m : ℕ) → f m kind.Feed (10 ∷ []) ≡ [])
    → AreRead names is → of_each f n (pieces_in names is) ≡ []
all_none f names n [] none feed all = refl
all_none f names n (i ∷ is) none feed all = line_none f n (spelling i names) (pieces_in names is) none feed all.0.0.calm ∙ all_none f names (n + 1) is none feed all.1

line_lines : (text rest : List ℕ) → AreCalm text → lines_of (text ++ 10 ∷ rest) ≡ text ∷ lines_of rest
line_lines [] rest all = refl
line_lines (b ∷ bs) rest all = rw (others b all.0).feed (ap (with_front (b ∷ [])) (line_lines bs rest all.1))

all_short : (names : List (List ℕ)) (n : ℕ) (is : List Instr) → AreRead names is → long_in n (lines_of (spelled_lines names is)) ≡ []
all_short names n [] all = refl
all_short names n (i ∷ is) all =
    let test : nat_lt 4096 (length (spelling i names)) ≡ false = short_test (length (spelling i names)) all.0.1 in
    ap (long_in n) (line_lines (spelling i names) (spelled_lines names is) all.0.0.calm)
    ∙ ap (λ t. if t then record { line = n; cause = cause.LongLine } ∷ long_in (n + 1) (lines_of (spelled_lines names is)) else long_in (n + 1) (lines_of (spelled_lines names is))) test
    ∙ all_short names (n + 1) is all.1
  where
    short_test : (k : ℕ) → k ≤ 4096 → nat_lt 4096 k ≡ false
    short_test k le = grind (arith, nat_tests, le)

-- ---- the program

each_read : (names : List (List ℕ)) (is : List Instr) → AllByRecursion (IsSpelledLine names) is → AreRead names is
each_read names [] all = tt
each_read names (i ∷ is) all = ((line_read i names all.0.lawful all.0.symbol, all.0.short), each_read names is all.1)

pub lines_read : (is : List Instr) (names : List (List ℕ)) → AllByRecursion (IsSpelledLine names) is → IsProgram (spelled_lines names is) (items_of_lines names 1 [] is) (appeared names [] is)
lines_read is names lines =
    let all : AreRead names is = each_read names is lines in
    let nothing : faults_of (spelled_lines names is) (pieces_in names is) ≡ [] =
    λ t. all_short names 1 is all t ++ all_none bad_of names 1 is no_bad (λ m. refl) all t ++ all_own names 1 is all t ++ all_none comment_of names 1 is (λ m b h. refl) (λ m. refl) all t ++ all_none unclosed_of names 1 is (λ m b h. refl) (λ m. refl) all t in
    record {
      pieces = pieces_in names is;
      cut = record { joined = all_joined names is; first = all_cut names is all };
      no_fault = nothing;
      items = all_items names [] 1 is all;
      names = all_names names [] 1 is all;
    }

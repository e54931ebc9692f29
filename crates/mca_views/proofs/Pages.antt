-- A page stays kept, and the bytes that an open line takes.
use Rattle.std.proofs.Common.{◌≡◌, ℕ, ◌+◌, ◌-◌, ◌<◌, ◌≤◌, nat_eq, take, get_or, List, [], ◌∷◌, ◌++◌, length, false, refl, sym, ap, ◌∙◌, arith, subst}
use Rattle.std.proofs.lemmas.List.{append-nil, append_assoc, length-append, length-replicate, replicate-append-replicate, take_all, take_more}
use Rattle.std.proofs.lemmas.Bool.Decides.{nat_tests}
use Rattle.mca_fixed.specs.Padding.{spaces}
use Rattle.mca_views.specs.Lines.{before, trimmed, line}
use Rattle.mca_views.specs.declared.fault.ViewFault.{ViewFault}
use Rattle.mca_views.specs.declared.fault.ViewFault.TheVariants.{TooLong, Memory}
use Rattle.mca_views.specs.Fault.{Over}
use Rattle.mca_views.specs.Page.{Written, size, more, closed, added, written, IsKept}
use Rattle.mca_views.proofs.Trims.{trimmed_behind, trimmed_byte}

other_byte : (byte : ℕ) → (byte ≡ 32 → ⊥) → nat_eq byte 32 ≡ false
other_byte byte other = grind (arith, nat_tests, other)

pub more_spaces : (text last : List ℕ) (blanks room n : ℕ) → written text last (blanks + n) room ≡ more (written text last blanks room) (spaces n)
more_spaces text last blanks room n =
    let e : last ++ spaces (blanks + n) ≡ (last ++ spaces blanks) ++ spaces n = (ap (λ s. last ++ s) (sym (replicate-append-replicate blanks n 32)) ∙ sym (append_assoc last (spaces blanks) (spaces n)))
    in ap (λ l. record { text = text; open_line = l; room = room }) e

-- another byte takes the spaces before it with it
pub more_byte : (text last : List ℕ) (blanks room byte : ℕ) → written text ((last ++ spaces blanks) ++ byte ∷ []) 0 room ≡ more (written text last blanks room) (byte ∷ [])
more_byte text last blanks room byte = ap (λ l. record { text = text; open_line = l; room = room }) (append-nil ((last ++ spaces blanks) ++ byte ∷ []))

pub size_byte : (text last : List ℕ) (blanks room byte : ℕ) → nat_eq byte 32 ≡ false → size (more (written text last blanks room) (byte ∷ [])) ≡ length text + (length last + blanks + 1)
size_byte text last blanks room byte other =
    ap (λ l. length text + length l) (trimmed_byte (last ++ spaces blanks) byte other)
    ∙ ap (λ n. length text + n) (length-append (last ++ spaces blanks) (byte ∷ []) ∙ ap (λ n. n + 1) (length-append last (spaces blanks) ∙ ap (λ n. length last + n) (length-replicate blanks 32)))

pub kept_byte : (text last : List ℕ) (blanks room byte : ℕ) → IsKept text last room → (byte ≡ 32 → ⊥) → length ((last ++ spaces blanks) ++ byte ∷ []) ≤ room - length text → IsKept text ((last ++ spaces blanks) ++ byte ∷ []) room
kept_byte text last blanks room byte kept other le = record { fits = omega (arith, kept.fits, le); bare = trimmed_byte (last ++ spaces blanks) byte (other_byte byte other) }

-- the end of a line
pub line_of : (last : List ℕ) (blanks : ℕ) → trimmed last ≡ last → line (last ++ spaces blanks) ≡ last ++ 10 ∷ []
line_of last blanks bare = ap (λ l. l ++ 10 ∷ []) (trimmed_behind last blanks ∙ bare)

-- what is too long stays so where more comes behind it
pub over_more : (room a b : ℕ) (f : ViewFault) → Over room a f → a ≤ b → Over room b f
over_more room a b TooLong over le = omega (arith, over, le)
over_more room a b Memory over le = over

pub over_inner : (room text a b : ℕ) (f : ViewFault) → text ≤ room → Over (room - text) a f → text + a ≤ b → Over room b f
over_inner room text a b TooLong fits over le = omega (arith, fits, over, le)
over_inner room text a b Memory fits over le = over

pub over_byte : (text last : List ℕ) (blanks room byte : ℕ) (p : Written) (f : ViewFault) → IsKept text last room → written text last blanks room ≡ p → (byte ≡ 32 → ⊥) →
    Over (room - length text) (length last + blanks + 1) f → Over p.room (size (more p (byte ∷ []))) f
over_byte text last blanks room byte p f kept is other over = subst (λ q. Over q.room (size (more q (byte ∷ []))) f) is
    (let fits : length text ≤ room = omega (arith, kept.fits) in let e = size_byte text last blanks room byte (other_byte byte other) in over_inner room (length text) _ _ f fits over (omega (arith, e)))

pub over_end : (text last : List ℕ) (blanks room : ℕ) (p : Written) (f : ViewFault) → IsKept text last room → written text last blanks room ≡ p →
    Over room (length text + length last + 1) f → Over p.room (length (closed p).text) f
over_end text last blanks room p f kept is over = subst (λ q. Over q.room (length (closed q).text) f) is
    (let e = length-append text (line (last ++ spaces blanks)) ∙ ap (λ l. length text + length l) (line_of last blanks kept.bare) ∙ ap (λ n. length text + n) (length-append last (10 ∷ [])) in
    over_more room _ _ f over (omega (arith, e)))

-- the end of a line
pub closed_is : (text last : List ℕ) (blanks room : ℕ) (p : Written) → IsKept text last room → written text last blanks room ≡ p → written (text ++ (last ++ 10 ∷ [])) [] 0 room ≡ closed p
closed_is text last blanks room p kept is = subst (λ q. written (text ++ (last ++ 10 ∷ [])) [] 0 room ≡ closed q) is
    (ap (λ l. record { text = text ++ l; open_line = []; room = room }) (sym (line_of last blanks kept.bare)))

-- The spaces at the end of a text

pub split_all : (bs : List ℕ) → bs ≡ take (length bs) bs ++ spaces (length bs - length bs)
split_all bs = let e : length bs - length bs ≡ 0 = omega arith in sym (ap (λ n. take (length bs) bs ++ spaces n) e ∙ append-nil (take (length bs) bs) ∙ take_all (length bs) bs (omega arith))

pub bare_at : (bs : List ℕ) (n : ℕ) → 0 < n → n ≤ length bs → (get_or bs (n - 1) 0 ≡ 32 → ⊥) → trimmed (take n bs) ≡ take n bs
bare_at bs n some le other =
    let e : n - 1 + 1 ≡ n = omega (arith, some) in
    let cut : take n bs ≡ take (n - 1) bs ++ get_or bs (n - 1) 0 ∷ [] = ap (λ k. take k bs) (sym e) ∙ take_more bs (n - 1) 0 (omega (arith, some, le)) in
    ap trimmed cut ∙ trimmed_byte (take (n - 1) bs) (get_or bs (n - 1) 0) (other_byte (get_or bs (n - 1) 0) other) ∙ sym cut

pub split_less : (bs : List ℕ) (n : ℕ) → 0 < n → n ≤ length bs → get_or bs (n - 1) 0 ≡ 32 → bs ≡ take n bs ++ spaces (length bs - n) → bs ≡ take (n - 1) bs ++ spaces (length bs - (n - 1))
split_less bs n some le blank split =
    let e : n - 1 + 1 ≡ n = omega (arith, some) in
    let cut : take n bs ≡ take (n - 1) bs ++ 32 ∷ [] = ap (λ k. take k bs) (sym e) ∙ take_more bs (n - 1) 0 (omega (arith, some, le)) ∙ ap (λ b. take (n - 1) bs ++ b ∷ []) blank in
    let more : length bs - (n - 1) ≡ 1 + (length bs - n) = omega (arith, some, le) in
    split ∙ ap (λ l. l ++ spaces (length bs - n)) cut ∙ append_assoc (take (n - 1) bs) (32 ∷ []) (spaces (length bs - n))
    ∙ ap (λ l. take (n - 1) bs ++ l) (replicate-append-replicate 1 (length bs - n) 32 ∙ ap spaces (sym more))

-- a whole line

bare_line : (bs : List ℕ) (n : ℕ) → bs ≡ take n bs ++ spaces (length bs - n) → trimmed (take n bs) ≡ take n bs → line bs ≡ take n bs ++ 10 ∷ []
bare_line bs n split bare = ap line split ∙ line_of (take n bs) (length bs - n) bare

pub added_is : (text last : List ℕ) (blanks room : ℕ) (p : Written) (bs : List ℕ) (n : ℕ) → written text last blanks room ≡ p → bs ≡ take n bs ++ spaces (length bs - n) → trimmed (take n bs) ≡ take n bs
    → written (text ++ (take n bs ++ 10 ∷ [])) [] 0 room ≡ added p (line bs)
added_is text last blanks room p bs n is split bare = subst (λ q. written (text ++ (take n bs ++ 10 ∷ [])) [] 0 room ≡ added q (line bs)) is
    (ap (λ l. record { text = text ++ l; open_line = []; room = room }) (sym (bare_line bs n split bare)))

pub over_added : (text last : List ℕ) (blanks room : ℕ) (p : Written) (bs : List ℕ) (n : ℕ) (f : ViewFault) → written text last blanks room ≡ p → bs ≡ take n bs ++ spaces (length bs - n) → trimmed (take n bs) ≡ take n bs
    → Over room (length text + length (take n bs) + 1) f → Over p.room (length (added p (line bs)).text) f
over_added text last blanks room p bs n f is split bare over = subst (λ q. Over q.room (length (added q (line bs)).text) f) is
    (let e = length-append text (line bs) ∙ ap (λ l. length text + length l) (bare_line bs n split bare) ∙ ap (λ k. length text + k) (length-append (take n bs) (10 ∷ [])) in
    over_more room _ _ f over (omega (arith, e)))

-- Bytes of which the last is no space

before_some : (b : ℕ) (bs : List ℕ) → 0 < length bs → before b bs ≡ b ∷ bs
before_some b [] some = absurd (omega (arith, some))
before_some b (c ∷ cs) some = refl

trimmed_front : (xs bs : List ℕ) → 0 < length bs → trimmed bs ≡ bs → trimmed (xs ++ bs) ≡ xs ++ bs
trimmed_front [] bs some bare = bare
trimmed_front (x ∷ xs) bs some bare = ap (before x) (trimmed_front xs bs some bare) ∙ before_some x (xs ++ bs) (omega (arith, some, length-append xs bs))

pub more_bare : (text last : List ℕ) (blanks room : ℕ) (bs : List ℕ) → written text ((last ++ spaces blanks) ++ bs) 0 room ≡ more (written text last blanks room) bs
more_bare text last blanks room bs = ap (λ l. record { text = text; open_line = l; room = room }) (append-nil ((last ++ spaces blanks) ++ bs))

size_bare : (text last : List ℕ) (blanks room : ℕ) (bs : List ℕ) → 0 < length bs → trimmed bs ≡ bs → size (more (written text last blanks room) bs) ≡ length text + (length last + blanks + length bs)
size_bare text last blanks room bs some bare =
    ap (λ l. length text + length l) (trimmed_front (last ++ spaces blanks) bs some bare)
    ∙ ap (λ n. length text + n) (length-append (last ++ spaces blanks) bs ∙ ap (λ n. n + length bs) (length-append last (spaces blanks) ∙ ap (λ n. length last + n) (length-replicate blanks 32)))

pub kept_bare : (text last : List ℕ) (blanks room : ℕ) (bs : List ℕ) → IsKept text last room → 0 < length bs → trimmed bs ≡ bs → length ((last ++ spaces blanks) ++ bs) ≤ room - length text
    → IsKept text ((last ++ spaces blanks) ++ bs) room
kept_bare text last blanks room bs kept some bare le = record { fits = omega (arith, kept.fits, le); bare = trimmed_front (last ++ spaces blanks) bs some bare }

pub over_bare : (text last : List ℕ) (blanks room : ℕ) (bs : List ℕ) (p : Written) (f : ViewFault) → IsKept text last room → written text last blanks room ≡ p → 0 < length bs → trimmed bs ≡ bs
    → Over (room - length text) (length last + blanks + length bs) f → Over p.room (size (more p bs)) f
over_bare text last blanks room bs p f kept is some bare over = subst (λ q. Over q.room (size (more q bs)) f) is
    (let fits : length text ≤ room = omega (arith, kept.fits) in let e = size_bare text last blanks room bs some bare in over_inner room (length text) _ _ f fits over (omega (arith, e)))

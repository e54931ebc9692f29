-- A text whose regions stand between its marks is walked to these regions.
use Rattle.std.proofs.Common.{◌≡◌, ℕ, ◌+◌, ◌<◌, ◌≤◌, List, [], ◌∷◌, ◌++◌, append_assoc, length, Some, None, Ok, Err, true, false, cond, nat_eq, nat_le, sym, ◌∙◌, ap, refl, arith}
use Rattle.std.specs.declared.result.Result.{Result}
use Rattle.std.proofs.lemmas.List.{append-nil}
use Rattle.std.proofs.lemmas.List.Elements.{All-head, All-tail}
use Rattle.std.proofs.lemmas.Bool.Decides.{nat_tests}
use Rattle.mca_fixed.specs.declared.limits.TheConstants.{MOST_REGIONS, MOST_REGION_INSTRUCTIONS}
use Rattle.rv_asm.specs.declared.fault.AsmRefusal.{AsmRefusal}
use Rattle.rv_asm.specs.declared.fault.AsmKind.TheVariants.{TooManyRegions, WrongName, NoInstruction, RegionTooLong}
use Rattle.rv_asm.specs.declared.item.Item.{Item}
use Rattle.rv_asm.specs.declared.item.Item.TheVariants.{Code, Begin, End}
use Rattle.region_marks.specs.declared.region.Region.{Region}
use Rattle.region_marks.specs.declared.walk.Open.{Open}
use Rattle.region_marks.specs.Regions.{Walked, walk, close, start, finish, finish_open, has_mark, is_mark, is_other, regions_of, ◌>>=◌}
use Rattle.region_marks.specs.Marked.{AreCode, StandsFirst, StandInOrder, IsWhole, AreRegions, whole, marked}
use Rattle.region_marks.proofs.Between.{state, counted, no_item, region_of, code_has_none, true_not_false}

-- Instructions alone

code_outside : (number begun : ℕ) (ended : List Region) (code rest : List Item) → AreCode code → walk (state number begun ended None) (code ++ rest) ≡ walk (state (number + length code) begun ended None) rest
code_outside number begun ended [] rest all = let same : number ≡ number + length no_item = omega arith in ap (λ n. walk (state n begun ended None) rest) same
code_outside number begun ended (Code line i ∷ code) rest all =
    let next : number + 1 + length code ≡ number + length (Code line i ∷ code) = omega arith in
    code_outside (number + 1) begun ended code rest (All-tail (λ item. is_mark item ≡ false) (Code line i) code all) ∙ ap (λ n. walk (state n begun ended None) rest) next
code_outside number begun ended (Begin line name ∷ code) rest all = absurd (true_not_false (All-head (λ item. is_mark item ≡ false) (Begin line name) code all))
code_outside number begun ended (End line name ∷ code) rest all = absurd (true_not_false (All-head (λ item. is_mark item ≡ false) (End line name) code all))

code_inside : (o : Open) (number begun : ℕ) (ended : List Region) (code rest : List Item) → AreCode code → o.count + length code ≤ MOST_REGION_INSTRUCTIONS
    → walk (state number begun ended (Some o)) (code ++ rest) ≡ walk (state (number + length code) begun ended (Some (counted o (o.count + length code)))) rest
code_inside o number begun ended [] rest all few =
    let same : number ≡ number + length no_item = omega arith in
    let count : o.count ≡ o.count + length no_item = omega arith in
    λ i. walk (state (same i) begun ended (Some (counted o (count i)))) rest
code_inside o number begun ended (Code line i ∷ code) rest all few =
    let test : nat_le MOST_REGION_INSTRUCTIONS o.count ≡ false = grind (arith, nat_tests, few) in
    let next : Open = counted o (o.count + 1) in
    let number_is : number + 1 + length code ≡ number + length (Code line i ∷ code) = omega arith in
    let count_is : o.count + 1 + length code ≡ o.count + length (Code line i ∷ code) = omega arith in
    ap (λ b. cond b (Err (record { line = line; kind = RegionTooLong })) (Ok (state (number + 1) begun ended (Some next))) >>= λ u. walk u (code ++ rest)) test
    ∙ code_inside next (number + 1) begun ended code rest (All-tail (λ item. is_mark item ≡ false) (Code line i) code all) (omega (arith, few))
    ∙ (λ k. walk (state (number_is k) begun ended (Some (counted o (count_is k)))) rest)
code_inside o number begun ended (Begin line name ∷ code) rest all few = absurd (true_not_false (All-head (λ item. is_mark item ≡ false) (Begin line name) code all))
code_inside o number begun ended (End line name ∷ code) rest all few = absurd (true_not_false (All-head (λ item. is_mark item ≡ false) (End line name) code all))

-- One region

begins : (number begun : ℕ) (ended : List Region) (line : ℕ) (name : List ℕ) (rest : List Item) → begun < MOST_REGIONS
    → walk (state number begun ended None) (Begin line name ∷ rest) ≡ walk (state number (begun + 1) ended (Some (record { name = name; line = line; first = number; count = 0 }))) rest
begins number begun ended line name rest few =
    let test : nat_le MOST_REGIONS begun ≡ false = grind (arith, nat_tests, few) in
    ap (λ b. cond b (Err (record { line = line; kind = TooManyRegions })) (Ok (state number (begun + 1) ended (Some (record { name = name; line = line; first = number; count = 0 })))) >>= λ u. walk u rest) test

ends : (o : Open) (number begun : ℕ) (ended : List Region) (line : ℕ) (name : List ℕ) (rest : List Item) → is_other name o.name ≡ false → 0 < o.count
    → walk (state number begun ended (Some o)) (End line name ∷ rest) ≡ walk (state number begun (ended ++ region_of o o.count ∷ []) None) rest
ends o number begun ended line name rest same some =
    let test : nat_eq o.count 0 ≡ false = grind (arith, nat_tests, some) in
    ap (λ b. cond b (Err (record { line = line; kind = WrongName })) (close (state number begun ended (Some o)) o line) >>= λ u. walk u rest) same
    ∙ ap (λ b. cond b (Err (record { line = line; kind = NoInstruction })) (Ok (state number begun (ended ++ region_of o o.count ∷ []) None)) >>= λ u. walk u rest) test

one_region : (number begun : ℕ) (ended : List Region) (items : List Item) (r : Region) (rest : List Item) → StandsFirst number items r rest → begun < MOST_REGIONS
    → walk (state number begun ended None) items ≡ walk (state (r.first + r.count) (begun + 1) (ended ++ r ∷ []) None) rest
one_region number begun ended items r rest h few =
    let first : ℕ = number + length h.outside in
    let o : Open = record { name = r.name; line = h.begin_line; first = number + length h.outside; count = 0 } in
    let full : Open = counted o (0 + length h.inside) in
    let size : 0 + length h.inside ≤ MOST_REGION_INSTRUCTIONS = omega (arith, h.count, h.size.few) in
    let some : 0 < 0 + length h.inside = omega (arith, h.count, h.size.some) in
    let first_is : number + length h.outside ≡ r.first = sym h.first in
    let count_is : 0 + length h.inside ≡ r.count = omega (arith, h.count) in
    let next : number + length h.outside + length h.inside ≡ r.first + r.count = omega (arith, h.first, h.count) in
    ap (walk (state number begun ended None)) h.text
    ∙ code_outside number begun ended h.outside (Begin h.begin_line r.name ∷ (h.inside ++ End h.end_line h.end_name ∷ rest)) h.none_outside
    ∙ begins first begun ended h.begin_line r.name (h.inside ++ End h.end_line h.end_name ∷ rest) few
    ∙ code_inside o first (begun + 1) ended h.inside (End h.end_line h.end_name ∷ rest) h.none_inside size
    ∙ ends full (first + length h.inside) (begun + 1) ended h.end_line h.end_name rest h.same_name some
    ∙ (λ k. walk (state (next k) (begun + 1) (ended ++ record { name = r.name; first = first_is k; count = count_is k } ∷ []) None) rest)

-- All regions

record Ends (w : Result Walked AsmRefusal) (ended : List Region) : Type 0 where
  last : Walked
  walked : w ≡ Ok last
  closed : last.inside ≡ None
  regions : last.ended ≡ ended

in_order : (number begun : ℕ) (ended : List Region) (items : List Item) (regions : List Region) → StandInOrder number items regions → begun + length regions ≤ MOST_REGIONS → Ends (walk (state number begun ended None) items) (ended ++ regions)
in_order number begun ended items [] h few = record {
  last = state (number + length items) begun ended None;
  walked = ap (walk (state number begun ended None)) (sym (append-nil items)) ∙ code_outside number begun ended items [] h;
  closed = refl;
  regions = sym (append-nil ended);
}
in_order number begun ended items (r ∷ regions) (rest, first, more) few =
    let later : Ends (walk (state (r.first + r.count) (begun + 1) (ended ++ r ∷ []) None) rest) ((ended ++ r ∷ []) ++ regions) = in_order (r.first + r.count) (begun + 1) (ended ++ r ∷ []) rest regions more (omega (arith, few)) in
    record {
      last = later.last;
      walked = one_region number begun ended items r rest first (omega (arith, few)) ∙ later.walked;
      closed = later.closed;
      regions = later.regions ∙ append_assoc ended (r ∷ []) regions;
    }

mark_behind : (code : List Item) (line : ℕ) (name : List ℕ) (rest : List Item) → AreCode code → has_mark (code ++ Begin line name ∷ rest) ≡ true
mark_behind [] line name rest all = refl
mark_behind (Code l i ∷ code) line name rest all = mark_behind code line name rest (All-tail (λ item. is_mark item ≡ false) (Code l i) code all)
mark_behind (Begin l n ∷ code) line name rest all = absurd (true_not_false (All-head (λ item. is_mark item ≡ false) (Begin l n) code all))
mark_behind (End l n ∷ code) line name rest all = absurd (true_not_false (All-head (λ item. is_mark item ≡ false) (End l n) code all))

has_marks : (items : List Item) (regions : List Region) → 0 < length regions → StandInOrder 0 items regions → has_mark items ≡ true
has_marks items [] some h = absurd (omega (arith, some))
has_marks items (r ∷ regions) some (rest, first, more) = ap has_mark first.text ∙ mark_behind first.outside first.begin_line r.name (first.inside ++ End first.end_line first.end_name ∷ rest) first.none_outside

walked_marked : (items : List Item) (regions : List Region) → 0 < length regions → length regions ≤ MOST_REGIONS → StandInOrder 0 items regions → regions_of items ≡ Ok regions
walked_marked items regions some few h =
    let all : Ends (walk (state 0 0 [] None) items) regions = in_order 0 0 [] items regions h (omega (arith, few)) in
    ap (λ m. walk (start m) items >>= finish m) (has_marks items regions some h)
    ∙ ap (λ w. w >>= finish true) all.walked
    ∙ ap (λ i. finish_open true all.last i >>= λ t. Ok t.ended) all.closed
    ∙ ap (λ rs. Ok rs) all.regions

walked_whole : (items : List Item) (r : Region) → IsWhole items r → regions_of items ≡ Ok (r ∷ [])
walked_whole items r h =
    let o : Open = record { name = []; line = 0; first = 0; count = 0 } in
    let full : Open = counted o (0 + length items) in
    let size : 0 + length items ≤ MOST_REGION_INSTRUCTIONS = omega (arith, h.count, h.size.few) in
    let test : nat_eq (0 + length items) 0 ≡ false = grind (arith, nat_tests, h.count, h.size.some) in
    let count_is : 0 + length items ≡ r.count = omega (arith, h.count) in
    let name_is : [] ≡ r.name = sym h.no_name in
    let first_is : 0 ≡ r.first = sym h.first in
    ap (λ m. walk (start m) items >>= finish m) (code_has_none items h.no_marks)
    ∙ ap (λ w. w >>= finish false) (ap (walk (state 0 0 [] (Some o))) (sym (append-nil items)) ∙ code_inside o 0 0 [] items [] h.no_marks size)
    ∙ ap (λ b. (cond b (Err (record { line = 0; kind = NoInstruction })) (Ok (state (0 + length items) 0 (region_of full (0 + length items) ∷ []) None))) >>= λ t. Ok t.ended) test
    ∙ (λ k. Ok (record { name = name_is k; first = first_is k; count = count_is k } ∷ []))

pub walked : (items : List Item) (regions : List Region) → AreRegions items regions → regions_of items ≡ Ok regions
walked items regions (whole r e h) = walked_whole items r h ∙ ap (λ rs. Ok rs) (sym e)
walked items regions (marked some few h) = walked_marked items regions some few h

-- A walk that ends well has found the regions that stand between the marks.
use Rattle.std.proofs.Common.{◌≡◌, ℕ, ◌+◌, ◌<◌, ◌≤◌, List, [], ◌∷◌, ◌++◌, append_assoc, length, Some, None, Ok, Err, Bool, true, false, cond, nat_eq, nat_le, sym, ◌∙◌, ap, refl, subst, arith}
use Rattle.std.specs.declared.option.Option.{Option}
use Rattle.std.specs.declared.result.Result.{Result}
use Rattle.std.specs.List.{All}
use Rattle.std.specs.Prelude.{⊤, slice_index_or}
use Rattle.std.proofs.lemmas.List.{append-nil}
use Rattle.std.proofs.lemmas.List.Elements.{All-nil, All-cons, All-head, All-tail}
use Rattle.std.proofs.lemmas.Bool.Decides.{nat_tests}
use Rattle.mca_fixed.specs.declared.limits.TheConstants.{MOST_REGIONS, MOST_REGION_INSTRUCTIONS}
use Rattle.rv_isa.specs.declared.instr.Instr.{Instr}
use Rattle.rv_asm.specs.declared.fault.AsmRefusal.{AsmRefusal}
use Rattle.rv_asm.specs.declared.fault.AsmKind.TheVariants.{TooManyRegions, WrongName, NoInstruction, RegionTooLong}
use Rattle.rv_asm.specs.declared.item.Item.{Item}
use Rattle.rv_asm.specs.declared.item.Item.TheVariants.{Code, Begin, End}
use Rattle.region_marks.specs.declared.region.Region.{Region}
use Rattle.region_marks.specs.declared.walk.Open.{Open}
use Rattle.region_marks.specs.Regions.{Walked, walk, close, start, finish, finish_open, has_mark, is_mark, is_other, regions_of, ◌>>=◌}
use Rattle.region_marks.specs.Marked.{code_of, AreCode, HasRightSize, StandsFirst, StandInOrder, AreRegions, whole, marked, LiesWithin}

err_not_ok : {A : Type 0} (r : AsmRefusal) (t : A) → ◌≡◌ {A = Result A AsmRefusal} (Err r) (Ok t) → ⊥
err_not_ok r t e = cc

ok_same : {A : Type 0} (s t : A) → ◌≡◌ {A = Result A AsmRefusal} (Ok s) (Ok t) → s ≡ t
ok_same s t e = cc

some_not_none : {A : Type 0} (x : A) → ◌≡◌ {A = Option A} (Some x) None → ⊥
some_not_none x e = cc

pub true_not_false : true ≡ false → ⊥
true_not_false e = cc

-- where a test refuses, and the whole ends well, the test does not hold
passed : {A B : Type 0} (b : Bool) (r : AsmRefusal) (x : Result A AsmRefusal) (f : A → Result B AsmRefusal) (t : B) → (cond b (Err r) x >>= f) ≡ Ok t → (b ≡ false) × ((x >>= f) ≡ Ok t)
passed true r x f t e = absurd (err_not_ok r t e)
passed false r x f t e = (refl, e)

abbrev pub no_item : List Item
no_item = []

abbrev pub region_of : Open → ℕ → Region
region_of o count = record { name = o.name; first = o.first; count = count }

-- What a walk finds that begins outside all regions, and one that begins inside a region

record Outside (number begun : ℕ) (before : List Region) (items : List Item) (t : Walked) : Type 0 where
  more : List Region
  ended : t.ended ≡ before ++ more
  in_order : StandInOrder number items more
  count : t.begun ≡ begun + length more
  few : begun ≤ MOST_REGIONS → t.begun ≤ MOST_REGIONS

record Inside (o : Open) (number begun : ℕ) (before : List Region) (items : List Item) (t : Walked) : Type 0 where
  own : List Item
  end_line : ℕ
  end_name : List ℕ
  rest : List Item
  text : items ≡ own ++ End end_line end_name ∷ rest
  none_inside : AreCode own
  same_name : is_other end_name o.name ≡ false
  some : 0 < o.count + length own
  size : o.count + length own ≤ MOST_REGION_INSTRUCTIONS
  more : List Region
  ended : t.ended ≡ before ++ region_of o (o.count + length own) ∷ more
  in_order : StandInOrder (number + length own) rest more
  count : t.begun ≡ begun + length more
  few : begun ≤ MOST_REGIONS → t.begun ≤ MOST_REGIONS

abbrev Found : Option Open → ℕ → ℕ → List Region → List Item → Walked → Type 0
Found None number begun before items t = Outside number begun before items t
Found (Some o) number begun before items t = Inside o number begun before items t

abbrev IsRight : Option Open → Type 0
IsRight None = ⊤
IsRight (Some o) = o.count ≤ MOST_REGION_INSTRUCTIONS

abbrev pub state : ℕ → ℕ → List Region → Option Open → Walked
state number begun ended inside = record { number = number; begun = begun; ended = ended; inside = inside }

-- one more instruction stands outside
code_before : (number line : ℕ) (i : Instr) (items : List Item) (regions : List Region) → StandInOrder (number + 1) items regions → StandInOrder number (Code line i ∷ items) regions
code_before number line i items [] h = All-cons (λ item. is_mark item ≡ false) (Code line i) items refl h
code_before number line i items (r ∷ regions) (rest, first, more) = (
  rest,
  record {
    outside = Code line i ∷ first.outside;
    inside = first.inside;
    begin_line = first.begin_line;
    end_line = first.end_line;
    end_name = first.end_name;
    text = ap (λ xs. Code line i ∷ xs) first.text;
    none_outside = All-cons (λ item. is_mark item ≡ false) (Code line i) first.outside refl first.none_outside;
    none_inside = first.none_inside;
    same_name = first.same_name;
    first = omega (arith, first.first);
    count = first.count;
    size = first.size;
  },
  more,
)

found : (inside : Option Open) (number begun : ℕ) (before : List Region) (items : List Item) (t : Walked) → IsRight inside → walk (state number begun before inside) items ≡ Ok t → t.inside ≡ None → Found inside number begun before items t
found None number begun before [] t right e closed =
    let same : state number begun before None ≡ t = ok_same (state number begun before None) t e in
    record {
      more = [];
      ended = sym (ap (λ s. s.ended) same) ∙ sym (append-nil before);
      in_order = All-nil (λ item. is_mark item ≡ false);
      count = let is : begun ≡ t.begun = ap (λ s. s.begun) same in omega (arith, is);
      few = λ low. (let is : begun ≡ t.begun = ap (λ s. s.begun) same in omega (arith, is, low));
    }
found None number begun before (Code line i ∷ items) t right e closed =
    let h : Outside (number + 1) begun before items t = found None (number + 1) begun before items t tt e closed in
    record { more = h.more; ended = h.ended; in_order = code_before number line i items h.more h.in_order; count = h.count; few = h.few }
found None number begun before (Begin line name ∷ items) t right e closed =
    let o : Open = record { name = name; line = line; first = number; count = 0 } in
    let p = passed (nat_le MOST_REGIONS begun) (record { line = line; kind = TooManyRegions }) (Ok (state number (begun + 1) before (Some o))) (λ u. walk u items) t e in
    let h : Inside o number (begun + 1) before items t = found (Some o) number (begun + 1) before items t (omega arith) p.1 closed in
    let low : begun < MOST_REGIONS = grind (arith, nat_tests, p.0) in
    let length_is : 0 + length h.own ≡ length h.own = omega arith in
    let next : number + length h.own ≡ number + (0 + length h.own) = omega arith in
    record {
      more = region_of o (0 + length h.own) ∷ h.more;
      ended = h.ended;
      in_order = (
        h.rest,
        record {
          outside = [];
          inside = h.own;
          begin_line = line;
          end_line = h.end_line;
          end_name = h.end_name;
          text = ap (λ xs. Begin line name ∷ xs) h.text;
          none_outside = All-nil (λ item. is_mark item ≡ false);
          none_inside = h.none_inside;
          same_name = h.same_name;
          first = omega arith;
          count = length_is;
          size = record { some = h.some; few = h.size };
        },
        subst (λ n. StandInOrder n h.rest h.more) next h.in_order,
      );
      count = omega (arith, h.count);
      few = λ le. h.few (omega (arith, low));
    }
found None number begun before (End line name ∷ items) t right e closed = absurd (err_not_ok _ t e)
found (Some o) number begun before [] t right e closed = absurd (some_not_none o (ap (λ s. s.inside) (ok_same (state number begun before (Some o)) t e) ∙ closed))
found (Some o) number begun before (Code line i ∷ items) t right e closed =
    let next : Open = record { name = o.name; line = o.line; first = o.first; count = o.count + 1 } in
    let p = passed (nat_le MOST_REGION_INSTRUCTIONS o.count) (record { line = line; kind = RegionTooLong }) (Ok (state (number + 1) begun before (Some next))) (λ u. walk u items) t e in
    let low : o.count < MOST_REGION_INSTRUCTIONS = grind (arith, nat_tests, p.0) in
    let h : Inside next (number + 1) begun before items t = found (Some next) (number + 1) begun before items t (omega (arith, low)) p.1 closed in
    let one_more : o.count + 1 + length h.own ≡ o.count + length (Code line i ∷ h.own) = omega arith in
    let next_number : number + 1 + length h.own ≡ number + length (Code line i ∷ h.own) = omega arith in
    record {
      own = Code line i ∷ h.own;
      end_line = h.end_line;
      end_name = h.end_name;
      rest = h.rest;
      text = ap (λ xs. Code line i ∷ xs) h.text;
      none_inside = All-cons (λ item. is_mark item ≡ false) (Code line i) h.own refl h.none_inside;
      same_name = h.same_name;
      some = omega arith;
      size = subst (λ n. n ≤ MOST_REGION_INSTRUCTIONS) one_more h.size;
      more = h.more;
      ended = h.ended ∙ ap (λ n. before ++ region_of o n ∷ h.more) one_more;
      in_order = subst (λ n. StandInOrder n h.rest h.more) next_number h.in_order;
      count = h.count;
      few = h.few;
    }
found (Some o) number begun before (Begin line name ∷ items) t right e closed = absurd (err_not_ok _ t e)
found (Some o) number begun before (End line name ∷ items) t right e closed =
    let p = passed (is_other name o.name) (record { line = line; kind = WrongName }) (close (state number begun before (Some o)) o line) (λ u. walk u items) t e in
    let q = passed (nat_eq o.count 0) (record { line = line; kind = NoInstruction }) (Ok (state number begun (before ++ region_of o o.count ∷ []) None)) (λ u. walk u items) t p.1 in
    let some : 0 < o.count = grind (arith, nat_tests, q.0) in
    let h : Outside number begun (before ++ region_of o o.count ∷ []) items t = found None number begun (before ++ region_of o o.count ∷ []) items t tt q.1 closed in
    let count_is : o.count ≡ o.count + length no_item = omega arith in
    let number_is : number ≡ number + length no_item = omega arith in
    record {
      own = [];
      end_line = line;
      end_name = name;
      rest = items;
      text = refl;
      none_inside = All-nil (λ item. is_mark item ≡ false);
      same_name = p.0;
      some = omega (arith, some);
      size = omega (arith, right);
      more = h.more;
      ended = h.ended ∙ append_assoc before (region_of o o.count ∷ []) h.more ∙ ap (λ n. before ++ region_of o n ∷ h.more) count_is;
      in_order = subst (λ n. StandInOrder n items h.more) number_is h.in_order;
      count = h.count;
      few = h.few;
    }

-- A text without marks

no_marks : (items : List Item) → has_mark items ≡ false → AreCode items
no_marks [] e = All-nil (λ item. is_mark item ≡ false)
no_marks (Code line i ∷ items) e = All-cons (λ item. is_mark item ≡ false) (Code line i) items refl (no_marks items e)
no_marks (Begin line name ∷ items) e = absurd (true_not_false e)
no_marks (End line name ∷ items) e = absurd (true_not_false e)

pub code_has_none : (items : List Item) → AreCode items → has_mark items ≡ false
code_has_none [] all = refl
code_has_none (Code line i ∷ items) all = code_has_none items (All-tail (λ item. is_mark item ≡ false) (Code line i) items all)
code_has_none (Begin line name ∷ items) all = absurd (true_not_false (All-head (λ item. is_mark item ≡ false) (Begin line name) items all))
code_has_none (End line name ∷ items) all = absurd (true_not_false (All-head (λ item. is_mark item ≡ false) (End line name) items all))

abbrev pub counted : Open → ℕ → Open
counted o n = record { name = o.name; line = o.line; first = o.first; count = n }

record Whole (o : Open) (number begun : ℕ) (before : List Region) (items : List Item) (t : Walked) : Type 0 where
  inside : t.inside ≡ Some (counted o (o.count + length items))
  ended : t.ended ≡ before
  few : o.count + length items ≤ MOST_REGION_INSTRUCTIONS

walk_whole : (o : Open) (number begun : ℕ) (before : List Region) (items : List Item) (t : Walked) → o.count ≤ MOST_REGION_INSTRUCTIONS → has_mark items ≡ false → walk (state number begun before (Some o)) items ≡ Ok t → Whole o number begun before items t
walk_whole o number begun before [] t right none e =
    let same : state number begun before (Some o) ≡ t = ok_same (state number begun before (Some o)) t e in
    let count_is : o.count ≡ o.count + length no_item = omega arith in
    record {
      inside = sym (ap (λ s. s.inside) same) ∙ ap (λ n. Some (counted o n)) count_is;
      ended = sym (ap (λ s. s.ended) same);
      few = omega (arith, right);
    }
walk_whole o number begun before (Code line i ∷ items) t right none e =
    let next : Open = counted o (o.count + 1) in
    let p = passed (nat_le MOST_REGION_INSTRUCTIONS o.count) (record { line = line; kind = RegionTooLong }) (Ok (state (number + 1) begun before (Some next))) (λ u. walk u items) t e in
    let low : o.count < MOST_REGION_INSTRUCTIONS = grind (arith, nat_tests, p.0) in
    let h : Whole next (number + 1) begun before items t = walk_whole next (number + 1) begun before items t (omega (arith, low)) none p.1 in
    let one_more : o.count + 1 + length items ≡ o.count + length (Code line i ∷ items) = omega arith in
    record {
      inside = h.inside ∙ ap (λ n. Some (counted o n)) one_more;
      ended = h.ended;
      few = subst (λ n. n ≤ MOST_REGION_INSTRUCTIONS) one_more h.few;
    }
walk_whole o number begun before (Begin line name ∷ items) t right none e = absurd (true_not_false none)
walk_whole o number begun before (End line name ∷ items) t right none e = absurd (true_not_false none)

-- After all items

none_open : (t : Walked) (inside : Option Open) (regions : List Region) → (finish_open true t inside >>= λ u. Ok u.ended) ≡ Ok regions → (inside ≡ None) × (t.ended ≡ regions)
none_open t None regions e = (refl, ok_same t.ended regions e)
none_open t (Some o) regions e = absurd (err_not_ok _ regions e)

with_marks : (items : List Item) (regions : List Region) (w : Result Walked AsmRefusal) → has_mark items ≡ true → walk (start true) items ≡ w → (w >>= finish true) ≡ Ok regions → AreRegions items regions
with_marks items regions (Err r) some e end = absurd (err_not_ok r regions end)
with_marks items regions (Ok t) some e end =
    let last = none_open t t.inside regions end in
    let h : Outside 0 0 [] items t = found None 0 0 [] items t tt e last.0 in
    let same : h.more ≡ regions = sym h.ended ∙ last.1 in
    let few : t.begun ≤ MOST_REGIONS = h.few (omega arith) in
    marked (some_region items regions some (subst (StandInOrder 0 items) same h.in_order)) (omega (arith, few, h.count, ap length same)) (subst (StandInOrder 0 items) same h.in_order)
  where
    some_region : (items : List Item) (regions : List Region) → has_mark items ≡ true → StandInOrder 0 items regions → 0 < length regions
    some_region items [] some code = absurd (true_not_false (sym some ∙ code_has_none items code))
    some_region items (r ∷ regions) some h = omega arith

without_marks : (items : List Item) (regions : List Region) (w : Result Walked AsmRefusal) → has_mark items ≡ false → walk (start false) items ≡ w → (w >>= finish false) ≡ Ok regions → AreRegions items regions
without_marks items regions (Err r) none e end = absurd (err_not_ok r regions end)
without_marks items regions (Ok t) none e end =
    let o : Open = record { name = []; line = 0; first = 0; count = 0 } in
    let h : Whole o 0 0 [] items t = walk_whole o 0 0 [] items t (omega arith) none e in
    let last : Open = counted o (0 + length items) in
    let closed : (finish_open false t (Some last) >>= λ u. Ok u.ended) ≡ Ok regions = subst (λ i. (finish_open false t i >>= λ u. Ok u.ended) ≡ Ok regions) h.inside end in
    let p = passed (nat_eq (0 + length items) 0) (record { line = 0; kind = NoInstruction }) (Ok (state t.number t.begun (t.ended ++ region_of last (0 + length items) ∷ []) None)) (λ u. Ok u.ended) regions closed in
    let some : 0 < 0 + length items = grind (arith, nat_tests, p.0) in
    let same : t.ended ++ region_of last (0 + length items) ∷ [] ≡ regions = ok_same (t.ended ++ region_of last (0 + length items) ∷ []) regions p.1 in
    whole (region_of last (0 + length items)) (sym same ∙ ap (λ xs. xs ++ region_of last (0 + length items) ∷ []) h.ended) (record {
      no_marks = no_marks items none;
      no_name = refl;
      first = refl;
      count = omega arith;
      size = record { some = some; few = h.few };
    })

by_marks : (items : List Item) (regions : List Region) (m : Bool) → has_mark items ≡ m → (walk (start m) items >>= finish m) ≡ Ok regions → AreRegions items regions
by_marks items regions true some e = with_marks items regions (walk (start true) items) some refl e
by_marks items regions false none e = without_marks items regions (walk (start false) items) none refl e

pub are_regions : (items : List Item) (regions : List Region) → regions_of items ≡ Ok regions → AreRegions items regions
are_regions items regions e = by_marks items regions (has_mark items) refl e

-- Their sizes and places

sizes_in_order : (before : ℕ) (items : List Item) (regions : List Region) → StandInOrder before items regions → All HasRightSize regions
sizes_in_order before items [] h = All-nil HasRightSize
sizes_in_order before items (r ∷ regions) (rest, first, more) = All-cons HasRightSize r regions first.size (sizes_in_order (r.first + r.count) rest regions more)

sizes : (items : List Item) (regions : List Region) → AreRegions items regions → All HasRightSize regions
sizes items regions (whole r e h) = subst (All HasRightSize) (sym e) (All-cons HasRightSize r [] h.size (All-nil HasRightSize))
sizes items regions (marked some few h) = sizes_in_order 0 items regions h

pub right_sizes : (items : List Item) (regions : List Region) → regions_of items ≡ Ok regions → All HasRightSize regions
right_sizes items regions e = sizes items regions (are_regions items regions e)

code_first : (code items : List Item) → AreCode code → length (code_of (code ++ items)) ≡ length code + length (code_of items)
code_first [] items all = omega arith
code_first (Code line i ∷ code) items all = let h = code_first code items (All-tail (λ item. is_mark item ≡ false) (Code line i) code all) in omega (arith, h)
code_first (Begin line name ∷ code) items all = absurd (true_not_false (All-head (λ item. is_mark item ≡ false) (Begin line name) code all))
code_first (End line name ∷ code) items all = absurd (true_not_false (All-head (λ item. is_mark item ≡ false) (End line name) code all))

past_first : (before : ℕ) (items : List Item) (r : Region) (rest : List Item) → StandsFirst before items r rest → before + length (code_of items) ≡ r.first + r.count + length (code_of rest)
past_first before items r rest h =
    let outside = code_first h.outside (Begin h.begin_line r.name ∷ (h.inside ++ End h.end_line h.end_name ∷ rest)) h.none_outside in
    let inside = code_first h.inside (End h.end_line h.end_name ∷ rest) h.none_inside in
    let text : length (code_of items) ≡ length (code_of (h.outside ++ Begin h.begin_line r.name ∷ (h.inside ++ End h.end_line h.end_name ∷ rest))) = ap (λ xs. length (code_of xs)) h.text in
    omega (arith, text, outside, inside, h.first, h.count)

within_in_order : (before : ℕ) (items : List Item) (regions : List Region) → StandInOrder before items regions → All (λ r. r.first + r.count ≤ before + length (code_of items)) regions
within_in_order before items [] h = All-nil (λ (r : Region). r.first + r.count ≤ before + length (code_of items))
within_in_order before items (r ∷ regions) (rest, first, more) =
    let past = past_first before items r rest first in
    All-cons (λ (q : Region). q.first + q.count ≤ before + length (code_of items)) r regions (omega (arith, past))
    (λ k d below. (let h : (slice_index_or regions k d).first + (slice_index_or regions k d).count ≤ r.first + r.count + length (code_of rest) = within_in_order (r.first + r.count) rest regions more k d below in omega (arith, past, h)))

code_alone : (items : List Item) → AreCode items → length (code_of items) ≡ length items
code_alone [] all = refl
code_alone (Code line i ∷ items) all = let h = code_alone items (All-tail (λ item. is_mark item ≡ false) (Code line i) items all) in omega (arith, h)
code_alone (Begin line name ∷ items) all = absurd (true_not_false (All-head (λ item. is_mark item ≡ false) (Begin line name) items all))
code_alone (End line name ∷ items) all = absurd (true_not_false (All-head (λ item. is_mark item ≡ false) (End line name) items all))

within : (items : List Item) (regions : List Region) → AreRegions items regions → All (LiesWithin items) regions
within items regions (whole r e h) = subst (All (LiesWithin items)) (sym e) (All-cons (LiesWithin items) r [] (omega (arith, h.first, h.count, code_alone items h.no_marks)) (All-nil (LiesWithin items)))
within items regions (marked some few h) = λ k d below. (let low = within_in_order 0 items regions h k d below in omega (arith, low))

pub lie_within : (items : List Item) (regions : List Region) → regions_of items ≡ Ok regions → All (LiesWithin items) regions
lie_within items regions e = within items regions (are_regions items regions e)

-- What the records before one say of it, one record after the other.
use Rattle.std.proofs.Common.{◌≡◌, ℕ, suc, ◌+◌, ◌<◌, ◌≤◌, List, [], ◌∷◌, ◌++◌, length, map, filter, take, get_or, position, nat_eq, nat_lt, zero, Some, None, Bool, true, false, refl, ap, sym, ◌∙◌, arith, Contains, if◌then◌else◌, true≢false}
use Rattle.std.specs.Prelude.{◌||◌, ◌&&◌}
use Rattle.std.specs.Cmp.Lexicographic.{pointwise, same_text}
use Rattle.std.specs.List.{list_any, position_or_len}
use Rattle.std.specs.declared.option.Option.{Option}
use Rattle.std.proofs.lemmas.Bool.{eqb-true, ne_eqb, eq-eqb, lt-ltb}
use Rattle.std.proofs.lemmas.List.{map-append, take_more, length-take}
use Rattle.std.proofs.lemmas.List.Filters.{length-filter_more}
use Rattle.std.proofs.lemmas.List.Folds.{list_any-append, list_any_more}
use Rattle.std.proofs.lemmas.List.Quantifiers.{position-Some}
use Rattle.sched_records.specs.Classes.{class_of}
use Rattle.sched_records.specs.declared.records.Record.{Record}
use Rattle.sched_resolve.specs.Reading.{argument, word_in, words_in}
use Rattle.sched_resolve.specs.Names.{names_in}
use Rattle.sched_resolve.specs.declared.name_space.NameSpace.TheVariants as space
use Rattle.sched_resolve.specs.Entries.{list_one, is_second_advance}
use Rattle.sched_resolve.specs.Noted.{Seen, is_write_res, advance_class, writes_class, at_place, has_number, is_general, lists}

-- ---- tests

or_false : (b : Bool) → (b || false) ≡ b
or_false true = refl
or_false false = refl

or_true : (b : Bool) → (b || true) ≡ true
or_true true = refl
or_true false = refl

and_false : (b : Bool) → (b && false) ≡ false
and_false true = refl
and_false false = refl

and_or : (r l w a : Bool) → ((a || (r && l)) || (r && w)) ≡ (a || (r && (l || w)))
and_or r l w true = refl
and_or true l w false = refl
and_or false l w false = refl

same_pointwise : (a : List ℕ) → pointwise nat_eq a a ≡ true
same_pointwise [] = refl
same_pointwise (x ∷ xs) = let e : nat_eq x x ≡ true = eq-eqb x x refl in rw e (same_pointwise xs)

-- ---- a set with one more key

insert_more : {K : Type 0} (eq : K → K → Bool) (test : K → Bool) (k : K) (ks after : List K) → (test k ≡ true → (x : K) → test x ≡ eq k x) →
    after ≡ (if list_any (eq k) ks then ks else ks ++ k ∷ []) → list_any test after ≡ (list_any test ks || test k)
insert_more eq test k ks after same e = rw e (by_known (list_any (eq k) ks) refl)
  where
    agree : (ys : List _) → ((x : _) → test x ≡ eq k x) → list_any test ys ≡ list_any (eq k) ys
    agree [] h = refl
    agree (y ∷ ys) h = rw (h y) (ap (λ b. eq k y || b) (agree ys h))

    by_test : (b : Bool) → test k ≡ b → list_any (eq k) ks ≡ true → list_any test ks ≡ (list_any test ks || b)
    by_test true t known = let found : list_any test ks ≡ true = agree ks (same t) ∙ known in rw found refl
    by_test false t known = sym (or_false (list_any test ks))

    by_known : (old : Bool) → list_any (eq k) ks ≡ old → list_any test (if old then ks else ks ++ k ∷ []) ≡ (list_any test ks || test k)
    by_known true h = by_test (test k) refl h
    by_known false h = list_any-append test ks (k ∷ []) ∙ ap (λ b. list_any test ks || b) (or_false (test k))

class_is : (n m : List ℕ) (one : Record) → true ≡ is_write_res (class_of one.class) → m ≡ word_in (argument one 0) → pointwise nat_eq n m ≡ writes_class n one
class_is n m one of named = rw named (rw (← of) refl)

module _ {K : Type 0} (text : K → List ℕ) where
  pub class_noted : (n : List ℕ) (one : Record) (k : K) (ks after : List K) → true ≡ is_write_res (class_of one.class) → text k ≡ word_in (argument one 0) →
      after ≡ (if list_any (λ x. pointwise nat_eq (text k) (text x)) ks then ks else ks ++ k ∷ []) →
      list_any (λ x. pointwise nat_eq n (text x)) after ≡ (list_any (λ x. pointwise nat_eq n (text x)) ks || writes_class n one)
  class_noted n one k ks after of named e =
      insert_more (λ x y. pointwise nat_eq (text x) (text y)) (λ x. pointwise nat_eq n (text x)) k ks after
      (λ t x. ap (λ m. pointwise nat_eq m (text x)) (same_text n (text k) (sym t))) e
      ∙ ap (λ b. list_any (λ x. pointwise nat_eq n (text x)) ks || b) (class_is n (text k) one of named)

  -- one more pair of a number and a name
  pub pair_noted : (p : ℕ) (n : List ℕ) (read : ℕ) (k : K) (ks after : List (ℕ × K)) →
      after ≡ (if list_any (λ x. nat_eq read x.0 && pointwise nat_eq (text k) (text x.1)) ks then ks else ks ++ (read, k) ∷ []) →
      list_any (λ x. nat_eq p x.0 && pointwise nat_eq n (text x.1)) after ≡ (list_any (λ x. nat_eq p x.0 && pointwise nat_eq n (text x.1)) ks || (nat_eq p read && pointwise nat_eq n (text k)))
  pair_noted p n read k ks after e =
      insert_more (λ (x y : ℕ × K). nat_eq x.0 y.0 && pointwise nat_eq (text x.1) (text y.1)) (λ x. nat_eq p x.0 && pointwise nat_eq n (text x.1)) (read, k) ks after same e
    where
      both : (a b : Bool) → (a && b) ≡ true → (a ≡ true) × (b ≡ true)
      both true true h = (refl, refl)
      both true false h = (refl, h)
      both false b h = absurd (true≢false (sym h))

      same : (nat_eq p read && pointwise nat_eq n (text k)) ≡ true → (x : ℕ × K) → (nat_eq p x.0 && pointwise nat_eq n (text x.1)) ≡ (nat_eq read x.0 && pointwise nat_eq (text k) (text x.1))
      same t x =
          let ts = both (nat_eq p read) (pointwise nat_eq n (text k)) t in
          let number : p ≡ read = eqb-true p read ts.0 in
          let name : n ≡ text k = same_text n (text k) (sym ts.1) in
          rw (number, name) refl

-- ---- one more name of a list

pub words_more : {X : Type 0} (f : X → List ℕ) (p : List ℕ → Bool) (xs : List X) (i : ℕ) (x : X) → i < length xs → x ≡ get_or xs i x →
    list_any p (map f (take (i + 1) xs)) ≡ (list_any p (map f (take i xs)) || p (f x))
words_more f p xs i x h is =
    rw (take_more xs i x h, ← is, map-append f (take i xs) (x ∷ []), list_any-append p (map f (take i xs)) (f x ∷ [])) (ap (λ b. list_any p (map f (take i xs)) || b) (or_false (p (f x))))

pub noted_more : {X : Type 0} (f : X → List ℕ) (p : List ℕ → Bool) (xs : List X) (i : ℕ) (x : X) (a r old new : Bool) → i < length xs → x ≡ get_or xs i x →
    old ≡ (a || (r && list_any p (map f (take i xs)))) → new ≡ (old || (r && p (f x))) → new ≡ (a || (r && list_any p (map f (take (i + 1) xs))))
noted_more f p xs i x a r old new h is before one =
    rw (one, before, words_more f p xs i x h is) (and_or r (list_any p (map f (take i xs))) (p (f x)) a)

-- ---- one more record

pub seen_more : (test : Record → Bool) (rs : List Record) (i : ℕ) (one : Record) (old new : Bool) → i < length rs → one ≡ get_or rs i one →
    old ≡ list_any test (take i rs) → new ≡ (old || test one) → new ≡ list_any test (take (i + 1) rs)
seen_more test rs i one old new h is before noted = rw (noted, before, list_any_more test rs i one h, ← is) refl

-- ---- reads by their numbers

number_same : (table : List Record) (w v : List ℕ) (p : ℕ) → position (pointwise nat_eq w) (names_in space.Read table) ≡ Some p → has_number table p v ≡ pointwise nat_eq w v
number_same table w v p at = by_test (pointwise nat_eq w v) refl
  where
    by_place : (o : Option ℕ) → position (pointwise nat_eq v) (names_in space.Read table) ≡ o → pointwise nat_eq w v ≡ false → at_place p o ≡ false
    by_place None e differ = refl
    by_place (Some q) e differ = ne_eqb p q (λ pq.
        let there = position-Some (pointwise nat_eq w) (names_in space.Read table) p [] at in
        let here = position-Some (pointwise nat_eq v) (names_in space.Read table) q [] e in
        let first : w ≡ get_or (names_in space.Read table) p [] = same_text w (get_or (names_in space.Read table) p []) (sym there.1) in
        let second : v ≡ get_or (names_in space.Read table) q [] = same_text v (get_or (names_in space.Read table) q []) (sym here.1) in
        let same : w ≡ v = first ∙ ap (λ i. get_or (names_in space.Read table) i []) pq ∙ sym second in
        true≢false (sym (same_pointwise w) ∙ ap (pointwise nat_eq w) same ∙ differ))

    by_test : (b : Bool) → pointwise nat_eq w v ≡ b → has_number table p v ≡ b
    by_test true e =
        let same : w ≡ v = same_text w v (sym e) in
        let found : position (pointwise nat_eq v) (names_in space.Read table) ≡ Some p = ap (λ u. position (pointwise nat_eq u) (names_in space.Read table)) (sym same) ∙ at in
        rw found (eq-eqb p p refl)
    by_test false e = by_place (position (pointwise nat_eq v) (names_in space.Read table)) refl e

any_same : {X : Type 0} (p q : X → Bool) (xs : List X) → ((x : X) → p x ≡ q x) → list_any p xs ≡ list_any q xs
any_same p q [] h = refl
any_same p q (x ∷ xs) h = rw (h x) (ap (λ b. q x || b) (any_same p q xs h))

any_or : {X : Type 0} (p q : X → Bool) (xs : List X) → list_any (λ x. p x || q x) xs ≡ (list_any p xs || list_any q xs)
any_or p q [] = refl
any_or p q (x ∷ xs) = rw (any_or p q xs) (swapped (p x) (q x) (list_any p xs) (list_any q xs))
  where
    swapped : (a b c d : Bool) → ((a || b) || (c || d)) ≡ ((a || c) || (b || d))
    swapped true b c d = refl
    swapped false true true d = refl
    swapped false true false d = refl
    swapped false false c d = refl

any_false : {X : Type 0} (p : X → Bool) (xs : List X) → ((x : X) → p x ≡ false) → list_any p xs ≡ false
any_false p [] h = refl
any_false p (x ∷ xs) h = rw (h x) (any_false p xs h)

-- some record lists some of the names, or some of the names is one that some record lists
any_swapped : {X : Type 0} (a : X → Bool) (b : List ℕ → X → Bool) (xs : List X) (ns : List (List ℕ)) →
    list_any (λ x. a x && list_any (λ n. b n x) ns) xs ≡ list_any (λ n. list_any (λ x. a x && b n x) xs) ns
any_swapped a b xs [] = any_false (λ x. a x && false) xs (λ x. and_false (a x))
any_swapped a b xs (n ∷ ns) =
    any_same (λ x. a x && (b n x || list_any (λ m. b m x) ns)) (λ x. (a x && b n x) || (a x && list_any (λ m. b m x) ns)) xs (λ x. spread (a x) (b n x) (list_any (λ m. b m x) ns))
    ∙ any_or (λ x. a x && b n x) (λ x. a x && list_any (λ m. b m x) ns) xs
    ∙ ap (λ r. list_any (λ x. a x && b n x) xs || r) (any_swapped a b xs ns)
  where
    spread : (c d e : Bool) → (c && (d || e)) ≡ ((c && d) || (c && e))
    spread true d e = refl
    spread false d e = refl

-- an earlier advance of the same read lists one of the same names, or both none
pub second_advance : (table earlier : List Record) (one : Record) (w : List ℕ) (ns : List (List ℕ)) (p : ℕ) → w ≡ word_in (argument one 0) → ns ≡ words_in (argument one 2) →
    position (pointwise nat_eq w) (names_in space.Read table) ≡ Some p →
    (if nat_eq (length ns) 0 then list_any (is_general table p) earlier else list_any (λ n. list_any (lists table p n) earlier) ns) ≡ is_second_advance earlier one
second_advance table earlier one w ns p read names at = rw (← read, ← names) (by_names ns)
  where
    number : (e : Record) → has_number table p (word_in (argument e 0)) ≡ pointwise nat_eq w (word_in (argument e 0))
    number e = number_same table w (word_in (argument e 0)) p at

    none : (a s l : Bool) → (a && (s && l)) ≡ ((a && s) && ((l && true) || false))
    none true true true = refl
    none true true false = refl
    none true false l = refl
    none false s l = refl

    some : (a s l m z : Bool) → z ≡ false → ((a && s) && l) ≡ ((a && s) && ((m && z) || l))
    some a s l true z e = rw e refl
    some a s l false z e = refl

    gathered : (a s l : Bool) → (a && (s && l)) ≡ ((a && s) && l)
    gathered true s l = refl
    gathered false s l = refl

    by_names : (ms : List (List ℕ)) → (if nat_eq (length ms) 0 then list_any (is_general table p) earlier else list_any (λ n. list_any (lists table p n) earlier) ms)
        ≡ list_any (λ e. advance_class e && pointwise nat_eq w (word_in (argument e 0)) && list_one (words_in (argument e 2)) ms) earlier
    by_names [] = any_same (is_general table p) (λ e. advance_class e && pointwise nat_eq w (word_in (argument e 0)) && list_one (words_in (argument e 2)) []) earlier
        (λ e. rw (number e) (none (advance_class e) (pointwise nat_eq w (word_in (argument e 0))) (nat_eq (length (words_in (argument e 2))) 0)))
    by_names (m ∷ ms) =
        let more : nat_eq (length (m ∷ ms)) 0 ≡ false = ne_eqb (length (m ∷ ms)) 0 (λ e. omega (arith, e)) in
        ap (λ b. if b then list_any (is_general table p) earlier else list_any (λ n. list_any (lists table p n) earlier) (m ∷ ms)) more
        ∙ (any_same (λ n. list_any (lists table p n) earlier) (λ n. list_any (λ e. (advance_class e && pointwise nat_eq w (word_in (argument e 0))) && list_any (pointwise nat_eq n) (words_in (argument e 2))) earlier) (m ∷ ms)
        (λ n. any_same (lists table p n) (λ e. (advance_class e && pointwise nat_eq w (word_in (argument e 0))) && list_any (pointwise nat_eq n) (words_in (argument e 2))) earlier
        (λ e. rw (number e) (gathered (advance_class e) (pointwise nat_eq w (word_in (argument e 0))) (list_any (pointwise nat_eq n) (words_in (argument e 2))))))
        ∙ sym (any_swapped (λ e. advance_class e && pointwise nat_eq w (word_in (argument e 0))) (λ n e. list_any (pointwise nat_eq n) (words_in (argument e 2))) earlier (m ∷ ms))
        ∙ any_same (λ e. (advance_class e && pointwise nat_eq w (word_in (argument e 0))) && list_any (λ n. list_any (pointwise nat_eq n) (words_in (argument e 2))) (m ∷ ms)) (λ e. advance_class e && pointwise nat_eq w (word_in (argument e 0)) && list_one (words_in (argument e 2)) (m ∷ ms)) earlier
        (λ e. some (advance_class e) (pointwise nat_eq w (word_in (argument e 0))) (list_any (λ n. list_any (pointwise nat_eq n) (words_in (argument e 2))) (m ∷ ms)) (nat_eq (length (words_in (argument e 2))) 0) (nat_eq (length (m ∷ ms)) 0) more))

-- ---- a read of the table has a number

named_at : (rs : List Record) (k : ℕ) (one : Record) → k < length rs → get_or rs k one ≡ one → advance_class one ≡ true →
    list_any (pointwise nat_eq (word_in (argument one 0))) (names_in space.Read rs) ≡ true
unfolding names_in
named_at [] k one h at advance = absurd (omega (arith, h))
named_at (r ∷ rs) zero one h at advance =
    let first : advance_class r ≡ true = ap advance_class at ∙ advance in
    let same : pointwise nat_eq (word_in (argument one 0)) (word_in (argument r 0)) ≡ true = ap (λ x. pointwise nat_eq (word_in (argument one 0)) (word_in (argument x 0))) at ∙ same_pointwise (word_in (argument one 0)) in
    rw (first, same) refl
named_at (r ∷ rs) (suc k) one h at advance = by_test (advance_class r) refl (named_at rs k one (omega (arith, h)) at advance)
  where
    by_test : (b : Bool) → advance_class r ≡ b → list_any (pointwise nat_eq (word_in (argument one 0))) (names_in space.Read rs) ≡ true → list_any (pointwise nat_eq (word_in (argument one 0))) (names_in space.Read (r ∷ rs)) ≡ true
    by_test true e later = rw (e, later) (or_true (pointwise nat_eq (word_in (argument one 0)) (word_in (argument r 0))))
    by_test false e later = rw e later

any_place : {X : Type 0} (p : X → Bool) (xs : List X) → list_any p xs ≡ true → position_or_len p xs < length xs
any_place p [] h = absurd (true≢false (sym h))
any_place p (x ∷ xs) h = by_test (p x) refl (any_place p xs)
  where
    by_test : (b : Bool) → p x ≡ b → (list_any p xs ≡ true → position_or_len p xs < length xs) → position_or_len p (x ∷ xs) < length (x ∷ xs)
    by_test true e later = rw e (omega arith)
    by_test false e later = let more : list_any p xs ≡ true = rw e at h in rw e (omega (arith, later more))

pub number_stands : (table : List Record) (one : Record) (w : List ℕ) → Contains table one → advance_class one ≡ true → w ≡ word_in (argument one 0) →
    None ≡ position (pointwise nat_eq w) (names_in space.Read table) → ⊥
number_stands table one w (k, h, at) advance word none =
    let some : list_any (pointwise nat_eq w) (names_in space.Read table) ≡ true = rw word (named_at table k one h at advance) in
    let there : nat_lt (position_or_len (pointwise nat_eq w) (names_in space.Read table)) (length (names_in space.Read table)) ≡ true = lt-ltb _ _ (any_place (pointwise nat_eq w) (names_in space.Read table) some) in
    let found : position (pointwise nat_eq w) (names_in space.Read table) ≡ Some (position_or_len (pointwise nat_eq w) (names_in space.Read table)) = rw there refl in
    let both : None ≡ Some (position_or_len (pointwise nat_eq w) (names_in space.Read table)) = none ∙ found in
    cc

-- ---- the next record

pub room : (rs : List Record) (count : ℕ) (s : Seen) → count ≤ length rs → ◌≡◌ {A = Seen} (record { table = rs; earlier = take count rs }) s → length s.earlier < length s.table → count < length rs
room rs count s within is more =
    let e : length s.earlier ≡ length (take count rs) = ap (λ x. length x.earlier) (sym is) in
    let t : length s.table ≡ length rs = ap (λ x. length x.table) (sym is) in
    omega (arith, e, t, length-take count rs, more)

pub few_more : (a r count : ℕ) (b : Bool) → a ≤ count → r ≡ a + (if b then 1 else 0) → r ≤ count + 1
few_more a r count true few e = omega arith
few_more a r count false few e = omega arith

pub counted_more : (rs : List Record) (i : ℕ) (one : Record) (a r : ℕ) → i < length rs → one ≡ get_or rs i one → a ≡ length (filter advance_class (take i rs)) →
    r ≡ a + (if advance_class one then 1 else 0) → r ≡ length (filter advance_class (take (i + 1) rs))
counted_more rs i one a r h is before noted = rw (noted, before, length-filter_more advance_class rs i one h, ← is) refl

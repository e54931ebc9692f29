-- The place of a name among the names of a table, one record after the other.
use Rattle.std.proofs.Common.{◌≡◌, inl, inr, ℕ, ◌+◌, ◌<◌, ◌≤◌, List, [], ◌∷◌, ◌++◌, length, map, filter, take, get_or, position, nat_eq, nat_lt, Some, None, Bool, true, false, cond, refl, ap, sym, ◌∙◌, arith, is_some, if◌then◌else◌}
use Rattle.std.specs.Cmp.Lexicographic.{pointwise, same_text}
use Rattle.std.specs.List.{position_or_len}
use Rattle.std.specs.Map.{lookup}
use Rattle.std.specs.Option.{option_or}
use Rattle.std.specs.declared.option.Option.{Option}
use Rattle.std.proofs.lemmas.Bool.{cases_lt, cases_Bool, lt-ltb, le-ltb, eq-eqb, ne_eqb}
use Rattle.std.proofs.lemmas.List.{length-append, map-append, append-nil}
use Rattle.std.proofs.lemmas.List.Elements.{filter_more}
use Rattle.std.proofs.lemmas.List.Folds.{position_or_len_push}
use Rattle.sched_records.specs.declared.records.Record.{Record}
use Rattle.sched_resolve.specs.declared.name_space.NameSpace.{NameSpace}
use Rattle.sched_resolve.specs.Names.{counts_in, name_in, names_in}

-- ---- the first place of a list with one more element

place-le : {X : Type 0} (p : X → Bool) (xs : List X) → position_or_len p xs ≤ length xs
place-le p [] = omega arith
place-le p (x ∷ xs) = elim (cases_Bool (p x)) [
  | inl h ↦ rw h (omega arith)
  | inr h ↦ rw h (omega (arith, place-le p xs))
]

place_at : (a n : ℕ) (b : Bool) → a ≤ n →
    cond (nat_lt (cond (nat_eq a n) (n + cond b 0 1) a) (n + 1)) (Some (cond (nat_eq a n) (n + cond b 0 1) a)) None ≡ option_or (cond (nat_lt a n) (Some a) None) (if b then Some n else None)
place_at a n b le = elim (cases_lt a n) [
  | inl h ↦ (let other : nat_eq a n ≡ false = ne_eqb a n (λ e. omega arith) in
      let before : nat_lt a n ≡ true = lt-ltb a n h in
      let within : nat_lt a (n + 1) ≡ true = lt-ltb a (n + 1) (omega arith) in
      rw (other, before, within) refl)
  | inr h ↦ (let same : nat_eq a n ≡ true = eq-eqb a n (omega arith) in
      let behind : nat_lt a n ≡ false = le-ltb a n h in
      rw (same, behind) (by_test b))
]
  where
    by_test : (b : Bool) → cond (nat_lt (n + cond b 0 1) (n + 1)) (Some (n + cond b 0 1)) None ≡ (if b then Some n else None)
    by_test true =
        let within : nat_lt (n + 0) (n + 1) ≡ true = lt-ltb (n + 0) (n + 1) (omega arith) in
        let at : n + 0 ≡ n = omega arith in
        rw within (ap Some at)
    by_test false = let behind : nat_lt (n + 1) (n + 1) ≡ false = le-ltb (n + 1) (n + 1) (omega arith) in rw behind refl

pub position_last : {X : Type 0} (p : X → Bool) (xs : List X) (x : X) → position p (xs ++ x ∷ []) ≡ option_or (position p xs) (if p x then Some (length xs) else None)
position_last p xs x = rw (position_or_len_push p xs x, length-append xs (x ∷ [])) (place_at (position_or_len p xs) (length xs) (p x) (place-le p xs))

pub names_more : (s : NameSpace) (rs : List Record) (i : ℕ) (d : Record) → i < length rs →
    names_in s (take (i + 1) rs) ≡ names_in s (take i rs) ++ cond (counts_in s (get_or rs i d)) (name_in s (get_or rs i d) ∷ []) []
unfolding names_in
names_more s rs i d h = rw (filter_more (counts_in s) rs i d h) (map-append (name_in s) (filter (counts_in s) (take i rs)) (cond (counts_in s (get_or rs i d)) (get_or rs i d ∷ []) []) ∙ by_test (counts_in s (get_or rs i d)))
  where
    by_test : (b : Bool) → names_in s (take i rs) ++ map (name_in s) (cond b (get_or rs i d ∷ []) []) ≡ names_in s (take i rs) ++ cond b (name_in s (get_or rs i d) ∷ []) []
    by_test true = refl
    by_test false = refl

-- no record has a name yet

pub nothing_yet : (s : NameSpace) → 0 ≡ length (names_in s [])
unfolding names_in
nothing_yet s = refl

pub none_yet : (s : NameSpace) (n : List ℕ) → None ≡ position (pointwise nat_eq n) (names_in s [])
unfolding names_in
none_yet s n = refl

-- ---- the map with one more name

module _ {K : Type 0} (text : K → List ℕ) where
  lookup_last : (n : List ℕ) (es : List (K × ℕ)) (k : K) (p : ℕ) →
      lookup (λ x. pointwise nat_eq n (text x)) (es ++ (k, p) ∷ []) ≡ option_or (lookup (λ x. pointwise nat_eq n (text x)) es) (if pointwise nat_eq n (text k) then Some p else None)
  lookup_last n [] k p = refl
  lookup_last n (e ∷ es) k p = elim (cases_Bool (pointwise nat_eq n (text e.0))) [
    | inl h ↦ rw h refl
    | inr h ↦ rw h (lookup_last n es k p)
  ]

  -- a name that is there keeps its place
  pub put_again : (n name : List ℕ) (es : List (K × ℕ)) (p : ℕ) → is_some (lookup (λ x. pointwise nat_eq name (text x)) es) ≡ true →
      lookup (λ x. pointwise nat_eq n (text x)) es ≡ option_or (lookup (λ x. pointwise nat_eq n (text x)) es) (if pointwise nat_eq n name then Some p else None)
  put_again n name es p there = elim (cases_Bool (pointwise nat_eq n name)) [
    | inl h ↦ (let same : n ≡ name = same_text n name (sym h) in rw (h, same) (by_found (lookup (λ x. pointwise nat_eq name (text x)) es) there))
    | inr h ↦ rw h (by_none (lookup (λ x. pointwise nat_eq n (text x)) es))
  ]
    where
      by_found : (o : Option ℕ) → is_some o ≡ true → o ≡ option_or o (Some p)
      by_found None h = absurd (cc)
      by_found (Some q) h = refl

      by_none : (o : Option ℕ) → o ≡ option_or o None
      by_none None = refl
      by_none (Some q) = refl

  pub put_new : (n name : List ℕ) (es after : List (K × ℕ)) (k : K) (p : ℕ) → after ≡ es ++ (k, p) ∷ [] → text k ≡ name →
      lookup (λ x. pointwise nat_eq n (text x)) after ≡ option_or (lookup (λ x. pointwise nat_eq n (text x)) es) (if pointwise nat_eq n name then Some p else None)
  put_new n name es after k p e t = rw (e, ← t) (lookup_last n es k p)

-- ---- a loop over the records

module _ (s : NameSpace) (rs : List Record) (i : ℕ) (one : Record) (h : i < length rs) (is : one ≡ get_or rs i one) where
  more_yes : counts_in s one ≡ true → names_in s (take (i + 1) rs) ≡ names_in s (take i rs) ++ name_in s one ∷ []
  more_yes has = rw (names_more s rs i one h, ← is, has) refl

  more_no : counts_in s one ≡ false → names_in s (take (i + 1) rs) ≡ names_in s (take i rs)
  more_no lacks = rw (names_more s rs i one h, ← is, lacks) (append-nil (names_in s (take i rs)))

  pub counted_yes : (count : ℕ) → counts_in s one ≡ true → count ≡ length (names_in s (take i rs)) → count + 1 ≡ length (names_in s (take (i + 1) rs))
  counted_yes count has e = rw (more_yes has, length-append (names_in s (take i rs)) (name_in s one ∷ []), e) refl

  pub counted_no : (count : ℕ) → counts_in s one ≡ false → count ≡ length (names_in s (take i rs)) → count ≡ length (names_in s (take (i + 1) rs))
  counted_no count lacks e = rw (more_no lacks) e

  pub placed_yes : (count : ℕ) (name n : List ℕ) (old new : Option ℕ) → counts_in s one ≡ true → count ≡ length (names_in s (take i rs)) → name ≡ name_in s one →
      old ≡ position (pointwise nat_eq n) (names_in s (take i rs)) → new ≡ option_or old (if pointwise nat_eq n name then Some count else None) →
      new ≡ position (pointwise nat_eq n) (names_in s (take (i + 1) rs))
  placed_yes count name n old new has e named before put =
      rw (put, before, e, named) (sym (ap (position (pointwise nat_eq n)) (more_yes has) ∙ position_last (pointwise nat_eq n) (names_in s (take i rs)) (name_in s one)))

  pub placed_no : (n : List ℕ) (old : Option ℕ) → counts_in s one ≡ false → old ≡ position (pointwise nat_eq n) (names_in s (take i rs)) → old ≡ position (pointwise nat_eq n) (names_in s (take (i + 1) rs))
  placed_no n old lacks before = rw (more_no lacks) before

pub none_is : {A : Type 0} (o : Option A) → is_some o ≡ false → o ≡ None
none_is None h = refl
none_is (Some x) h = absurd (cc)

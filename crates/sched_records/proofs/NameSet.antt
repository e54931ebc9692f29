-- A set of names has the names of a list of records, also once both have one more.
use Rattle.std.proofs.Common.{◌≡◌, ℕ, List, [], ◌∷◌, ◌++◌, refl, ap, sym, ◌∙◌, Bool, true, false, ◌||◌, nat_eq, if◌then◌else◌}
use Rattle.std.specs.Cmp.Lexicographic.{pointwise, same_text}
use Rattle.std.proofs.lemmas.List.Folds.{list_any-append}
use Rattle.std.specs.List.{list_any}
use Rattle.sched_records.specs.declared.records.Record.{Record}
use Rattle.sched_records.specs.RecordNames.{has_name}

or_false : (b : Bool) → (b || false) ≡ b
or_false true = refl
or_false false = refl

any_more : {X : Type 0} (p : X → Bool) (xs : List X) (x : X) → list_any p (xs ++ x ∷ []) ≡ (list_any p xs || p x)
any_more p xs x = list_any-append p xs (x ∷ []) ∙ ap (λ v. list_any p xs || v) (or_false (p x))

or_right : (a b : Bool) → b ≡ true → (a || b) ≡ true
or_right true b h = refl
or_right false b h = h

or_left : (a b : Bool) → b ≡ false → (a || b) ≡ a
or_left true b h = refl
or_left false b h = h

pub one_more_name : {K : Type 0} (items : K → List ℕ) (keys : List K) (k : K) (new : Record) (records : List Record) (n : List ℕ) →
    items k ≡ new.name → list_any (λ x. pointwise nat_eq n (items x)) keys ≡ has_name records n →
    list_any (λ x. pointwise nat_eq n (items x)) (if list_any (λ x. pointwise nat_eq (items k) (items x)) keys then keys else keys ++ k ∷ []) ≡ has_name (records ++ new ∷ []) n
one_more_name items keys k new records n name-is known =
    by_known (list_any (λ x. pointwise nat_eq (items k) (items x)) keys) refl ∙ sym (any_more (λ r. pointwise nat_eq n r.name) records new)
  where
    by_same : (same : Bool) → pointwise nat_eq n (items k) ≡ same → list_any (λ x. pointwise nat_eq (items k) (items x)) keys ≡ true →
        list_any (λ x. pointwise nat_eq n (items x)) keys ≡ (has_name records n || pointwise nat_eq n new.name)
    by_same true e h =
        let n-is : n ≡ items k = same_text n (items k) (sym e) in
        let found : list_any (λ x. pointwise nat_eq n (items x)) keys ≡ true = rw n-is h in
        found ∙ sym (or_right (has_name records n) (pointwise nat_eq n new.name) (rw (← name-is) e))
    by_same false e h = known ∙ sym (or_left (has_name records n) (pointwise nat_eq n new.name) (rw (← name-is) e))

    by_known : (old : Bool) → list_any (λ x. pointwise nat_eq (items k) (items x)) keys ≡ old →
        list_any (λ x. pointwise nat_eq n (items x)) (if old then keys else keys ++ k ∷ []) ≡ (has_name records n || pointwise nat_eq n new.name)
    by_known true h = by_same (pointwise nat_eq n (items k)) refl h
    by_known false h = any_more (λ x. pointwise nat_eq n (items x)) keys k ∙ rw (known, name-is) refl

-- How lists of values are read one element after the other.
use Rattle.std.proofs.Common.{◌≡◌, ℕ, List, [], ◌∷◌, ◌++◌, refl, ap, sym, ◌∙◌, append_assoc, Bool, true, false, Ok, Err, Some, None, if◌then◌else◌}
use Rattle.std.specs.Option.{option_or}
use Rattle.std.specs.declared.option.Option.{Option}
use Rattle.std.specs.declared.result.Result.{Result}
use Rattle.sched_records.specs.declared.records.Atom.{Atom}
use Rattle.sched_records.specs.declared.refusal.TableKind.{TableKind}
use Rattle.sched_records.specs.declared.refusal.TableKind.TheVariants as faults
use Rattle.sched_records.specs.declared.refusal.TableRefusal.{TableRefusal}
use Rattle.sched_records.specs.declared.value.Listed.{Listed}
use Rattle.sched_records.specs.declared.value.Element.{Element}
use Rattle.sched_records.specs.declared.value.ListedName.{ListedName}
use Rattle.sched_records.specs.Gives.{ByMemory}
use Rattle.sched_records.specs.Tokens.{Lexeme, first_of}
use Rattle.sched_records.specs.Grammar.{◌>>=◌, Parsed, is_name, is_sign, refusal}
use Rattle.sched_records.specs.Values.{atom, wide_of, is_want, after_wide, with_front, elements, with_names, names}
use Rattle.sched_records.specs.Elements.{ended, element_at, name_ended, listed_name_at}

-- ---- the list behind one element

abbrev pub go_on : Element → List Lexeme → Parsed Listed
go_on e ts = if e.last then Ok (record { atoms = e.atom ∷ []; wide = e.wide }, ts) else with_front (e.atom ∷ []) e.wide (elements ts)

-- the sign behind an element, by the two tests on it
abbrev signed_element : Atom → Option ℕ → Bool → Bool → TableRefusal → List Lexeme → Parsed Element
signed_element a wide comma close f us = if comma then Ok (record { atom = a; wide = wide; last = false }, us) else if close then Ok (record { atom = a; wide = wide; last = true }, us) else Err (after_wide wide f)

by_sign : (a : Atom) (wide : Option ℕ) (comma close : Bool) (f : TableRefusal) (us : List Lexeme) →
    with_front (a ∷ []) wide (if comma then elements us else if close then Ok (record { atoms = []; wide = None }, us) else Err f)
    ≡ (signed_element a wide comma close f us >>= λ x. go_on x.0 x.1)
by_sign a wide true close f us = refl
by_sign a None false true f us = refl
by_sign a (Some l) false true f us = refl
by_sign a wide false false f us = refl

by_atom : (r : Result Atom TableRefusal) (f g : Atom → Parsed Listed) → ((a : Atom) → f a ≡ g a) → (r >>= f) ≡ (r >>= g)
by_atom (Ok a) f g h = h a
by_atom (Err e) f g h = refl

bind_bind : {A B : Type 0} (r : Result Atom TableRefusal) (f : Atom → Result A TableRefusal) (g : A → Result B TableRefusal) → ((r >>= f) >>= g) ≡ (r >>= λ a. f a >>= g)
bind_bind (Ok a) f g = refl
bind_bind (Err e) f g = refl

pub elements_step : (ts : List Lexeme) → elements ts ≡ (element_at ts >>= λ x. go_on x.0 x.1)
elements_step [] = refl
elements_step (t ∷ []) =
    by_atom (atom t) (λ a. with_front (a ∷ []) (wide_of t) (Err (refusal (first_of [])))) (λ a. ended a (wide_of t) [] >>= λ x. go_on x.0 x.1)
    (λ a. by_sign a (wide_of t) false false (refusal (first_of [])) [])
    ∙ sym (bind_bind (atom t) (λ a. ended a (wide_of t) []) (λ x. go_on x.0 x.1))
elements_step (t ∷ u ∷ ts) =
    by_atom (atom t)
    (λ a. with_front (a ∷ []) (wide_of t) (if is_sign 44 u then elements ts else if is_sign 93 u then Ok (record { atoms = []; wide = None }, ts) else Err (refusal u)))
    (λ a. ended a (wide_of t) (u ∷ ts) >>= λ x. go_on x.0 x.1)
    (λ a. by_sign a (wide_of t) (is_sign 44 u) (is_sign 93 u) (refusal u) ts)
    ∙ sym (bind_bind (atom t) (λ a. ended a (wide_of t) (u ∷ ts)) (λ x. go_on x.0 x.1))

-- ---- elements before others

want_stays : (wide : Option ℕ) (f : TableRefusal) → is_want (after_wide wide f).kind ≡ is_want f.kind
want_stays None f = refl
want_stays (Some l) f = by_want (is_want f.kind) refl
  where
    by_want : (w : Bool) → is_want f.kind ≡ w → is_want (after_wide (Some l) f).kind ≡ is_want f.kind
    by_want true e = rw e e
    by_want false e = rw e refl

want_same : (wide : Option ℕ) (f : TableRefusal) → is_want f.kind ≡ true → after_wide wide f ≡ f
want_same None f e = refl
want_same (Some l) f e = rw e refl

after_two : (l m : ℕ) (f : TableRefusal) (w : Bool) → is_want f.kind ≡ w → after_wide (Some l) f ≡ after_wide (Some l) (after_wide (Some m) f)
after_two l m f true e = rw e (rw e refl)
after_two l m f false e = rw e refl

after_both : (a b : Option ℕ) (f : TableRefusal) → after_wide (option_or a b) f ≡ after_wide a (after_wide b f)
after_both None b f = refl
after_both (Some l) None f = refl
after_both (Some l) (Some m) f = after_two l m f (is_want f.kind) refl

option_or_assoc : (a b c : Option ℕ) → option_or (option_or a b) c ≡ option_or a (option_or b c)
option_or_assoc None b c = refl
option_or_assoc (Some l) b c = refl

pub front_more : (front more : List Atom) (a b : Option ℕ) (r : Parsed Listed) → with_front (front ++ more) (option_or a b) r ≡ with_front front a (with_front more b r)
front_more front more a b (Err f) = ap Err (after_both a b f)
front_more front more a b (Ok x) = rw (append_assoc, option_or_assoc) refl

pub front_none : (r : Parsed Listed) → with_front [] None r ≡ r
front_none (Err f) = refl
front_none (Ok x) = refl

-- ---- the loop over elements

fault_out : {P : Type 0} (Q : Type 0) (k : TableKind) → ByMemory k Q P → is_want k ≡ false → P
fault_out Q faults.Memory h e = cc
fault_out Q _ h e = h

want_out : {Q : Type 0} (P : Type 0) (k : TableKind) → ByMemory k Q P → is_want k ≡ true → Q
want_out P faults.Memory h e = h
want_out P _ h e = cc

by_want : {Q P : Type 0} (k : TableKind) → (is_want k ≡ true → Q) → (is_want k ≡ false → P) → ByMemory k Q P
by_want faults.Memory g h = g refl
by_want _ g h = h refl

pub list_stops : (e r : TableRefusal) (wide : Option ℕ) (front : List Atom) (ts : List Lexeme) (all : Parsed Listed) →
    r ≡ after_wide wide e → ByMemory e.kind (e.line ≡ 0) (element_at ts ≡ Err e) → with_front front wide (elements ts) ≡ all → ByMemory r.kind (r.line ≡ 0) (all ≡ Err r)
list_stops e r wide front ts all r-is read all-is =
    let kind_is : is_want r.kind ≡ is_want e.kind = rw r-is (want_stays wide e) in
    by_want r.kind
    (λ want. let no_line : e.line ≡ 0 = want_out _ e.kind read (sym kind_is ∙ want) in rw (r-is, want_same wide e (sym kind_is ∙ want)) no_line)
    (λ no_want.
    let first : element_at ts ≡ Err e = fault_out _ e.kind read (sym kind_is ∙ no_want) in
    sym all-is ∙ rw (elements_step ts, first, r-is) refl)

pub list_ends : (e : Element) (wide : Option ℕ) (front : List Atom) (ts rest : List Lexeme) (all : Parsed Listed) →
    element_at ts ≡ Ok (e, rest) → e.last ≡ true → with_front front wide (elements ts) ≡ all →
    all ≡ Ok (record { atoms = front ++ e.atom ∷ []; wide = option_or wide e.wide }, rest)
list_ends e wide front ts rest all read last all-is = sym all-is ∙ rw (elements_step ts, read) (rw last refl)

pub list_goes_on : (e : Element) (wide : Option ℕ) (front : List Atom) (ts rest : List Lexeme) (all : Parsed Listed) →
    element_at ts ≡ Ok (e, rest) → e.last ≡ false → with_front front wide (elements ts) ≡ all →
    with_front (front ++ e.atom ∷ []) (option_or wide e.wide) (elements rest) ≡ all
list_goes_on e wide front ts rest all read more all-is =
    front_more front (e.atom ∷ []) wide e.wide (elements rest) ∙ (sym (rw (elements_step ts, read) (rw more refl)) ∙ all-is)

-- ---- the names behind one name

abbrev pub go_on_names : ListedName → List Lexeme → Parsed (List (List ℕ))
go_on_names e ts = if e.last then Ok (e.name ∷ [], ts) else with_names (e.name ∷ []) (names ts)

abbrev signed_name : List ℕ → Bool → Bool → TableRefusal → List Lexeme → Parsed ListedName
signed_name n comma close f us = if comma then Ok (record { name = n; last = false }, us) else if close then Ok (record { name = n; last = true }, us) else Err f

by_name : (n : List ℕ) (comma close : Bool) (f : TableRefusal) (us : List Lexeme) →
    with_names (n ∷ []) (if comma then names us else if close then Ok ([], us) else Err f) ≡ (signed_name n comma close f us >>= λ x. go_on_names x.0 x.1)
by_name n true close f us = refl
by_name n false true f us = refl
by_name n false false f us = refl

abbrev named_or : Bool → List ℕ → TableRefusal → List Lexeme → Parsed (List ℕ)
named_or named n g us = if named then Ok (n, us) else Err g

name_then : (named : Bool) (n : List ℕ) (g : TableRefusal) (us : List Lexeme) (left : Parsed (List (List ℕ))) →
    left ≡ (name_ended n us >>= λ x. go_on_names x.0 x.1) →
    (if named then left else Err g) ≡ ((named_or named n g us >>= λ m. name_ended m.0 m.1) >>= λ x. go_on_names x.0 x.1)
name_then true n g us left h = h
name_then false n g us left h = refl

pub names_step : (ts : List Lexeme) → names ts ≡ (listed_name_at ts >>= λ x. go_on_names x.0 x.1)
names_step [] = refl
names_step (t ∷ []) = name_then (is_name t.kind) t.bytes (refusal t) [] (Err (refusal (first_of []))) refl
names_step (t ∷ u ∷ ts) = name_then (is_name t.kind) t.bytes (refusal t) (u ∷ ts)
    (with_names (t.bytes ∷ []) (if is_sign 44 u then names ts else if is_sign 41 u then Ok ([], ts) else Err (refusal u)))
    (by_name t.bytes (is_sign 44 u) (is_sign 41 u) (refusal u) ts)

names_more : (front more : List (List ℕ)) (r : Parsed (List (List ℕ))) → with_names (front ++ more) r ≡ with_names front (with_names more r)
names_more front more (Err f) = refl
names_more front more (Ok x) = rw append_assoc refl

pub names_none : (r : Parsed (List (List ℕ))) → with_names [] r ≡ r
names_none (Err f) = refl
names_none (Ok x) = refl

pub names_stop : (e : TableRefusal) (front : List (List ℕ)) (ts : List Lexeme) (all : Parsed (List (List ℕ))) →
    ByMemory e.kind (e.line ≡ 0) (listed_name_at ts ≡ Err e) → with_names front (names ts) ≡ all → ByMemory e.kind (e.line ≡ 0) (all ≡ Err e)
names_stop e front ts all read all-is = by_want e.kind (want_out _ e.kind read) (λ no_want.
    let first : listed_name_at ts ≡ Err e = fault_out _ e.kind read no_want in
    sym all-is ∙ rw (names_step ts, first) refl)

pub names_end : (e : ListedName) (front : List (List ℕ)) (ts rest : List Lexeme) (all : Parsed (List (List ℕ))) →
    listed_name_at ts ≡ Ok (e, rest) → e.last ≡ true → with_names front (names ts) ≡ all → all ≡ Ok (front ++ e.name ∷ [], rest)
names_end e front ts rest all read last all-is = sym all-is ∙ rw (names_step ts, read) (rw last refl)

pub names_go_on : (e : ListedName) (front : List (List ℕ)) (ts rest : List Lexeme) (all : Parsed (List (List ℕ))) →
    listed_name_at ts ≡ Ok (e, rest) → e.last ≡ false → with_names front (names ts) ≡ all → with_names (front ++ e.name ∷ []) (names rest) ≡ all
names_go_on e front ts rest all read more all-is =
    names_more front (e.name ∷ []) (names rest) ∙ (sym (rw (names_step ts, read) (rw more refl)) ∙ all-is)

-- The first of several is kept.
use Rattle.std.proofs.Common.{◌≡◌, ℕ, List, [], ◌∷◌, ◌++◌, Bool, true, false, None, Some, refl, sym, ◌∙◌, ap, arith, nat_eq, cond, ℤ}
use Rattle.std.specs.Prelude.{◌&&◌, find, if◌then◌else◌}
use Rattle.std.specs.List.{list_any}
use Rattle.std.specs.Option.{option_or, option_map}
use Rattle.std.specs.declared.option.Option.{Option}
use Rattle.std.proofs.lemmas.Bool.Decides.{nat_tests}
use Rattle.std.proofs.lemmas.Bool.{and_parts}
use Rattle.std.proofs.lemmas.List.Folds.{find-append}
use Rattle.sched_resolve.specs.declared.entry.Advance.{Advance}
use Rattle.sched_validate.specs.Advances.{same_pair}
use Rattle.sched_validate.specs.Classes.{lists, is_general}

pub first_kept : (old new : Option ℤ) (same : Bool) (c : ℤ) → new ≡ cond same (Some c) old → (same ≡ true → old ≡ None) → new ≡ option_or old (if same then Some c else None)
first_kept old new true c e none = e ∙ rw (none refl) refl
first_kept None new false c e none = e
first_kept (Some x) new false c e none = e

pub pair_is : (a b : ℕ × ℕ) → same_pair a b ≡ true → a ≡ b
pair_is a b h = (let parts : _ = and_parts (nat_eq a.0 b.0) (nat_eq a.1 b.1) h in
    let first : a.0 ≡ b.0 = grind (arith, nat_tests, parts.0) in
    let second : a.1 ≡ b.1 = grind (arith, nat_tests, parts.1) in
    λ i. (first i, second i))

-- the first in a list with one more at its end
pub map_or : (x y : Option Advance) → option_map (λ a. a.cycles) (option_or x y) ≡ option_or (option_map (λ a. a.cycles) x) (option_map (λ a. a.cycles) y)
map_or None y = refl
map_or (Some a) y = refl

map_if : (b : Bool) (a : Advance) → option_map (λ x. x.cycles) (if b then Some a else None) ≡ (if b then Some a.cycles else None)
map_if true a = refl
map_if false a = refl

find_one : (p : Advance → Bool) (a : Advance) → find p (a ∷ []) ≡ (if p a then Some a else None)
find_one p a = refl

pub find_more : (p : Advance → Bool) (all : List Advance) (a : Advance) (old new : Option ℤ) → old ≡ option_map (λ x. x.cycles) (find p all)
    → new ≡ option_or old (if p a then Some a.cycles else None) → new ≡ option_map (λ x. x.cycles) (find p (all ++ a ∷ []))
find_more p all a old new is e = e ∙ ap (λ o. option_or o (if p a then Some a.cycles else None)) is
    ∙ ap (option_or (option_map (λ x. x.cycles) (find p all))) (sym (map_if (p a) a))
    ∙ sym (map_or (find p all) (find p (a ∷ [])))
    ∙ ap (option_map (λ x. x.cycles)) (sym (find-append p all (a ∷ [])))

pub or_none : (x : Option ℤ) → x ≡ option_or x None
or_none None = refl
or_none (Some a) = refl

-- an advance that is not supported is passed over
pub unsupported_lists : (a : Advance) (r w : ℕ) → a.unsupported ≡ true → lists r w a ≡ false
unsupported_lists a r w e = rw e refl

pub unsupported_general : (a : Advance) (r : ℕ) → a.unsupported ≡ true → is_general r a ≡ false
unsupported_general a r e = rw e refl

pub supported_lists : (a : Advance) (r w : ℕ) → a.unsupported ≡ false → lists r w a ≡ (nat_eq a.read r && list_any (λ v. nat_eq v w) a.writes)
supported_lists a r w e = rw e refl

pub supported_general : (a : Advance) (r : ℕ) → a.unsupported ≡ false → is_general r a ≡ (nat_eq a.read r && a.general)
supported_general a r e = rw e refl

-- what is noted of a supported advance, where its cycles are those that are kept
pub noted_lists : (all : List Advance) (a : Advance) (r w : ℕ) (old new : Option ℤ) (cycles : ℤ) (writes : List ℕ) → a.unsupported ≡ false → cycles ≡ a.cycles → writes ≡ a.writes
    → old ≡ option_map (λ x. x.cycles) (find (lists r w) all) → new ≡ option_or old (if nat_eq a.read r && list_any (λ v. nat_eq v w) writes then Some cycles else None)
    → new ≡ option_map (λ x. x.cycles) (find (lists r w) (all ++ a ∷ []))
noted_lists all a r w old new cycles writes supported same listed is e = find_more (lists r w) all a old new is
    (e ∙ (λ i. option_or old (if nat_eq a.read r && list_any (λ v. nat_eq v w) (listed i) then Some (same i) else None))
    ∙ ap (λ b. option_or old (if b then Some a.cycles else None)) (sym (supported_lists a r w supported)))

pub noted_general : (all : List Advance) (a : Advance) (r : ℕ) (old new : Option ℤ) (cycles : ℤ) → a.unsupported ≡ false → cycles ≡ a.cycles
    → old ≡ option_map (λ x. x.cycles) (find (is_general r) all) → new ≡ option_or old (if nat_eq a.read r && a.general then Some cycles else None)
    → new ≡ option_map (λ x. x.cycles) (find (is_general r) (all ++ a ∷ []))
noted_general all a r old new cycles supported same is e = find_more (is_general r) all a old new is
    (e ∙ (λ i. option_or old (if nat_eq a.read r && a.general then Some (same i) else None))
    ∙ ap (λ b. option_or old (if b then Some a.cycles else None)) (sym (supported_general a r supported)))

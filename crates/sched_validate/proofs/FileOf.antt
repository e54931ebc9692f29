-- The file of a register is the one that holds it.
use Rattle.std.proofs.Common.{◌≡◌, ℕ, ◌+◌, ◌<◌, zero, suc, List, [], ◌∷◌, length, Bool, true, false, None, Some, refl, sym, subst, ◌∙◌, ap, arith, nat_eq, get_or, inl, inr}
use Rattle.std.specs.Prelude.{Option, ℤ, ◌&&◌, ◌||◌, nat_le, nat_lt, not, take, slice_get, count_by, if◌then◌else◌}
use Rattle.std.specs.List.{list_any, filter_map, position_or_len, range_with_len}
use Rattle.std.specs.Option.{option_or}
use Rattle.std.proofs.lemmas.Bool.Decides.{nat_tests}
use Rattle.std.proofs.lemmas.Bool.{and_parts, or_cases, or_parts}
use Rattle.std.proofs.lemmas.List.Folds.{list_any_at}
use Rattle.std.proofs.lemmas.List.FromFn.{get_or-range_with_len, length-range_with_len}
use Rattle.machine_model.specs.declared.facts.FileShare.{FileShare}
use Rattle.machine_model.specs.declared.tuning.Tuning.{Tuning}
use Rattle.sched_checks.specs.Checks.{lengths_differ, class_has, file_has, held_by, held_twice}
use Rattle.sched_checks.specs.Illness.{illness_of}
use Rattle.sched_checks.specs.Resources.{count_of}
use Rattle.sched_resolve.specs.declared.entry.Defaults.{Defaults}
use Rattle.sched_resolve.specs.declared.entry.Entry.{Entry}
use Rattle.sched_resolve.specs.declared.entry.Entry.TheVariants as entry
use Rattle.sched_resolve.specs.declared.entry.File.{File}
use Rattle.sched_resolve.specs.declared.entry.Registers.{Registers}
use Rattle.sched_resolve.specs.declared.entry.Registers.TheVariants as registers
use Rattle.sched_validate.specs.Files.{cost, cost_or_one, cost_of, share_by, share_in, share_from, HasFiles}
use Rattle.sched_validate.specs.Lists.{file_in, files_of}
use Rattle.sched_validate.specs.Machine.{machine_of}
use Rattle.sched_validate.proofs.Found.{IsKind, kind_of, is_file_entry}
use Rattle.sched_validate.proofs.Sound.{IsHealthy, healthy}

-- The share of a register in a file, by what the file holds

by_class : (file : ℕ) (n : ℤ) (ns : List ℤ) (rest : Option FileShare) (place : ℕ) (b any : Bool) → rest ≡ (if any then cost file (cost_or_one (slice_get ns place)) else None)
    → (if b then cost file (count_of n) else rest) ≡ (if b || any then cost file (cost_or_one (slice_get (n ∷ ns) (if not b then 1 + place else 0))) else None)
by_class file n ns rest place true any e = refl
by_class file n ns rest place false any e = (let next : suc place ≡ 1 + place = omega arith in
    subst (λ k. rest ≡ (if any then cost file (cost_or_one (slice_get (n ∷ ns) k)) else None)) next e)

by_class_alone : (file : ℕ) (rest : Option FileShare) (b any : Bool) → rest ≡ (if any then cost file 1 else None) → (if b then cost file 1 else rest) ≡ (if b || any then cost file 1 else None)
by_class_alone file rest true any e = refl
by_class_alone file rest false any e = e

share_is : (file r : ℕ) (cs : List Registers) (ns : List ℤ)
    → share_by file r cs ns ≡ (if list_any (class_has r) cs then cost file (cost_or_one (slice_get ns (position_or_len (class_has r) cs))) else None)
share_is file r [] ns = refl
share_is file r (c ∷ cs) [] = by_class_alone file (share_by file r cs []) (class_has r c) (list_any (class_has r) cs) (share_is file r cs [])
share_is file r (c ∷ cs) (n ∷ ns) = by_class file n ns (share_by file r cs ns) (position_or_len (class_has r) cs) (class_has r c) (list_any (class_has r) cs) (share_is file r cs ns)

no_costs : (ns : List ℤ) → lengths_differ (length ns) 0 ≡ false → ns ≡ []
no_costs [] e = refl
no_costs (n ∷ ns) e = (let some : nat_eq (length (n ∷ ns)) 0 ≡ false = grind (arith, nat_tests) in
    let clash : true ≡ false = rw some at e in absurd cc)

or_none : (b : Bool) → b || false ≡ b
or_none true = refl
or_none false = refl

share_in_is : (file r : ℕ) (f : File) (cs : List Registers) → f.classes ≡ cs → lengths_differ (length f.costs) (length f.classes) ≡ false
    → share_in file r f ≡ (if file_has r f then cost file (cost_of r f) else None)
share_in_is file r f [] e even =
    let none : f.costs ≡ [] = no_costs f.costs (rw e at even) in
    rw (e, none) (ap (λ b. if b then cost file 1 else None) (sym (or_none (class_has r registers.General))))
share_in_is file r f (c ∷ cs) e even = (let some : nat_eq (length (c ∷ cs)) 0 ≡ false = grind (arith, nat_tests) in rw (e, some) (share_is file r (c ∷ cs) f.costs))

-- The lists of a file go together
abbrev pub IsEven : File → Type 0
IsEven f = lengths_differ (length f.costs) (length f.classes) ≡ false

has_share : (file r : ℕ) (f : File) → IsEven f → file_has r f ≡ true → share_in file r f ≡ cost file (cost_of r f)
has_share file r f even has = share_in_is file r f f.classes refl even ∙ ap (λ b. if b then cost file (cost_of r f) else None) has

no_share : (file r : ℕ) (f : File) → IsEven f → file_has r f ≡ false → share_in file r f ≡ None
no_share file r f even has = share_in_is file r f f.classes refl even ∙ ap (λ b. if b then cost file (cost_of r f) else None) has

-- The share of a register, of the files from a number on

pub told_from : (fs : List File) (file r k n : ℕ) (f : File) → ((j : ℕ) (x : File) → slice_get fs j ≡ Some x → IsEven x) → slice_get fs k ≡ Some f → file_has r f ≡ true
    → ((j : ℕ) (x : File) → j < k → slice_get fs j ≡ Some x → file_has r x ≡ false) → file + k ≡ n → share_from file r fs ≡ cost n (cost_of r f)
told_from [] file r k n f even at has before e = absurd cc
told_from (x ∷ xs) file r zero n f even at has before e =
    (let same : x ≡ f = cc in
    let number : file ≡ n = omega (arith, e) in
    rw (has_share file r x (even 0 x refl) (subst (λ y. file_has r y ≡ true) (sym same) has)) (ap (λ m. cost m (cost_of r x)) number ∙ ap (λ y. cost n (cost_of r y)) same))
told_from (x ∷ xs) file r (suc k) n f even at has before e =
    rw (no_share file r x (even 0 x refl) (before 0 x (omega arith) refl))
    (told_from xs (file + 1) r k n f (λ j y here. even (suc j) y here) at has (λ j y lt here. before (suc j) y (omega (arith, lt)) here) (omega (arith, e)))

-- the file of a share, of the files from a number on
record IsIn (fs : List File) (file r : ℕ) (s : FileShare) (j : ℕ) (f : File) : Type 0 where
  at : slice_get fs j ≡ Some f
  number : s.file ≡ file + j
  has : file_has r f ≡ true
  costs : s.cost ≡ cost_of r f

in_later : (x : File) (xs : List File) (file r : ℕ) (s : FileShare) → (j : ℕ) × (f : File) × IsIn xs (file + 1) r s j f → (j : ℕ) × (f : File) × IsIn (x ∷ xs) file r s j f
in_later x xs file r s (j, f, is) = (suc j, f, record { at = is.at; number = omega (arith, is.number); has = is.has; costs = is.costs })

in_if : (x : File) (xs : List File) (file r : ℕ) (s : FileShare) (b : Bool) → file_has r x ≡ b → IsEven x → share_from file r (x ∷ xs) ≡ Some s
    → (share_from (file + 1) r xs ≡ Some s → (j : ℕ) × (f : File) × IsIn xs (file + 1) r s j f) → (j : ℕ) × (f : File) × IsIn (x ∷ xs) file r s j f
in_if x xs file r s true has even h rest =
    let first : cost file (cost_of r x) ≡ Some s = ap (λ o. option_or o (share_from (file + 1) r xs)) (sym (has_share file r x even has)) ∙ h in
    let same : ◌≡◌ {A = FileShare} (record { file = file; cost = cost_of r x }) s = cc in
    let a : file ≡ s.file = ap (λ y. y.file) same in
    (0, x, record { at = refl; number = omega (arith, a); has = has; costs = sym (ap (λ y. y.cost) same) })
in_if x xs file r s false has even h rest =
    in_later x xs file r s (rest (ap (λ o. option_or o (share_from (file + 1) r xs)) (sym (no_share file r x even has)) ∙ h))

in_from : (fs : List File) (file r : ℕ) (s : FileShare) → ((j : ℕ) (x : File) → slice_get fs j ≡ Some x → IsEven x) → share_from file r fs ≡ Some s → (j : ℕ) × (f : File) × IsIn fs file r s j f
in_from [] file r s even h = absurd cc
in_from (x ∷ xs) file r s even h = in_if x xs file r s (file_has r x) refl (even 0 x refl) h (in_from xs (file + 1) r s (λ j y here. even (suc j) y here))

-- No file before one holds a register of it

class_low : (r : ℕ) (c : Registers) → class_has r c ≡ true → r < 32
class_low r registers.General h = grind (arith, nat_tests, (and_parts (nat_le 1 r) (nat_le r 31) h).1)
class_low r registers.Compressed h = grind (arith, nat_tests, (and_parts (nat_le 8 r) (nat_le r 15) h).1)
class_low r registers.Other h = absurd cc

classes_low : (r : ℕ) (cs : List Registers) → list_any (class_has r) cs ≡ true → r < 32
classes_low r [] h = absurd cc
classes_low r (c ∷ cs) h = elim (or_cases (class_has r c) (list_any (class_has r) cs) h) [
  | inl here ↦ class_low r c here
  | inr later ↦ classes_low r cs later
]

has_low : (r : ℕ) (f : File) → file_has r f ≡ true → r < 32
has_low r f h = elim (or_cases (nat_eq (length f.classes) 0 && class_has r registers.General) (list_any (class_has r) f.classes) h) [
  | inl every ↦ class_low r registers.General (and_parts (nat_eq (length f.classes) 0) (class_has r registers.General) every).1
  | inr some ↦ classes_low r f.classes some
]

any_files : (r : ℕ) (es : List Entry) → list_any (held_by r) es ≡ list_any (file_has r) (filter_map file_in es)
any_files r [] = refl
any_files r (entry.File f ∷ es) = ap (λ b. file_has r f || b) (any_files r es)
any_files r (_ ∷ es) = any_files r es

none_before : (r : ℕ) (fs : List File) (k j : ℕ) (x : File) → list_any (file_has r) (take k fs) ≡ false → j < k → slice_get fs j ≡ Some x → file_has r x ≡ false
none_before r [] k j x e lt at = absurd cc
none_before r (y ∷ ys) zero j x e lt at = absurd (omega (arith, lt))
none_before r (y ∷ ys) (suc k) zero x e lt at = (let same : y ≡ x = cc in subst (λ z. file_has r z ≡ false) same (or_parts (file_has r y) (list_any (file_has r) (take k ys)) e).0)
none_before r (y ∷ ys) (suc k) (suc j) x e lt at = none_before r ys k j x (or_parts (file_has r y) (list_any (file_has r) (take k ys)) e).1 (omega (arith, lt)) at

not_both : (a b c : Bool) → ((a && b) || c) ≡ false → a ≡ true → b ≡ false
not_both true b c h e = (or_parts b c h).0
not_both false b c h e = absurd cc

no_range : (p : ℕ → Bool) (r : ℕ) → r < 32 → list_any p (range_with_len 0 32) ≡ false → p r ≡ false
no_range p r low e = go (p r) refl
  where
    go : (b : Bool) → p r ≡ b → b ≡ false
    go false h = refl
    go true h = (let at : get_or (range_with_len 0 32) r 0 ≡ r = omega (arith, get_or-range_with_len 0 32 r 0 low) in
        let clash : true ≡ false = sym (list_any_at p (range_with_len 0 32) r 0 (omega (arith, low, length-range_with_len 0 32)) (subst (λ v. p v ≡ true) (sym at) h)) ∙ e in absurd cc)

alone_if : (es : List Entry) (k : ℕ) (f : File) → (i : ℕ) × IsKind file_in entry.File es k f i → (r : ℕ) → file_has r f ≡ true → (j : ℕ) (x : File) → j < k → slice_get (files_of es) j ≡ Some x → file_has r x ≡ false
alone_if es k f (i, is) r has j x lt at =
    let once : _ = no_range (held_twice (take i es) f) r (has_low r f has) is.sound.one_file in
    let earlier : list_any (held_by r) (take i es) ≡ false = not_both (file_has r f) (list_any (held_by r) (take i es)) (nat_lt 1 (count_by (class_has r) f.classes)) once has in
    none_before r (files_of es) k j x (ap (list_any (file_has r)) (sym is.before) ∙ sym (any_files r (take i es)) ∙ earlier) lt at

alone : (es : List Entry) → IsHealthy es → (k : ℕ) (f : File) → slice_get (files_of es) k ≡ Some f → (r : ℕ) → file_has r f ≡ true → (j : ℕ) (x : File) → j < k → slice_get (files_of es) j ≡ Some x → file_has r x ≡ false
alone es health k f h = alone_if es k f (kind_of file_in entry.File is_file_entry es health k f h)

even_if : (es : List Entry) (k : ℕ) (f : File) → (i : ℕ) × IsKind file_in entry.File es k f i → IsEven f
even_if es k f (i, is) = is.sound.lengths

even : (es : List Entry) → IsHealthy es → (k : ℕ) (f : File) → slice_get (files_of es) k ≡ Some f → IsEven f
even es health k f h = even_if es k f (kind_of file_in entry.File is_file_entry es health k f h)

-- Together

told : (es : List Entry) → IsHealthy es → (r k : ℕ) (f : File) → slice_get (files_of es) k ≡ Some f → file_has r f ≡ true → share_from 0 r (files_of es) ≡ cost k (cost_of r f)
told es health r k f at has = told_from (files_of es) 0 r k k f (even es health) at has (alone es health k f at r has) (omega arith)

abbrev IsHeldIn : List File → ℕ → FileShare → Type 0
IsHeldIn fs r s = (f : File) × (slice_get fs s.file ≡ Some f) × (file_has r f ≡ true) × (s.cost ≡ cost_of r f)

held_in : (fs : List File) (r : ℕ) (s : FileShare) → (j : ℕ) × (f : File) × IsIn fs 0 r s j f → IsHeldIn fs r s
held_in fs r s (j, f, is) = (let e : j ≡ s.file = omega (arith, is.number) in (f, subst (λ n. slice_get fs n ≡ Some f) e is.at, is.has, is.costs))

held : (es : List Entry) → IsHealthy es → (r : ℕ) (s : FileShare) → share_from 0 r (files_of es) ≡ Some s → IsHeldIn (files_of es) r s
held es health r s h = held_in (files_of es) r s (in_from (files_of es) 0 r s (even es health) h)

no_file_if : (es : List Entry) → IsHealthy es → (r k : ℕ) (f : File) → share_from 0 r (files_of es) ≡ None → slice_get (files_of es) k ≡ Some f → (b : Bool) → file_has r f ≡ b → b ≡ false
no_file_if es health r k f none at false has = refl
no_file_if es health r k f none at true has = (let clash : cost k (cost_of r f) ≡ None = sym (told es health r k f at has) ∙ none in absurd cc)

no_share_of : (fs : List File) (r : ℕ) (s : FileShare) → ((k : ℕ) (f : File) → slice_get fs k ≡ Some f → file_has r f ≡ false) → IsHeldIn fs r s → ⊥
no_share_of fs r s no_one (f, at, has, _) = (let clash : true ≡ false = sym has ∙ no_one s.file f at in absurd cc)

none_if : (es : List Entry) → IsHealthy es → (r : ℕ) → ((k : ℕ) (f : File) → slice_get (files_of es) k ≡ Some f → file_has r f ≡ false) → (o : Option FileShare) → share_from 0 r (files_of es) ≡ o → o ≡ None
none_if es health r no_one None e = refl
none_if es health r no_one (Some s) e = absurd (no_share_of (files_of es) r s no_one (held es health r s e))

pub has_files : (es : List Entry) (ds : List Defaults) (t : Tuning) → illness_of es ≡ None → HasFiles (files_of es) (machine_of es ds t)
has_files es ds t none =
    let health : IsHealthy es = healthy es none in
    record {
      told = told es health;
      held = held es health;
      none = λ r. (λ e k f at. no_file_if es health r k f e at (file_has r f) refl, λ no_one. none_if es health r no_one (share_from 0 r (files_of es)) refl);
    }

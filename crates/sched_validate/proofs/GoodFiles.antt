-- What the law says of the register files of a table without an illness.
use Rattle.std.proofs.Common.{◌≡◌, ℕ, ◌+◌, ◌<◌, ◌≤◌, zero, suc, List, [], ◌∷◌, length, Bool, true, false, None, Some, refl, sym, subst, ◌∙◌, ap, arith, nat_eq, cond, inl, inr, pos, negsuc}
use Rattle.std.specs.Prelude.{Option, ℤ, int_le, ◌&&◌, ◌⊎◌, nat_le, not, take, slice_get, count_by, if◌then◌else◌}
use Rattle.std.specs.List.{list_any, filter_map}
use Rattle.std.specs.Option.{option_or}
use Rattle.std.proofs.lemmas.Bool.Decides.{nat_tests}
use Rattle.std.proofs.lemmas.Bool.{or_parts}
use Rattle.std.proofs.lemmas.List.{length-take}
use Rattle.std.proofs.lemmas.Option.{slice_get_within, slice_get_cases}
use Rattle.std.proofs.Common.{get_or}
use Rattle.machine_model.specs.declared.facts.FileShare.{FileShare}
use Rattle.sched_checks.specs.Resources.{count_of}
use Rattle.sched_checks.specs.Checks.{is_outside, is_file, class_has}
use Rattle.sched_resolve.specs.declared.entry.Entry.{Entry}
use Rattle.sched_resolve.specs.declared.entry.Entry.TheVariants as entry
use Rattle.sched_resolve.specs.declared.entry.File.{File}
use Rattle.sched_resolve.specs.declared.entry.Registers.{Registers}
use Rattle.sched_resolve.specs.declared.entry.Registers.TheVariants as registers
use Rattle.sched_validate.specs.Lists.{file_in, files_of}
use Rattle.sched_validate.specs.Files.{cost, share_by, share_in, share_from}
use Rattle.sched_validate.proofs.KindLists.{sum_kind, sum_ones}
use Rattle.sched_validate.proofs.Found.{IsKind, kind_of, is_file_entry}
use Rattle.sched_validate.proofs.Ranges.{inside, low_count, high_count, true_from_not}
use Rattle.sched_validate.proofs.Sound.{IsHealthy}
use Rattle.sched_validate.proofs.ListTests.{three_parts}

-- what the checks say of the file with a number
pub record IsGoodFile (k : ℕ) (f : File) : Type 0 where
  pub few : k < 8
  pub size_low : int_le (pos 0) f.size ≡ true
  pub size_high : int_le f.size (pos 65536) ≡ true
  pub costs : list_any (is_outside (pos 1) (pos 8)) f.costs ≡ false
  pub large : (int_le (pos 1) f.size && list_any (λ c. not (int_le c f.size)) f.costs) ≡ false

count_files : (xs : List Entry) → count_by is_file xs ≡ length (filter_map file_in xs)
count_files xs = sum_kind file_in (λ e. cond {A = ℕ} (is_file e) 1 0) (λ _. 1) no_one one xs ∙ sum_ones (filter_map file_in xs)
  where
    no_one : (a : Entry) → file_in a ≡ None → ◌≡◌ {A = ℕ} (cond (is_file a) 1 0) 0
    no_one (entry.File r) h = absurd cc
    no_one _ h = refl

    one : (a : Entry) (b : File) → file_in a ≡ Some b → ◌≡◌ {A = ℕ} (cond (is_file a) 1 0) 1
    one (entry.File r) b h = refl
    one _ b h = absurd cc

good_file_if : (es : List Entry) (k : ℕ) (f : File) → k < length (files_of es) → (i : ℕ) × IsKind file_in entry.File es k f i → IsGoodFile k f
good_file_if es k f lt (i, at) =
    let ranges : _ = three_parts (is_outside (pos 0) (pos 65536) f.size) (list_any (is_outside (pos 1) (pos 8)) f.costs) (nat_le 8 (count_by is_file (take i es))) at.sound.in_range in
    let sizes : _ = inside (pos 0) (pos 65536) f.size ranges.0 in
    let number : length (filter_map file_in (take i es)) ≡ k = ap length at.before ∙ length-take k (files_of es) ∙ omega (arith, lt) in
    let count : count_by is_file (take i es) ≡ k = count_files (take i es) ∙ number in
    record { few = grind (arith, nat_tests, ranges.2, count); size_low = sizes.0; size_high = sizes.1; costs = ranges.1; large = at.sound.large }

pub good_file : (es : List Entry) → IsHealthy es → (k : ℕ) (f : File) → slice_get (files_of es) k ≡ Some f → IsGoodFile k f
good_file es health k f h = good_file_if es k f (slice_get_within (files_of es) k f h) (kind_of file_in entry.File is_file_entry es health k f h)

last_few : (fs : List File) (n : ℕ) → length fs ≡ suc n → ((k : ℕ) (f : File) → slice_get fs k ≡ Some f → IsGoodFile k f)
    → ((f : File) × (n < length fs) × (slice_get fs n ≡ Some f) × (get_or fs n f ≡ f)) ⊎ ((length fs ≤ n) × (slice_get fs n ≡ None)) → suc n ≤ 8
last_few fs n e all (inl (f, lt, at, _)) = omega (arith, (all n f at).few)
last_few fs n e all (inr (past, _)) = absurd (omega (arith, past, e))

few_if : (fs : List File) (n : ℕ) → length fs ≡ n → ((k : ℕ) (f : File) → slice_get fs k ≡ Some f → IsGoodFile k f) → n ≤ 8
few_if fs zero e all = omega arith
few_if fs (suc n) e all = last_few fs n e all (slice_get_cases fs n).1

pub few_files : (fs : List File) → ((k : ℕ) (f : File) → slice_get fs k ≡ Some f → IsGoodFile k f) → length fs ≤ 8
few_files fs all = few_if fs (length fs) refl all

-- a share costs 1 to 8, and no more than its file has where that is bounded
pub record IsFair (file size : ℕ) (s : FileShare) : Type 0 where
  pub file_is : s.file ≡ file
  pub low : 1 ≤ s.cost
  pub high : s.cost ≤ 8
  pub room : (size ≡ 0 → ⊥) → s.cost ≤ size

fair_one : (file size : ℕ) (s : FileShare) → cost file 1 ≡ Some s → IsFair file size s
fair_one file size s h = (let same : ◌≡◌ {A = FileShare} (record { file = file; cost = 1 }) s = cc in
    let a : file ≡ s.file = ap (λ x. x.file) same in
    let b : 1 ≡ s.cost = ap (λ x. x.cost) same in
    record { file_is = sym a; low = omega (arith, b); high = omega (arith, b); room = λ some. grind (arith, b, some) })

room_at : (size n : ℤ) → (count_of size ≡ 0 → ⊥) → (int_le (pos 1) size ≡ true → int_le n size ≡ true) → count_of n ≤ count_of size
room_at (pos m) n some fits = high_count m n (fits (grind (arith, nat_tests, some)))
room_at (negsuc m) n some fits = absurd (some refl)

fair_cost : (file : ℕ) (size n : ℤ) (s : FileShare) → is_outside (pos 1) (pos 8) n ≡ false → (int_le (pos 1) size ≡ true → int_le n size ≡ true) → cost file (count_of n) ≡ Some s → IsFair file (count_of size) s
fair_cost file size n s inside_it fits h = (let same : ◌≡◌ {A = FileShare} (record { file = file; cost = count_of n }) s = cc in
    let a : file ≡ s.file = ap (λ x. x.file) same in
    let b : count_of n ≡ s.cost = ap (λ x. x.cost) same in
    let ends : _ = inside (pos 1) (pos 8) n inside_it in
    record { file_is = sym a; low = omega (arith, b, low_count 1 n ends.0); high = omega (arith, b, high_count 8 n ends.1); room = λ some. omega (arith, b, room_at size n some fits) })

fair_if : (file r : ℕ) (size : ℤ) (c : Registers) (cs : List Registers) (ns : List ℤ) (n : ℤ) (s : FileShare) → is_outside (pos 1) (pos 8) n ≡ false → (int_le (pos 1) size ≡ true → int_le n size ≡ true)
    → (b : Bool) → (if b then cost file (count_of n) else share_by file r cs ns) ≡ Some s → (share_by file r cs ns ≡ Some s → IsFair file (count_of size) s) → IsFair file (count_of size) s
fair_if file r size c cs ns n s inside_it fits true h rest = fair_cost file size n s inside_it fits h
fair_if file r size c cs ns n s inside_it fits false h rest = rest h

fair_alone : (file r size : ℕ) (c : Registers) (cs : List Registers) (s : FileShare) (b : Bool) → (if b then cost file 1 else share_by file r cs []) ≡ Some s
    → (share_by file r cs [] ≡ Some s → IsFair file size s) → IsFair file size s
fair_alone file r size c cs s true h rest = fair_one file size s h
fair_alone file r size c cs s false h rest = rest h

fair_by : (file r : ℕ) (size : ℤ) (cs : List Registers) (ns : List ℤ) (s : FileShare) → list_any (is_outside (pos 1) (pos 8)) ns ≡ false
    → (int_le (pos 1) size ≡ true → list_any (λ c. not (int_le c size)) ns ≡ false) → share_by file r cs ns ≡ Some s → IsFair file (count_of size) s
fair_by file r size [] ns s inside_all fits h = absurd cc
fair_by file r size (c ∷ cs) [] s inside_all fits h = fair_alone file r (count_of size) c cs s (class_has r c) h (fair_by file r size cs [] s refl (λ _. refl))
fair_by file r size (c ∷ cs) (n ∷ ns) s inside_all fits h =
    (let here : _ = or_parts (is_outside (pos 1) (pos 8) n) (list_any (is_outside (pos 1) (pos 8)) ns) inside_all in
    fair_if file r size c cs ns n s here.0
    (λ some. true_from_not (int_le n size) (or_parts (not (int_le n size)) (list_any (λ c. not (int_le c size)) ns) (fits some)).0)
    (class_has r c) h
    (fair_by file r size cs ns s here.1 (λ some. (or_parts (not (int_le n size)) (list_any (λ c. not (int_le c size)) ns) (fits some)).1)))

second_false : (a b : Bool) → (a && b) ≡ false → a ≡ true → b ≡ false
second_false true b h e = h
second_false false b h e = absurd cc

fair_in : (file r k : ℕ) (f : File) (s : FileShare) → IsGoodFile k f → (b : Bool)
    → (if b then share_by file r (registers.General ∷ []) [] else share_by file r f.classes f.costs) ≡ Some s → IsFair file (count_of f.size) s
fair_in file r k f s is true h = fair_by file r f.size (registers.General ∷ []) [] s refl (λ _. refl) h
fair_in file r k f s is false h = fair_by file r f.size f.classes f.costs s is.costs (second_false (int_le (pos 1) f.size) (list_any (λ c. not (int_le c f.size)) f.costs) is.large) h

-- the file that a share tells, and that it is fair there
pub record IsHeld (fs : List File) (s : FileShare) (j : ℕ) (f : File) : Type 0 where
  pub at : slice_get fs j ≡ Some f
  pub number : s.file ≡ j
  pub fair : IsFair j (count_of f.size) s

held_if : (fs : List File) (k r : ℕ) (f : File) (s : FileShare) → IsFair k (count_of f.size) s → (j : ℕ) × (x : File) × (slice_get (f ∷ fs) j ≡ Some x) × IsFair (k + j) (count_of x.size) s
held_if fs k r f s fair = (let e : k ≡ k + 0 = omega arith in (0, f, refl, subst (λ n. IsFair n (count_of f.size) s) e fair))

held_later : (f : File) (fs : List File) (k : ℕ) (s : FileShare) → (j : ℕ) × (x : File) × (slice_get fs j ≡ Some x) × IsFair (k + 1 + j) (count_of x.size) s
    → (j : ℕ) × (x : File) × (slice_get (f ∷ fs) j ≡ Some x) × IsFair (k + j) (count_of x.size) s
held_later f fs k s (j, x, at, fair) = (let e : k + 1 + j ≡ k + suc j = omega arith in (suc j, x, at, subst (λ n. IsFair n (count_of x.size) s) e fair))

held_by_if : (f : File) (fs : List File) (k r : ℕ) (s : FileShare) → IsGoodFile k f → (o : Option FileShare) → share_in k r f ≡ o → option_or o (share_from (k + 1) r fs) ≡ Some s
    → (share_from (k + 1) r fs ≡ Some s → (j : ℕ) × (x : File) × (slice_get fs j ≡ Some x) × IsFair (k + 1 + j) (count_of x.size) s)
    → (j : ℕ) × (x : File) × (slice_get (f ∷ fs) j ≡ Some x) × IsFair (k + j) (count_of x.size) s
held_by_if f fs k r s is None e h rest = held_later f fs k s (rest h)
held_by_if f fs k r s is (Some t) e h rest = held_if fs k r f s (fair_in k r k f s is (nat_eq (length f.classes) 0) (e ∙ h))

held_from : (fs : List File) (k r : ℕ) (s : FileShare) → ((j : ℕ) (f : File) → slice_get fs j ≡ Some f → IsGoodFile (k + j) f) → share_from k r fs ≡ Some s
    → (j : ℕ) × (x : File) × (slice_get fs j ≡ Some x) × IsFair (k + j) (count_of x.size) s
held_from [] k r s all h = absurd cc
held_from (f ∷ fs) k r s all h = held_by_if f fs k r s (let e : k + 0 ≡ k = omega arith in subst (λ n. IsGoodFile n f) e (all 0 f refl)) (share_in k r f) refl h
    (held_from fs (k + 1) r s (λ j x at. (let e : k + suc j ≡ k + 1 + j = omega arith in subst (λ n. IsGoodFile n x) e (all (suc j) x at))))

held_at : (fs : List File) (s : FileShare) → (j : ℕ) × (x : File) × (slice_get fs j ≡ Some x) × IsFair (0 + j) (count_of x.size) s → (j : ℕ) × (x : File) × IsHeld fs s j x
held_at fs s (j, x, at, fair) = (let e : 0 + j ≡ j = omega arith in
    let here : IsFair j (count_of x.size) s = subst (λ n. IsFair n (count_of x.size) s) e fair in
    (j, x, record { at = at; number = here.file_is; fair = here }))

pub held : (fs : List File) (r : ℕ) (s : FileShare) → ((j : ℕ) (f : File) → slice_get fs j ≡ Some f → IsGoodFile j f) → share_from 0 r fs ≡ Some s → (j : ℕ) × (x : File) × IsHeld fs s j x
held fs r s all h = held_at fs s (held_from fs 0 r s (λ j f at. (let e : j ≡ 0 + j = omega arith in subst (λ n. IsGoodFile n f) e (all j f at))) h)

-- The classes of opcodes and the advances of a table without an illness.
use Rattle.std.proofs.Common.{◌≡◌, ℕ, ◌<◌, ◌≤◌, zero, suc, List, [], ◌∷◌, length, Bool, true, false, None, Some, refl, sym, subst, ◌∙◌, arith, nat_eq, inl, inr, pos}
use Rattle.std.specs.Prelude.{Option, ℤ, int_le, neg_ℤ, ◌&&◌, ◌⊎◌, not, find, slice_get, slice_index, slice_index_or, if◌then◌else◌}
use Rattle.std.specs.List.{list_any, position_or_len}
use Rattle.std.proofs.Common.{get_or}
use Rattle.std.proofs.lemmas.Bool.Decides.{nat_tests}
use Rattle.std.proofs.lemmas.List.Folds.{find_at}
use Rattle.std.proofs.lemmas.Option.{slice_get_cases}
use Rattle.rv_isa.specs.declared.op.Op.{Op}
use Rattle.machine_model.specs.Valid.{no_class}
use Rattle.machine_model.specs.declared.answers.Binding.{Binding}
use Rattle.machine_model.specs.declared.answers.ClassAnswer.TheVariants.{Unsupported, Class}
use Rattle.sched_checks.specs.Checks.{same_op}
use Rattle.sched_resolve.specs.declared.entry.Advance.{Advance}
use Rattle.sched_resolve.specs.declared.entry.Defaults.{Defaults}
use Rattle.sched_resolve.specs.declared.entry.Entry.{Entry}
use Rattle.sched_resolve.specs.declared.entry.Entry.TheVariants as entry
use Rattle.sched_resolve.specs.declared.entry.Rewrite.{Rewrite}
use Rattle.sched_resolve.specs.declared.entry.Write.{Write}
use Rattle.sched_validate.specs.Classes.{advance_in, writes_of, advances_of, lists, is_general, cycles_or, advance_after, op_number, no_defaults, read_class, is_unsupported, answer_by, answer_of, rewrite_for, class_for}
use Rattle.sched_validate.specs.Lists.{rewrites_of}
use Rattle.sched_validate.specs.Places.{IsPlace}
use Rattle.sched_validate.proofs.Places.{ArePlaces}
use Rattle.sched_validate.proofs.Found.{IsKind, kind_of, is_advance_entry}
use Rattle.sched_validate.proofs.Ranges.{inside}
use Rattle.sched_validate.proofs.Sound.{IsHealthy}

-- what the law says of a binding
pub record IsBound (writes reads : ℕ) (b : Binding) : Type 0 where
  pub write : b.write < writes
  pub rs1 : (slice_index b.reads 0 ≡ no_class → ⊥) → slice_index b.reads 0 < reads
  pub rs2 : (slice_index b.reads 1 ≡ no_class → ⊥) → slice_index b.reads 1 < reads

read_low : (n : ℕ) (o : Option ℕ) → IsPlace n o → (read_class o ≡ no_class → ⊥) → read_class o < n
read_low n None low some = absurd (some refl)
read_low n (Some p) low some = low p refl

bound_if : (reads k : ℕ) (rs1 rs2 : Option ℕ) (writes : ℕ) (b : Binding) → k < writes → IsPlace reads rs1 → IsPlace reads rs2 → (c : Bool)
    → (if c then Unsupported else Class (record { write = k; reads = read_class rs1 ∷ read_class rs2 ∷ [] })) ≡ Class b → IsBound writes reads b
bound_if reads k rs1 rs2 writes b lt low1 low2 true h = absurd cc
bound_if reads k rs1 rs2 writes b lt low1 low2 false h =
    (let same : ◌≡◌ {A = Binding} (record { write = k; reads = read_class rs1 ∷ read_class rs2 ∷ [] }) b = cc in
    subst (IsBound writes reads) same (record { write = lt; rs1 = read_low reads rs1 low1; rs2 = read_low reads rs2 low2 }))

bound_by : (ws : List Write) (reads : ℕ) (w rs1 rs2 : Option ℕ) (b : Binding) → IsPlace (length ws) w → IsPlace reads rs1 → IsPlace reads rs2 → answer_by ws w rs1 rs2 ≡ Class b → IsBound (length ws) reads b
bound_by ws reads None rs1 rs2 b low low1 low2 h = absurd cc
bound_by ws reads (Some k) rs1 rs2 b low low1 low2 h = bound_if reads k rs1 rs2 (length ws) b (low k refl) low1 low2 (is_unsupported (slice_get ws k)) h

nowhere : (n : ℕ) → IsPlace n None
nowhere n p h = absurd cc

default_at : (es : List Entry) (ds : List Defaults) (n : ℕ) → ArePlaces es ds
    → ((d : Defaults) × (n < length ds) × (slice_get ds n ≡ Some d) × (get_or ds n d ≡ d)) ⊎ ((length ds ≤ n) × (slice_get ds n ≡ None))
    → (e : Defaults) → ((d : Defaults) → slice_get ds n ≡ Some d → e ≡ d) → (slice_get ds n ≡ None → e ≡ no_defaults)
    → IsPlace (length (writes_of es)) e.write × IsPlace (length (advances_of es)) e.rs1 × IsPlace (length (advances_of es)) e.rs2
default_at es ds n places (inl (d, lt, at, _)) e there gone =
    (let same : e ≡ d = there d at in
    subst (λ x. IsPlace (length (writes_of es)) x.write × IsPlace (length (advances_of es)) x.rs1 × IsPlace (length (advances_of es)) x.rs2) (sym same)
    (places.written n d at, places.rs1 n d at, places.rs2 n d at))
default_at es ds n places (inr (past, none)) e there gone =
    (let same : e ≡ no_defaults = gone none in
    subst (λ x. IsPlace (length (writes_of es)) x.write × IsPlace (length (advances_of es)) x.rs1 × IsPlace (length (advances_of es)) x.rs2) (sym same)
    (nowhere (length (writes_of es)), nowhere (length (advances_of es)), nowhere (length (advances_of es))))

default_there : (ds : List Defaults) (n : ℕ) (d : Defaults) → slice_get ds n ≡ Some d → slice_index_or ds n no_defaults ≡ d
default_there [] n d h = absurd cc
default_there (x ∷ ds) zero d h = cc
default_there (x ∷ ds) (suc n) d h = default_there ds n d h

default_gone : (ds : List Defaults) (n : ℕ) → slice_get ds n ≡ None → slice_index_or ds n no_defaults ≡ no_defaults
default_gone [] n h = refl
default_gone (x ∷ ds) zero h = absurd cc
default_gone (x ∷ ds) (suc n) h = default_gone ds n h

bound_of : (es : List Entry) (ds : List Defaults) (n : ℕ) (b : Binding) → ArePlaces es ds → (o : Option Rewrite) → ((r : Rewrite) → o ≡ Some r → (k : ℕ) × (slice_get (rewrites_of es) k ≡ Some r))
    → answer_of (writes_of es) (slice_index_or ds n no_defaults) o ≡ Class b → IsBound (length (writes_of es)) (length (advances_of es)) b
bound_of es ds n b places None from h = (let low : _ = default_at es ds n places (slice_get_cases ds n).1 (slice_index_or ds n no_defaults) (default_there ds n) (default_gone ds n) in
    bound_by (writes_of es) (length (advances_of es)) _ _ _ b low.0 low.1 low.2 h)
bound_of es ds n b places (Some r) from h = go (from r refl)
  where
    go : (k : ℕ) × (slice_get (rewrites_of es) k ≡ Some r) → IsBound (length (writes_of es)) (length (advances_of es)) b
    go (k, at) = bound_by (writes_of es) (length (advances_of es)) r.write r.rs1 r.rs2 b (places.rewritten k r at) (places.rewritten_rs1 k r at) (places.rewritten_rs2 k r at) h

-- what a search finds stands in the list
pub found : {X : Type 0} (p : X → Bool) (xs : List X) (x : X) → find p xs ≡ Some x → (k : ℕ) × (slice_get xs k ≡ Some x)
found p xs x h = (position_or_len p xs, sym (find_at p xs) ∙ h)

pub binding_holds : (es : List Entry) (ds : List Defaults) (o : Op) (b : Binding) → ArePlaces es ds → class_for (writes_of es) (rewrites_of es) ds o ≡ Class b → IsBound (length (writes_of es)) (length (advances_of es)) b
binding_holds es ds o b places h = bound_of es ds (op_number o) b places (rewrite_for (rewrites_of es) o) (λ r e. found (λ x. list_any (same_op o) x.ops) (rewrites_of es) r e) h

-- advances

pub record IsGoodAdvance (a : Advance) : Type 0 where
  pub low : int_le (neg_ℤ (pos 1000)) a.cycles ≡ true
  pub high : int_le a.cycles (pos 1000) ≡ true

good_advance_if : (es : List Entry) (k : ℕ) (a : Advance) → (i : ℕ) × IsKind advance_in entry.Advance es k a i → IsGoodAdvance a
good_advance_if es k a (i, at) = (let ends : _ = inside (neg_ℤ (pos 1000)) (pos 1000) a.cycles at.sound.in_range in record { low = ends.0; high = ends.1 })

pub good_advance : (es : List Entry) → IsHealthy es → (k : ℕ) (a : Advance) → slice_get (advances_of es) k ≡ Some a → IsGoodAdvance a
good_advance es health k a h = good_advance_if es k a (kind_of advance_in entry.Advance is_advance_entry es health k a h)

abbrev pub IsSmall : ℤ → Type 0
IsSmall n = (int_le (neg_ℤ (pos 1000)) n ≡ true) × (int_le n (pos 1000) ≡ true)

small_or : (other : ℤ) (o : Option Advance) → IsSmall other → ((a : Advance) → o ≡ Some a → IsGoodAdvance a) → IsSmall (cycles_or other o)
small_or other None small good = small
small_or other (Some a) small good = ((good a refl).low, (good a refl).high)

found_good : (es : List Entry) → IsHealthy es → (p : Advance → Bool) (a : Advance) → (k : ℕ) × (slice_get (advances_of es) k ≡ Some a) → IsGoodAdvance a
found_good es health p a (k, at) = good_advance es health k a at

pub small_advance : (es : List Entry) → IsHealthy es → (r w : ℕ) → IsSmall (advance_after (advances_of es) r w)
small_advance es health r w = small_or (cycles_or (pos 0) (find (is_general r) (advances_of es))) (find (lists r w) (advances_of es))
    (small_or (pos 0) (find (is_general r) (advances_of es)) (refl, refl) (λ a e. found_good es health (is_general r) a (found (is_general r) (advances_of es) a e)))
    (λ a e. found_good es health (lists r w) a (found (lists r w) (advances_of es) a e))

none_found : {X : Type 0} (p : X → Bool) (xs : List X) → ((k : ℕ) (x : X) → slice_get xs k ≡ Some x → p x ≡ false) → find p xs ≡ None
none_found p [] none = refl
none_found p (x ∷ xs) none = rw (none 0 x refl) (none_found p xs (λ k y at. none (suc k) y at))

reads_of_none : (a : Advance) (n w : ℕ) → a.read < n → n ≤ 8192 → (is_general no_class a ≡ false) × (lists no_class w a ≡ false)
reads_of_none a n w lt few = (let other : nat_eq a.read no_class ≡ false = grind (arith, nat_tests, lt, few) in (rw other (both (not a.unsupported) a.general), rw other (both (not a.unsupported) (list_any (λ x. nat_eq x w) a.writes))))
  where
    both : (x y : Bool) → (x && false && y) ≡ false
    both true y = refl
    both false y = refl

pub no_advance : (as_ : List Advance) (w : ℕ) → length as_ ≤ 8192 → ((k : ℕ) (a : Advance) → slice_get as_ k ≡ Some a → a.read < length as_) → advance_after as_ no_class w ≡ pos 0
no_advance as_ w few low =
    let general : find (is_general no_class) as_ ≡ None = none_found (is_general no_class) as_ (λ k a at. (reads_of_none a (length as_) w (low k a at) few).0) in
    let listed : find (lists no_class w) as_ ≡ None = none_found (lists no_class w) as_ (λ k a at. (reads_of_none a (length as_) w (low k a at) few).1) in
    rw (general, listed) refl

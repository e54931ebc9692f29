-- The writes of a table without an illness.
use Rattle.std.proofs.Common.{◌≡◌, ℕ, ◌+◌, ◌∙◌, ◌-◌, ◌<◌, ◌≤◌, zero, suc, List, [], ◌∷◌, ◌++◌, length, true, false, None, Some, refl, sym, subst, ap, arith, pos}
use Rattle.std.specs.Prelude.{Option, drop, Contains, ℤ, nat_lt, not, take, replicate, slice_get, slice_index_or}
use Rattle.std.specs.List.{list_any}
use Rattle.std.proofs.lemmas.Bool.Decides.{nat_tests}
use Rattle.std.proofs.lemmas.Bool.{or_parts}
use Rattle.std.proofs.lemmas.List.{length-append, length-replicate, append_assoc}
use Rattle.machine_model.specs.Meaning.{MachineMeaning}
use Rattle.machine_model.specs.Uses.{can_be_met, units_of, share_unit}
use Rattle.machine_model.specs.Valid.{IsWrite, IsUse, no_use}
use Rattle.machine_model.specs.declared.facts.Use.{Use}
use Rattle.sched_checks.specs.Resources.{count_of, resources_of, place_or_first, uses_by, total, share}
use Rattle.sched_checks.specs.Checks.{is_outside, is_unknown}
use Rattle.sched_resolve.specs.declared.entry.Entry.{Entry}
use Rattle.sched_resolve.specs.declared.entry.Entry.TheVariants as entry
use Rattle.sched_resolve.specs.declared.entry.Write.{Write}
use Rattle.sched_validate.specs.Classes.{write_in, writes_of, eight, facts_of, hold_or_one}
use Rattle.sched_validate.proofs.Found.{IsKind, kind_of, is_write_entry}
use Rattle.sched_validate.proofs.Ranges.{inside, low_count, high_count, true_from_not}
use Rattle.sched_validate.proofs.Sound.{IsHealthy}
use Rattle.sched_validate.proofs.ListTests.{four_parts}

pub record IsGoodWrite (es : List Entry) (w : Write) : Type 0 where
  pub latency : count_of w.latency ≤ 1000000
  pub uops_low : 1 ≤ count_of w.micro_ops
  pub uops_high : count_of w.micro_ops ≤ 4096
  pub cycles : list_any (is_outside (pos 0) (pos 1000000)) w.cycles ≡ false
  pub few : length w.uses ≤ 8
  pub known : list_any is_unknown w.uses ≡ false
  pub met : can_be_met (total (resources_of es)) (share (resources_of es)) (uses_by w.uses w.cycles) ≡ true

good_write_if : (es : List Entry) (k : ℕ) (w : Write) → (i : ℕ) × IsKind write_in entry.Write es k w i → IsGoodWrite es w
good_write_if es k w (i, at) =
    let ranges : _ = four_parts (is_outside (pos 0) (pos 1000000) w.latency) (is_outside (pos 1) (pos 4096) w.micro_ops) (list_any (is_outside (pos 0) (pos 1000000)) w.cycles) (nat_lt 8 (length w.uses)) at.sound.in_range in
    let uops : _ = inside (pos 1) (pos 4096) w.micro_ops ranges.1 in
    record {
      latency = high_count 1000000 w.latency (inside (pos 0) (pos 1000000) w.latency ranges.0).1;
      uops_low = low_count 1 w.micro_ops uops.0;
      uops_high = high_count 4096 w.micro_ops uops.1;
      cycles = ranges.2;
      few = grind (arith, nat_tests, ranges.3);
      known = (or_parts (not w.in_model) (list_any is_unknown w.uses) at.sound.named).1;
      met = true_from_not (can_be_met (total (resources_of es)) (share (resources_of es)) (uses_by w.uses w.cycles)) at.sound.met;
    }

pub good_write : (es : List Entry) → IsHealthy es → (k : ℕ) (w : Write) → slice_get (writes_of es) k ≡ Some w → IsGoodWrite es w
good_write es health k w h = good_write_if es k w (kind_of write_in entry.Write is_write_entry es health k w h)

pub length_uses : (us : List (Option ℕ)) (cs : List ℤ) → length (uses_by us cs) ≡ length us
length_uses [] cs = refl
length_uses (u ∷ us) [] = omega (arith, length_uses us [])
length_uses (u ∷ us) (c ∷ cs) = omega (arith, length_uses us cs)

-- a use names a resource, and holds it for at most a million cycles
abbrev pub IsSmallUse : ℕ → Use → Type 0
IsSmallUse n w = (w.resource < n) × (w.hold ≤ 1000000)

place_low : (n : ℕ) (u : Option ℕ) → is_unknown u ≡ false → ((p : ℕ) → u ≡ Some p → p < n) → place_or_first u < n
place_low n None known low = let clash : true ≡ false = known in absurd cc
place_low n (Some p) known low = low p refl

later : (n : ℕ) (u : Option ℕ) (us : List (Option ℕ)) → ((p : ℕ) → Contains (u ∷ us) (Some p) → p < n) → (p : ℕ) → Contains us (Some p) → p < n
later n u us low p (k, lt, e) = low p (suc k, omega (arith, lt), e)

small_uses : (n : ℕ) (us : List (Option ℕ)) (cs : List ℤ) → list_any is_unknown us ≡ false → ((p : ℕ) → Contains us (Some p) → p < n) → list_any (is_outside (pos 0) (pos 1000000)) cs ≡ false
    → (i : ℕ) → i < length us → IsSmallUse n (slice_index_or (uses_by us cs) i no_use)
small_uses n [] cs known low cycles i lt = absurd (omega (arith, lt))
small_uses n (u ∷ us) [] known low cycles zero lt = (place_low n u (or_parts (is_unknown u) (list_any is_unknown us) known).0 (λ p e. low p (0, omega arith, e)), omega arith)
small_uses n (u ∷ us) [] known low cycles (suc i) lt = small_uses n us [] (or_parts (is_unknown u) (list_any is_unknown us) known).1 (later n u us low) refl i (omega (arith, lt))
small_uses n (u ∷ us) (c ∷ cs) known low cycles zero lt = (
  place_low n u (or_parts (is_unknown u) (list_any is_unknown us) known).0 (λ p e. low p (0, omega arith, e)),
  high_count 1000000 c (inside (pos 0) (pos 1000000) c (or_parts (is_outside (pos 0) (pos 1000000) c) (list_any (is_outside (pos 0) (pos 1000000)) cs) cycles).0).1,
)
small_uses n (u ∷ us) (c ∷ cs) known low cycles (suc i) lt = small_uses n us cs (or_parts (is_unknown u) (list_any is_unknown us) known).1 (later n u us low)
    (or_parts (is_outside (pos 0) (pos 1000000) c) (list_any (is_outside (pos 0) (pos 1000000)) cs) cycles).1 i (omega (arith, lt))

front : (us rest : List Use) (n : ℕ) → length us ≡ n → take n (us ++ rest) ≡ us
front [] rest zero e = refl
front [] rest (suc n) e = absurd (omega (arith, e))
front (u ∷ us) rest zero e = absurd (omega (arith, e))
front (u ∷ us) rest (suc n) e = ap (λ xs. u ∷ xs) (front us rest n (omega (arith, e)))

at_front : (us rest : List Use) (i : ℕ) → i < length us → slice_index_or (us ++ rest) i no_use ≡ slice_index_or us i no_use
at_front [] rest i lt = absurd (omega (arith, lt))
at_front (u ∷ us) rest zero lt = refl
at_front (u ∷ us) rest (suc i) lt = at_front us rest i (omega (arith, lt))

pub write_holds : (m : MachineMeaning) (es : List Entry) (w : Write) → IsGoodWrite es w → m.resource_count ≡ length (resources_of es) → units_of m ≡ total (resources_of es) → share_unit m ≡ share (resources_of es)
    → ((p : ℕ) → Contains w.uses (Some p) → p < length (resources_of es)) → IsWrite m (facts_of w)
write_holds m es w is count size shares low =
    let long : length (uses_by w.uses w.cycles) ≡ length w.uses = length_uses w.uses w.cycles in
    record {
      latency = is.latency;
      uops_low = is.uops_low;
      uops_high = is.uops_high;
      use_count = is.few;
      eight = omega (arith, length-append (uses_by w.uses w.cycles) (replicate (8 - length (uses_by w.uses w.cycles)) no_use), length-replicate (8 - length (uses_by w.uses w.cycles)) no_use, long, is.few);
      use_of = λ i lt. (let small : _ = small_uses (length (resources_of es)) w.uses w.cycles is.known low is.cycles i lt in
          let same : _ = at_front (uses_by w.uses w.cycles) (replicate (8 - length (uses_by w.uses w.cycles)) no_use) i (omega (arith, lt, long)) in
          subst (IsUse m) (sym same) (record { resource = omega (arith, small.0, count); hold = small.1 }));
      met = (let shown : take (length w.uses) (eight (uses_by w.uses w.cycles)) ≡ uses_by w.uses w.cycles = front (uses_by w.uses w.cycles) (replicate (8 - length (uses_by w.uses w.cycles)) no_use) (length w.uses) long in
          rw (shown, size, shares) is.met);
    }

-- a step along the uses of a write
drop_cycles : (k : ℕ) → drop {A = ℤ} k [] ≡ []
drop_cycles zero = refl
drop_cycles (suc k) = refl

uses_alone : (us : List (Option ℕ)) (k : ℕ) (d : Option ℕ) → k < length us
    → uses_by (drop k us) [] ≡ record { resource = place_or_first (slice_index_or us k d); hold = 1 } ∷ uses_by (drop (suc k) us) []
uses_alone [] k d lt = absurd (omega (arith, lt))
uses_alone (u ∷ us) zero d lt = refl
uses_alone (u ∷ us) (suc k) d lt = uses_alone us k d (omega (arith, lt))

uses_next : (us : List (Option ℕ)) (cs : List ℤ) (k : ℕ) (d : Option ℕ) → k < length us
    → uses_by (drop k us) (drop k cs) ≡ record { resource = place_or_first (slice_index_or us k d); hold = hold_or_one (slice_get cs k) } ∷ uses_by (drop (suc k) us) (drop (suc k) cs)
uses_next us [] k d lt = rw (drop_cycles k) (uses_alone us k d lt)
uses_next [] (c ∷ cs) k d lt = absurd (omega (arith, lt))
uses_next (u ∷ us) (c ∷ cs) zero d lt = refl
uses_next (u ∷ us) (c ∷ cs) (suc k) d lt = uses_next us cs k d (omega (arith, lt))

pub uses_more : (us : List (Option ℕ)) (cs : List ℤ) (k : ℕ) (d : Option ℕ) (front whole : List Use) → k < length us → front ++ uses_by (drop k us) (drop k cs) ≡ whole
    → (front ++ record { resource = place_or_first (slice_index_or us k d); hold = hold_or_one (slice_get cs k) } ∷ []) ++ uses_by (drop (k + 1) us) (drop (k + 1) cs) ≡ whole
uses_more us cs k d front whole lt e = (let s : k + 1 ≡ suc k = omega arith in
    subst (λ n. (front ++ record { resource = place_or_first (slice_index_or us k d); hold = hold_or_one (slice_get cs k) } ∷ []) ++ uses_by (drop n us) (drop n cs) ≡ whole) (sym s)
    (append_assoc front (record { resource = place_or_first (slice_index_or us k d); hold = hold_or_one (slice_get cs k) } ∷ []) (uses_by (drop (suc k) us) (drop (suc k) cs))
    ∙ ap (λ back. front ++ back) (sym (uses_next us cs k d lt)) ∙ e))

-- The widths and bounds of a table without an illness.
use Rattle.std.proofs.Common.{◌≡◌, ℕ, ◌≤◌, List, [], ◌∷◌, Bool, true, false, None, Some, refl, sym, subst, arith, nat_eq, pos}
use Rattle.std.specs.Prelude.{Option, ℤ, int_le, neg_ℤ, slice_get, if◌then◌else◌}
use Rattle.std.specs.List.{list_any}
use Rattle.std.proofs.lemmas.Bool.Decides.{nat_tests}
use Rattle.std.proofs.lemmas.Bool.{or_parts}
use Rattle.std.proofs.lemmas.Option.{get_or_from_slice_get}
use Rattle.machine_model.specs.Valid.{AreLimits}
use Rattle.machine_model.specs.declared.tuning.Tuning.{Tuning}
use Rattle.sched_checks.specs.Resources.{count_of, resources_of}
use Rattle.sched_checks.specs.Checks.{is_outside, is_model}
use Rattle.sched_resolve.specs.declared.entry.Entry.{Entry}
use Rattle.sched_resolve.specs.declared.entry.Entry.TheVariants as entry
use Rattle.sched_resolve.specs.declared.entry.Model.{Model}
use Rattle.sched_resolve.specs.declared.entry.Queue.{Queue}
use Rattle.sched_resolve.specs.declared.entry.Resource.{Resource}
use Rattle.sched_resolve.specs.declared.entry.Retirement.{Retirement}
use Rattle.sched_validate.specs.Lists.{model_in, models_of, retirement_in, retirements_of, load_queues_of, store_queues_of}
use Rattle.sched_validate.specs.Machine.{or_own, no_model, model_of, reorder_by, retire_by, buffer_at, bound_at, bound_by, limits_of}
use Rattle.sched_validate.proofs.Found.{IsKind, kind_of, is_model_entry, is_retirement_entry}
use Rattle.sched_validate.proofs.Ranges.{inside, low_count, high_count, not_zero}
use Rattle.sched_validate.proofs.GoodResources.{IsGood}
use Rattle.sched_validate.proofs.Sound.{IsHealthy}

pub record IsGoodModel (m : Model) : Type 0 where
  pub width_low : 1 ≤ count_of m.width
  pub width_high : count_of m.width ≤ 64
  pub buffer_low : 1 ≤ count_of m.buffer
  pub buffer_high : count_of m.buffer ≤ 4096

good_model_if : (es : List Entry) (k : ℕ) (m : Model) → (i : ℕ) × IsKind model_in entry.Model es k m i → IsGoodModel m
good_model_if es k m (i, at) =
    let ranges : _ = or_parts (is_outside (pos 1) (pos 64) m.width) (is_outside (pos 0) (pos 4096) m.buffer) at.sound.in_range in
    let width : _ = inside (pos 1) (pos 64) m.width ranges.0 in
    let buffer : _ = inside (pos 0) (pos 4096) m.buffer ranges.1 in
    record {
      width_low = low_count 1 m.width width.0;
      width_high = high_count 64 m.width width.1;
      buffer_low = not_zero m.buffer buffer.0 at.sound.out_of_order;
      buffer_high = high_count 4096 m.buffer buffer.1;
    }

-- there is a model among the entries
some_model : (es : List Entry) → list_any is_model es ≡ true → (m : Model) × (slice_get (models_of es) 0 ≡ Some m)
some_model [] h = absurd cc
some_model (entry.Model m ∷ es) h = (m, refl)
some_model (entry.Resource x ∷ es) h = some_model es h
some_model (entry.Write x ∷ es) h = some_model es h
some_model (entry.Advance x ∷ es) h = some_model es h
some_model (entry.File x ∷ es) h = some_model es h
some_model (entry.Retirement x ∷ es) h = some_model es h
some_model (entry.LoadQueue x ∷ es) h = some_model es h
some_model (entry.StoreQueue x ∷ es) h = some_model es h
some_model (entry.Rewrite x ∷ es) h = some_model es h
some_model (entry.Nothing ∷ es) h = some_model es h

good_model_at : (es : List Entry) → IsHealthy es → (m : Model) × (slice_get (models_of es) 0 ≡ Some m) → IsGoodModel (model_of es)
good_model_at es health (m, h) = (let same : model_of es ≡ m = get_or_from_slice_get (models_of es) 0 m no_model h in
    subst IsGoodModel (sym same) (good_model_if es 0 m (kind_of model_in entry.Model is_model_entry es health 0 m h)))

pub good_model : (es : List Entry) → IsHealthy es → IsGoodModel (model_of es)
good_model es health = good_model_at es health (some_model es health.model)

pub record IsGoodRetirement (r : Retirement) : Type 0 where
  pub entries_high : int_le r.entries (pos 4096) ≡ true
  pub width_high : count_of r.width ≤ 64

good_retirement_if : (es : List Entry) (k : ℕ) (r : Retirement) → (i : ℕ) × IsKind retirement_in entry.Retirement es k r i → IsGoodRetirement r
good_retirement_if es k r (i, at) =
    let ranges : _ = or_parts (is_outside (neg_ℤ (pos 1)) (pos 4096) r.entries) (is_outside (neg_ℤ (pos 1)) (pos 64) r.width) at.sound.in_range in
    record { entries_high = (inside (neg_ℤ (pos 1)) (pos 4096) r.entries ranges.0).1; width_high = high_count 64 r.width (inside (neg_ℤ (pos 1)) (pos 64) r.width ranges.1).1 }

good_retirement : (es : List Entry) → IsHealthy es → (k : ℕ) (r : Retirement) → slice_get (retirements_of es) k ≡ Some r → IsGoodRetirement r
good_retirement es health k r h = good_retirement_if es k r (kind_of retirement_in entry.Retirement is_retirement_entry es health k r h)

reorder_ends : (buffer : ℤ) (o : Option Retirement) → 1 ≤ count_of buffer → count_of buffer ≤ 4096 → ((r : Retirement) → o ≡ Some r → IsGoodRetirement r)
    → (1 ≤ count_of (reorder_by buffer o)) × (count_of (reorder_by buffer o) ≤ 4096)
reorder_ends buffer None low high good = (low, high)
reorder_ends buffer (Some r) low high good = go (int_le (pos 1) r.entries) refl
  where
    go : (b : Bool) → int_le (pos 1) r.entries ≡ b → (1 ≤ count_of (if b then r.entries else buffer)) × (count_of (if b then r.entries else buffer) ≤ 4096)
    go true e = (low_count 1 r.entries e, high_count 4096 r.entries (good r refl).entries_high)
    go false e = (low, high)

retire_end : (o : Option Retirement) → ((r : Retirement) → o ≡ Some r → IsGoodRetirement r) → retire_by o ≤ 64
retire_end None good = omega arith
retire_end (Some r) good = (good r refl).width_high

buffer_end : (rs : List Resource) (k : ℕ) (o : Option Resource) → slice_get rs k ≡ o → ((j : ℕ) (r : Resource) → slice_get rs j ≡ Some r → IsGood rs j r) → buffer_at o ≤ 4096
buffer_end rs k None e all = omega arith
buffer_end rs k (Some r) e all = high_count 4096 r.buffer (all k r e).buffer_high

bound_end_at : (rs : List Resource) (o : Option ℕ) → ((j : ℕ) (r : Resource) → slice_get rs j ≡ Some r → IsGood rs j r) → bound_at rs o ≤ 4096
bound_end_at rs None all = omega arith
bound_end_at rs (Some p) all = buffer_end rs p (slice_get rs p) refl all

bound_end : (rs : List Resource) (o : Option Queue) → ((j : ℕ) (r : Resource) → slice_get rs j ≡ Some r → IsGood rs j r) → bound_by rs o ≤ 4096
bound_end rs None all = omega arith
bound_end rs (Some q) all = bound_end_at rs q.resource all

own_high : (tuned own most : ℕ) → tuned ≤ most → own ≤ most → or_own tuned own ≤ most
own_high tuned own most a b = go (nat_eq tuned 0)
  where
    go : (c : Bool) → (if c then own else tuned) ≤ most
    go true = b
    go false = a

own_low : (tuned own : ℕ) → 1 ≤ own → 1 ≤ or_own tuned own
own_low tuned own a = grind (arith, nat_tests, a)

pub limits_hold : (es : List Entry) (t : Tuning) → IsHealthy es → ((j : ℕ) (r : Resource) → slice_get (resources_of es) j ≡ Some r → IsGood (resources_of es) j r) → AreLimits (limits_of es t)
limits_hold es t health all =
    let m : _ = good_model es health in
    let retirement : (r : Retirement) → slice_get (retirements_of es) 0 ≡ Some r → IsGoodRetirement r = λ r e. good_retirement es health 0 r e in
    let reorder : _ = reorder_ends (model_of es).buffer (slice_get (retirements_of es) 0) m.buffer_low m.buffer_high retirement in
    record {
      width_low = own_low t.dispatch (count_of (model_of es).width) m.width_low;
      width_high = own_high t.dispatch (count_of (model_of es).width) 64 t.in_range.dispatch m.width_high;
      reorder_low = reorder.0;
      reorder_high = reorder.1;
      retire = retire_end (slice_get (retirements_of es) 0) retirement;
      loads = own_high t.loads (bound_by (resources_of es) (slice_get (load_queues_of es) 0)) 4096 t.in_range.loads (bound_end (resources_of es) (slice_get (load_queues_of es) 0) all);
      stores = own_high t.stores (bound_by (resources_of es) (slice_get (store_queues_of es) 0)) 4096 t.in_range.stores (bound_end (resources_of es) (slice_get (store_queues_of es) 0) all);
      registers = t.in_range.registers;
    }

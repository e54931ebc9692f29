-- A table without an illness: each of its records passes every check.
use Rattle.std.proofs.Common.{◌≡◌, ℕ, ◌+◌, zero, suc, List, [], ◌∷◌, ◌++◌, Bool, true, false, None, Some, refl, sym, subst}
use Rattle.std.specs.Prelude.{Option, take, slice_get, if◌then◌else◌}
use Rattle.std.specs.List.{list_any}
use Rattle.std.proofs.lemmas.List.{append-nil, append_assoc}
use Rattle.sched_checks.specs.Checks.{is_model, two_models, unknown_name, no_units, group_of_group, list_lengths, zero_micro_ops, out_of_range, in_order_model, move_elimination, two_files, file_too_small, two_writes, two_advances, two_queues, use_cannot_be_met}
use Rattle.sched_checks.specs.Illness.{ill_kind, or_later, illness_from, illness_of}
use Rattle.sched_checks.specs.Resources.{resources_of}
use Rattle.sched_checks.specs.declared.illness.IllKind.{IllKind}
use Rattle.sched_checks.specs.declared.illness.TableIllness.{TableIllness}
use Rattle.sched_resolve.specs.declared.entry.Entry.{Entry}
use Rattle.sched_resolve.specs.declared.entry.Resource.{Resource}

-- no check finds anything
pub record IsSound (rs : List Resource) (earlier : List Entry) (e : Entry) : Type 0 where
  pub one_model : two_models earlier e ≡ false
  pub named : unknown_name e ≡ false
  pub some_units : no_units e ≡ false
  pub flat : group_of_group rs e ≡ false
  pub lengths : list_lengths e ≡ false
  pub micro_ops : zero_micro_ops e ≡ false
  pub in_range : out_of_range earlier e ≡ false
  pub out_of_order : in_order_model e ≡ false
  pub no_moves : move_elimination e ≡ false
  pub one_file : two_files earlier e ≡ false
  pub large : file_too_small e ≡ false
  pub one_write : two_writes earlier e ≡ false
  pub one_advance : two_advances e ≡ false
  pub one_queue : two_queues earlier e ≡ false
  pub met : use_cannot_be_met rs e ≡ false

passed : {A : Type 0} (b : Bool) (x : A) (rest : Option A) → (if b then Some x else rest) ≡ None → (b ≡ false) × (rest ≡ None)
passed true x rest h = absurd cc
passed false x rest h = (refl, h)

pub no_illness : (rs : List Resource) (earlier : List Entry) (e : Entry) → ill_kind rs earlier e ≡ None → IsSound rs earlier e
no_illness rs earlier e h =
    let p1 : _ = passed (two_models earlier e) _ _ h in
    let p2 : _ = passed (unknown_name e) _ _ p1.1 in
    let p3 : _ = passed (no_units e) _ _ p2.1 in
    let p4 : _ = passed (group_of_group rs e) _ _ p3.1 in
    let p5 : _ = passed (list_lengths e) _ _ p4.1 in
    let p6 : _ = passed (zero_micro_ops e) _ _ p5.1 in
    let p7 : _ = passed (out_of_range earlier e) _ _ p6.1 in
    let p8 : _ = passed (in_order_model e) _ _ p7.1 in
    let p9 : _ = passed (move_elimination e) _ _ p8.1 in
    let p10 : _ = passed (two_files earlier e) _ _ p9.1 in
    let p11 : _ = passed (file_too_small e) _ _ p10.1 in
    let p12 : _ = passed (two_writes earlier e) _ _ p11.1 in
    let p13 : _ = passed (two_advances e) _ _ p12.1 in
    let p14 : _ = passed (two_queues earlier e) _ _ p13.1 in
    let p15 : _ = passed (use_cannot_be_met rs e) _ _ p14.1 in
    record {
      one_model = p1.0;
      named = p2.0;
      some_units = p3.0;
      flat = p4.0;
      lengths = p5.0;
      micro_ops = p6.0;
      in_range = p7.0;
      out_of_order = p8.0;
      no_moves = p9.0;
      one_file = p10.0;
      large = p11.0;
      one_write = p12.0;
      one_advance = p13.0;
      one_queue = p14.0;
      met = p15.0;
    }

none_later : (n : ℕ) (o : Option IllKind) (later : Option TableIllness) → or_later n o later ≡ None → (o ≡ None) × (later ≡ None)
none_later n None later h = (refl, h)
none_later n (Some kind) later h = absurd cc

pub sound_from : (rs : List Resource) (n : ℕ) (earlier es : List Entry) → illness_from rs n earlier es ≡ None
    → (k : ℕ) (e : Entry) → slice_get es k ≡ Some e → IsSound rs (earlier ++ take k es) e
sound_from rs n earlier [] h k e at = absurd cc
sound_from rs n earlier (x ∷ xs) h zero e at =
    (let parts : _ = none_later n (ill_kind rs earlier x) (illness_from rs (n + 1) (earlier ++ x ∷ []) xs) h in
    let same : x ≡ e = cc in
    subst (λ y. IsSound rs (earlier ++ []) y) same (subst (λ front. IsSound rs front x) (sym (append-nil earlier)) (no_illness rs earlier x parts.0)))
sound_from rs n earlier (x ∷ xs) h (suc k) e at =
    (let parts : _ = none_later n (ill_kind rs earlier x) (illness_from rs (n + 1) (earlier ++ x ∷ []) xs) h in
    subst (λ front. IsSound rs front e) (append_assoc earlier (x ∷ []) (take k xs)) (sound_from rs (n + 1) (earlier ++ x ∷ []) xs parts.1 k e at))

-- a table without an illness has a model, and each record is sound behind those before it
pub record IsHealthy (es : List Entry) : Type 0 where
  pub model : list_any is_model es ≡ true
  pub sound : (k : ℕ) (e : Entry) → slice_get es k ≡ Some e → IsSound (resources_of es) (take k es) e

healthy_if : (es : List Entry) (b : Bool) → list_any is_model es ≡ b → (f : TableIllness) → (if b then illness_from (resources_of es) 1 [] es else Some f) ≡ None → IsHealthy es
healthy_if es true e f h = record { model = e; sound = sound_from (resources_of es) 1 [] es h }
healthy_if es false e f h = absurd cc

pub healthy : (es : List Entry) → illness_of es ≡ None → IsHealthy es
healthy es h = healthy_if es (list_any is_model es) refl _ h

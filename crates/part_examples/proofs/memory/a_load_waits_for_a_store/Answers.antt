use Rattle.std.proofs.Common.{◌≡◌, ℕ, [], ◌∷◌, true, false, refl, arith}
use Rattle.std.specs.List.{count_by}
use Rattle.rv_isa.specs.declared.facts.Kind.TheVariants.{Store}
use Rattle.cycle_rules.specs.Row.{is_load}
use Rattle.cycle_rules.specs.Dispatch.{has_room}
use Rattle.mem_queues.specs.Order.{MemRow}
use Rattle.part_examples.proofs.memory.a_load_waits_for_a_store.Goals as goal

no_bound : (held : ℕ) → has_room 0 held ≡ true
unfolding has_room
no_bound held = refl

abbrev store : MemRow
store = record { row = 0; kind = Store; issued = false; complete = 0 }

one_load : has_room 1 (count_by (λ (x : MemRow). is_load x.kind) (store ∷ [])) ≡ true
unfolding has_room is_load
one_load = refl

pub enter-requires : goal.enter-requires
enter-requires c = (_, _, [], c.in_ok-queues.ensures, no_bound 0, refl, omega arith, refl)

pub enter-requires-2 : goal.enter-requires-2
enter-requires-2 c =
    let s1 = c.enter.ensures _ _ [] c.in_ok-queues.ensures refl (omega arith) refl in
    (_, _, _, s1, one_load, refl, omega arith, refl)

pub may_issue-store-requires : goal.may_issue-store-requires
may_issue-store-requires c =
    let s1 = c.enter.ensures _ _ [] c.in_ok-queues.ensures refl (omega arith) refl in
    let s2 = c.enter-2.ensures _ _ _ s1 refl (omega arith) refl in
    (_, _, _, s2)

pub may_issue-before-requires : goal.may_issue-before-requires
may_issue-before-requires c =
    let s1 = c.enter.ensures _ _ [] c.in_ok-queues.ensures refl (omega arith) refl in
    let s2 = c.enter-2.ensures _ _ _ s1 refl (omega arith) refl in
    (_, _, _, s2)

pub issued-requires : goal.issued-requires
issued-requires c =
    let s1 = c.enter.ensures _ _ [] c.in_ok-queues.ensures refl (omega arith) refl in
    let s2 = c.enter-2.ensures _ _ _ s1 refl (omega arith) refl in
    (_, _, _, s2, omega arith, refl, refl)

pub may_issue-early-requires : goal.may_issue-early-requires
may_issue-early-requires c =
    let s1 = c.enter.ensures _ _ [] c.in_ok-queues.ensures refl (omega arith) refl in
    let s2 = c.enter-2.ensures _ _ _ s1 refl (omega arith) refl in
    let s3 = c.issued.ensures _ _ _ s2 (omega arith) refl refl in
    (_, _, _, s3)

pub may_issue-late-requires : goal.may_issue-late-requires
may_issue-late-requires c =
    let s1 = c.enter.ensures _ _ [] c.in_ok-queues.ensures refl (omega arith) refl in
    let s2 = c.enter-2.ensures _ _ _ s1 refl (omega arith) refl in
    let s3 = c.issued.ensures _ _ _ s2 (omega arith) refl refl in
    (_, _, _, s3)

-- Each test of an event that has not fallen is the same in two cycles between which no time of a row falls.
use Rattle.std.proofs.Common.{zero, suc, ◌≡◌, ℕ, ◌+◌, ◌/◌, ◌%◌, ◌<◌, ◌≤◌, inl, inr, List, [], ◌∷◌, ◌++◌, arith, sym, ◌∙◌, ap, subst, refl, Bool, true, false, ◌&&◌, ◌||◌, not}
use Rattle.std.specs.Prelude.{nat_lt, nat_le, nat_eq, if◌then◌else◌, Option, Some, None, is_some}
use Rattle.std.specs.List.{list_all, list_any}
use Rattle.std.proofs.lemmas.Bool.Decides.{nat_tests}
use Rattle.std.proofs.lemmas.Bool.{cases_Bool, le-leb, lt-ltb, eqb-false}
use Rattle.std.proofs.lemmas.List.Folds.{list_any-append}
use Rattle.rv_isa.specs.declared.facts.Kind.{Kind}
use Rattle.rv_isa.specs.declared.facts.Kind.TheVariants.{Plain, Load, Store, Barrier}
use Rattle.cycle_rules.specs.Below.{count_below}
use Rattle.cycle_rules.specs.Row.{Input, uops_of, phase, lead, advance_of}
use Rattle.cycle_rules.specs.Dispatch.{has_room, follows, can_dispatch}
use Rattle.cycle_rules.specs.Issue.{producer, is_ready, has_operand, has_operands, is_fenced, Older, memory_order, may_access, can_start, can_issue}
use Rattle.cycle_rules.specs.Retire.{can_retire}
use Rattle.cycle_rules.specs.Pick.{pick}
use Rattle.cycle_rules.specs.Schedule.{Fall, Known}
use Rattle.cycle_rules.specs.Events.{cycle_or, known_of, in_cycle, may_fall}
use Rattle.event_rules.specs.Due.{following, only_if, comes_next, is_ordered, later_by, later, read_after, read_from, all_read_from, ready_from, listed, changes, dispatch_times, is_front, is_waiting, issue_times, due_times, none_of}
use Rattle.cycle_rules.specs.declared.bound.Source.{Source}
use Rattle.event_rules.proofs.Same.{count_same, all_same, follows_same}
use Rattle.event_rules.proofs.Views.{SameOlder, view_dispatch}
use Rattle.event_rules.proofs.Reached.{Early, Avoids, gt_still, le_still, lt_still, eq_still, le_avoids, completes_still, completed_still, share_still}
use Rattle.event_rules.proofs.TakenStill.{or_parts, still_pick}
use Rattle.cycle_rules.proofs.Rows.{phase_reserved, phase_free}
use Rattle.cycle_rules.proofs.Falls.{apart}

-- what is known fell before a, and no time of a row falls after a, as far as b
pub record IsStill (g : Input) (known : Known (List ℕ)) (a b : ℕ) : Type 0 where
  pub order : a ≤ b
  pub retires : (k : ℕ) → Early a (known_of g known 0 k)
  pub issues : (k : ℕ) → Early a (known_of g known (phase (g.row k)) k)
  pub dispatches : (k : ℕ) → Early a (known_of g known 2 k)
  pub none : (x k : ℕ) → a < x → x ≤ b → k < g.rows → none_of g known x k ≡ true

-- The times of a row

not_true : (b : Bool) → not b ≡ true → b ≡ false
not_true false e = refl
not_true true e = cc

pub record NotAmong (g : Input) (known : Known (List ℕ)) (x k : ℕ) : Type 0 where
  pub dispatch : list_any (nat_eq x) (following (known_of g known 2 k) (dispatch_times g k)) ≡ false
  pub issue : list_any (nat_eq x) (following (known_of g known (phase (g.row k)) k) (issue_times g known k)) ≡ false
  pub retire : list_any (nat_eq x) (following (known_of g known 0 k) (λ t. (t + 1) ∷ [])) ≡ false
  pub ready : list_any (nat_eq x) (only_if (is_waiting g known k) (listed (ready_from g known k))) ≡ false

among : (x : ℕ) (ks bs cs ds : List ℕ) → list_any (nat_eq x) (ks ++ bs ++ cs ++ ds) ≡ false → (list_any (nat_eq x) ks ≡ false) × (list_any (nat_eq x) bs ≡ false) × (list_any (nat_eq x) cs ≡ false) × (list_any (nat_eq x) ds ≡ false)
among x ks bs cs ds h =
    let p : _ = or_parts _ _ (sym (list_any-append (nat_eq x) (ks ++ bs ++ cs) ds) ∙ h) in
    let q : _ = or_parts _ _ (sym (list_any-append (nat_eq x) (ks ++ bs) cs) ∙ p.0) in
    let r : _ = or_parts _ _ (sym (list_any-append (nat_eq x) ks bs) ∙ q.0) in (r.0, r.1, q.1, p.1)

pub not_among : (g : Input) (known : Known (List ℕ)) (x k : ℕ) → none_of g known x k ≡ true → NotAmong g known x k
unfolding due_times
not_among g known x k h = let p : _ = among x _ _ _ _ (not_true _ h) in record { dispatch = p.0; issue = p.1; retire = p.2; ready = p.3 }

pub of_fall : (x : ℕ) (times : ℕ → List ℕ) (o : Option (Fall (List ℕ))) (f : Fall (List ℕ)) → o ≡ Some f → list_any (nat_eq x) (following o times) ≡ false → list_any (nat_eq x) (times f.cycle) ≡ false
of_fall x times o f is h = rw is at h

one_time : (x : ℕ) (b : Bool) (n : ℕ) → list_any (nat_eq x) (only_if b (n ∷ [])) ≡ false → b ≡ true → x ≡ n → ⊥
one_time x true n e is = eqb-false _ _ (or_parts _ _ e).0
one_time x false n e is = absurd (apart (sym is))

share_parts : (g : Input) (x k d : ℕ) → list_any (nat_eq x) (dispatch_times g k d) ≡ false
    → (0 < uops_of g k / g.machine.limits.width → x ≡ d + uops_of g k / g.machine.limits.width → ⊥) × (0 < uops_of g k % g.machine.limits.width → x ≡ d + uops_of g k / g.machine.limits.width + 1 → ⊥)
share_parts g x k d h =
    let w : ℕ = g.machine.limits.width in let u : ℕ = uops_of g k in
    let p : _ = or_parts _ _ (sym (list_any-append (nat_eq x) (only_if (nat_lt 0 (u / w)) ((d + u / w) ∷ [])) (only_if (nat_lt 0 (u % w)) ((d + u / w + 1) ∷ []))) ∙ (or_parts _ _ h).1) in
    (λ more. one_time x (nat_lt 0 (u / w)) (d + u / w) p.0 (lt-ltb 0 (u / w) more), λ more. one_time x (nat_lt 0 (u % w)) (d + u / w + 1) p.1 (lt-ltb 0 (u % w) more))

first_part : (g : Input) (known : Known (List ℕ)) (a b k : ℕ) → IsStill g known a b → k < g.rows → (f : Fall (List ℕ)) → known_of g known 2 k ≡ Some f → 0 < uops_of g k / g.machine.limits.width → Avoids a b (f.cycle + uops_of g k / g.machine.limits.width)
first_part g known a b k s lk f is more x lo hi = (share_parts g x k f.cycle (of_fall x (dispatch_times g k) _ f is (not_among g known x k (s.none x k lo hi lk)).dispatch)).0 more

second_part : (g : Input) (known : Known (List ℕ)) (a b k : ℕ) → IsStill g known a b → k < g.rows → (f : Fall (List ℕ)) → known_of g known 2 k ≡ Some f → 0 < uops_of g k % g.machine.limits.width → Avoids a b (f.cycle + uops_of g k / g.machine.limits.width + 1)
second_part g known a b k s lk f is more x lo hi = (share_parts g x k f.cycle (of_fall x (dispatch_times g k) _ f is (not_among g known x k (s.none x k lo hi lk)).dispatch)).1 more

record NotIssued (g : Input) (known : Known (List ℕ)) (x k i : ℕ) : Type 0 where
  completes : is_ordered (g.row k).kind ≡ true → x ≡ i + (g.row k).latency → ⊥
  completed : is_front g known k ≡ true → x ≡ i + (g.row k).latency + 1 → ⊥
  changed : list_any (nat_eq x) (changes i (g.row k).uses) ≡ false

issue_parts : (g : Input) (known : Known (List ℕ)) (x k i : ℕ) → list_any (nat_eq x) (issue_times g known k i) ≡ false → NotIssued g known x k i
issue_parts g known x k i h =
    let tail : list_any (nat_eq x) (only_if (is_ordered (g.row k).kind) ((i + (g.row k).latency) ∷ []) ++ only_if (is_front g known k) ((i + (g.row k).latency + 1) ∷ []) ++ changes i (g.row k).uses) ≡ false = (or_parts _ _ h).1 in
    let p : _ = or_parts _ _ (sym (list_any-append (nat_eq x) (only_if (is_ordered (g.row k).kind) ((i + (g.row k).latency) ∷ []) ++ only_if (is_front g known k) ((i + (g.row k).latency + 1) ∷ [])) (changes i (g.row k).uses)) ∙ tail) in
    let q : _ = or_parts _ _ (sym (list_any-append (nat_eq x) (only_if (is_ordered (g.row k).kind) ((i + (g.row k).latency) ∷ [])) (only_if (is_front g known k) ((i + (g.row k).latency + 1) ∷ []))) ∙ p.0) in
    record { completes = λ is. one_time x (is_ordered (g.row k).kind) (i + (g.row k).latency) q.0 is; completed = λ is. one_time x (is_front g known k) (i + (g.row k).latency + 1) q.1 is; changed = p.1 }

at_issue : (g : Input) (known : Known (List ℕ)) (a b x k : ℕ) → IsStill g known a b → a < x → x ≤ b → k < g.rows → (f : Fall (List ℕ)) → known_of g known (phase (g.row k)) k ≡ Some f → NotIssued g known x k f.cycle
at_issue g known a b x k s lo hi lk f is = issue_parts g known x k f.cycle (of_fall x (issue_times g known k) _ f is (not_among g known x k (s.none x k lo hi lk)).issue)

-- Operands

abbrev pub reached : ℕ → Option ℕ → Bool
reached c None = false
reached c (Some x) = nat_le x c

one_operand : (g : Input) (known : Known (List ℕ)) (j c : ℕ) (s : Source) → has_operand g (in_cycle g c known) j c s ≡ reached c (read_from g known j s)
unfolding has_operand
one_operand g known j c s = go (nat_eq s.reg 0) (producer g j s.reg)
  where
    at_fall : (n : ℕ) (o : Option (Fall (List ℕ))) → nat_le (cycle_or (c + 1) o + n) c ≡ reached c (later_by n o)
    at_fall n None = grind (arith, nat_tests)
    at_fall n (Some f) = refl

    go : (b : Bool) (o : Option ℕ) → (b || is_ready g (in_cycle g c known) c s.read o) ≡ reached c (if b then Some 0 else read_after g known s.read o)
    go true o = sym (le-leb 0 c (omega arith))
    go false None = sym (le-leb 0 c (omega arith))
    go false (Some k) = at_fall (lead (g.row k).latency (advance_of g.machine s.read (g.row k).write)) (known_of g known (phase (g.row k)) k)

all_operands : (g : Input) (known : Known (List ℕ)) (j c : ℕ) (reads : List Source) → list_all (has_operand g (in_cycle g c known) j c) reads ≡ reached c (all_read_from g known j reads)
all_operands g known j c [] = sym (le-leb 0 c (omega arith))
all_operands g known j c (s ∷ rest) = rw (one_operand g known j c s, all_operands g known j c rest) (both (read_from g known j s) (all_read_from g known j rest))
  where
    and_false : (b : Bool) → (b && false) ≡ false
    and_false true = refl
    and_false false = refl

    both : (x y : Option ℕ) → (reached c x && reached c y) ≡ reached c (later x y)
    both (Some x) (Some y) = grind (arith, nat_tests)
    both (Some x) None = and_false (nat_le x c)
    both None y = refl

-- a row's operands are there from the time on at which the last of them is ready
pub operands_from : (g : Input) (known : Known (List ℕ)) (j c : ℕ) → has_operands g (in_cycle g c known) j c ≡ reached c (ready_from g known j)
unfolding has_operands
operands_from g known j c = all_operands g known j c (g.row j).reads

still_operands : (g : Input) (known : Known (List ℕ)) (a b j : ℕ) → IsStill g known a b → j < g.rows → is_waiting g known j ≡ true → has_operands g (in_cycle g a known) j a ≡ has_operands g (in_cycle g b known) j b
still_operands g known a b j s lj waits = operands_from g known j a ∙ go (ready_from g known j) (λ x lo hi. listed_part x (not_among g known x j (s.none x j lo hi lj)).ready) ∙ sym (operands_from g known j b)
  where
    listed_part : (x : ℕ) → list_any (nat_eq x) (only_if (is_waiting g known j) (listed (ready_from g known j))) ≡ false → list_any (nat_eq x) (listed (ready_from g known j)) ≡ false
    listed_part x h = rw waits at h

    go : (o : Option ℕ) → ((x : ℕ) → a < x → x ≤ b → list_any (nat_eq x) (listed o) ≡ false) → reached a o ≡ reached b o
    go None h = refl
    go (Some n) h = le_avoids a b n s.order (λ x lo hi. eqb-false _ _ (or_parts _ _ (h x lo hi)).0)

-- Memory

-- the completion of a row matters only where it takes part in the order of memory
abbrev older_of : Bool → Bool → Bool → Bool → Older
older_of n f i d = record { may_pass = n; fenced = f; issued = i; completed = d }

order_still : (x y : Kind) (n f i j d e : Bool) → i ≡ j → (is_ordered y ≡ true → d ≡ e) → memory_order x y (older_of n f i d) ≡ memory_order x y (older_of n f j e)
unfolding memory_order
order_still Plain Plain n f i j d e p q = refl
order_still Load Plain n f i j d e p q = refl
order_still Store Plain n f i j d e p q = refl
order_still Barrier Plain n f i j d e p q = refl
order_still x Load n f i j d e p q = ap (λ z. memory_order x Load (older_of n f z d)) p ∙ ap (λ z. memory_order x Load (older_of n f j z)) (q refl)
order_still x Store n f i j d e p q = ap (λ z. memory_order x Store (older_of n f z d)) p ∙ ap (λ z. memory_order x Store (older_of n f j z)) (q refl)
order_still x Barrier n f i j d e p q = ap (λ z. memory_order x Barrier (older_of n f z d)) p ∙ ap (λ z. memory_order x Barrier (older_of n f j z)) (q refl)

still_access : (g : Input) (known : Known (List ℕ)) (a b j : ℕ) → IsStill g known a b → j < g.rows → may_access g (in_cycle g a known) j a ≡ may_access g (in_cycle g b known) j b
unfolding may_access
still_access g known a b j s lj = all_same j _ _ (λ k lk. order_still (g.row j).kind (g.row k).kind g.machine.limits.no_alias (is_fenced g k j) _ _ _ _
    (le_still a b (known_of g known (phase (g.row k)) k) s.order (s.issues k))
    (λ ordered. completes_still a b (g.row k).latency (known_of g known (phase (g.row k)) k) s.order (λ f is x lo hi. (at_issue g known a b x k s lo hi (omega arith) f is).completes ordered)))

still_units_of : (g : Input) (known : Known (List ℕ)) (a b j : ℕ) → IsStill g known a b → pick g (in_cycle g a known) j a ≡ pick g (in_cycle g b known) j b
still_units_of g known a b j s = still_pick g known a b j s.order s.issues (λ x k lo hi lk f is. (at_issue g known a b x k s lo hi lk f is).changed)

pub still_issue : (g : Input) (known : Known (List ℕ)) (a b j : ℕ) → IsStill g known a b → j < g.rows → is_waiting g known j ≡ true → can_start g (in_cycle g a known) j a ≡ can_start g (in_cycle g b known) j b
unfolding can_start
still_issue g known a b j s lj waits = rw (still_operands g known a b j s lj waits, still_access g known a b j s lj, still_units_of g known a b j s) refl

-- Events

-- a row that is not reserved issues: it has dispatched, and waits
still_leave : (g : Input) (known : Known (List ℕ)) (a b j : ℕ) → IsStill g known a b → j < g.rows → (g.row j).reserved ≡ false → known_of g known (phase (g.row j)) j ≡ None
    → can_issue g (in_cycle g a known) j a ≡ can_issue g (in_cycle g b known) j b
unfolding can_issue
still_leave g known a b j s lj free none =
    rw (lt_still a b (known_of g known 2 j) s.order (s.dispatches j)) (go (known_of g known 2 j) refl)
  where
    waiting : (f : Fall (List ℕ)) → known_of g known 2 j ≡ Some f → is_waiting g known j ≡ true
    waiting f is = rw (none, free, is) refl

    go : (o : Option (Fall (List ℕ))) → known_of g known 2 j ≡ o → (nat_lt (cycle_or (b + 1) o) b && can_start g (in_cycle g a known) j a) ≡ (nat_lt (cycle_or (b + 1) o) b && can_start g (in_cycle g b known) j b)
    go None is = let x : nat_lt (b + 1) b ≡ false = grind (arith, nat_tests) in rw x refl
    go (Some f) is = rw (still_issue g known a b j s lj (waiting f is)) refl

older : (g : Input) (known : Known (List ℕ)) (a b j : ℕ) → IsStill g known a b → j < g.rows → (k : ℕ) → k < j → SameOlder g (in_cycle g a known) (in_cycle g b known) a b k
older g known a b j s lj k lk = record {
  shares = share_still g.machine.limits.width (uops_of g k) a b (known_of g known 2 k) s.order (s.dispatches k) (first_part g known a b k s (omega arith)) (second_part g known a b k s (omega arith));
  holds = gt_still a b (known_of g known 0 k) s.order (s.retires k);
  waits = gt_still a b (known_of g known (phase (g.row k)) k) s.order (s.issues k);
  order = le_still a b (known_of g known 2 k) s.order (s.dispatches k);
}

-- the row before has had its event where the order asks for it
comes_of : (g : Input) (known : Known (List ℕ)) (q j c : ℕ) → follows (λ k. cycle_or (c + 1) (known_of g known q k)) j c ≡ true → comes_next g known q j ≡ true
unfolding follows
comes_of g known q zero c h = refl
comes_of g known q (suc k) c h = go (known_of g known q k) h
  where
    go : (o : Option (Fall (List ℕ))) → nat_le (cycle_or (c + 1) o) c ≡ true → is_some o ≡ true
    go (Some f) e = refl
    go None e = grind (arith, nat_tests, e)

still_dispatch : (g : Input) (known : Known (List ℕ)) (a b j : ℕ) → IsStill g known a b → j < g.rows → known_of g known 2 j ≡ None → can_dispatch g (in_cycle g a known) j a ≡ can_dispatch g (in_cycle g b known) j b
still_dispatch g known a b j s lj none = view_dispatch g (in_cycle g a known) (in_cycle g b known) a b j (older g known a b j s lj)
    (λ reserved turn. still_issue g known a b j s lj (waiting reserved (comes_of g known 2 j b turn)))
  where
    waiting : (g.row j).reserved ≡ true → comes_next g known 2 j ≡ true → is_waiting g known j ≡ true
    waiting reserved comes = rw (phase_reserved (g.row j) reserved, none, reserved, comes) refl

still_retire : (g : Input) (known : Known (List ℕ)) (a b j : ℕ) → IsStill g known a b → j < g.rows → known_of g known 0 j ≡ None → can_retire g (in_cycle g a known) j a ≡ can_retire g (in_cycle g b known) j b
unfolding can_retire
still_retire g known a b j s lj none =
    let order : follows (λ k. (in_cycle g a known k).retire) j a ≡ follows (λ k. (in_cycle g b known k).retire) j b
    = follows_same _ _ j a b (λ k lk. le_still a b (known_of g known 0 k) s.order (s.retires k)) in
    let count : count_below j (λ k. nat_eq (in_cycle g a known k).retire a) ≡ count_below j (λ k. nat_eq (in_cycle g b known k).retire b)
    = count_same j _ _ (λ k lk. eq_still a b (known_of g known 0 k) s.order (s.retires k)) in
    rw (order, count) (go (follows (λ k. (in_cycle g b known k).retire) j b) (has_room g.machine.limits.retire (count_below j (λ k. nat_eq (in_cycle g b known k).retire b))) refl)
  where
    completed : comes_next g known 0 j ≡ true → nat_lt (in_cycle g a known j).complete a ≡ nat_lt (in_cycle g b known j).complete b
    completed comes = let front : is_front g known j ≡ true = rw (none, comes) refl in
        completed_still a b (g.row j).latency (known_of g known (phase (g.row j)) j) s.order (λ f is x lo hi. (at_issue g known a b x j s lo hi lj f is).completed front)

    false_and : (x : Bool) → (x && false) ≡ false
    false_and true = refl
    false_and false = refl

    go : (y z : Bool) → follows (λ k. (in_cycle g b known k).retire) j b ≡ y → (nat_lt (in_cycle g a known j).complete a && y && z) ≡ (nat_lt (in_cycle g b known j).complete b && y && z)
    go true z e = rw (completed (comes_of g known 0 j b e)) refl
    go false z e = rw (false_and (nat_lt (in_cycle g a known j).complete a), false_and (nat_lt (in_cycle g b known j).complete b)) refl

-- an event that has not fallen may fall in both or in neither
pub still_falls : (g : Input) (known : Known (List ℕ)) (a b p j : ℕ) → IsStill g known a b → p < 3 → j < g.rows → known_of g known p j ≡ None → may_fall g known a p j ≡ may_fall g known b p j
still_falls g known a b zero j s three lj none = still_retire g known a b j s lj none
still_falls g known a b (suc zero) j s three lj none = elim (cases_Bool (g.row j).reserved) [
  | inl reserved ↦ rw reserved refl
  | inr free ↦ rw free (still_leave g known a b j s lj free (subst (λ p. known_of g known p j ≡ None) (sym (phase_free (g.row j) free)) none))
]
still_falls g known a b (suc (suc zero)) j s three lj none = still_dispatch g known a b j s lj none
still_falls g known a b (suc (suc (suc p))) j s three lj none = absurd (omega arith)

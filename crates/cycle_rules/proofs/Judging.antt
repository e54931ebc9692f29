-- Whether a row may take a step, by the tests of the rows that are given.
use Rattle.std.proofs.Common.{zero, suc, ◌≡◌, ℕ, ◌+◌, ◌<◌, ◌≤◌, max, inl, inr, List, arith, sym, ◌∙◌, ap, refl, Bool, true, false, ◌&&◌}
use Rattle.std.specs.Prelude.{nat_lt, nat_le, nat_eq, if◌then◌else◌, Option, Some, None, is_some, IfSome, IfNone}
use Rattle.std.specs.Bool.{Decides}
use Rattle.std.proofs.lemmas.Bool.Decides.{nat_tests}
use Rattle.std.proofs.lemmas.Bool.{cases_lt, and_parts}
use Rattle.cycle_rules.specs.Below.{count_below, Least}
use Rattle.cycle_rules.specs.Given.{has_all_room, earlier_at}
use Rattle.cycle_rules.specs.Dispatch.{can_dispatch, follows, has_room, fits_group, fits_reorder, fits_registers, fits_loads, fits_stores, fits_buffers}
use Rattle.cycle_rules.specs.Issue.{can_issue, can_start, has_operands, may_access}
use Rattle.cycle_rules.specs.Pick.{pick, pick_units}
use Rattle.cycle_rules.specs.Retire.{can_retire}
use Rattle.cycle_rules.specs.Row.{Input, Table}
use Rattle.cycle_rules.specs.Seen.{sees}
use Rattle.machine_model.specs.declared.facts.Use.{Use}
use Rattle.cycle_rules.proofs.Tests.{and_false}
use Rattle.cycle_rules.proofs.SeenRows.{follows_dispatch, group_seen, reorder_seen, registers_seen, loads_seen, stores_seen, buffers_seen, dispatch_before, retire_seen}

pub pick_is : (g : Input) (t : Table) (c p j : ℕ) (uses : List Use) → uses ≡ (g.row j).uses → pick_units g.machine (earlier_at g t c p j) c uses ≡ pick g (sees g t p j c) j c
unfolding pick
pick_is g t c p j uses e = ap (pick_units g.machine (earlier_at g t c p j) c) e

pub some_is : (o p : Option (List ℕ)) (b : Bool) → b ≡ is_some o → IfNone o (p ≡ None) → IfSome o (λ us. is_some p ≡ true) → b ≡ is_some p
some_is (Some us) p b e none some = e ∙ sym some
some_is None p b e none some = e ∙ sym (ap is_some none)

pub start_no_operands : (g : Input) (s : Table) (j c : ℕ) → has_operands g s j c ≡ false → false ≡ can_start g s j c
unfolding can_start
start_no_operands g s j c h = rw h refl

pub start_no_access : (g : Input) (s : Table) (j c : ℕ) → has_operands g s j c ≡ true → may_access g s j c ≡ false → false ≡ can_start g s j c
unfolding can_start
start_no_access g s j c h a = rw (h, a) refl

pub start_by_units : (g : Input) (s : Table) (j c : ℕ) (b : Bool) → has_operands g s j c ≡ true → may_access g s j c ≡ true → b ≡ is_some (pick g s j c) → b ≡ can_start g s j c
unfolding can_start
start_by_units g s j c b h a e = rw (h, a) e

pub follows_first : (f : ℕ → ℕ) (j c : ℕ) → j ≡ 0 → true ≡ follows f j c
unfolding follows
follows_first f zero c e = refl
follows_first f (suc k) c e = absurd (omega arith)

pub follows_next : (f : ℕ → ℕ) (j k c n : ℕ) → j ≡ k + 1 → n ≡ f k → nat_le n c ≡ follows f j c
unfolding follows
follows_next f zero k c n e is = absurd (omega arith)
follows_next f (suc i) k c n e is = let same : k ≡ i = omega arith in rw (is, same) refl

-- Dispatch

pub dispatch_is : (g : Input) (t : Table) (j c : ℕ) → j < g.rows → can_dispatch g (sees g t 2 j c) j c
    ≡ (follows (λ k. (t k).dispatch) j c && has_all_room g t j c && (if (g.row j).reserved then can_start g (sees g t 2 j c) j c else fits_buffers g t j c))
unfolding can_dispatch
dispatch_is g t j c lt = (λ i. follows_dispatch g t j c lt i && group_seen g t j c lt i && reorder_seen g t j c lt i && registers_seen g t j c lt i && loads_seen g t j c lt i && stores_seen g t j c lt i
    && (if (g.row j).reserved then can_start g (sees g t 2 j c) j c else buffers_seen g t j c lt i))
    ∙ grouped (follows (λ k. (t k).dispatch) j c) (fits_group g t j c) (fits_reorder g t j c) (fits_registers g t j c) (fits_loads g t j c) (fits_stores g t j c) (if (g.row j).reserved then can_start g (sees g t 2 j c) j c else fits_buffers g t j c)
  where
    grouped : (a b d e f h i : Bool) → (a && b && d && e && f && h && i) ≡ (a && (b && d && e && f && h) && i)
    grouped true b d e f h i = refl
    grouped false b d e f h i = refl

pub dispatch_early : (g : Input) (t : Table) (j c : ℕ) → j < g.rows → follows (λ k. (t k).dispatch) j c ≡ false → false ≡ can_dispatch g (sees g t 2 j c) j c
dispatch_early g t j c lt h = sym (dispatch_is g t j c lt ∙ rw h refl)

pub dispatch_no_room : (g : Input) (t : Table) (j c : ℕ) → j < g.rows → follows (λ k. (t k).dispatch) j c ≡ true → has_all_room g t j c ≡ false → false ≡ can_dispatch g (sees g t 2 j c) j c
dispatch_no_room g t j c lt h r = sym (dispatch_is g t j c lt ∙ ap (λ b. b && has_all_room g t j c && (if (g.row j).reserved then can_start g (sees g t 2 j c) j c else fits_buffers g t j c)) h
    ∙ ap (λ b. b && (if (g.row j).reserved then can_start g (sees g t 2 j c) j c else fits_buffers g t j c)) r)

dispatch_last : (g : Input) (t : Table) (j c : ℕ) → j < g.rows → follows (λ k. (t k).dispatch) j c ≡ true → has_all_room g t j c ≡ true
    → can_dispatch g (sees g t 2 j c) j c ≡ (if (g.row j).reserved then can_start g (sees g t 2 j c) j c else fits_buffers g t j c)
dispatch_last g t j c lt h r = dispatch_is g t j c lt ∙ ap (λ b. b && has_all_room g t j c && (if (g.row j).reserved then can_start g (sees g t 2 j c) j c else fits_buffers g t j c)) h
    ∙ ap (λ b. b && (if (g.row j).reserved then can_start g (sees g t 2 j c) j c else fits_buffers g t j c)) r

pub dispatch_reserved : (g : Input) (t : Table) (j c : ℕ) (b r : Bool) → j < g.rows → follows (λ k. (t k).dispatch) j c ≡ true → has_all_room g t j c ≡ true → r ≡ (g.row j).reserved → r ≡ true → b ≡ can_start g (sees g t 2 j c) j c → b ≡ can_dispatch g (sees g t 2 j c) j c
dispatch_reserved g t j c b r lt h room e is start = start ∙ sym (dispatch_last g t j c lt h room ∙ ap (λ x. if x then can_start g (sees g t 2 j c) j c else fits_buffers g t j c) (sym e ∙ is))

pub dispatch_free : (g : Input) (t : Table) (j c : ℕ) (b r : Bool) → j < g.rows → follows (λ k. (t k).dispatch) j c ≡ true → has_all_room g t j c ≡ true → r ≡ (g.row j).reserved → r ≡ false → b ≡ fits_buffers g t j c → b ≡ can_dispatch g (sees g t 2 j c) j c
dispatch_free g t j c b r lt h room e is start = start ∙ sym (dispatch_last g t j c lt h room ∙ ap (λ x. if x then can_start g (sees g t 2 j c) j c else fits_buffers g t j c) (sym e ∙ is))

-- Issue

pub issue_is : (g : Input) (t : Table) (j c : ℕ) → j < g.rows → can_issue g (sees g t 1 j c) j c ≡ (nat_lt (t j).dispatch c && can_start g (sees g t 1 j c) j c)
unfolding can_issue
issue_is g t j c lt = ap (λ b. b && can_start g (sees g t 1 j c) j c) (dispatch_before g t j c lt)

pub issue_early : (g : Input) (t : Table) (j c d : ℕ) → j < g.rows → d ≡ (t j).dispatch → c ≤ d → false ≡ can_issue g (sees g t 1 j c) j c
issue_early g t j c d lt e le = sym (issue_is g t j c lt ∙ (let late : nat_lt (t j).dispatch c ≡ false = grind (arith, nat_tests) in rw late refl))

pub issue_later : (g : Input) (t : Table) (j c d : ℕ) (b : Bool) → j < g.rows → d ≡ (t j).dispatch → d < c → b ≡ can_start g (sees g t 1 j c) j c → b ≡ can_issue g (sees g t 1 j c) j c
issue_later g t j c d b lt e less start = start ∙ sym (issue_is g t j c lt ∙ (let late : nat_lt (t j).dispatch c ≡ true = grind (arith, nat_tests) in rw late refl))

pub issue_after : (g : Input) (t : Table) (j c : ℕ) → j < g.rows → can_issue g (sees g t 1 j c) j c ≡ true → (t j).dispatch < c
issue_after g t j c lt h =
    let parts : (nat_lt (t j).dispatch c ≡ true) × (can_start g (sees g t 1 j c) j c ≡ true) = and_parts _ _ (sym (issue_is g t j c lt) ∙ h) in
    let is : nat_lt (t j).dispatch c ≡ true = parts.0 in grind (arith, nat_tests, is)

-- Retire

abbrev retire_test : Input → Table → ℕ → ℕ → Bool
retire_test g t j c = nat_lt (t j).issue c && nat_lt (t j).complete c && follows (λ k. (t k).retire) j c && has_room g.machine.limits.retire (count_below j (λ k. nat_eq (t k).retire c))

pub retire_unissued : (g : Input) (t : Table) (j c i : ℕ) → j < g.rows → i ≡ (t j).issue → c ≤ i → false ≡ can_retire g (sees g t 0 j c) j c
retire_unissued g t j c i lt e le = sym (retire_seen g t j c lt ∙ (let late : nat_lt (t j).issue c ≡ false = grind (arith, nat_tests) in rw late refl))

pub retire_undone : (g : Input) (t : Table) (j c w : ℕ) → j < g.rows → w ≡ (t j).complete → c ≤ w → false ≡ can_retire g (sees g t 0 j c) j c
retire_undone g t j c w lt e le = sym (retire_seen g t j c lt ∙ (let late : nat_lt (t j).complete c ≡ false = grind (arith, nat_tests) in rw (late, and_false (nat_lt (t j).issue c)) refl))

pub retire_early : (g : Input) (t : Table) (j c : ℕ) → j < g.rows → follows (λ k. (t k).retire) j c ≡ false → false ≡ can_retire g (sees g t 0 j c) j c
retire_early g t j c lt h = sym (retire_seen g t j c lt ∙ rw (h, and_false (nat_lt (t j).issue c && nat_lt (t j).complete c)) refl)

pub retire_room : (g : Input) (t : Table) (j c i w : ℕ) (b : Bool) → j < g.rows → i ≡ (t j).issue → i < c → w ≡ (t j).complete → w < c → follows (λ k. (t k).retire) j c ≡ true
    → b ≡ has_room g.machine.limits.retire (count_below j (λ k. nat_eq (t k).retire c)) → b ≡ can_retire g (sees g t 0 j c) j c
retire_room g t j c i w b lt ei li ew lw f room = room ∙ sym (retire_seen g t j c lt ∙ (
    let issued : nat_lt (t j).issue c ≡ true = grind (arith, nat_tests, ei, li) in
    let done : nat_lt (t j).complete c ≡ true = grind (arith, nat_tests, ew, lw) in
    rw (issued, done, f) refl))

pub retire_after : (g : Input) (t : Table) (j c : ℕ) → j < g.rows → can_retire g (sees g t 0 j c) j c ≡ true → (t j).complete < c
retire_after g t j c lt h =
    let a : ((nat_lt (t j).issue c && nat_lt (t j).complete c && follows (λ k. (t k).retire) j c) ≡ true) × (has_room g.machine.limits.retire (count_below j (λ k. nat_eq (t k).retire c)) ≡ true) = and_parts _ _ (sym (retire_seen g t j c lt) ∙ h) in
    let b : ((nat_lt (t j).issue c && nat_lt (t j).complete c) ≡ true) × (follows (λ k. (t k).retire) j c ≡ true) = and_parts _ _ a.0 in
    let d : (nat_lt (t j).issue c ≡ true) × (nat_lt (t j).complete c ≡ true) = and_parts _ _ b.0 in
    let is : nat_lt (t j).complete c ≡ true = d.1 in grind (arith, nat_tests, is)

pub retire_before : (g : Input) (t : Table) (j c : ℕ) → j < g.rows → (nat_lt (t j).complete c && follows (λ k. (t k).retire) j c) ≡ false → can_retire g (sees g t 0 j c) j c ≡ false
retire_before g t j c lt h = retire_seen g t j c lt ∙ go (nat_lt (t j).issue c) (nat_lt (t j).complete c) (follows (λ k. (t k).retire) j c) (has_room g.machine.limits.retire (count_below j (λ k. nat_eq (t k).retire c))) h
  where
    go : (a b d e : Bool) → (b && d) ≡ false → (a && b && d && e) ≡ false
    go false b d e h = refl
    go true b d e h = rw h refl

-- a cycle in which a row may not retire: before the one after its completion, or before the retirement of the row before
pub done_early : (f : ℕ → ℕ) (w j c : ℕ) → c < w + 1 → (nat_lt w c && follows f j c) ≡ false
done_early f w j c lt = let late : nat_lt w c ≡ false = grind (arith, nat_tests) in rw late refl

pub max_early : (f : ℕ → ℕ) (w j k c n m : ℕ) → j ≡ k + 1 → n ≡ f k → m ≡ max (w + 1) n → c < m → (nat_lt w c && follows f j c) ≡ false
max_early f w j k c n m e is top lt = elim (cases_lt c (w + 1)) [
  | inl early ↦ done_early f w j c early
  | inr late ↦ (let low : nat_le n c ≡ false = grind (arith, nat_tests) in rw (sym (follows_next f j k c n e is) ∙ low) (and_false (nat_lt w c)))
]

-- The least cycle

pub least_yes : (p : ℕ → Bool) (c : ℕ) → p c ≡ true → ((b : ℕ) → b < c → p b ≡ false) → Decides true (Least p c)
least_yes p c h below = (λ _. record { holds = h; below = below }, λ _. refl)

pub least_no : (p : ℕ → Bool) (c : ℕ) → p c ≡ false → Decides false (Least p c)
least_no p c h = (λ e. absurd cc, λ l. let is : p c ≡ true = l.holds in cc)

pub least_late : (p : ℕ → Bool) (c b : ℕ) → b < c → p b ≡ true → Decides false (Least p c)
least_late p c b lt h = (λ e. absurd cc, λ l. let is : p b ≡ false = l.below b lt in cc)

-- What a row sees in a cycle in which no event falls, and why all rows are over in such a cycle where nothing is under way.
use Rattle.std.proofs.Common.{suc, ◌≡◌, ℕ, ◌+◌, ◌*◌, ◌<◌, ◌≤◌, inl, inr, List, arith, sym, ◌∙◌, ap, subst, refl, Bool, true, false}
use Rattle.std.specs.Prelude.{nat_lt, if◌then◌else◌, Option, Some, None}
use Rattle.std.proofs.Math.Nat.{mul-le-mul_right}
use Rattle.std.proofs.lemmas.Bool.Decides.{nat_tests}
use Rattle.std.proofs.lemmas.Bool.{cases_lt, ltb-true}
use Rattle.cycle_rules.specs.Events.{events, cycle_or, known_of, may_fall, rules_of}
use Rattle.cycle_rules.specs.Issue.{can_issue}
use Rattle.cycle_rules.specs.Retire.{can_retire}
use Rattle.cycle_rules.specs.Row.{Input, phase}
use Rattle.cycle_rules.specs.Schedule.{Fall, Known, key, if_before, seen, event, IsFirst, IsSchedule}
use Rattle.cycle_rules.proofs.Falls.{at_event, least_of, some_of, first_true, second_true}
use Rattle.cycle_rules.proofs.Rows.{allowed_at, event_below, phase_reserved, phase_free}
use Rattle.cycle_rules.proofs.Sees.{known_in, choose_true}
use Rattle.cycle_rules.proofs.Unique.{before_yes, before_none}

-- the cycle of an event; the bound where it falls in none below it
abbrev pub cycle_of : Input → ℕ → Known (List ℕ) → ℕ → ℕ → ℕ
cycle_of g bound v p j = cycle_or bound (v (event g.rows p j))

abbrev pub issue_of : Input → ℕ → Known (List ℕ) → ℕ → ℕ
issue_of g bound v j = cycle_of g bound v (phase (g.row j)) j

-- What is seen

key_low : (m b c e f : ℕ) → e < m → b < c → key m b e < key m c f
key_low m b c e f lt early = let le : suc b * m ≤ c * m = mul-le-mul_right m (let s : suc b ≤ c = omega arith in s) in omega (arith, le)

pub phase_small : (g : Input) (j : ℕ) → phase (g.row j) < 3
unfolding phase
phase_small g j = grind arith

seen_at : (g : Input) (v : Known (List ℕ)) (k q j : ℕ) → q < 3 → j < g.rows → known_of g (seen (events g) k v) q j ≡ if_before (events g) k (event g.rows q j) (v (event g.rows q j))
seen_at g v k q j three lt =
    let low : event g.rows q j < events g = event_below g q j three lt in
    let test : nat_lt (event g.rows q j) (events g) ≡ true = grind (arith, nat_tests, low) in
    known_in g (seen (events g) k v) q j lt ∙ choose_true (nat_lt (event g.rows q j) (events g)) _ _ test

-- an event of an earlier cycle is seen, and one of a later cycle is not
pub seen_early : (g : Input) (bound : ℕ) (v : Known (List ℕ)) (p i c q j : ℕ) → q < 3 → j < g.rows → c < bound → cycle_of g bound v q j < c → cycle_or (c + 1) (known_of g (at_event g v p i c) q j) ≡ cycle_of g bound v q j
seen_early g bound v p i c q j three lt low early = ap (cycle_or (c + 1)) (seen_at g v _ q j three lt) ∙ go (v (event g.rows q j)) early
  where
    go : (o : Option (Fall (List ℕ))) → cycle_or bound o < c → cycle_or (c + 1) (if_before (events g) (key (events g) c (event g.rows p i)) (event g.rows q j) o) ≡ cycle_or bound o
    go None h = absurd (omega arith)
    go (Some f) h = ap (cycle_or (c + 1)) (before_yes (events g) _ (event g.rows q j) f (key_low (events g) f.cycle c (event g.rows q j) (event g.rows p i) (event_below g q j three lt) h))

pub seen_late : (g : Input) (bound : ℕ) (v : Known (List ℕ)) (p i c q j : ℕ) → p < 3 → i < g.rows → q < 3 → j < g.rows → c < cycle_of g bound v q j → cycle_or (c + 1) (known_of g (at_event g v p i c) q j) ≡ c + 1
seen_late g bound v p i c q j three_p lt_i three lt late = ap (cycle_or (c + 1)) (seen_at g v _ q j three lt) ∙ go (v (event g.rows q j)) late
  where
    go : (o : Option (Fall (List ℕ))) → c < cycle_or bound o → cycle_or (c + 1) (if_before (events g) (key (events g) c (event g.rows p i)) (event g.rows q j) o) ≡ c + 1
    go None h = refl
    go (Some f) h = ap (cycle_or (c + 1)) (before_none (events g) _ (event g.rows q j) f (let l : key (events g) c (event g.rows p i) < key (events g) f.cycle (event g.rows q j) = key_low (events g) c f.cycle (event g.rows p i) (event g.rows q j) (event_below g p i three_p lt_i) h in omega (arith, l)))

-- what is seen as past is so
seen_past : (g : Input) (bound : ℕ) (v : Known (List ℕ)) (k c q j : ℕ) → q < 3 → j < g.rows → cycle_or (c + 1) (known_of g (seen (events g) k v) q j) ≤ c → cycle_or (c + 1) (known_of g (seen (events g) k v) q j) ≡ cycle_of g bound v q j
seen_past g bound v k c q j three lt past =
    ap (cycle_or (c + 1)) (seen_at g v k q j three lt) ∙ go (v (event g.rows q j)) (subst (λ o. cycle_or (c + 1) o ≤ c) (seen_at g v k q j three lt) past)
  where
    one : (b : Bool) (f : Fall (List ℕ)) → cycle_or (c + 1) (if b then Some f else None) ≤ c → cycle_or (c + 1) (if b then Some f else None) ≡ f.cycle
    one true f h = refl
    one false f h = absurd (omega arith)

    go : (o : Option (Fall (List ℕ))) → cycle_or (c + 1) (if_before (events g) k (event g.rows q j) o) ≤ c → cycle_or (c + 1) (if_before (events g) k (event g.rows q j) o) ≡ cycle_or bound o
    go None h = absurd (omega arith)
    go (Some f) h = one (nat_lt (key (events g) f.cycle (event g.rows q j)) k) f h

-- Events of a schedule

-- an event that is allowed in a cycle has fallen by then
pub falls_by : (g : Input) (bound : ℕ) (v : Known (List ℕ)) (p j c : ℕ) → IsSchedule (rules_of g) (events g) bound v → p < 3 → j < g.rows → c < bound → may_fall g (at_event g v p j c) c p j ≡ true → cycle_of g bound v p j ≤ c
falls_by g bound v p j c h three lt low may =
    go (v (event g.rows p j)) (h (event g.rows p j) (event_below g p j three lt)) (allowed_at g (at_event g v p j c) c p j lt ∙ may)
  where
    apart : (b : Bool) → b ≡ true → b ≡ false → ⊥
    apart b t f = cc

    go : (o : Option (Fall (List ℕ))) → IsFirst (rules_of g) (events g) bound v (event g.rows p j) o → (rules_of g).allowed (at_event g v p j c) c (event g.rows p j) ≡ true → cycle_or bound o ≤ c
    go None none yes_now = absurd (apart _ yes_now (none c low))
    go (Some f) first yes_now = elim (cases_lt c f.cycle) [
      | inl before ↦ absurd (apart _ yes_now (first.least.below c before))
      | inr by_then ↦ by_then
    ]

falls_at : (g : Input) (bound : ℕ) (v : Known (List ℕ)) (p j : ℕ) → IsSchedule (rules_of g) (events g) bound v → p < 3 → j < g.rows → cycle_of g bound v p j < bound
    → may_fall g (at_event g v p j (cycle_of g bound v p j)) (cycle_of g bound v p j) p j ≡ true
falls_at g bound v p j h three lt low = (least_of g bound v p j _ h three lt (some_of bound (v (event g.rows p j)) there)).holds
  where
    there : v (event g.rows p j) ≡ None → ⊥
    there none = omega (arith, subst (λ o. cycle_or bound o < bound) none low)

-- a row retires after its completion, and issues no earlier than it dispatches
pub retires_late : (g : Input) (bound : ℕ) (v : Known (List ℕ)) (j : ℕ) → IsSchedule (rules_of g) (events g) bound v → j < g.rows → cycle_of g bound v 0 j < bound → issue_of g bound v j + (g.row j).latency < cycle_of g bound v 0 j
unfolding can_retire
retires_late g bound v j h lt low =
    let c : ℕ = cycle_of g bound v 0 j in
    let seen_issue : ℕ = cycle_or (c + 1) (known_of g (at_event g v 0 j c) (phase (g.row j)) j) in
    let past : seen_issue + (g.row j).latency < c = ltb-true _ _ (first_true _ _ (first_true _ _ (falls_at g bound v 0 j h (omega arith) lt low))) in
    let same : seen_issue ≡ issue_of g bound v j = seen_past g bound v _ c (phase (g.row j)) j (phase_small g j) lt (omega (arith, past)) in
    subst (λ x. x + (g.row j).latency < c) same past

issues_free : (g : Input) (bound : ℕ) (v : Known (List ℕ)) (j : ℕ) → IsSchedule (rules_of g) (events g) bound v → j < g.rows → cycle_of g bound v 1 j < bound → cycle_of g bound v 2 j ≤ cycle_of g bound v 1 j
unfolding can_issue
issues_free g bound v j h lt low =
    let c : ℕ = cycle_of g bound v 1 j in
    let seen_dispatch : ℕ = cycle_or (c + 1) (known_of g (at_event g v 1 j c) 2 j) in
    let past : seen_dispatch < c = ltb-true _ _ (first_true _ _ (second_true _ _ (falls_at g bound v 1 j h (omega arith) lt low))) in
    let same : seen_dispatch ≡ cycle_of g bound v 2 j = seen_past g bound v _ c 2 j (omega arith) lt (omega (arith, past)) in
    omega (arith, past, same)

pub issues_late : (g : Input) (bound : ℕ) (v : Known (List ℕ)) (j : ℕ) → IsSchedule (rules_of g) (events g) bound v → j < g.rows → issue_of g bound v j < bound → cycle_of g bound v 2 j ≤ issue_of g bound v j
issues_late g bound v j h lt low = go (g.row j).reserved refl
  where
    go : (b : Bool) → (g.row j).reserved ≡ b → cycle_of g bound v 2 j ≤ issue_of g bound v j
    go true is = subst (λ p. cycle_of g bound v 2 j ≤ cycle_of g bound v p j) (sym (phase_reserved (g.row j) is)) (omega arith)
    go false is = subst (λ p. cycle_of g bound v 2 j ≤ cycle_of g bound v p j) (sym (phase_free (g.row j) is)) (issues_free g bound v j h lt (subst (λ p. cycle_of g bound v p j < bound) (phase_free (g.row j) is) low))

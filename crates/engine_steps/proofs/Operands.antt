-- What is recorded tells whether the operands of a row are there.
use Rattle.std.proofs.Common.{suc, ◌≡◌, ℕ, ◌+◌, ◌-◌, ◌%◌, ◌<◌, ◌≤◌, inl, inr, List, [], ◌∷◌, length, min, arith, sym, ◌∙◌, ap, subst, refl, Bool, true, false, not, ◌&&◌, ◌||◌}
use Rattle.std.specs.Prelude.{nat_lt, nat_le, nat_eq, slice_index_or, Option, Some, None, if◌then◌else◌}
use Rattle.std.specs.List.{list_all}
use Rattle.std.proofs.lemmas.Bool.Decides.{nat_tests}
use Rattle.std.proofs.lemmas.Bool.{cases_eq, cases_lt, le-leb, leb-true, both_ways}
use Rattle.std.proofs.lemmas.Option.{none-some, same_Some}
use Rattle.machine_model.specs.Meaning.{MachineMeaning}
use Rattle.cycle_rules.specs.Row.{Row, Input, Table, input, times, uops_of}
use Rattle.cycle_rules.specs.Issue.{producer, is_ready, has_operand, has_operands}
use Rattle.cycle_rules.specs.Still.{no_source}
use Rattle.cycle_rules.specs.declared.bound.Source.{Source}
use Rattle.cycle_rules.specs.declared.times.Times.{Times}
use Rattle.engine_state.specs.State.{never, now, recorded, or_ahead, IsWritten}
use Rattle.engine_state.proofs.Reading.{now_issue}
use Rattle.event_rules.specs.Due.{later, ready_from}
use Rattle.event_rules.proofs.StillTests.{reached, operands_from}
use Rattle.cycle_rules.specs.declared.links.Link.{Link}
use Rattle.cycle_rules.specs.declared.links.Links.{Links}
use Rattle.cycle_rules.specs.Links.{named, IsLink, AreLinks, AllLinks, no_links}
use Rattle.cycle_rules.proofs.Producers.{named_none, named_early, named_back}
use Rattle.engine_steps.specs.Links.{is_there, was_there, after, link_from, TellOperands}

pub uops_told : (g : Input) (j u r : ℕ) → u ≡ (g.row j).uops → r ≡ g.machine.limits.reorder → min u r ≡ uops_of g j
unfolding uops_of
uops_told g j u r a b = rw (a, b) refl

passed_told : (c time lead : ℕ) → (not (nat_eq time never) && nat_le time c && nat_le lead (c - time)) ≡ nat_le (or_ahead c time + lead) c
passed_told c time lead = elim (cases_eq time never) [
  | inl none ↦ (let a : nat_eq time never ≡ true = grind (arith, nat_tests, none) in rw a (grind (arith, nat_tests)))
  | inr ne ↦ (let a : nat_eq time never ≡ false = grind (arith, nat_tests, ne) in
      elim (cases_lt c time) [
        | inl late ↦ (let b : nat_le time c ≡ false = grind (arith, nat_tests, late) in rw (a, b) (grind (arith, nat_tests, late)))
        | inr past ↦ (let b : nat_le time c ≡ true = grind (arith, nat_tests, past) in rw (a, b) (grind (arith, nat_tests, past)))
      ])
]

there_told : (g : Input) (c j : ℕ) (xs : List Times) (link : Link) → j < g.rows → ((k : ℕ) → k < g.rows → IsWritten (g.row k) (times xs k)) → was_there xs j c link ≡ is_there (now g c xs) j c link
there_told g c j xs link lt kept = elim (cases_eq link.back 0) [
  | inl none ↦ (let a : nat_eq link.back 0 ≡ true = grind (arith, nat_tests, none) in rw a refl)
  | inr some ↦ (
      let low : j - link.back < g.rows = omega (arith, lt) in
      let issue : (now g c xs (j - link.back)).issue ≡ or_ahead c (times xs (j - link.back)).issue = now_issue g c xs (j - link.back) low (kept (j - link.back) low) in
      ap (λ b. nat_eq link.back 0 || (nat_lt j link.back || b)) (passed_told c (times xs (j - link.back)).issue link.lead ∙ ap (λ n. nat_le (n + link.lead) c) (sym issue)))
]

pub operands_told : (m : MachineMeaning) (body : List Row) (iterations j c p : ℕ) (xs : List Times) (links : Links) → j < (input m body iterations).rows → ((k : ℕ) → k < (input m body iterations).rows → IsWritten ((input m body iterations).row k) (times xs k))
    → TellOperands m body p links → j % length body ≡ p → (was_there xs j c links.first && was_there xs j c links.second) ≡ has_operands (input m body iterations) (now (input m body iterations) c xs) j c
operands_told m body iterations j c p xs links lt kept linked is =
    rw (there_told (input m body iterations) c j xs links.first lt kept, there_told (input m body iterations) c j xs links.second lt kept) (sym (linked iterations j c (now (input m body iterations) c xs) is))

-- A link tells of its read whether its value is there

read_told : (g : Input) (t : Table) (j c : ℕ) (s : Source) (link : Link) → IsLink g j s link → has_operand g t j c s ≡ is_there t j c link
unfolding has_operand
read_told g t j c s link is = go (nat_eq s.reg 0) refl
  where
    producing : Bool → Option ℕ
    producing zero = if zero then None else producer g j s.reg

    none_there : named j link ≡ None → is_there t j c link ≡ true
    none_there e = elim (cases_eq link.back 0) [
      | inl none ↦ (let a : nat_eq link.back 0 ≡ true = grind (arith, nat_tests, none) in rw a refl)
      | inr some ↦ (let a : nat_eq link.back 0 ≡ false = grind (arith, nat_tests, some) in
          elim (cases_lt j link.back) [
            | inl early ↦ (let d : nat_lt j link.back ≡ true = grind (arith, nat_tests, early) in rw (a, d) refl)
            | inr within ↦ absurd (none-some (j - link.back) (sym e ∙ named_back j link some within))
          ])
    ]

    some_there : (k : ℕ) → named j link ≡ Some k → is_there t j c link ≡ nat_le ((t k).issue + link.lead) c
    some_there k e = elim (cases_eq link.back 0) [
      | inl none ↦ absurd (none-some k (sym (named_none j link none) ∙ e))
      | inr some ↦ (let a : nat_eq link.back 0 ≡ false = grind (arith, nat_tests, some) in
          elim (cases_lt j link.back) [
            | inl early ↦ absurd (none-some k (sym (named_early j link some early) ∙ e))
            | inr within ↦ (let d : nat_lt j link.back ≡ false = grind (arith, nat_tests, within) in
                let same : j - link.back ≡ k = same_Some (j - link.back) k (sym (named_back j link some within) ∙ e) in
                rw (a, d) (ap (λ i. nat_le ((t i).issue + link.lead) c) same))
          ])
    ]

    by : (o : Option ℕ) → producer g j s.reg ≡ o → named j link ≡ o → is_ready g t c s.read o ≡ is_there t j c link
    by None p e = sym (none_there e)
    by (Some k) p e = sym (some_there k e ∙ ap (λ n. nat_le ((t k).issue + n) c) (is.lead k e))

    go : (none : Bool) → nat_eq s.reg 0 ≡ none → (none || is_ready g t c s.read (producer g j s.reg)) ≡ is_there t j c link
    go true at = sym (none_there (is.row ∙ ap producing at))
    go false at = by (producer g j s.reg) refl (is.row ∙ ap producing at)

operands_told_by : (g : Input) (t : Table) (j c : ℕ) (links : Links) → AreLinks g j links → has_operands g t j c ≡ (is_there t j c links.first && is_there t j c links.second)
unfolding has_operands
operands_told_by g t j c links are = go (g.row j).reads refl
  where
    no_back : (link : Link) → link.back ≡ 0 → is_there t j c link ≡ true
    no_back link none = let a : nat_eq link.back 0 ≡ true = grind (arith, nat_tests, none) in rw a refl

    and_true : (a b : Bool) → (a && (b && true)) ≡ (a && b)
    and_true true true = refl
    and_true true false = refl
    and_true false b = refl

    go : (reads : List Source) → (g.row j).reads ≡ reads → list_all (has_operand g t j c) reads ≡ (is_there t j c links.first && is_there t j c links.second)
    go [] e =
        let size : length (g.row j).reads ≡ 0 = ap length e in
        rw (no_back links.first (are.no_first (omega (arith, size))), no_back links.second (are.no_second (omega (arith, size)))) refl
    go (x ∷ []) e =
        let size : length (g.row j).reads ≡ 1 = ap length e in
        let first : IsLink g j x links.first = subst (λ (rs : List Source). IsLink g j (slice_index_or rs 0 no_source) links.first) e (are.first (omega (arith, size))) in
        rw (no_back links.second (are.no_second (omega (arith, size))), read_told g t j c x links.first first) refl
    go (x ∷ y ∷ []) e =
        let size : length (g.row j).reads ≡ 2 = ap length e in
        let first : IsLink g j x links.first = subst (λ (rs : List Source). IsLink g j (slice_index_or rs 0 no_source) links.first) e (are.first (omega (arith, size))) in
        let second : IsLink g j y links.second = subst (λ (rs : List Source). IsLink g j (slice_index_or rs 1 no_source) links.second) e (are.second (omega (arith, size))) in
        rw (read_told g t j c x links.first first, read_told g t j c y links.second second) (and_true (is_there t j c links.first) (is_there t j c links.second))
    go (x ∷ y ∷ z ∷ rest) e = absurd (let size : length (g.row j).reads ≡ suc (suc (suc (length rest))) = ap length e in omega (arith, size, are.few))

pub operands_linked : (m : MachineMeaning) (body : List Row) (n : ℕ) (links : List Links) → AllLinks m body n links → (p : ℕ) → p < n → TellOperands m body p (slice_index_or links p no_links)
operands_linked m body n links linked p lt iterations j c t at = operands_told_by (input m body iterations) t j c (slice_index_or links p no_links) (linked p lt iterations j at)

-- The first cycle in which they are

reached_link : (j c : ℕ) (xs : List Times) (link : Link) → reached c (link_from xs j link) ≡ was_there xs j c link
reached_link j c xs link = elim (cases_eq link.back 0) [
  | inl none ↦ (let a : nat_eq link.back 0 ≡ true = grind (arith, nat_tests, none) in rw a (le-leb 0 c (omega arith)))
  | inr some ↦ (let a : nat_eq link.back 0 ≡ false = grind (arith, nat_tests, some) in
      elim (cases_lt j link.back) [
        | inl before ↦ (let b : nat_lt j link.back ≡ true = grind (arith, nat_tests, before) in rw (a, b) (le-leb 0 c (omega arith)))
        | inr here ↦ (let b : nat_lt j link.back ≡ false = grind (arith, nat_tests, here) in rw (a, b) (one (times xs (j - link.back)).issue))
      ])
]
  where
    one : (time : ℕ) → reached c (after time link.lead) ≡ (not (nat_eq time never) && nat_le time c && nat_le link.lead (c - time))
    one time = elim (cases_eq time never) [
      | inl none ↦ (let a : nat_eq time never ≡ true = grind (arith, nat_tests, none) in rw a refl)
      | inr ne ↦ (let a : nat_eq time never ≡ false = grind (arith, nat_tests, ne) in
          elim (cases_lt c time) [
            | inl late ↦ (let b : nat_le time c ≡ false = grind (arith, nat_tests, late) in rw (a, b) (grind (arith, nat_tests, late)))
            | inr past ↦ (let b : nat_le time c ≡ true = grind (arith, nat_tests, past) in rw (a, b) (grind (arith, nat_tests, past)))
          ])
    ]

reached_later : (c : ℕ) (x y : Option ℕ) → reached c (later x y) ≡ (reached c x && reached c y)
reached_later c (Some x) (Some y) = grind (arith, nat_tests)
reached_later c (Some x) None = sym (and_none (nat_le x c))
  where
    and_none : (b : Bool) → (b && false) ≡ false
    and_none true = refl
    and_none false = refl
reached_later c None y = refl

-- a time is told by the cycles that have reached it
reached_same : (a b : Option ℕ) → ((c : ℕ) → reached c a ≡ reached c b) → a ≡ b
reached_same (Some x) (Some y) h =
    let low : x ≤ y = leb-true _ _ (h y ∙ le-leb y y (omega arith)) in
    let high : y ≤ x = leb-true _ _ (sym (h x) ∙ le-leb x x (omega arith)) in
    ap Some (omega (arith, low, high))
reached_same (Some x) None h = absurd (both_ways _ (h x) (le-leb x x (omega arith)))
reached_same None (Some y) h = absurd (both_ways _ (sym (h y)) (le-leb y y (omega arith)))
reached_same None None h = refl

pub ready_told : (m : MachineMeaning) (body : List Row) (iterations j p : ℕ) (xs : List Times) (links : Links) → j < (input m body iterations).rows → ((k : ℕ) → k < (input m body iterations).rows → IsWritten ((input m body iterations).row k) (times xs k))
    → TellOperands m body p links → j % length body ≡ p → later (link_from xs j links.first) (link_from xs j links.second) ≡ ready_from (input m body iterations) (recorded (input m body iterations) xs) j
ready_told m body iterations j p xs links lt kept linked is = reached_same _ _ (λ c.
    reached_later c (link_from xs j links.first) (link_from xs j links.second)
    ∙ (λ i. reached_link j c xs links.first i && reached_link j c xs links.second i)
    ∙ operands_told m body iterations j c p xs links lt kept linked is
    ∙ operands_from (input m body iterations) (recorded (input m body iterations) xs) j c)

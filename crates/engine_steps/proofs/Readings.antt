-- A row that reads what another writes has a link to it, and is among its readers.
use Rattle.std.proofs.Common.{◌≡◌, ℕ, ◌+◌, ◌-◌, ◌*◌, ◌/◌, ◌%◌, ◌<◌, ◌≤◌, ◌⊎◌, inl, inr, List, [], ◌∷◌, length, arith, sym, ◌∙◌, ap, subst, refl, Bool, true, false, not, ◌&&◌, ◌||◌, Some, None}
use Rattle.std.specs.Prelude.{nat_lt, nat_eq, slice_index_or, Option, if◌then◌else◌}
use Rattle.std.specs.List.{All, list_any, list_all}
use Rattle.std.proofs.lemmas.Bool.Decides.{nat_tests}
use Rattle.std.proofs.lemmas.Bool.{cases_eq, cases_lt, both_ways}
use Rattle.std.proofs.lemmas.List.Elements.{All-get_or}
use Rattle.std.proofs.Math.Nat.{mod-lt}
use Rattle.machine_model.specs.Meaning.{MachineMeaning}
use Rattle.cycle_rules.specs.Row.{Row, Input, Table, input}
use Rattle.cycle_rules.specs.Issue.{producer, has_operand, has_operands, is_ready}
use Rattle.cycle_rules.specs.declared.bound.Source.{Source}
use Rattle.event_rules.specs.Skip.{is_row, is_read_from}
use Rattle.cycle_rules.specs.declared.links.Link.{Link}
use Rattle.cycle_rules.specs.declared.links.Links.{Links}
use Rattle.cycle_rules.specs.Links.{AllLinks, IsWithin, no_links}
use Rattle.engine_steps.specs.Links.{is_there, TellOperands}
use Rattle.engine_steps.specs.Readers.{back_at, names_place, AreReaders, readers_at}
use Rattle.cycle_rules.proofs.Producers.{place_back}
use Rattle.engine_steps.proofs.Chained.{names_one}
use Rattle.engine_steps.proofs.Operands.{operands_linked}

-- row q issues after a cycle, and each other row at once
abbrev late : ℕ → ℕ → Table
late q c k = record { dispatch = 0; issue = (if nat_eq k q then c + 1 else 0); complete = 0; retire = 0; units = [] }

-- then a row that reads from row q lacks an operand

lacks_one : (g : Input) (q c read : ℕ) (none : Bool) (from : Option ℕ) → (not none && is_row q from) ≡ true → (none || is_ready g (late q c) c read from) ≡ false
lacks_one g q c read true from h = absurd (both_ways _ refl h)
lacks_one g q c read false None h = absurd (both_ways _ refl h)
lacks_one g q c read false (Some k) h = rw h (grind (arith, nat_tests))

-- a source is of row q
abbrev is_of : Input → ℕ → ℕ → Source → Bool
is_of g j q s = not (nat_eq s.reg 0) && is_row q (producer g j s.reg)

lacks : (g : Input) (j q c : ℕ) → is_read_from g j q ≡ true → has_operands g (late q c) j c ≡ false
unfolding has_operands has_operand
lacks g j q c is = go (g.row j).reads is
  where
    and_none : (b : Bool) → (b && false) ≡ false
    and_none true = refl
    and_none false = refl

    one : (s : Source) (ss : List Source) (test : Bool) → is_of g j q s ≡ test → list_any (is_of g j q) (s ∷ ss) ≡ true → (list_any (is_of g j q) ss ≡ true → list_all (has_operand g (late q c) j c) ss ≡ false)
        → list_all (has_operand g (late q c) j c) (s ∷ ss) ≡ false
    one s ss true test h rest = rw (lacks_one g q c s.read (nat_eq s.reg 0) (producer g j s.reg) test) refl
    one s ss false test h rest = rw (rest (rw test at h)) (and_none (has_operand g (late q c) j c s))

    go : (reads : List Source) → list_any (is_of g j q) reads ≡ true → list_all (has_operand g (late q c) j c) reads ≡ false
    go [] h = absurd (both_ways _ refl h)
    go (s ∷ ss) h = one s ss (is_of g j q s) refl h (go ss)

-- and of its links that one tells so which names row q
there_not : (j q c : ℕ) (link : Link) → link.lead ≤ c → is_there (late q c) j c link ≡ false → link.back ≡ j - q
there_not j q c link low h = elim (cases_eq link.back 0) [
  | inl none ↦ (let a : nat_eq link.back 0 ≡ true = grind (arith, nat_tests, none) in absurd (both_ways _ h (rw a refl)))
  | inr some ↦ (let a : nat_eq link.back 0 ≡ false = grind (arith, nat_tests, some) in
      elim (cases_lt j link.back) [
        | inl early ↦ (let b : nat_lt j link.back ≡ true = grind (arith, nat_tests, early) in absurd (both_ways _ h (rw (a, b) refl)))
        | inr within ↦ (let b : nat_lt j link.back ≡ false = grind (arith, nat_tests, within) in
            elim (cases_eq (j - link.back) q) [
              | inl same ↦ omega (arith, same, within)
              | inr ne ↦ (let d : nat_eq (j - link.back) q ≡ false = grind (arith, nat_tests, ne) in absurd (both_ways _ h (rw (a, b, d) (grind (arith, nat_tests, low)))))
            ])
      ])
]

read_link : (m : MachineMeaning) (body : List Row) (iterations j q p : ℕ) (links : Links) → TellOperands m body p links → j % length body ≡ p → is_read_from (input m body iterations) j q ≡ true
    → (links.first.back ≡ j - q) ⊎ (links.second.back ≡ j - q)
read_link m body iterations j q p links linked at is =
    let c : ℕ = links.first.lead + links.second.lead in
    let lacking : (is_there (late q c) j c links.first && is_there (late q c) j c links.second) ≡ false = sym (linked iterations j c (late q c) at) ∙ lacks (input m body iterations) j q c is in
    which c (omega arith) (omega arith) (is_there (late q c) j c links.first) refl lacking
  where
    which : (c : ℕ) → links.first.lead ≤ c → links.second.lead ≤ c → (first : Bool) → is_there (late q c) j c links.first ≡ first → (first && is_there (late q c) j c links.second) ≡ false → (links.first.back ≡ j - q) ⊎ (links.second.back ≡ j - q)
    which c a b false first h = inl (there_not j q c links.first a first)
    which c a b true first h = inr (there_not j q c links.second b h)

-- The list of a place

-- a link of place p has a number
numbered : (links : List Links) (n p d : ℕ) → p < n → ((slice_index_or links p no_links).first.back ≡ d) ⊎ ((slice_index_or links p no_links).second.back ≡ d) → (id : ℕ) × (id < 2 * n) × (id / 2 ≡ p) × (back_at links id ≡ d)
numbered links n p d lt (inl is) =
    let half : 2 * p / 2 ≡ p = omega arith in
    let rest : 2 * p % 2 ≡ 0 = omega arith in
    let a : nat_eq (2 * p % 2) 0 ≡ true = grind (arith, nat_tests, rest) in
    (2 * p, omega (arith, lt), half, rw (a, half) is)
numbered links n p d lt (inr is) =
    let half : (2 * p + 1) / 2 ≡ p = omega arith in
    let rest : (2 * p + 1) % 2 ≡ 1 = omega arith in
    let a : nat_eq ((2 * p + 1) % 2) 0 ≡ false = grind (arith, nat_tests, rest) in
    (2 * p + 1, omega (arith, lt), half, rw (a, half) is)

pub readers_told : (m : MachineMeaning) (body : List Row) (iterations n j k : ℕ) (links : List Links) (starts later : List ℕ) → length body ≡ n → 0 < n → length links ≡ n → AllLinks m body n links → All (IsWithin n) links → AreReaders links n starts later
    → j < k → is_read_from (input m body iterations) k j ≡ true → list_any (nat_eq (k - j)) (readers_at starts later (j % n)) ≡ true
readers_told m body iterations n j k links starts later whole some size linked near r young is =
    let lp : k % n < n = mod-lt k some in
    let lq : j % n < n = mod-lt j some in
    let l : Links = slice_index_or links (k % n) no_links in
    let link : (l.first.back ≡ k - j) ⊎ (l.second.back ≡ k - j) = read_link m body iterations k j (k % n) l (operands_linked m body n links linked (k % n) lp) (ap (λ x. k % x) whole) is in
    let within : IsWithin n l = All-get_or (IsWithin n) links (k % n) no_links (omega (arith, lp, size)) near in
    let low : k - j ≤ n = elim link [ inl a ↦ omega (arith, a, within.first) | inr b ↦ omega (arith, b, within.second) ] in
    let number : (id : ℕ) × (id < 2 * n) × (id / 2 ≡ k % n) × (back_at links id ≡ k - j) = numbered links n (k % n) (k - j) lp link in
    let back : k - (k - j) ≡ j = omega (arith, young) in
    let place : (k % n + n - (k - j)) % n ≡ j % n = sym (place_back n k (k - j) (k % n) (omega (arith, young)) low (omega arith) refl) ∙ ap (λ x. x % n) back in
    let named : (number.0 / 2 + length links - back_at links number.0) % length links ≡ j % n = (λ i. (number.2 i + size i - number.3 i) % size i) ∙ place in
    let names : names_place links (j % n) number.0 ≡ true = names_one links (j % n) number.0 (λ e. omega (arith, e, number.3, young)) named in
    subst (λ d. list_any (nat_eq d) (readers_at starts later (j % n)) ≡ true) number.3 (r.each (j % n) number.0 lq (omega (arith, number.1, size)) names)

-- The producer of a value that is read stands as many rows back in each iteration.
use Rattle.std.proofs.Common.{zero, suc, ◌≡◌, ℕ, ◌+◌, ◌-◌, ◌*◌, ◌/◌, ◌%◌, ◌<◌, ◌≤◌, inl, inr, List, [], ◌∷◌, ◌++◌, length, arith, sym, ◌∙◌, ap, subst, refl, Bool, true, false, Some, None}
use Rattle.std.specs.Prelude.{nat_lt, nat_eq, slice_index_or}
use Rattle.std.proofs.lemmas.Bool.Decides.{nat_tests}
use Rattle.std.proofs.lemmas.Bool.{cases_eq, cases_lt}
use Rattle.std.proofs.lemmas.Option.{none-some, same_Some}
use Rattle.std.proofs.lemmas.List.{get_or_append_left}
use Rattle.std.proofs.lemmas.Nat.{div-add-mod'}
use Rattle.std.proofs.Math.Seq.{get_or-append_seam}
use Rattle.std.proofs.Math.Nat.{add-mod_right, mul-add-mod_self_right, mod-eq_of_lt, mod-lt}
use Rattle.machine_model.specs.Meaning.{MachineMeaning}
use Rattle.cycle_rules.specs.Below.{last_below}
use Rattle.cycle_rules.specs.Row.{Row, Input, input, no_row, lead, advance_of}
use Rattle.cycle_rules.specs.Issue.{producer}
use Rattle.cycle_rules.specs.Still.{no_source}
use Rattle.cycle_rules.specs.Links.{rd_at, named, IsBack, IsLink, AreLinks, AllLinks, no_links}
use Rattle.cycle_rules.specs.declared.bound.Source.{Source}
use Rattle.cycle_rules.specs.declared.links.Link.{Link}
use Rattle.cycle_rules.specs.declared.links.Links.{Links}

-- rows that do not pass are passed over
skip : (p : ℕ → Bool) (j e : ℕ) → ((i : ℕ) → 1 ≤ i → i ≤ e → i ≤ j → p (j - i) ≡ false) → last_below j p ≡ last_below (j - e) p
unfolding last_below
skip p j zero none = ap (λ n. last_below n p) (let e : j ≡ j - 0 = omega arith in e)
skip p zero (suc e) none = ap (λ n. last_below n p) (let e0 : 0 ≡ 0 - suc e = omega arith in e0)
skip p (suc j) (suc e) none =
    let first : suc j - 1 ≡ j = omega arith in
    let here : p j ≡ false = subst (λ n. p n ≡ false) first (none 1 (omega arith) (omega arith) (omega arith)) in
    let count : suc j - suc e ≡ j - e = omega arith in
    rw (here, count) (skip p j e (λ i low le within. let same : suc j - suc i ≡ j - i = omega arith in subst (λ n. p n ≡ false) same (none (suc i) (omega arith) (omega (arith, le)) (omega (arith, within)))))

found : (p : ℕ → Bool) (k : ℕ) → p k ≡ true → last_below (suc k) p ≡ Some k
unfolding last_below
found p k is = rw is refl

nothing : (p : ℕ → Bool) → last_below 0 p ≡ None
unfolding last_below
nothing p = refl

-- a place of the body, by rows back

pub place_back : (n j e p : ℕ) → 1 ≤ e → e ≤ n → e ≤ j → j % n ≡ p → (j - e) % n ≡ (p + n - e) % n
place_back n j e p low le within is =
    let whole : j / n * n + j % n ≡ j = div-add-mod' j n in
    let sum : j / n * n + (p + n - e) ≡ (j - e) + n = omega (arith, whole, is) in
    sym (add-mod_right (j - e) n) ∙ ap (λ x. x % n) (sym sum) ∙ mul-add-mod_self_right (j / n) n (p + n - e)

row_back : (m : MachineMeaning) (body : List Row) (iterations j e p : ℕ) → 1 ≤ e → e ≤ length body → e ≤ j → j % length body ≡ p → ((input m body iterations).row (j - e)).rd ≡ rd_at body ((p + length body - e) % length body)
row_back m body iterations j e p low le within is = ap (rd_at body) (place_back (length body) j e p low le within is)

-- each place is so many rows back
some_back : (n p q : ℕ) → p < n → q < n → (e : ℕ) × (1 ≤ e) × (e ≤ n) × ((p + n - e) % n ≡ q)
some_back n p q lp lq = elim (cases_lt q p) [
  | inl low ↦ (p - q, omega arith, omega (arith, lp), (let sum : p + n - (p - q) ≡ q + n = omega (arith, low) in ap (λ x. x % n) sum ∙ add-mod_right q n ∙ mod-eq_of_lt lq))
  | inr high ↦ (p + n - q, omega (arith, lq), omega (arith, high), (let sum : p + n - (p + n - q) ≡ q = omega (arith, lq) in ap (λ x. x % n) sum ∙ mod-eq_of_lt lq))
]

none_writes : (body : List Row) (p r q : ℕ) → IsBack body p r 0 → p < length body → q < length body → rd_at body q ≡ r → ⊥
none_writes body p r q h lp lq is =
    let there : (e : ℕ) × (1 ≤ e) × (e ≤ length body) × ((p + length body - e) % length body ≡ q) = some_back (length body) p q lp lq in
    h.last there.0 there.1 there.2 (λ ne. absurd (ne refl)) (ap (rd_at body) there.3 ∙ is)

-- the youngest older row that writes a register

writes_not : (rd r : ℕ) → (rd ≡ r → ⊥) → nat_eq rd r ≡ false
writes_not rd r ne = grind (arith, nat_tests, ne)

pub producer_back : (m : MachineMeaning) (body : List Row) (iterations j p r back : ℕ) → IsBack body p r back → (back ≡ 0 → ⊥) → back ≤ j → j % length body ≡ p → producer (input m body iterations) j r ≡ Some (j - back)
unfolding producer
producer_back m body iterations j p r back h some within is =
    let t : ℕ → Bool = λ k. nat_eq ((input m body iterations).row k).rd r in
    let passed : last_below j t ≡ last_below (j - (back - 1)) t = skip t j (back - 1) (λ i low le inside. writes_not ((input m body iterations).row (j - i)).rd r (λ e.
    h.last i low (omega (arith, h.within, le)) (λ _. omega (arith, le, low, some)) (sym (row_back m body iterations j i p low (omega (arith, h.within, le)) inside is) ∙ e))) in
    let next : j - (back - 1) ≡ suc (j - back) = omega (arith, some, within) in
    let writer : rd_at body ((p + length body - back) % length body) ≡ r = h.writes some in
    let here : ((input m body iterations).row (j - back)).rd ≡ r = row_back m body iterations j back p (omega (arith, some)) h.within within is ∙ writer in
    let test : t (j - back) ≡ true = grind (arith, nat_tests, here) in
    passed ∙ ap (λ n. last_below n t) next ∙ found t (j - back) test

pub producer_early : (m : MachineMeaning) (body : List Row) (iterations j p r back : ℕ) → IsBack body p r back → j < back → j % length body ≡ p → producer (input m body iterations) j r ≡ None
unfolding producer
producer_early m body iterations j p r back h early is =
    let t : ℕ → Bool = λ k. nat_eq ((input m body iterations).row k).rd r in
    let passed : last_below j t ≡ last_below (j - j) t = skip t j j (λ i low le inside. writes_not ((input m body iterations).row (j - i)).rd r (λ e.
    h.last i low (omega (arith, h.within, le, early)) (λ _. omega (arith, le, early)) (sym (row_back m body iterations j i p low (omega (arith, h.within, le, early)) inside is) ∙ e))) in
    let none : j - j ≡ 0 = omega arith in
    passed ∙ ap (λ n. last_below n t) none ∙ nothing t

pub producer_none : (m : MachineMeaning) (body : List Row) (iterations j p r : ℕ) → IsBack body p r 0 → p < length body → producer (input m body iterations) j r ≡ None
unfolding producer
producer_none m body iterations j p r h lp =
    let t : ℕ → Bool = λ k. nat_eq ((input m body iterations).row k).rd r in
    let passed : last_below j t ≡ last_below (j - j) t = skip t j j (λ i low le inside. writes_not ((input m body iterations).row (j - i)).rd r (none_writes body p r ((j - i) % length body) h lp (mod-lt (j - i) (omega (arith, lp))))) in
    let none : j - j ≡ 0 = omega arith in
    passed ∙ ap (λ n. last_below n t) none ∙ nothing t

-- Links

pub named_none : (j : ℕ) (link : Link) → link.back ≡ 0 → named j link ≡ None
named_none j link e = let b : nat_eq link.back 0 ≡ true = grind (arith, nat_tests, e) in rw b refl

pub named_early : (j : ℕ) (link : Link) → (link.back ≡ 0 → ⊥) → j < link.back → named j link ≡ None
named_early j link some early =
    let b : nat_eq link.back 0 ≡ false = grind (arith, nat_tests, some) in
    let d : nat_lt j link.back ≡ true = grind (arith, nat_tests, early) in rw (b, d) refl

pub named_back : (j : ℕ) (link : Link) → (link.back ≡ 0 → ⊥) → link.back ≤ j → named j link ≡ Some (j - link.back)
named_back j link some within =
    let b : nat_eq link.back 0 ≡ false = grind (arith, nat_tests, some) in
    let d : nat_lt j link.back ≡ false = grind (arith, nat_tests, within) in rw (b, d) refl

pub link_zero : (m : MachineMeaning) (body : List Row) (iterations j : ℕ) (s : Source) (link : Link) → s.reg ≡ 0 → link.back ≡ 0 → IsLink (input m body iterations) j s link
link_zero m body iterations j s link x0 none = record {
  row = (let a : nat_eq s.reg 0 ≡ true = grind (arith, nat_tests, x0) in rw a (named_none j link none));
  lead = λ k is. absurd (none-some k (sym (named_none j link none) ∙ is));
}

pub link_told : (m : MachineMeaning) (body : List Row) (p : ℕ) (s : Source) (link : Link) → (s.reg ≡ 0 → ⊥) → p < length body → IsBack body p s.reg link.back
    → ((link.back ≡ 0 → ⊥) → link.lead ≡ lead (slice_index_or body ((p + length body - link.back) % length body) no_row).latency (advance_of m s.read (slice_index_or body ((p + length body - link.back) % length body) no_row).write))
    → (iterations j : ℕ) → j % length body ≡ p → IsLink (input m body iterations) j s link
link_told m body p s link some lp h takes iterations j is =
    let g : Input = input m body iterations in
    let a : nat_eq s.reg 0 ≡ false = grind (arith, nat_tests, some) in
    elim (cases_eq link.back 0) [
      | inl none ↦ record {
        row = rw a (named_none j link none ∙ sym (producer_none m body iterations j p s.reg (subst (IsBack body p s.reg) none h) lp));
        lead = λ k e. absurd (none-some k (sym (named_none j link none) ∙ e));
      }
      | inr back ↦ elim (cases_lt j link.back) [
        | inl early ↦ record {
          row = rw a (named_early j link back early ∙ sym (producer_early m body iterations j p s.reg link.back h early is));
          lead = λ k e. absurd (none-some k (sym (named_early j link back early) ∙ e));
        }
        | inr within ↦ record {
          row = rw a (named_back j link back within ∙ sym (producer_back m body iterations j p s.reg link.back h back within is));
          lead = λ k e. (
              let same : j - link.back ≡ k = same_Some (j - link.back) k (sym (named_back j link back within) ∙ e) in
              let row : ◌≡◌ {A = Row} (slice_index_or body ((p + length body - link.back) % length body) no_row) (g.row (j - link.back)) = ap (λ q. slice_index_or body q no_row) (sym (place_back (length body) j link.back p (omega (arith, back)) h.within within is)) in
              takes back ∙ ap (λ (x : Row). lead x.latency (advance_of m s.read x.write)) (row ∙ ap g.row same));
        }
      ]
    ]

-- the links of the reads of an instruction are those of its rows
pub links_told : (m : MachineMeaning) (body : List Row) (p : ℕ) (reads : List Source) (links : Links) → length reads ≤ 2 → (slice_index_or body p no_row).reads ≡ reads
    → (0 < length reads → (iterations j : ℕ) → j % length body ≡ p → IsLink (input m body iterations) j (slice_index_or reads 0 no_source) links.first) → (length reads ≤ 0 → links.first.back ≡ 0)
    → (1 < length reads → (iterations j : ℕ) → j % length body ≡ p → IsLink (input m body iterations) j (slice_index_or reads 1 no_source) links.second) → (length reads ≤ 1 → links.second.back ≡ 0)
    → (iterations j : ℕ) → j % length body ≡ p → AreLinks (input m body iterations) j links
links_told m body p reads links few is first no_first second no_second iterations j at_p =
    let here : ((input m body iterations).row j).reads ≡ reads = ap (λ q. (slice_index_or body q no_row).reads) at_p ∙ is in
    record {
      few = rw here few;
      first = rw here (λ some. first some iterations j at_p);
      no_first = rw here no_first;
      second = rw here (λ some. second some iterations j at_p);
      no_second = rw here no_second;
    }

-- those of one place more
pub links_more : (m : MachineMeaning) (body : List Row) (n : ℕ) (links : List Links) (x : Links) → length links ≡ n → AllLinks m body n links
    → ((iterations j : ℕ) → j % length body ≡ n → AreLinks (input m body iterations) j x) → AllLinks m body (n + 1) (links ++ x ∷ [])
links_more m body n links x size all last = λ p lt iterations j at_p. elim (cases_eq p n) [
  | inl here ↦ (
      let at : slice_index_or (links ++ x ∷ []) p no_links ≡ x = ap (λ i. slice_index_or (links ++ x ∷ []) i no_links) (here ∙ sym size) ∙ get_or-append_seam links x [] no_links in
      subst (λ (y : Links). AreLinks (input m body iterations) j y) (sym at) (last iterations j (at_p ∙ here)))
  | inr ne ↦ (
      let low : p < n = omega (arith, lt, ne) in
      subst (λ (y : Links). AreLinks (input m body iterations) j y) (sym (get_or_append_left links (x ∷ []) no_links p (omega (arith, low, size)))) (all p low iterations j at_p))
]

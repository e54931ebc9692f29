-- The last writers of the registers, and how many rows back they stand.
use Rattle.std.proofs.Common.{zero, suc, ◌≡◌, ℕ, ◌+◌, ◌-◌, ◌%◌, ◌<◌, inl, inr, List, length, map, arith, sym, ◌∙◌, ap, subst, refl}
use Rattle.std.specs.Prelude.{slice_index_or, slice_set, replicate}
use Rattle.std.proofs.lemmas.Bool.{cases_eq, cases_lt}
use Rattle.std.proofs.lemmas.List.{get_or-map, get_or-set_same, get_or-set_other, length-map, length-set}
use Rattle.std.proofs.Math.Nat.{add-mod_left, add-mod_right, mod-eq_of_lt}
use Rattle.cycle_rules.specs.Bind.{row_of}
use Rattle.cycle_rules.specs.Row.{Row, no_row}
use Rattle.cycle_rules.specs.declared.bound.Bound.{Bound}
use Rattle.cycle_rules.specs.Links.{rd_at, IsBack, IsLast, AreLast}

none_in : (n r : ℕ) → ◌≡◌ {A = ℕ} (slice_index_or (replicate n 0) r 0) 0
none_in zero r = refl
none_in (suc n) zero = refl
none_in (suc n) (suc r) = none_in n r

last_none : (body : List Row) (r : ℕ) → IsLast body 0 r 0
last_none body r = record {
  within = omega arith;
  writes = λ ne. absurd (ne refl);
  last = λ k low lt. absurd (omega (arith, lt));
}

pub lasts_none : (body : List Row) (last : List ℕ) → last ≡ replicate 32 0 → AreLast body 0 last
lasts_none body last is = record {
  size = ap length is;
  each = λ r lt. subst (IsLast body 0 r) (sym (ap (λ l. slice_index_or l r 0) is ∙ none_in 32 r)) (last_none body r);
}

-- one row more

last_here : (body : List Row) (n r : ℕ) → rd_at body (n % length body) ≡ r → IsLast body (n + 1) r (n + 1)
last_here body n r is = record {
  within = omega arith;
  writes = λ _. (let same : n ≡ (n + 1) - 1 = omega arith in subst (λ k. rd_at body (k % length body) ≡ r) same is);
  last = λ k low lt. absurd (omega (arith, low, lt));
}

last_kept : (body : List Row) (n r x : ℕ) → (rd_at body (n % length body) ≡ r → ⊥) → IsLast body n r x → IsLast body (n + 1) r x
last_kept body n r x other h = record {
  within = omega (arith, h.within);
  writes = h.writes;
  last = λ k low lt is. elim (cases_eq k n) [
    | inl here ↦ other (subst (λ q. rd_at body (q % length body) ≡ r) here is)
    | inr ne ↦ h.last k low (omega (arith, lt, ne)) is
  ];
}

pub lasts_more : (body : List Row) (n rd : ℕ) (last : List ℕ) → rd < 32 → rd_at body (n % length body) ≡ rd → AreLast body n last → AreLast body (n + 1) (slice_set last rd (n + 1))
lasts_more body n rd last low is h = record {
  size = length-set last rd (n + 1) ∙ h.size;
  each = λ r lt. elim (cases_eq r rd) [
    | inl here ↦ (let got : slice_index_or (slice_set last rd (n + 1)) rd 0 ≡ n + 1 = get_or-set_same last rd (n + 1) 0 (omega (arith, low, h.size)) in
        subst (IsLast body (n + 1) r) (sym (ap (λ q. slice_index_or (slice_set last rd (n + 1)) q 0) here ∙ got)) (last_here body n r (is ∙ sym here)))
    | inr other ↦ subst (IsLast body (n + 1) r) (sym (get_or-set_other last rd r (n + 1) 0 other)) (last_kept body n r (slice_index_or last r 0) (λ e. other (sym e ∙ is)) (h.each r lt))
  ];
}

-- what the rows of a body write, in the first iteration and in the second

wrote : (body : List Bound) (n p : ℕ) (d : Bound) → p < length body → n % length body ≡ p → rd_at (map row_of body) (n % length (map row_of body)) ≡ (slice_index_or body p d).rd
wrote body n p d low is = ap (λ k. rd_at (map row_of body) (n % k)) (length-map body row_of) ∙ ap (rd_at (map row_of body)) is ∙ ap (λ (x : Row). x.rd) (get_or-map row_of body p d no_row low)

pub wrote_first : (body : List Bound) (p : ℕ) (d : Bound) → p < length body → rd_at (map row_of body) (p % length (map row_of body)) ≡ (slice_index_or body p d).rd
wrote_first body p d low = wrote body p p d low (mod-eq_of_lt low)

pub wrote_second : (body : List Bound) (p : ℕ) (d : Bound) → p < length body → rd_at (map row_of body) ((length body + p) % length (map row_of body)) ≡ (slice_index_or body p d).rd
wrote_second body p d low = wrote body (length body + p) p d low (add-mod_left (length body) p ∙ mod-eq_of_lt low)

-- Rows back: of one whole iteration, each register that is written has a writer

pub no_back : (body : List Row) (p r : ℕ) → p < length body → IsLast body (length body + p) r 0 → IsBack body p r 0
no_back body p r lp h = record {
  within = omega arith;
  writes = λ ne. absurd (ne refl);
  last = λ e low le _ is. h.last (p + length body - e) (omega arith) (omega (arith, low, lp)) is;
}

-- the last writer stands in the iteration before the place
recent : (body : List Row) (p r x : ℕ) → p < length body → (x ≡ 0 → ⊥) → IsLast body (length body + p) r x → p < x
recent body p r x lp some h = elim (cases_lt p x) [
  | inl lt ↦ lt
  | inr old ↦ absurd (h.last (x - 1 + length body) (omega (arith, lp, old)) (omega (arith, old, some)) (ap (rd_at body) (add-mod_right (x - 1) (length body)) ∙ h.writes some))
]

pub some_back : (body : List Row) (p r x : ℕ) → p < length body → (x ≡ 0 → ⊥) → IsLast body (length body + p) r x → IsBack body p r (length body + p + 1 - x)
some_back body p r x lp some h =
    let near : p < x = recent body p r x lp some h in
    record {
      within = omega (arith, near);
      writes = λ _. (let same : x - 1 ≡ p + length body - (length body + p + 1 - x) = omega (arith, some, h.within) in subst (λ k. rd_at body (k % length body) ≡ r) same (h.writes some));
      last = λ e low le young is. h.last (p + length body - e) (let few : e < length body + p + 1 - x = young (λ z. absurd (omega (arith, z, h.within))) in omega (arith, few, le, h.within)) (omega (arith, low, lp)) is;
    }

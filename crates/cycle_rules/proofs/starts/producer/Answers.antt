use Rattle.std.proofs.Common.{◌≡◌, ◌+◌, ◌-◌, ◌<◌, ◌≤◌, ℕ, inl, inr, Bool, true, false, List, length, map, arith, ap, sym, subst, ◌∙◌}
use Rattle.std.specs.Prelude.{nat_eq, slice_index_or}
use Rattle.std.proofs.Math.Nat.{add-mod_right}
use Rattle.std.proofs.lemmas.Bool.{cases_lt}
use Rattle.std.proofs.lemmas.List.{length-map}
use Rattle.cycle_rules.specs.Bind.{row_of}
use Rattle.cycle_rules.specs.Given.{row_in}
use Rattle.cycle_rules.specs.declared.bound.Bound.{Bound}
use Rattle.std.proofs.lemmas.Bool.Decides.{nat_tests}
use Rattle.cycle_rules.specs.Row.{Row, no_row}
use Rattle.cycle_rules.proofs.SeenIssues.{last_step, last_none, last_again}
use Rattle.cycle_rules.proofs.starts.producer.Goals as goal

here : (rd reg a b : ℕ) → a ≡ rd → b ≡ reg → a ≡ b → nat_eq rd reg ≡ true
here rd reg a b p q e = grind (arith, nat_tests)

other : (rd reg a b : ℕ) → a ≡ rd → b ≡ reg → (a ≡ b → ⊥) → nat_eq rd reg ≡ false
other rd reg a b p q ne = grind (arith, nat_tests)

again : (body : List Bound) (reg i : ℕ) → nat_eq (row_in body (i + length (map row_of body))).rd reg ≡ nat_eq (row_in body i).rd reg
again body reg i = ap (λ q. nat_eq (slice_index_or (map row_of body) q no_row).rd reg) (add-mod_right i (length (map row_of body)))

from_on : (p : ℕ → Bool) (m k j : ℕ) → k ≡ m + 1 → p m ≡ false → ((i : ℕ) → k ≤ i → i < j → p i ≡ false) → (i : ℕ) → m ≤ i → i < j → p i ≡ false
from_on p m k j e here_not rest i low lt = elim (cases_lt m i) [ inl above ↦ rest i (omega arith) lt | inr at_m ↦ (let same : m ≡ i = omega arith in subst (λ x. p x ≡ false) same here_not) ]

pub returns-then-number-clause-is : goal.returns-then-number-clause-is
returns-then-number-clause-is c = sym (c.loop-k.invariant.is ∙ last_step c.loop-k.k (c.loop-k.k - 1) _ true (omega arith)
    (here _ _ _ _ (c.number.ensures.value ∙ ap (λ (r : Row). r.rd) c.row.ensures.row) c.number-in-loop-k.ensures.value c.if-number.true))

pub returns-then-j-k-clause-is : goal.returns-then-j-k-clause-is
returns-then-j-k-clause-is c =
    let same : length (map row_of c.args.given.now.body.now) ≡ length c.args.given.now.body.now = length-map c.args.given.now.body.now row_of in
    last_again _ (length (map row_of c.args.given.now.body.now)) c.args.j c.loop-k.k (omega (arith, c.args.given.now.some)) (again c.args.given.now.body.now c.args.reg) (omega (arith, c.if-j-k.true, c.loop-k.invariant.low)) c.loop-k.invariant.none
    ∙ sym c.loop-k.invariant.is

pub loop-k-preserved : goal.loop-k-preserved
loop-k-preserved c =
    let here_not : nat_eq (row_in c.args.given.now.body.now (c.loop-k.k - 1)).rd c.args.reg ≡ false
    = other _ _ _ _ (c.number.ensures.value ∙ ap (λ (r : Row). r.rd) c.row.ensures.row) c.number-in-loop-k.ensures.value c.if-number.false in
    record {
      low = omega arith;
      is = c.loop-k.invariant.is ∙ last_step c.loop-k.k (c.loop-k.k - 1) _ false (omega arith) here_not;
      none = λ i low lt. from_on (λ m. nat_eq (row_in c.args.given.now.body.now m).rd c.args.reg) (c.loop-k.k - 1) c.loop-k.k c.args.j (omega arith) here_not c.loop-k.invariant.none i low lt;
    }

pub returns-clause-is : goal.returns-clause-is
returns-clause-is c = last_none _ c.loop-k.k (omega arith) ∙ sym c.loop-k.invariant.is

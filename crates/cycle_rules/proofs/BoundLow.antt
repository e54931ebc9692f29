-- The bound on the cycles of a run, in numbers.
use Rattle.std.proofs.Common.{zero, suc, ◌≡◌, ℕ, ◌+◌, ◌-◌, ◌*◌, ◌/◌, ◌^◌, ◌<◌, ◌≤◌, List, [], ◌∷◌, arith, true, ℤ, pos, negsuc}
use Rattle.std.specs.Prelude.{nat_le, int_le, neg_ℤ}
use Rattle.std.specs.List.{list_all}
use Rattle.std.proofs.lemmas.Bool.{and_parts, leb-true}
use Rattle.std.proofs.lemmas.Bool.Decides.{nat_tests}
use Rattle.std.proofs.lemmas.Nat.{div_below}
use Rattle.machine_model.specs.Meaning.{MachineMeaning}
use Rattle.machine_model.specs.Valid.{IsValidMachine}
use Rattle.machine_model.specs.declared.facts.Use.{Use}
use Rattle.cycle_rules.specs.Below.{sum_below}
use Rattle.cycle_rules.specs.CycleBound.{max_below, lag, most_lag, reach, cycles_of, cycle_bound}
use Rattle.cycle_rules.specs.Bind.{AreBoundRows}
use Rattle.cycle_rules.specs.Row.{Input, uops_of}

max_low : (n high : ℕ) (f : ℕ → ℕ) → ((k : ℕ) → f k ≤ high) → max_below n f ≤ high
unfolding max_below
max_low zero high f h = omega arith
max_low (suc n) high f h = omega (arith, max_low n high f h, h n)

lag_low : (a : ℤ) → int_le (neg_ℤ (pos 1000)) a ≡ true → lag a ≤ 1000
lag_low (pos a) h = omega arith
lag_low (negsuc a) h = grind (arith, nat_tests, h)

most_lag_low : {numbers size : ℕ} (m : MachineMeaning) → IsValidMachine numbers size m → most_lag m ≤ 1000
unfolding most_lag
most_lag_low m valid = max_low m.read_count 1000 _ (λ r. max_low m.write_count 1000 _ (λ w. lag_low (m.advance r w) (valid.advance_low r w)))

reach_low : (uses : List Use) → list_all (λ w. nat_le w.hold 1000000) uses ≡ true → reach uses ≤ 1000000
reach_low [] h = omega arith
reach_low (w ∷ ws) h =
    let parts : (nat_le w.hold 1000000 ≡ true) × (list_all (λ v. nat_le v.hold 1000000) ws ≡ true) = and_parts _ _ h in
    omega (arith, leb-true _ _ parts.0, reach_low ws parts.1)

cycles_low : (u w : ℕ) → 1 ≤ w → u ≤ 4096 → cycles_of u w ≤ 4096
cycles_low u w low high = (let below : (u + w - 1) / w < 4097 = div_below (u + w - 1) w 4097 low (times w low) in omega (arith, below))
  where
    times : (w : ℕ) → 1 ≤ w → u + w - 1 < 4097 * w
    times w low = omega arith

sum_low : (n high : ℕ) (f : ℕ → ℕ) → ((k : ℕ) → k < n → f k ≤ high) → sum_below n f ≤ n * high
unfolding sum_below
sum_low zero high f h = omega arith
sum_low (suc n) high f h = omega (arith, sum_low n high f (λ k lt. h k (omega arith)), h n (omega arith))

pub bound_low : (numbers size : ℕ) (g : Input) → IsValidMachine numbers size g.machine → AreBoundRows g → g.rows ≤ 2 ^ 20 → cycle_bound g < 2 ^ 41
unfolding cycle_bound uops_of
bound_low numbers size g valid bound few =
    let each : (j : ℕ) → j < g.rows → 4 + (g.row j).latency + most_lag g.machine + reach (g.row j).uses + cycles_of (uops_of g j) g.machine.limits.width ≤ 2005100
    = λ j lt. omega (
      arith,
      (bound j lt).latency,
      most_lag_low g.machine valid,
      reach_low (g.row j).uses (bound j lt).uses.short,
      cycles_low (uops_of g j) g.machine.limits.width valid.limits.width_low (omega (arith, (bound j lt).uops_high)),
    ) in
    omega (arith, sum_low g.rows 2005100 _ each, few)

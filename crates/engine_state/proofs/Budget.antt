-- How many rows have retired, by what is recorded and by the rules.
use Rattle.std.proofs.Common.{zero, suc, ◌≡◌, ℕ, ◌+◌, ◌*◌, ◌<◌, List, [], arith, sym, ◌∙◌, ap, refl, add-one, Bool, true, false, not, cond}
use Rattle.std.specs.Prelude.{nat_eq, if◌then◌else◌, Option, Some, None, is_some}
use Rattle.cycle_rules.specs.Below.{count_below}
use Rattle.cycle_rules.specs.Schedule.{Fall, event, made}
use Rattle.cycle_rules.specs.Row.{Input, times}
use Rattle.cycle_rules.specs.Events.{events, rules_of, retired_below}
use Rattle.engine_state.specs.State.{never, recorded, at, IsState}
use Rattle.cycle_rules.specs.declared.times.Times.{Times}
use Rattle.engine_state.proofs.State.{recorded_row, state_along}

abbrev pub has_retired : List Times → ℕ → Bool
has_retired xs k = not (nat_eq (times xs k).retire never)

pub count_same : (n : ℕ) (p q : ℕ → Bool) → ((k : ℕ) → k < n → p k ≡ q k) → count_below n p ≡ count_below n q
unfolding count_below
count_same zero p q h = refl
count_same (suc n) p q h = let rest : count_below n p ≡ count_below n q = count_same n p q (λ k lt. h k (omega arith)) in rw (rest, h n (omega arith)) refl

pub count_next : (n : ℕ) (p : ℕ → Bool) → count_below (n + 1) p ≡ count_below n p + (if p n then 1 else 0)
unfolding count_below
count_next n p = rw add-one refl

pub count_none : (p : ℕ → Bool) → count_below 0 p ≡ 0
unfolding count_below
count_none p = refl

some_known : (b : Bool) (f : Fall (List ℕ)) → not b ≡ is_some (cond {A = Option (Fall (List ℕ))} b None (Some f))
some_known true f = refl
some_known false f = refl

-- the rows that have retired are those that do so by the rules
pub retired_count : (g : Input) (bound : ℕ) (xs : List Times) → IsState g (at g bound 0 0) xs → count_below g.rows (has_retired xs) ≡ retired_below g bound
retired_count g bound xs h =
    let made_all : recorded g xs ≡ made (rules_of g) (events g) bound = (state_along g (at g bound 0 0) (bound * events g) xs (omega arith) h).known in
    count_same g.rows _ _ (λ k lt. some_known (nat_eq (times xs k).retire never) (record { cycle = (times xs k).retire; what = [] })
    ∙ ap is_some (sym (recorded_row g xs 0 k (omega arith) lt) ∙ ap (λ v. v (event g.rows 0 k)) made_all))

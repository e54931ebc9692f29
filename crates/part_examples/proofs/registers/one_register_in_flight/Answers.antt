use Rattle.std.proofs.Common.{◌≡◌, ℕ, ◌<◌, [], ◌∷◌, true, arith}
use Rattle.std.specs.Prelude.{nat_eq}
use Rattle.std.specs.List.{count_by}
use Rattle.std.proofs.lemmas.Bool.Decides.{nat_tests}
use Rattle.part_examples.proofs.registers.one_register_in_flight.Goals as goal

is_there : (r : ℕ) → 0 < count_by (λ x. nat_eq x r) (r ∷ [])
is_there r = let test : nat_eq r r ≡ true = grind (arith, nat_tests) in rw test (omega arith)

pub free-requires : goal.free-requires
free-requires c = (_, c.new-a0.result ∷ [], c.take.ensures _ [] c.in_ok-files.ensures, is_there c.new-a0.result)

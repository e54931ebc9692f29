use Rattle.std.proofs.Common.{◌≡◌, ℕ, ◌+◌, ◌*◌, ◌/◌, ◌^◌, ◌<◌, ◌≤◌, arith, sym}
use Rattle.std.proofs.Math.Nat.{mod-eq-sub-div-mul, div-mul-le_self}
use Rattle.cycle_rules.proofs.Remainders.{quotient_told, large}
use Rattle.cycle_rules.proofs.body_places.BodyPlaces.at.Goals as goal

told : (n inverse j : ℕ) → 1 ≤ n → n ≤ 2 ^ 20 → inverse ≡ 2 ^ 42 / n + 1 → j < 2 ^ 21 → j * inverse / 2 ^ 42 ≡ j / n
told n inverse j some few exact low = quotient_told n inverse (2 ^ 42) j some exact (omega (arith, large n some few, few, low, exact))

pub overflow_sub-result : goal.overflow_sub-result
overflow_sub-result c =
    let q : c.args.j * c.args.self.now.inverse / 2 ^ 42 ≡ c.args.j / c.args.self.now.size = told c.args.self.now.size c.args.self.now.inverse c.args.j c.args.self.now.some c.args.self.now.few c.args.self.now.exact c.requires in
    rw q (div-mul-le_self c.args.j c.args.self.now.size)

pub returns : goal.returns
returns c =
    let q : c.args.j * c.args.self.now.inverse / 2 ^ 42 ≡ c.args.j / c.args.self.now.size = told c.args.self.now.size c.args.self.now.inverse c.args.j c.args.self.now.some c.args.self.now.few c.args.self.now.exact c.requires in
    rw q (sym (mod-eq-sub-div-mul c.args.j c.args.self.now.size))

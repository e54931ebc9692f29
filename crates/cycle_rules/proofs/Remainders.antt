-- A quotient by a multiplication and a shift.
use Rattle.std.proofs.Common.{◌≡◌, ℕ, ◌+◌, ◌-◌, ◌*◌, ◌/◌, ◌%◌, ◌^◌, ◌<◌, ◌≤◌, inl, inr, arith, sym, ◌∙◌, ap}
use Rattle.std.proofs.lemmas.Bool.{cases_lt}
use Rattle.std.proofs.lemmas.Nat.{div-mul-add}
use Rattle.std.proofs.Math.Nat.{div-add-mod, add-mul, mul-add, mul-le-mul_right, mul-le-mul_left, mul_assoc, mul_comm, mod-lt, div-mul-le_self}

-- n times the quotient rounded up is the scale and no more than n
pub over : (n inverse scale : ℕ) → 1 ≤ n → inverse ≡ scale / n + 1 → (e : ℕ) × (e ≤ n) × (n * inverse ≡ scale + e)
over n inverse scale some is =
    let whole : n * (scale / n) + scale % n ≡ scale = div-add-mod scale n in
    let rest : scale % n < n = mod-lt scale some in
    let product : n * inverse ≡ n * (scale / n) + n * 1 = ap (λ x. n * x) is ∙ mul-add n (scale / n) 1 in
    (n - scale % n, omega arith, omega (arith, whole, rest, product))

-- a row's number times the inverse is its iteration times the scale, and less than once more
spread : (n inverse scale j e : ℕ) → n * inverse ≡ scale + e → j * inverse ≡ j / n * scale + (j / n * e + j % n * inverse)
spread n inverse scale j e product =
    let whole : j / n * n + j % n ≡ j = omega (arith, div-add-mod j n, mul_comm (j / n) n) in
    let split : j * inverse ≡ j / n * n * inverse + j % n * inverse = ap (λ x. x * inverse) (sym whole) ∙ add-mul (j / n * n) (j % n) inverse in
    let first : j / n * n * inverse ≡ j / n * scale + j / n * e = mul_assoc (j / n) n inverse ∙ ap (λ x. j / n * x) product ∙ mul-add (j / n) scale e in
    omega (arith, split, first)

less : (n inverse scale j e : ℕ) → 1 ≤ n → e ≤ n → n * inverse ≡ scale + e → n + j < inverse → j / n * e + j % n * inverse < scale
less n inverse scale j e some low product large =
    let quotient : j / n * e ≤ j / n * n = mul-le-mul_left (j / n) low in
    let within : j / n * n ≤ j = div-mul-le_self j n in
    let rest : j % n < n = mod-lt j some in
    let step : (j % n + 1) * inverse ≤ n * inverse = mul-le-mul_right inverse (omega (arith, rest)) in
    let one : (j % n + 1) * inverse ≡ j % n * inverse + 1 * inverse = add-mul (j % n) 1 inverse in
    omega (arith, quotient, within, step, one, product, low, large)

pub quotient_told : (n inverse scale j : ℕ) → 1 ≤ n → inverse ≡ scale / n + 1 → n + j < inverse → j * inverse / scale ≡ j / n
quotient_told n inverse scale j some is large =
    let e : (e : ℕ) × (e ≤ n) × (n * inverse ≡ scale + e) = over n inverse scale some is in
    ap (λ x. x / scale) (spread n inverse scale j e.0 e.2) ∙ div-mul-add (j / n) scale (j / n * e.0 + j % n * inverse) (less n inverse scale j e.0 some e.1 e.2 large)

-- the inverse is large beside the numbers of the rows
pub large : (n : ℕ) → 1 ≤ n → n ≤ 2 ^ 20 → 2 ^ 22 ≤ 2 ^ 42 / n
large n some few = elim (cases_lt (2 ^ 42 / n) (2 ^ 22)) [
  | inl low ↦ (
      let whole : n * (2 ^ 42 / n) + 2 ^ 42 % n ≡ 2 ^ 42 = div-add-mod (2 ^ 42) n in
      let rest : 2 ^ 42 % n < n = mod-lt (2 ^ 42) some in
      let product : n * (2 ^ 42 / n + 1) ≡ n * (2 ^ 42 / n) + n * 1 = mul-add n (2 ^ 42 / n) 1 in
      let first : n * (2 ^ 42 / n + 1) ≤ n * 2 ^ 22 = mul-le-mul_left n (omega (arith, low)) in
      let second : n * 2 ^ 22 ≤ 2 ^ 20 * 2 ^ 22 = mul-le-mul_right (2 ^ 22) few in
      absurd (omega (arith, whole, rest, product, first, second)))
  | inr high ↦ high
]

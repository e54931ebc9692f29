-- a number that is printed in a base, and how it is to be read
use Rattle.std.specs.Prelude.{◌≡◌, ℕ, pos, neg_ℤ, ◌^◌, min, List, [], ◌∷◌, nat_eq, Bool, Some, if◌then◌else◌}
use Rattle.std.specs.Fmt.{digit_glyph}
use Rattle.std.specs.Int.Digits.{digits_of}
use Rattle.rv_asm.specs.Numbers.{number_at}

-- the digits of a number, the highest first, and one 0 for 0
abbrev pub digits_shown : ℕ → ℕ → List ℕ
digits_shown base n = if nat_eq n 0 then 0 ∷ [] else digits_of base n

-- bytes that print these digits, each letter in either case
abbrev pub ArePrinted : List ℕ → List ℕ → Type 0
ArePrinted [] [] = Unit {0}
ArePrinted [] (b ∷ bs) = ⊥
ArePrinted (d ∷ ds) [] = ⊥
ArePrinted (d ∷ ds) (b ∷ bs) = ((upper : Bool) × (b ≡ digit_glyph upper d)) × ArePrinted ds bs

abbrev pub IsPrinted : ℕ → ℕ → List ℕ → Type 0
IsPrinted base n text = ArePrinted (digits_shown base n) text

-- alone, behind `-` and behind `+` the text is read as this number, one beyond 64 bits as 2 ^ 64
pub record IsReadAs (n : ℕ) (text : List ℕ) : Type 0 where
  pub alone : number_at text ≡ Some (pos (min n (2 ^ 64)))
  pub negative : number_at (45 ∷ text) ≡ Some (neg_ℤ (pos (min n (2 ^ 64))))
  pub positive : number_at (43 ∷ text) ≡ Some (pos (min n (2 ^ 64)))

-- what a statement begins with: its labels, and then nothing, an assignment, a directive or an instruction
use Rattle.std.specs.Prelude.{◌≡◌, ℕ, Option, Some, None, List, [], ◌∷◌, ◌++◌, length, take_while, reverse, nat_eq, nat_le, Bool, false, ◌&&◌, ◌||◌, if◌then◌else◌}
use Rattle.rv_asm.specs.declared.class.ByteClass.{ByteClass}
use Rattle.rv_asm.specs.declared.class.ByteClass.TheVariants as class

abbrev pub is_letter : ℕ → Bool
is_letter b = (nat_le 97 b && nat_le b 122) || (nat_le 65 b && nat_le b 90)

abbrev pub is_digit : ℕ → Bool
is_digit b = nat_le 48 b && nat_le b 57

abbrev pub begins_symbol : ℕ → Bool
begins_symbol b = is_letter b || nat_eq b 95 || nat_eq b 46 || nat_eq b 36

abbrev pub is_in : ByteClass → ℕ → Bool
is_in class.Blank b = nat_eq b 32 || nat_eq b 9
is_in class.Digit b = is_digit b
is_in class.Word b = is_letter b || nat_eq b 95
is_in class.Start b = begins_symbol b
is_in class.Symbol b = begins_symbol b || is_digit b
is_in class.Operand b = begins_symbol b || is_digit b || nat_eq b 64 || nat_eq b 43 || nat_eq b 45
is_in class.Close b = nat_eq b 41

-- the text from the first byte on that is not in the class
abbrev pub skip : ByteClass → List ℕ → List ℕ
skip c [] = []
skip c (b ∷ bs) = if is_in c b then skip c bs else b ∷ bs

-- how many bytes at the end of the text are in the class
abbrev pub trailing : ByteClass → List ℕ → ℕ
trailing c text = length (take_while (is_in c) (reverse text))

abbrev pub begins_in : ByteClass → List ℕ → Bool
begins_in c [] = false
begins_in c (b ∷ bs) = is_in c b

abbrev pub begins_with : ℕ → List ℕ → Bool
begins_with a [] = false
begins_with a (b ∷ bs) = nat_eq b a

abbrev pub is_empty : List ℕ → Bool
is_empty text = nat_eq (length text) 0

-- a symbol or digits, with blanks around them
abbrev pub is_label_word : List ℕ → Bool
is_label_word word = (begins_in class.Start word && is_empty (skip class.Blank (skip class.Symbol word))) || (begins_in class.Digit word && is_empty (skip class.Blank (skip class.Digit word)))

abbrev pub is_label : List ℕ → Bool
is_label text = is_label_word (skip class.Blank text)

-- a symbol, blanks or none, and `=`
abbrev pub is_assignment : List ℕ → Bool
is_assignment word = begins_in class.Start word && begins_with 61 (skip class.Blank (skip class.Symbol word))

abbrev pub is_directive : List ℕ → Bool
is_directive word = begins_with 46 word

-- a text behind labels that is no instruction
abbrev pub is_skipped : List ℕ → Bool
is_skipped text = is_assignment (skip class.Blank text) || is_directive (skip class.Blank text)

-- what stands behind the labels of a statement, with one byte more: a colon ends a label
abbrev pub more : List ℕ → ℕ → List ℕ
more kept b = if nat_eq b 58 && is_label kept then [] else kept ++ b ∷ []

abbrev pub behind : List ℕ → List ℕ → List ℕ
behind kept [] = kept
behind kept (b ∷ bs) = behind (more kept b) bs

abbrev pub behind_labels : List ℕ → List ℕ
behind_labels text = behind [] text

-- whether a `"` that comes next begins a string: what stands before it is an assignment or a directive
abbrev pub takes_strings : List ℕ → Bool
takes_strings kept = is_skipped kept

-- whether it is settled what a text behind labels is, however it goes on
abbrev pub IsSettled : Option Bool → List ℕ → Type 0
IsSettled None text = Unit {0}
IsSettled (Some skipped) text = (rest : List ℕ) → (is_label (text ++ rest) ≡ false) × (is_skipped (text ++ rest) ≡ skipped)

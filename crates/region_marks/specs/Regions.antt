-- The regions that the marks of a text make of its instructions, or the first fault of the marks.
use Rattle.std.specs.Prelude.{◌≡◌, ◌⊎◌, ℕ, ◌+◌, List, [], ◌∷◌, ◌++◌, Bool, true, false, not, ◌&&◌, nat_eq, nat_le, length, slice_index_or, if◌then◌else◌}
use Rattle.std.specs.declared.option.Option.{Option}
use Rattle.std.specs.declared.result.Result.{Result}
use Rattle.std.specs.Prelude.{Some, None, Ok, Err}
use Rattle.std.specs.Cmp.Lexicographic.{pointwise}
use Rattle.mca_fixed.specs.declared.limits.TheConstants.{MOST_REGIONS, MOST_REGION_INSTRUCTIONS}
use Rattle.rv_asm.specs.declared.item.Item.{Item}
use Rattle.rv_asm.specs.declared.item.Item.TheVariants.{Code, Begin, End}
use Rattle.rv_asm.specs.declared.fault.AsmRefusal.{AsmRefusal}
use Rattle.rv_asm.specs.declared.fault.AsmKind.{AsmKind}
use Rattle.rv_asm.specs.declared.fault.AsmKind.TheVariants.{BeginInside, TooManyRegions, EndWithoutBegin, WrongName, NoInstruction, RegionTooLong, NeverEnded, Memory}
use Rattle.region_marks.specs.declared.region.Region.{Region}
use Rattle.region_marks.specs.declared.walk.Open.{Open}

-- what has been walked over: the instructions and the BEGINs so far, the regions that ended, and the one that is open
pub record Walked : Type 0 where
  pub number : ℕ
  pub begun : ℕ
  pub ended : List Region
  pub inside : Option Open

abbrev pub refused : {A : Type 0} → ℕ → AsmKind → Result A AsmRefusal
refused line kind = Err (record { line = line; kind = kind })

-- the open region ends, at a line; it has an instruction
abbrev pub close : Walked → Open → ℕ → Result Walked AsmRefusal
close s o line =
    if nat_eq o.count 0 then refused line NoInstruction
    else Ok (record { number = s.number; begun = s.begun; ended = s.ended ++ record { name = o.name; first = o.first; count = o.count } ∷ []; inside = None })

-- an instruction counts for the open region, which has not too many
abbrev pub step_code : Walked → ℕ → Option Open → Result Walked AsmRefusal
step_code s line None = Ok (record { number = s.number + 1; begun = s.begun; ended = s.ended; inside = None })
step_code s line (Some o) =
    if nat_le MOST_REGION_INSTRUCTIONS o.count then refused line RegionTooLong
    else Ok (record { number = s.number + 1; begun = s.begun; ended = s.ended; inside = Some (record { name = o.name; line = o.line; first = o.first; count = o.count + 1 }) })

-- a region begins outside others, and is not one too many
abbrev pub step_begin : Walked → ℕ → List ℕ → Option Open → Result Walked AsmRefusal
step_begin s line name (Some o) = refused line BeginInside
step_begin s line name None =
    if nat_le MOST_REGIONS s.begun then refused line TooManyRegions
    else Ok (record { number = s.number; begun = s.begun + 1; ended = s.ended; inside = Some (record { name = name; line = line; first = s.number; count = 0 }) })

-- an END has a name, and another one than the open region
abbrev pub is_other : List ℕ → List ℕ → Bool
is_other name own = not (nat_eq (length name) 0) && not (pointwise nat_eq name own)

-- the open region ends where an END has no name or its own
abbrev pub step_end : Walked → ℕ → List ℕ → Option Open → Result Walked AsmRefusal
step_end s line name None = refused line EndWithoutBegin
step_end s line name (Some o) = if is_other name o.name then refused line WrongName else close s o line

abbrev pub step : Walked → Item → Result Walked AsmRefusal
step s (Code line i) = step_code s line s.inside
step s (Begin line name) = step_begin s line name s.inside
step s (End line name) = step_end s line name s.inside

infixl 10 ◌>>=◌
abbrev pub ◌>>=◌ : {A B : Type 0} → Result A AsmRefusal → (A → Result B AsmRefusal) → Result B AsmRefusal
(Ok x) >>= f = f x
(Err e) >>= f = Err e

abbrev pub walk : Walked → List Item → Result Walked AsmRefusal
walk s [] = Ok s
walk s (item ∷ items) = step s item >>= λ t. walk t items

abbrev pub is_mark : Item → Bool
is_mark (Code line i) = false
is_mark (Begin line name) = true
is_mark (End line name) = true

-- whether a text has marks
abbrev pub has_mark : List Item → Bool
has_mark [] = false
has_mark (item ∷ items) = if is_mark item then true else has_mark items

-- the walk begins outside all regions; without marks inside one that holds all, which has no name
abbrev pub start : Bool → Walked
start true = record { number = 0; begun = 0; ended = []; inside = None }
start false = record { number = 0; begun = 0; ended = []; inside = Some (record { name = []; line = 0; first = 0; count = 0 }) }

-- after all items no region is open; the one that holds all ends there, in line 0
abbrev pub finish_open : Bool → Walked → Option Open → Result Walked AsmRefusal
finish_open marked s None = Ok s
finish_open true s (Some o) = refused o.line NeverEnded
finish_open false s (Some o) = close s o 0

abbrev pub finish : Bool → Walked → Result (List Region) AsmRefusal
finish marked s = finish_open marked s s.inside >>= λ t. Ok t.ended

-- the regions of a text in the order of their ends, or its first fault with the line where it stands
abbrev pub regions_of : List Item → Result (List Region) AsmRefusal
regions_of items = walk (start (has_mark items)) items >>= finish (has_mark items)

-- the item at a place
abbrev pub item_at : List Item → ℕ → Item
item_at items k = slice_index_or items k (End 0 [])

-- want of memory, or what the definition answers
abbrev pub MayRefuse : {A : Type 0} → Result A AsmRefusal → AsmRefusal → Type 0
MayRefuse answer r = (r ≡ record { line = 0; kind = Memory }) ⊎ (answer ≡ Err r)

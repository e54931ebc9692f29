-- Regions as they stand in a text, told without a walk: each is what stands between a BEGIN and the next mark, its END.
use Rattle.std.specs.Prelude.{◌≡◌, ℕ, ◌+◌, ◌<◌, ◌≤◌, List, [], ◌∷◌, ◌++◌, length, false}
use Rattle.std.specs.List.{All}
use Rattle.mca_fixed.specs.declared.limits.TheConstants.{MOST_REGIONS, MOST_REGION_INSTRUCTIONS}
use Rattle.rv_isa.specs.declared.instr.Instr.{Instr}
use Rattle.rv_asm.specs.declared.item.Item.{Item}
use Rattle.rv_asm.specs.declared.item.Item.TheVariants.{Code, Begin, End}
use Rattle.region_marks.specs.declared.region.Region.{Region}
use Rattle.region_marks.specs.Regions.{is_mark, is_other}

-- the instructions among items
abbrev pub code_of : List Item → List Instr
code_of [] = []
code_of (Code line i ∷ items) = i ∷ code_of items
code_of (Begin line name ∷ items) = code_of items
code_of (End line name ∷ items) = code_of items

-- instructions alone
abbrev pub AreCode : List Item → Type 0
AreCode items = All (λ item. is_mark item ≡ false) items

-- a region has an instruction, and not too many
pub record HasRightSize (r : Region) : Type 0 where
  pub some : 0 < r.count
  pub few : r.count ≤ MOST_REGION_INSTRUCTIONS

-- items that so many instructions precede begin with this region: instructions outside, its BEGIN, its own instructions, its END; then comes a rest
pub record StandsFirst (before : ℕ) (items : List Item) (r : Region) (rest : List Item) : Type 0 where
  pub outside : List Item
  pub inside : List Item
  pub begin_line : ℕ
  pub end_line : ℕ
  pub end_name : List ℕ
  pub text : items ≡ outside ++ Begin begin_line r.name ∷ (inside ++ End end_line end_name ∷ rest)
  pub none_outside : AreCode outside
  pub none_inside : AreCode inside
  pub same_name : is_other end_name r.name ≡ false
  pub first : r.first ≡ before + length outside
  pub count : r.count ≡ length inside
  pub size : HasRightSize r

-- .. are these regions, one after another, with instructions alone around them
abbrev pub StandInOrder : ℕ → List Item → List Region → Type 0
StandInOrder before items [] = AreCode items
StandInOrder before items (r ∷ regions) = (rest : List Item) × StandsFirst before items r rest × StandInOrder (r.first + r.count) rest regions

-- a text without marks is one region, which has no name
pub record IsWhole (items : List Item) (r : Region) : Type 0 where
  pub no_marks : AreCode items
  pub no_name : r.name ≡ []
  pub first : r.first ≡ 0
  pub count : r.count ≡ length items
  pub size : HasRightSize r

-- the regions of a text, in order, and all of them
pub data AreRegions (items : List Item) (regions : List Region) : Type 0 where
  whole : (r : Region) → regions ≡ r ∷ [] → IsWhole items r → AreRegions items regions
  marked : 0 < length regions → length regions ≤ MOST_REGIONS → StandInOrder 0 items regions → AreRegions items regions

-- a region lies within the instructions of a text
abbrev pub LiesWithin : List Item → Region → Type 0
LiesWithin items r = r.first + r.count ≤ length (code_of items)

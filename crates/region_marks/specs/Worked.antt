-- Texts with marks, item by item, and their regions or faults.
use Rattle.std.specs.Prelude.{ℕ, List, [], ◌∷◌, ◌++◌, codes, replicate, Ok}
use Rattle.std.specs.List.{flat_map}
use Rattle.std.specs.declared.result.Result.{Result}
use Rattle.rv_isa.specs.declared.op.Op.TheVariants.{Add}
use Rattle.rv_isa.specs.declared.instr.Imm.TheVariants as imm
use Rattle.rv_asm.specs.declared.item.Item.{Item}
use Rattle.rv_asm.specs.declared.item.Item.TheVariants.{Code, Begin, End}
use Rattle.rv_asm.specs.declared.fault.AsmRefusal.{AsmRefusal}
use Rattle.rv_asm.specs.declared.fault.AsmKind.TheVariants.{BeginInside, TooManyRegions, EndWithoutBegin, WrongName, NoInstruction, RegionTooLong, NeverEnded}
use Rattle.region_marks.specs.declared.region.Region.{Region}
use Rattle.region_marks.specs.Regions.{regions_of, refused}

-- an instruction in a line
abbrev pub sum : ℕ → Item
sum line = Code line (record { op = Add; rd = 1; rs1 = 2; rs2 = 3; imm = imm.None })

-- a whole region of one instruction, in line 1
abbrev pub short_region : List Item
short_region = Begin 1 [] ∷ sum 1 ∷ End 1 [] ∷ []

abbrev pub answers : List (Result (List Region) AsmRefusal)
answers =
    -- without marks; with two regions, and instructions before, between and after them; with an END that has a name
    regions_of (sum 1 ∷ sum 2 ∷ [])
    ∷ regions_of (sum 1 ∷ Begin 2 (codes "a") ∷ sum 3 ∷ sum 4 ∷ End 5 [] ∷ sum 6 ∷ Begin 7 [] ∷ sum 8 ∷ End 9 [] ∷ sum 10 ∷ [])
    ∷ regions_of (Begin 1 (codes "a") ∷ sum 2 ∷ End 3 (codes "a") ∷ [])
    -- without instructions: in the text, in a region
    ∷ regions_of []
    ∷ regions_of (sum 1 ∷ Begin 2 [] ∷ End 3 [] ∷ [])
    -- marks that do not pair
    ∷ regions_of (sum 1 ∷ Begin 2 [] ∷ sum 3 ∷ [])
    ∷ regions_of (sum 1 ∷ End 2 [] ∷ [])
    ∷ regions_of (Begin 1 (codes "a") ∷ sum 2 ∷ End 3 (codes "b") ∷ [])
    ∷ regions_of (Begin 1 [] ∷ sum 2 ∷ End 3 (codes "b") ∷ [])
    ∷ regions_of (Begin 1 [] ∷ sum 2 ∷ Begin 3 [] ∷ [])
    -- a 65th region; a 4,097th instruction, without marks and in a region
    ∷ regions_of (flat_map (λ items. items) (replicate 64 short_region) ++ Begin 2 [] ∷ [])
    ∷ regions_of (replicate 4096 (sum 1) ++ sum 2 ∷ [])
    ∷ regions_of (sum 1 ∷ Begin 2 [] ∷ replicate 4096 (sum 3) ++ sum 4 ∷ [])
    ∷ []

abbrev pub region : List ℕ → ℕ → ℕ → Region
region name first count = record { name = name; first = first; count = count }

abbrev pub wanted : List (Result (List Region) AsmRefusal)
wanted =
    Ok (region [] 0 2 ∷ [])
    ∷ Ok (region (codes "a") 1 2 ∷ region [] 4 1 ∷ [])
    ∷ Ok (region (codes "a") 0 1 ∷ [])
    ∷ refused 0 NoInstruction
    ∷ refused 3 NoInstruction
    ∷ refused 2 NeverEnded
    ∷ refused 2 EndWithoutBegin
    ∷ refused 3 WrongName
    ∷ refused 3 WrongName
    ∷ refused 3 BeginInside
    ∷ refused 2 TooManyRegions
    ∷ refused 2 RegionTooLong
    ∷ refused 4 RegionTooLong
    ∷ []

-- the items of a text as they are kept: most of them short, the others aside
use Rattle.std.specs.Prelude.{◌<◌, List, [], length, get_or, FitsSigned}
use Rattle.std.specs.Int.{w32}
use Rattle.rv_isa.specs.declared.instr.Imm.{Imm}
use Rattle.rv_isa.specs.declared.instr.Imm.TheVariants as imm
use Rattle.rv_asm.specs.declared.item.Item.{Item}
use Rattle.rv_asm.specs.declared.item.Item.TheVariants as item
use Rattle.rv_asm.specs.declared.listing.ItemRef.{ItemRef}
use Rattle.rv_asm.specs.declared.listing.ItemRef.TheVariants as ref
use Rattle.rv_asm.specs.declared.listing.ShortItem.{ShortItem}
use Rattle.rv_asm.specs.declared.listing.ShortItem.TheVariants as kept
use Rattle.rv_asm.specs.declared.listing.Stem.{Stem}

-- the item that is lent
abbrev pub item_of : ItemRef → Item
item_of (ref.Code line i) = item.Code line i
item_of (ref.Begin line name) = item.Begin line name.now
item_of (ref.End line name) = item.End line name.now

-- an instruction with its immediate
abbrev pub with_imm : Stem → Imm → Item
with_imm s i = item.Code s.line (record { op = s.op; rd = s.rd; rs1 = s.rs1; rs2 = s.rs2; imm = i })

-- the item that is kept so, where these are kept aside
abbrev pub kept_item : List Item → ShortItem → Item
kept_item aside (kept.Plain s) = with_imm s imm.None
kept_item aside (kept.Number s n) = with_imm s (imm.Value n)
kept_item aside (kept.Symbol s n) = with_imm s (imm.Symbol n)
kept_item aside (kept.Aside place) = get_or aside place (item.End 0 [])

-- what is kept aside stands there
abbrev pub IsWithin : List Item → ShortItem → Type 0
IsWithin aside (kept.Plain s) = Unit {0}
IsWithin aside (kept.Number s n) = Unit {0}
IsWithin aside (kept.Symbol s n) = Unit {0}
IsWithin aside (kept.Aside place) = place < length aside

-- an immediate that a short item has room for
abbrev pub HasRoom : Imm → Type 0
HasRoom imm.None = Unit {0}
HasRoom (imm.Value n) = FitsSigned w32 n
HasRoom (imm.Symbol k) = Unit {0}

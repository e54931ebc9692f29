-- A program that is read has few instructions in each region, and each can be spelled.
use Rattle.std.proofs.Common.{◌≡◌, ℕ, ◌+◌, ◌≤◌, List, [], ◌∷◌, length, Ok, sym, subst}
use Rattle.std.specs.List.{All}
use Rattle.std.proofs.lemmas.List.Elements.{All-nil, All-cons, All-head, All-tail}
use Rattle.region_marks.proofs.Between.{right_sizes, lie_within}
use Rattle.region_marks.specs.Marked.{code_of}
use Rattle.region_marks.specs.Regions.{regions_of}
use Rattle.rv_asm.specs.Spellable.{IsSpellable, IsSpellableItem}
use Rattle.rv_asm.specs.declared.item.Item.{Item}
use Rattle.rv_asm.specs.declared.item.Item.TheVariants.{Code, Begin, End}
use Rattle.mca_run.specs.Steps.{IsSound}
use Rattle.mca_run.specs.declared.program.Program.{Program}

spellable_code : (names : List (List ℕ)) (items : List Item) → All (IsSpellableItem names) items → All (IsSpellable names) (code_of items)
spellable_code names [] all = All-nil (IsSpellable names)
spellable_code names (Code line i ∷ items) all = All-cons (IsSpellable names) i (code_of items)
    (All-head (IsSpellableItem names) (Code line i) items all)
    (spellable_code names items (All-tail (IsSpellableItem names) (Code line i) items all))
spellable_code names (Begin line name ∷ items) all = spellable_code names items (All-tail (IsSpellableItem names) (Begin line name) items all)
spellable_code names (End line name ∷ items) all = spellable_code names items (All-tail (IsSpellableItem names) (End line name) items all)

pub program_sound : (p : Program) (items : List Item) → p.code ≡ code_of items → regions_of items ≡ Ok p.regions → All (IsSpellableItem p.names) items → IsSound p
program_sound p items code cut all = record {
  sizes = right_sizes items p.regions cut;
  within = subst (λ c. All (λ r. r.first + r.count ≤ length c) p.regions) (sym code) (lie_within items p.regions cut);
  spellable = subst (λ c. All (IsSpellable p.names) c) (sym code) (spellable_code p.names items all);
}

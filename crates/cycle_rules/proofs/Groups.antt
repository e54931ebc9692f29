-- Whether a dispatch group has place, by what is counted of it.
use Rattle.std.proofs.Common.{◌≡◌, ℕ, ◌+◌, Bool, not, ◌&&◌, ◌||◌, min, refl}
use Rattle.std.specs.Prelude.{nat_lt, nat_le, nat_eq}
use Rattle.cycle_rules.specs.Below.{sum_below, all_below}
use Rattle.cycle_rules.specs.Dispatch.{share, has_place, fits_group}
use Rattle.cycle_rules.specs.Row.{Input, Table, uops_of}

pub group_is : (g : Input) (t : Table) (j c width reorder taken size : ℕ) (alone joins : Bool)
    → width ≡ g.machine.limits.width → reorder ≡ g.machine.limits.reorder
    → taken ≡ sum_below j (λ k. share width (min (g.row k).uops reorder) (t k).dispatch c)
    → size ≡ min (g.row j).uops reorder
    → alone ≡ ((g.row j).begins_group || nat_lt width size)
    → joins ≡ all_below j (λ k. not (g.row k).ends_group || nat_eq (share width (min (g.row k).uops reorder) (t k).dispatch c) 0)
    → (nat_le (taken + min size width) width && (not alone || nat_eq taken 0) && joins) ≡ fits_group g t j c
unfolding fits_group has_place uops_of
group_is g t j c width reorder taken size alone joins w r s u a e = rw (s, a, e, u, w, r) refl

use Rattle.std.proofs.Common.{refl}
use Rattle.mca_views.proofs.region.region_head.Goals as goal

pub returns : goal.returns
returns c = rw (c.in_ok-push_name.ensures, c.in_ok-extend_from_slice-2.ensures.items, c.in_ok-extend_from_slice.ensures.items, c.in_ok-line.ensures.items, c.deref.ensures.value, c.in_ok-digits.ensures) refl

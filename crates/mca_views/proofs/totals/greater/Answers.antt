use Rattle.mca_views.proofs.Loads.{fits_product}
use Rattle.mca_views.proofs.totals.greater.Goals as goal

pub overflow_mul-a : goal.overflow_mul-a
overflow_mul-a c = fits_product c.args.a.num c.args.b.den c.requires.a_num c.requires.b_den

pub overflow_mul-b : goal.overflow_mul-b
overflow_mul-b c = fits_product c.args.b.num c.args.a.den c.requires.b_num c.requires.a_den

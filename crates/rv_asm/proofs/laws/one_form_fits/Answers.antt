use Rattle.rv_asm.proofs.OneForm.{one_form}
use Rattle.rv_asm.proofs.laws.one_form_fits.Goals as goal

pub returns : goal.returns
returns c = one_form

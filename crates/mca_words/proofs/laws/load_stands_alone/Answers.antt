use Rattle.mca_words.proofs.LoadAlone.{stands_alone}
use Rattle.mca_words.proofs.laws.load_stands_alone.Goals as goal

pub returns : goal.returns
returns c = stands_alone

use Rattle.rv_asm.proofs.SpelledLines.{lines_read}
use Rattle.rv_asm.proofs.laws.spelled_lines_are_read.Goals as goal

pub returns : goal.returns
returns c = lines_read

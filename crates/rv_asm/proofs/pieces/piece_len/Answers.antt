use Rattle.std.proofs.Common.{◌∙◌, sym}
use Rattle.rv_asm.proofs.Cut.{line_low}
use Rattle.rv_asm.proofs.pieces.piece_len.Goals as goal

pub returns-in-Line-clause-low : goal.returns-in-Line-clause-low
returns-in-Line-clause-low c = rw c.feed_at.ensures.place (line_low c.args.strings c.args.text.now c.requires.some (sym c.in-Line.is ∙ c.requires.kind))

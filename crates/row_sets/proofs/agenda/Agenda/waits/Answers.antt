use Rattle.std.proofs.Common.{◌%◌, ◌∙◌, ap, arith}
use Rattle.std.proofs.lemmas.List.{get_or_default}
use Rattle.unit_sets.specs.Members.{in_word}
use Rattle.row_sets.specs.Kept.{is_waiting}
use Rattle.row_sets.specs.Rows.{word_of}
use Rattle.row_sets.proofs.agenda.Agenda.waits.Goals as goal

pub returns : goal.returns
unfolding is_waiting
returns c = c.has.ensures ∙ ap (λ w. in_word w (c.args.k % 64)) (c.index.ensures ∙ get_or_default c.args.self.now.words.items (word_of c.args.k) _ 0 (omega (arith, c.args.self.now.words_size)))

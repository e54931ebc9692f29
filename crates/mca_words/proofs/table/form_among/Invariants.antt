use Rattle.std.proofs.Common.{◌≡◌, map, drop}
use Rattle.mca_words.specs.Table.{option_row, form_in}
use Rattle.mca_words.proofs.table.form_among.Given as goal

abbrev pub invariant-loop-row : goal.invariant-loop-row
invariant-loop-row l = form_in (map option_row (drop l.row-index l.rows)) l.name ≡ form_in (map option_row l.rows) l.name

use Rattle.std.proofs.Common.{◌*◌, ◌+◌, ◌-◌, ◌/◌, ◌∙◌, sym, ap}
use Rattle.std.specs.Prelude.{nat_le}
use Rattle.dep_graph.proofs.Fills.{place_from, left_from}
use Rattle.dep_graph.proofs.fill.Fill.place_from.Goals as goal

pub returns : goal.returns
returns c = record {
  from = λ g t j h width uops is b le.
      place_from g t j c.args.at c.args.width c.args.uops b c.args.begins c.args.self.now h width uops is c.requires.width c.requires.uops le
      ∙ ap (nat_le (c.args.self.now.left - c.args.width * (b - c.args.at))) (sym c.most_left-most.ensures)
      ∙ left_from c.args.self.now.left c.most_left-most.result c.args.at c.args.width b c.requires.width le
      ∙ ap (λ m. nat_le (c.args.at + (m + c.args.width - 1) / c.args.width) b) (sym c.saturating_sub-over.ensures)
      ∙ ap (λ n. nat_le (c.args.at + n) b) (sym c.cycles_for.ensures);
}

use Rattle.std.proofs.Common.{◌≡◌, ℕ, ◌%◌, ◌∙◌, length, map, sym, subst}
use Rattle.std.specs.Prelude.{slice_index_or}
use Rattle.std.proofs.lemmas.Option.{same_Some, slice_get-get_or}
use Rattle.cycle_rules.specs.Bind.{row_of}
use Rattle.cycle_rules.specs.Row.{input}
use Rattle.cycle_rules.specs.Still.{no_source}
use Rattle.cycle_rules.specs.Links.{IsLink}
use Rattle.cycle_rules.specs.declared.bound.Source.{Source}
use Rattle.cycle_rules.proofs.links.link_of.Goals as goal

pub returns-clause-some : goal.returns-clause-some
returns-clause-some g c = λ some.
    let read : c.index-reads-k.result ≡ slice_index_or c.args.reads.now c.args.k no_source = c.index-reads-k.is ∙ same_Some _ _ (sym (slice_get-get_or c.args.reads.now c.args.k c.index-reads-k.result some) ∙ slice_get-get_or c.args.reads.now c.args.k no_source some) in
    subst (λ (s : Source). (iterations j : ℕ) → j % length (map row_of c.args.body.now) ≡ c.args.place → IsLink (input (g.M.Machine.meaning c.args.machine.now) (map row_of c.args.body.now) iterations) j s c.link_to.result) read c.link_to.ensures.link

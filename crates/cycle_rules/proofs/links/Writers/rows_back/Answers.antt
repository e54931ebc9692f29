use Rattle.std.proofs.Common.{◌≡◌, ◌+◌, ◌-◌, List, length, map, arith, subst, sym}
use Rattle.std.specs.Prelude.{slice_index_or}
use Rattle.std.proofs.lemmas.List.{length-map}
use Rattle.cycle_rules.specs.Bind.{row_of}
use Rattle.cycle_rules.specs.Row.{Row}
use Rattle.cycle_rules.specs.Links.{IsBack, IsLast}
use Rattle.cycle_rules.proofs.LastWriters.{some_back}
use Rattle.cycle_rules.proofs.links.Writers.rows_back.Goals as goal

pub returns : goal.returns
returns c =
    let body : List Row = map row_of c.args.body.now in
    let size : length body ≡ length c.args.body.now = length-map c.args.body.now row_of in
    let x = slice_index_or c.args.self.now.last c.number.result 0 in
    let last : IsLast body (length body + c.args.place) c.number.result x =
    subst (λ n. IsLast body (n + c.args.place) c.number.result x) (sym size) (c.requires.last.each c.number.result c.number.ensures.bound) in
    subst (λ n. IsBack body c.args.place c.args.reg (n + c.args.place + 1 - x)) size
    (subst (λ r. IsBack body c.args.place r (length body + c.args.place + 1 - x)) c.number.ensures.value
    (some_back body c.args.place c.number.result x (omega (arith, size, c.requires.place)) c.if-last-eq0.false last))

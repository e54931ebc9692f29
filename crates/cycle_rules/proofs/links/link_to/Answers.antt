use Rattle.std.proofs.Math.Nat.{mod-lt}
use Rattle.std.proofs.Common.{◌≡◌, ℕ, ◌+◌, ◌-◌, ◌%◌, ◌<◌, ◌∙◌, length, map, arith, ap, sym, subst, refl}
use Rattle.std.specs.Prelude.{slice_index_or}
use Rattle.std.proofs.lemmas.List.{length-map, get_or-map}
use Rattle.cycle_rules.specs.Bind.{row_of}
use Rattle.cycle_rules.specs.Row.{Row, no_row, lead, advance_of}
use Rattle.cycle_rules.specs.Links.{IsBack}
use Rattle.cycle_rules.proofs.Producers.{link_zero, link_told}
use Rattle.cycle_rules.proofs.links.link_to.Goals as goal

pub returns-then-number-eq0-clause-link : goal.returns-then-number-eq0-clause-link
returns-then-number-eq0-clause-link g c = λ iterations j _. link_zero (g.M.Machine.meaning c.args.machine.now) (map row_of c.args.body.now) iterations j c.args.read (record { back = 0; lead = 0 }) (sym c.number.ensures.value ∙ c.if-number-eq0.true) refl

pub returns-then-back-eq0-clause-link : goal.returns-then-back-eq0-clause-link
returns-then-back-eq0-clause-link g c = link_told (g.M.Machine.meaning c.args.machine.now) (map row_of c.args.body.now) c.args.place c.args.read (record { back = 0; lead = 0 }) (λ e. c.if-number-eq0.false (c.number.ensures.value ∙ e)) (omega (arith, length-map c.args.body.now row_of, c.requires.place))
    (subst (IsBack (map row_of c.args.body.now) c.args.place c.args.read.reg) c.if-back-eq0.true c.requires.back) (λ ne. absurd (ne refl))

pub returns-clause-link : goal.returns-clause-link
returns-clause-link g c =
    let q : ℕ = (c.args.place + length c.args.body.now - c.args.back) % length c.args.body.now in
    let within : q < length c.args.body.now = mod-lt (c.args.place + length c.args.body.now - c.args.back) (omega (arith, c.requires.place)) in
    let row : row_of c.index-body-place.result ≡ slice_index_or (map row_of c.args.body.now) ((c.args.place + length (map row_of c.args.body.now) - c.args.back) % length (map row_of c.args.body.now)) no_row =
    ap row_of c.index-body-place.is ∙ sym (get_or-map row_of c.args.body.now q c.index-body-place.result no_row within)
    ∙ ap (λ n. slice_index_or (map row_of c.args.body.now) ((c.args.place + n - c.args.back) % n) no_row) (sym (length-map c.args.body.now row_of)) in
    link_told (g.M.Machine.meaning c.args.machine.now) (map row_of c.args.body.now) c.args.place c.args.read (record { back = c.args.back; lead = c.lead.result }) (λ e. c.if-number-eq0.false (c.number.ensures.value ∙ e)) (omega (arith, length-map c.args.body.now row_of, c.requires.place))
    c.requires.back (λ ne. c.lead.ensures ∙ ap (λ (b : Row). lead b.latency (advance_of (g.M.Machine.meaning c.args.machine.now) c.args.read.read b.write)) row)

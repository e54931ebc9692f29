use Rattle.std.proofs.Common.{◌≡◌, ℕ, ap, sym, ◌∙◌}
use Rattle.std.specs.Cmp.Lexicographic.{bytes_decides}
use Rattle.cycle_rules.specs.Given.{input_in, row_in}
use Rattle.cycle_rules.specs.Pick.{pick, padded}
use Rattle.cycle_rules.specs.Row.{Input, Table, times, phase}
use Rattle.cycle_rules.specs.Seen.{sees}
use Rattle.cycle_rules.proofs.Wrong.{units_are}
use Rattle.cycle_rules.proofs.judge.are_units.Goals as goal

along : (g : Input) (t : Table) (j p q c d : ℕ) → p ≡ q → c ≡ d → padded (pick g (sees g t p j c) j c) ≡ padded (pick g (sees g t q j d) j d)
along g t j p q c d e h = λ i. padded (pick g (sees g t (e i) j (h i)) j (h i))

pub returns : goal.returns
returns g c =
    let is : c.unwrap_or-units.result ≡ padded (pick (input_in (g.M.Machine.meaning c.args.machine.now) c.args.given.now.body.now c.args.given.now.count) (sees (input_in (g.M.Machine.meaning c.args.machine.now) c.args.given.now.body.now c.args.given.now.count) (times c.args.given.now.rows.now) (phase (row_in c.args.given.now.body.now c.args.j)) c.args.j (times c.args.given.now.rows.now c.args.j).issue) c.args.j (times c.args.given.now.rows.now c.args.j).issue)
    = c.unwrap_or-units.ensures ∙ units_are c.pick.result _ c.pick.ensures.none c.pick.ensures.units
    ∙ along (input_in (g.M.Machine.meaning c.args.machine.now) c.args.given.now.body.now c.args.given.now.count) (times c.args.given.now.rows.now) c.args.j _ _ _ _ (c.phase_of.ensures ∙ ap phase c.row.ensures.row) (ap (λ t. t.issue) c.time-time.ensures) in (
      (λ h. sym (ap (λ t. t.units) c.time-time.ensures) ∙ (bytes_decides c.time-time.result.now.units c.unwrap_or-units.result).0 (sym c.eq.ensures ∙ h) ∙ is),
      (λ h. c.eq.ensures ∙ (bytes_decides c.time-time.result.now.units c.unwrap_or-units.result).1 (ap (λ t. t.units) c.time-time.ensures ∙ h ∙ sym is)),
    )

use Rattle.std.proofs.Common.{◌≡◌, true, false, rules, sym, ◌∙◌, ap}
use Rattle.cycle_rules.specs.Given.{input_in}
use Rattle.cycle_rules.specs.Row.{Row, times}
use Rattle.cycle_rules.proofs.Judging.{dispatch_early, dispatch_no_room, dispatch_reserved, dispatch_free}
use Rattle.cycle_rules.proofs.judge.can_dispatch.Goals as goal

pub returns-then-not-follows_dispatch : goal.returns-then-not-follows_dispatch
returns-then-not-follows_dispatch g c = dispatch_early (input_in (g.M.Machine.meaning c.args.machine.now) c.args.given.now.body.now c.args.given.now.count) (times c.args.given.now.rows.now) c.args.j c.args.c c.requires.run
    (sym c.follows_dispatch.ensures ∙ (let e : c.follows_dispatch.result ≡ false = search rules in e))

pub returns-then-not-has_all_room : goal.returns-then-not-has_all_room
returns-then-not-has_all_room g c = dispatch_no_room (input_in (g.M.Machine.meaning c.args.machine.now) c.args.given.now.body.now c.args.given.now.count) (times c.args.given.now.rows.now) c.args.j c.args.c c.requires.run
    (sym c.follows_dispatch.ensures ∙ (let e : c.follows_dispatch.result ≡ true = search rules in e))
    (sym c.has_all_room.ensures ∙ (let e : c.has_all_room.result ≡ false = search rules in e))

pub returns-then-row : goal.returns-then-row
returns-then-row g c = dispatch_reserved (input_in (g.M.Machine.meaning c.args.machine.now) c.args.given.now.body.now c.args.given.now.count) (times c.args.given.now.rows.now) c.args.j c.args.c _ _ c.requires.run
    (sym c.follows_dispatch.ensures ∙ (let e : c.follows_dispatch.result ≡ true = search rules in e))
    (sym c.has_all_room.ensures ∙ (let e : c.has_all_room.result ≡ true = search rules in e))
    (ap (λ (r : Row). r.reserved) c.row.ensures.row) c.if-row.true c.can_start.ensures

pub returns : goal.returns
returns g c = dispatch_free (input_in (g.M.Machine.meaning c.args.machine.now) c.args.given.now.body.now c.args.given.now.count) (times c.args.given.now.rows.now) c.args.j c.args.c _ _ c.requires.run
    (sym c.follows_dispatch.ensures ∙ (let e : c.follows_dispatch.result ≡ true = search rules in e))
    (sym c.has_all_room.ensures ∙ (let e : c.has_all_room.result ≡ true = search rules in e))
    (ap (λ (r : Row). r.reserved) c.row.ensures.row) c.if-row.false c.fits_buffers.ensures

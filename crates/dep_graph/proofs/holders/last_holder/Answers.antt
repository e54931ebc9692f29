use Rattle.std.proofs.Common.{◌≡◌, ◌<◌, ◌≤◌, ℕ, Bool, true, false, arith, refl, sym, ◌∙◌, ap, subst}
use Rattle.std.specs.Prelude.{◌&&◌, nat_lt}
use Rattle.machine_model.specs.Meaning.{MachineMeaning}
use Rattle.dep_graph.specs.Holders.{taker_at, IsTop}
use Rattle.dep_graph.proofs.Blames.{last_up_to, top_is}
use Rattle.dep_graph.proofs.holders.last_holder.Goals as goal

pub loop-pos-preserved : goal.loop-pos-preserved
loop-pos-preserved g c =
    let has : ℕ → Bool = (g.M.Machine.meaning c.args.machine.now).units c.args.r in
    let held : ℕ → Bool = λ u. nat_lt c.args.c (taker_at c.args.last.now u).until in
    let place : ℕ → ℕ = λ u. (taker_at c.args.last.now u).place in
    let member : has c.in-Some-next_member.unit ≡ true = sym (c.loop-pos.invariant.units c.in-Some-next_member.unit) ∙ c.in-Some-next_member.ensures.member in
    let off : (u : ℕ) → c.loop-pos.pos ≤ u → u < c.in-Some-next_member.unit → (has u && held u) ≡ false = λ u from below. ap (λ b. b && held u) (sym (c.loop-pos.invariant.units u) ∙ c.in-Some-next_member.ensures.none u from below) in
    record {
      within = omega (arith, c.in-Some-next_member.ensures.within);
      best = c.later-best.ensures c.in-Some-next_member.unit (λ u. has u && held u) place (ap (λ b. b && held c.in-Some-next_member.unit) member) refl
          (last_up_to c.loop-pos.pos c.in-Some-next_member.unit (λ u. has u && held u) place c.loop-pos.best c.in-Some-next_member.ensures.from off c.loop-pos.invariant.best);
      units = c.loop-pos.invariant.units;
    }

pub returns-in-Some : goal.returns-in-Some
returns-in-Some g c =
    let m : MachineMeaning = g.M.Machine.meaning c.args.machine.now in
    let units : g.M.Mask.UnitMask.holds c.mask-units.result ≡ m.units c.args.r = λ i u. c.mask-units.ensures u i in
    top_is (m.units c.args.r) m.unit_count c.args.taken c.args.c c.in-Some.place c.args.last.now c.requires.size c.requires.taken
    (subst (λ has. IsTop has c.args.taken c.args.c c.args.last.now c.in-Some.place) units c.in-Some.ensures)

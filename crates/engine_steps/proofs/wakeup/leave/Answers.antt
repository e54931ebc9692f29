use Rattle.std.proofs.Common.{◌≡◌, ◌<◌, ◌&&◌, ℕ, inl, inr, true, not, refl, ◌∙◌, sym, ap, subst, nat_eq, arith}
use Rattle.std.proofs.lemmas.Bool.{cases_lt, both_ways}
use Rattle.cycle_rules.specs.Bind.{row_of}
use Rattle.cycle_rules.specs.Row.{Row, Input, times}
use Rattle.event_rules.specs.Due.{is_ordered}
use Rattle.row_sets.specs.Rows.{same_place}
use Rattle.row_sets.specs.Ready.{has_row}
use Rattle.engine_steps.specs.Wake.{class_of, AreAwake, except}
use Rattle.engine_steps.proofs.Classes.{class_low}
use Rattle.engine_steps.proofs.Wakes.{awake_leaves, settle_none, settle_agenda}
use Rattle.engine_steps.proofs.wakeup.leave.Goals as goal

pub remove-requires : goal.remove-requires
remove-requires g c = omega (arith, c.class_of.ensures, class_low (row_of c.instruction-b.result.now).uses)

pub returns-then-not-is_ordered-clause-awake : goal.returns-then-not-is_ordered-clause-awake
returns-then-not-is_ordered-clause-awake g c front head out lo hi a =
    let run : Input = g.R.Rows.input c.args.rows.now in
    let class : c.class_of.result ≡ class_of (run.row c.args.j).uses = c.class_of.ensures ∙ ap (λ (b : Row). class_of b.uses) c.instruction-b.ensures.row in
    let left = awake_leaves run c.args.table.now c.args.w.now c.remove.new.self front head c.args.c c.args.j out
    (subst (λ n. (q i : ℕ) → q < 64 → has_row c.remove.new.self q i ≡ (not (nat_eq q n && same_place i c.args.j) && has_row c.args.w.now.ready q i)) class c.remove.ensures) class_low lo hi c.requires.issued a in
    settle_none run c.args.table.now _ front head c.args.c c.args.j out (λ r u. c.requires.issued u.waits)
    (λ t u. absurd (both_ways _ (sym (c.is_ordered.ensures ∙ ap (λ (b : Row). is_ordered b.kind) c.instruction-b.ensures.row) ∙ c.if-not-is_ordered.true) u.ordered)) left

pub returns-clause-awake : goal.returns-clause-awake
returns-clause-awake g c front head out lo hi a =
    let run : Input = g.R.Rows.input c.args.rows.now in
    let class : c.class_of.result ≡ class_of (run.row c.args.j).uses = c.class_of.ensures ∙ ap (λ (b : Row). class_of b.uses) c.instruction-b.ensures.row in
    let left = awake_leaves run c.args.table.now c.args.w.now c.remove.new.self front head c.args.c c.args.j out
    (subst (λ n. (q i : ℕ) → q < 64 → has_row c.remove.new.self q i ≡ (not (nat_eq q n && same_place i c.args.j) && has_row c.args.w.now.ready q i)) class c.remove.ensures) class_low lo hi c.requires.issued a in
    let t : ℕ = (times c.args.table.now c.args.j).complete in
    let ordered : is_ordered (run.row c.args.j).kind ≡ true = sym (c.is_ordered.ensures ∙ ap (λ (b : Row). is_ordered b.kind) c.instruction-b.ensures.row) ∙ c.if-not-is_ordered.false in
    elim (cases_lt c.args.c t) [
      | inl late ↦ settle_agenda run c.args.table.now (record { ready = c.remove.new.self; agenda = c.args.w.now.agenda }) c.wait_for.new.agenda front head c.args.c c.args.j t out (c.wait_for.ensures.later late) lo hi (inr (record { ordered = ordered; issued = c.requires.issued; complete = refl })) left
      | inr come ↦ subst (λ agenda. AreAwake run c.args.table.now (record { ready = c.remove.new.self; agenda = agenda }) front head c.args.c (except c.args.j out)) (sym (c.wait_for.ensures.come come))
          (settle_none run c.args.table.now (record { ready = c.remove.new.self; agenda = c.args.w.now.agenda }) front head c.args.c c.args.j out (λ r u. c.requires.issued u.waits) (λ n u. omega (arith, u.complete, come)) left)
    ]

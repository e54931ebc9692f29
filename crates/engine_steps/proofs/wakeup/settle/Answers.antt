use Rattle.std.proofs.Common.{◌≡◌, ◌<◌, ◌&&◌, ◌||◌, ℕ, inl, inr, true, refl, ◌∙◌, sym, ap, subst, nat_eq, arith}
use Rattle.cycle_rules.specs.Bind.{row_of}
use Rattle.std.proofs.lemmas.Bool.{cases_lt}
use Rattle.cycle_rules.specs.Row.{Row, Input, times}
use Rattle.event_rules.specs.Due.{is_ordered}
use Rattle.row_sets.specs.Rows.{same_place}
use Rattle.row_sets.specs.Ready.{has_row}
use Rattle.engine_steps.specs.Wake.{class_of, AreAwake, WaitsUntil, except}
use Rattle.engine_steps.proofs.Classes.{class_low}
use Rattle.engine_steps.proofs.Wakes.{settle_none, settle_ready, settle_agenda}
use Rattle.engine_steps.proofs.wakeup.settle.Goals as goal

pub insert-requires : goal.insert-requires
insert-requires g c = omega (arith, c.class_of.ensures, class_low (row_of c.instruction-b.result.now).uses)

pub returns-then-r-c-clause-awake : goal.returns-then-r-c-clause-awake
returns-then-r-c-clause-awake g c front head out lo hi a =
    let run : Input = g.R.Rows.input c.args.rows.now in
    let waits : WaitsUntil run c.args.table.now c.args.k c.in-Some.r = record {
      free = sym (ap (λ (b : Row). b.reserved) c.instruction-b.ensures.row) ∙ c.if-b.false;
      waits = c.if-issue.false;
      operands = sym c.ready_from.ensures ∙ c.in-Some.is;
    } in
    let class : c.class_of.result ≡ class_of (run.row c.args.k).uses = c.class_of.ensures ∙ ap (λ (b : Row). class_of b.uses) c.instruction-b.ensures.row in
    settle_ready run c.args.table.now c.args.w.now c.insert.new.self front head c.args.c c.args.k c.in-Some.r out
    (subst (λ n. (q j : ℕ) → q < 64 → has_row c.insert.new.self q j ≡ ((nat_eq q n && same_place j c.args.k) || has_row c.args.w.now.ready q j)) class c.insert.ensures) class_low waits c.if-r-c.true a

pub returns-then-is_ordered-clause-awake : goal.returns-then-is_ordered-clause-awake
returns-then-is_ordered-clause-awake g c front head out lo hi a =
    let run : Input = g.R.Rows.input c.args.rows.now in
    let t : ℕ = (times c.args.table.now c.args.k).complete in
    let ordered : is_ordered (run.row c.args.k).kind ≡ true = sym (c.is_ordered.ensures ∙ ap (λ (b : Row). is_ordered b.kind) c.instruction-b.ensures.row) ∙ c.if-is_ordered.true in
    elim (cases_lt c.args.c t) [
      | inl late ↦ settle_agenda run c.args.table.now c.args.w.now c.wait_for.new.agenda front head c.args.c c.args.k t out (c.wait_for.ensures.later late) lo hi (inr (record { ordered = ordered; issued = c.if-issue.true; complete = refl })) a
      | inr come ↦ subst (λ agenda. AreAwake run c.args.table.now (record { ready = c.args.w.now.ready; agenda = agenda }) front head c.args.c (except c.args.k out)) (sym (c.wait_for.ensures.come come))
          (settle_none run c.args.table.now c.args.w.now front head c.args.c c.args.k out (λ r u. c.if-issue.true u.waits) (λ n u. omega (arith, u.complete, come)) a)
    ]

pub returns-else-r-c-clause-awake : goal.returns-else-r-c-clause-awake
returns-else-r-c-clause-awake g c front head out lo hi a =
    let run : Input = g.R.Rows.input c.args.rows.now in
    let waits : WaitsUntil run c.args.table.now c.args.k c.in-Some.r = record {
      free = sym (ap (λ (b : Row). b.reserved) c.instruction-b.ensures.row) ∙ c.if-b.false;
      waits = c.if-issue.false;
      operands = sym c.ready_from.ensures ∙ c.in-Some.is;
    } in
    settle_agenda run c.args.table.now c.args.w.now c.put.new.self front head c.args.c c.args.k c.in-Some.r out c.put.ensures lo hi (inl waits) a

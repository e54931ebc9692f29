use Rattle.std.proofs.Common.{◌≡◌, ◌-◌, true, false, ◌||◌, arith, rules, ap, sym, ◌∙◌, refl}
use Rattle.cycle_rules.specs.Given.{input_in, row_in}
use Rattle.cycle_rules.specs.Row.{Row, is_store, is_barrier}
use Rattle.cycle_rules.proofs.SeenIssues.{fenced_none, fenced_is, fenced_more, all_step, all_fails, all_none, access_is}
use Rattle.cycle_rules.proofs.starts.keeps_order.Goals as goal

pub loop-k-init : goal.loop-k-init
loop-k-init g c = record {
  low = omega arith;
  fenced = fenced_none (input_in (g.M.Machine.meaning c.args.machine.now) c.args.given.now.body.now c.args.given.now.count) c.args.at.row c.args.at.row (omega arith);
  all = refl;
}

pub may_pass-requires-clause-fenced : goal.may_pass-requires-clause-fenced
may_pass-requires-clause-fenced g c = c.loop-k.invariant.fenced ∙ fenced_is (input_in (g.M.Machine.meaning c.args.machine.now) c.args.given.now.body.now c.args.given.now.count) (c.loop-k.k - 1) c.loop-k.k c.args.at.row (omega arith)

pub returns-then-not-may_pass : goal.returns-then-not-may_pass
returns-then-not-may_pass g c = access_is (input_in (g.M.Machine.meaning c.args.machine.now) c.args.given.now.body.now c.args.given.now.count) _ c.args.at.row c.args.at.cycle false
    (all_fails c.loop-k.k (c.loop-k.k - 1) _ (omega arith) (sym c.may_pass.ensures ∙ (let e : c.may_pass.result ≡ false = search rules in e)) ∙ sym c.loop-k.invariant.all)

pub loop-k-preserved : goal.loop-k-preserved
loop-k-preserved g c = record {
  low = omega arith;
  fenced = c.finds_fence-fenced.ensures
      ∙ ap (λ (r : Row). (is_store r.kind || is_barrier r.kind) || c.loop-k.fenced) c.row.ensures.row
      ∙ ap (λ b. (is_store (row_in c.args.given.now.body.now (c.loop-k.k - 1)).kind || is_barrier (row_in c.args.given.now.body.now (c.loop-k.k - 1)).kind) || b) c.loop-k.invariant.fenced
      ∙ fenced_more (input_in (g.M.Machine.meaning c.args.machine.now) c.args.given.now.body.now c.args.given.now.count) (c.loop-k.k - 1) c.loop-k.k c.args.at.row (omega arith) (omega arith);
  all = c.loop-k.invariant.all ∙ all_step c.loop-k.k (c.loop-k.k - 1) _ (omega arith) (sym c.may_pass.ensures ∙ (let e : c.may_pass.result ≡ true = search rules in e));
}

pub returns : goal.returns
returns g c = access_is (input_in (g.M.Machine.meaning c.args.machine.now) c.args.given.now.body.now c.args.given.now.count) _ c.args.at.row c.args.at.cycle true
    (all_none c.loop-k.k _ (omega arith) ∙ sym c.loop-k.invariant.all)

use Rattle.std.proofs.Common.{◌≡◌, ◌+◌, ◌∙◌, refl, sym, ap, subst, arith, true, false, ◌||◌}
use Rattle.rv_isa.specs.declared.facts.Kind.TheVariants.{Plain, Load, Store, Barrier}
use Rattle.rv_isa.specs.declared.facts.Kind.{Kind}
use Rattle.cycle_rules.specs.Row.{is_store, is_barrier}
use Rattle.cycle_rules.specs.Issue.{is_fenced}
use Rattle.dep_graph.specs.PassTimes.{let_go}
use Rattle.dep_graph.specs.Peaks.{IsPeak}
use Rattle.dep_graph.specs.declared.peak.Peak.{Peak}
use Rattle.dep_graph.proofs.Peaked.{load_later, no_fence, peak_lower}
use Rattle.dep_graph.proofs.memory.Fences.pass.Goals as goal

pub returns : goal.returns
returns c = λ g t kind no_alias issue complete h.
    let fenced : IsPeak (λ k. let_go Load (g.row k).kind g.machine.limits.no_alias true (t k).issue (t k).complete) (c.args.row + 1) c.raise.new.self =
    c.raise.ensures (λ k. let_go Load (g.row k).kind g.machine.limits.no_alias true (t k).issue (t k).complete) ((λ i. let_go Load (kind i) (no_alias i) true (issue i) (complete i)) ∙ sym c.lets_load.ensures) h.fenced in
    let fence : (is_store (g.row c.args.row).kind || is_barrier (g.row c.args.row).kind) ≡ c.is_fence.result = ap (λ a. is_store a || is_barrier a) kind ∙ sym c.is_fence.ensures in
    record {
      fenced = fenced;
      load = subst (λ p. IsPeak (λ k. let_go Load (g.row k).kind g.machine.limits.no_alias (is_fenced g k (c.args.row + 1)) (t k).issue (t k).complete) (c.args.row + 1) p) (sym c.later-self.ensures)
          (load_later g t c.args.row c.is_fence.result c.raise.new.self c.args.self.now.load fence fenced h.load);
      store = c.raise-2.ensures (λ k. let_go Store (g.row k).kind g.machine.limits.no_alias true (t k).issue (t k).complete) ((λ i. let_go Store (kind i) (no_alias i) true (issue i) (complete i)) ∙ sym c.lets_store.ensures) h.store;
      barrier = c.raise-3.ensures (λ k. let_go Barrier (g.row k).kind g.machine.limits.no_alias true (t k).issue (t k).complete) ((λ i. let_go Barrier (kind i) (no_alias i) true (issue i) (complete i)) ∙ sym c.lets_barrier.ensures) h.barrier;
    }

pub returns-in-Plain : goal.returns-in-Plain
returns-in-Plain c = λ g t kind no_alias issue complete h.
    let plain : (g.row c.args.row).kind ≡ Plain = kind ∙ c.in-Plain.is in
    let still : (a : Kind) (p : Peak) → let_go a Plain g.machine.limits.no_alias true (t c.args.row).issue (t c.args.row).complete ≡ 0
    → IsPeak (λ k. let_go a (g.row k).kind g.machine.limits.no_alias true (t k).issue (t k).complete) c.args.row p
    → IsPeak (λ k. let_go a (g.row k).kind g.machine.limits.no_alias true (t k).issue (t k).complete) (c.args.row + 1) p =
    λ a p none old. peak_lower (λ k. let_go a (g.row k).kind g.machine.limits.no_alias true (t k).issue (t k).complete) c.args.row 0 p
    (ap (λ b. let_go a b g.machine.limits.no_alias true (t c.args.row).issue (t c.args.row).complete) plain ∙ none) old (omega arith) in
    let fenced = still Load c.args.self.now.fenced refl h.fenced in
    record {
      fenced = fenced;
      load = load_later g t c.args.row false c.args.self.now.fenced c.args.self.now.load (ap (λ b. is_store b || is_barrier b) plain ∙ no_fence) fenced h.load;
      store = still Store c.args.self.now.store refl h.store;
      barrier = still Barrier c.args.self.now.barrier refl h.barrier;
    }

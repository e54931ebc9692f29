use Rattle.std.proofs.Common.{◌≡◌, ◌+◌, ◌∷◌, [], ℕ, inl, inr, List, length, arith, sym, ◌∙◌, ap, subst}
use Rattle.std.specs.Prelude.{slice_index}
use Rattle.std.proofs.lemmas.Bool.{cases_lt}
use Rattle.std.proofs.lemmas.List.{length-append}
use Rattle.cycle_rules.specs.Row.{Input, Table, times}
use Rattle.cycle_rules.specs.Waits.{memory_wait}
use Rattle.dep_graph.specs.Blamed.{memory_blamed}
use Rattle.dep_graph.specs.Peaks.{IsWait, kept_at}
use Rattle.dep_graph.specs.Turns.{slot_of}
use Rattle.dep_graph.proofs.Pushed.{all_pushed}
use Rattle.dep_graph.proofs.Walks.{sums_none}
use Rattle.dep_graph.proofs.passed.pass_all.Goals as goal

pub loop-j-init : goal.loop-j-init
loop-j-init g c =
    let run : Input = g.R.Rows.input c.args.rows.now in
    let t : Table = times (g.R.Rows.table c.args.rows.now) in
    record {
      size = ap (λ (xs : List ℕ). length xs) c.in_ok-slots.ensures.items;
      each = λ j lt. absurd (omega (arith, lt));
      fences = c.none-fences.ensures run t;
      places = c.in_ok-memory.ensures;
      kept = λ j lt. absurd (omega (arith, lt));
      walk = c.empty-walk.ensures run t;
      stalls = c.none-stalls.ensures ∙ sym (sums_none run t);
    }

pub loop-j-preserved : goal.loop-j-preserved
loop-j-preserved g c =
    let run : Input = g.R.Rows.input c.args.rows.now in
    let t : Table = times (g.R.Rows.table c.args.rows.now) in
    let old : List ℕ = c.loop-j.slots.items in
    record {
      size = ap (λ (xs : List ℕ). length xs) c.in_ok-push.ensures.items ∙ length-append old (c.slot-slot.result ∷ []) ∙ ap (λ n. n + 1) c.loop-j.invariant.size;
      each = λ j lt. subst (λ l. slice_index l j ≡ slot_of run t j) (sym c.in_ok-push.ensures.items)
          (all_pushed (λ n y. y ≡ slot_of run t n) old c.slot-slot.result 0 c.loop-j.j c.loop-j.invariant.size c.loop-j.invariant.each c.slot-slot.ensures j lt);
      fences = c.pass.ensures.fences;
      places = c.in_ok-keep.ensures.kept;
      kept = λ j lt. elim (cases_lt j c.loop-j.j) [
        | inl low ↦ subst (IsWait (memory_wait run t j) (memory_blamed run t j)) (sym (c.in_ok-keep.ensures.older j low)) (c.loop-j.invariant.kept j low)
        | inr past ↦ (let here : j ≡ c.loop-j.j = omega (arith, past, lt) in
            subst (λ k. IsWait (memory_wait run t k) (memory_blamed run t k) (kept_at c.keep.new.self k)) (sym here)
            (c.in_ok-keep.ensures.row (memory_wait run t c.loop-j.j) (memory_blamed run t c.loop-j.j) c.pass.ensures.wait))
      ];
      walk = c.pass-in-loop-j.ensures.walk;
      stalls = c.pass-in-loop-j.ensures.counts;
    }

pub keep-requires-clause-row : goal.keep-requires-clause-row
keep-requires-clause-row g c = omega (arith, c.loop-j-test.true, c.count-j-end.ensures, c.requires.run.few)

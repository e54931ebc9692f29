use Rattle.std.proofs.Common.{◌≡◌, ◌+◌, ◌-◌, ◌%◌, arith, ap, sym, ◌∙◌}
use Rattle.unit_sets.specs.Members.{in_word}
use Rattle.row_sets.proofs.Words.{in_word-zero}
use Rattle.row_sets.proofs.Classes.{no_class}
use Rattle.row_sets.proofs.Search.{looked, found_class}
use Rattle.row_sets.proofs.ready.ReadyRows.next.Goals as goal

pub returns-in-Some-clause-none : goal.returns-in-Some-clause-none
returns-in-Some-clause-none c =
    looked c.args.self.now.words.items c.args.passed c.ready_in.result c.args.from c.loop-k.k (c.loop-k.k + c.min.result) c.ready_in.ensures c.loop-k.invariant.none (omega arith)
    (omega (arith, c.min.ensures, c.in-Some.ensures.from, c.in-Some.ensures.within)) (λ v lo hi. c.in-Some.ensures.none v lo (omega (arith, c.min.ensures, c.in-Some.ensures.from)))

pub returns-in-Some-clause-ready : goal.returns-in-Some-clause-ready
returns-in-Some-clause-ready c = λ before.
    let bit : c.loop-k.k % 64 + (c.loop-k.k + c.min.result - c.loop-k.k) ≡ c.in-Some.u = omega (arith, c.min.ensures, c.in-Some.ensures.from, before) in
    let class = found_class c.args.self.now.words.items c.args.passed c.ready_in.result c.loop-k.k (c.loop-k.k + c.min.result) c.ready_in.ensures (omega arith)
    (omega (arith, bit, c.in-Some.ensures.within)) (ap (in_word c.ready_in.result) bit ∙ c.in-Some.ensures.member) in
    record { class = class.0; below = class.1; kept = class.2; has = class.3 }

pub loop-k-preserved : goal.loop-k-preserved
loop-k-preserved c = record {
  from = omega (arith, c.loop-k.invariant.from);
  within = omega (arith, c.min-k.ensures, c.loop-k.invariant.within);
  none = looked c.args.self.now.words.items c.args.passed c.ready_in.result c.args.from c.loop-k.k (c.loop-k.k + c.min-k.result) c.ready_in.ensures c.loop-k.invariant.none (omega arith)
      (omega (arith, c.min-k.ensures)) (λ v lo hi. c.in-None.ensures v lo (omega (arith, c.min-k.ensures)));
}

pub returns-then-without-eq0-clause-none : goal.returns-then-without-eq0-clause-none
returns-then-without-eq0-clause-none c = λ class k low kept lo hi. c.args.self.now.unused class k low (no_class (in_word c.args.self.now.used class) (in_word c.args.passed class) (sym (c.without.ensures class) ∙ ap (λ w. in_word w class) c.if-without-eq0.true ∙ in_word-zero class) kept)

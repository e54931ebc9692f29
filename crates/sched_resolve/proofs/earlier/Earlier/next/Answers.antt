use Rattle.std.proofs.Common.{◌≡◌, ◌∙◌, ap, sym, ◌<◌, length, nat_eq, arith}
use Rattle.std.specs.Prelude.{◌||◌, ◌&&◌}
use Rattle.std.specs.Cmp.Lexicographic.{pointwise}
use Rattle.std.specs.List.{list_any}
use Rattle.sched_resolve.specs.Noted.{advance_class, writes_class, is_general, lists}
use Rattle.sched_resolve.proofs.SeenSteps.{room, few_more, counted_more, seen_more}
use Rattle.sched_resolve.proofs.earlier.Earlier.next.Goals as goal

pub invariant_of-result : goal.invariant_of-result
invariant_of-result c =
    let old = c.self.inside in
    let one = c.index-records-count.result in
    let h : old.count < length old.records.now = room old.records.now old.count c.args.self c.self.invariant.within c.self.view_is c.requires.more in
    let table : c.args.names.now ≡ old.records.now = c.requires.table ∙ ap (λ s. s.table) (sym c.self.view_is) in
    record {
      within = omega (arith, h);
      few = few_more old.advances c.with_one.result old.count (advance_class one) c.self.invariant.few c.with_one.ensures;
      counted = counted_more old.records.now old.count one old.advances c.with_one.result h c.index-records-count.is c.self.invariant.counted c.with_one.ensures;
      written = λ n. seen_more (writes_class n) old.records.now old.count one _ _ h c.index-records-count.is (c.self.invariant.written n) (c.in_ok-note_class.ensures n);
      empty = λ p. seen_more (is_general old.records.now p) old.records.now old.count one _ _ h c.index-records-count.is (c.self.invariant.empty p)
          (c.in_ok-note_advance.ensures.general p ∙ ap (λ t. list_any (nat_eq p) old.general.keys || is_general t p one) table);
      named = λ p n. seen_more (lists old.records.now p n) old.records.now old.count one _ _ h c.index-records-count.is (c.self.invariant.named p n)
          (c.in_ok-note_advance.ensures.listed p n ∙ ap (λ t. list_any (λ k. nat_eq p k.0 && pointwise nat_eq n k.1.now) old.listed.keys || lists t p n one) table);
    }

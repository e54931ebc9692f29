use Rattle.std.proofs.Common.{◌≡◌, ◌-◌, ◌++◌, ◌∙◌, rules, codes, take, drop, length, sym, ap, arith}
use Rattle.std.specs.Fmt.{decimal}
use Rattle.std.proofs.Math.Seq.{take-append_seam}
use Rattle.std.proofs.lemmas.Fmt.{length-decimal-le}
use Rattle.std.proofs.lemmas.List.{append-nil, append_assoc, drop_all}
use Rattle.mca_views.specs.Bottleneck.{row_tag, kind_word}
use Rattle.mca_views.specs.Shown.{shown}
use Rattle.mca_views.proofs.Tags.{pieces, drop_behind}
use Rattle.mca_views.proofs.bottlenecks.write_link.Goals as goal

pub write_digits-start-requires : goal.write_digits-start-requires
write_digits-start-requires g c = let cost = length-decimal-le 20 c.args.e.cost (omega arith) (omega arith) (omega arith) in
    (omega (arith, cost), search rules)

pub write_kind-end-requires-clause-low : goal.write_kind-end-requires-clause-low
write_kind-end-requires-clause-low g c = let cost = length-decimal-le 20 c.args.e.cost (omega arith) (omega arith) (omega arith) in
    omega (arith, cost, c.write_digits-start.ensures.start)

pub write_row-to-requires-clause-low : goal.write_row-to-requires-clause-low
write_row-to-requires-clause-low g c = let cost = length-decimal-le 20 c.args.e.cost (omega arith) (omega arith) (omega arith) in
    omega (arith, cost, c.write_digits-start.ensures.start, c.write_kind-end.ensures.short)

pub write_before-start-requires-clause-low : goal.write_before-start-requires-clause-low
write_before-start-requires-clause-low g c = let cost = length-decimal-le 20 c.args.e.cost (omega arith) (omega arith) (omega arith) in
    omega (arith, cost, c.write_digits-start.ensures.start, c.write_kind-end.ensures.short, c.write_row-to.ensures.short)

pub write_tag-start-requires-clause-low : goal.write_tag-start-requires-clause-low
write_tag-start-requires-clause-low g c = let cost = length-decimal-le 20 c.args.e.cost (omega arith) (omega arith) (omega arith) in
    omega (arith, cost, c.write_digits-start.ensures.start, c.write_kind-end.ensures.short, c.write_row-to.ensures.short, c.write_before-start.ensures.start)

pub keep_tag-requires-clause-low : goal.keep_tag-requires-clause-low
keep_tag-requires-clause-low g c = let cost = length-decimal-le 20 c.args.e.cost (omega arith) (omega arith) (omega arith) in
    omega (arith, cost, c.write_digits-start.ensures.start, c.write_kind-end.ensures.short)

pub returns-clause-tag : goal.returns-clause-tag
returns-clause-tag g c =
    let s = shown g.M.Machine.meaning c.args.v.now in
    let e = c.args.e in
    let to = c.write_row-to.result in
    let line = c.write_tag-start.new.buf in
    let arrow = c.write_before-start.result in
    let both : drop arrow line ≡ codes " -> " ++ drop to c.write_row-to.new.buf = c.write_tag-start.ensures.behind ∙ c.write_before-start.ensures.written in
    let row : drop to line ≡ row_tag s e.to ++ drop c.write_kind-end.result c.write_kind-end.new.buf =
    drop_behind arrow to line (codes " -> ") (drop to c.write_row-to.new.buf) c.write_before-start.ensures.start both ∙ c.write_row-to.ensures.written in
    let size : c.write_kind-end.result - to ≡ length (row_tag s e.to) = omega (arith, c.write_row-to.ensures.start) in
    record {
      within = omega (arith, c.keep_tag.ensures.start, c.write_row-to.ensures.start);
      bytes = c.keep_tag.ensures.bytes ∙ (λ i. take (size i) (row i)) ∙ take-append_seam (row_tag s e.to) (drop c.write_kind-end.result c.write_kind-end.new.buf) ∙ ap (row_tag s) (sym c.keep_tag.ensures.row);
    }

pub returns-clause-written : goal.returns-clause-written
returns-clause-written g c =
    let s = shown g.M.Machine.meaning c.args.v.now in
    let e = c.args.e in
    let from : drop c.retag.new.tag.start c.retag.new.tag.bytes ≡ row_tag s e.from = c.retag.ensures.tag.bytes ∙ ap (row_tag s) c.retag.ensures.row in
    let cost : drop c.write_digits-start.result c.write_digits-start.new.buf ≡ decimal e.cost =
    c.write_digits-start.ensures.written ∙ ap (λ l. decimal e.cost ++ l) (drop_all 80 c.args.buf.now (omega arith)) ∙ append-nil (decimal e.cost) in
    let kind : drop c.write_kind-end.result c.write_kind-end.new.buf ≡ codes " " ++ (kind_word e.kind ++ (codes " " ++ decimal e.cost)) =
    c.write_kind-end.ensures.written ∙ ap (λ l. codes " " ++ kind_word e.kind ++ codes " " ++ l) cost
    ∙ append_assoc (codes " " ++ kind_word e.kind) (codes " ") (decimal e.cost) ∙ append_assoc (codes " ") (kind_word e.kind) (codes " " ++ decimal e.cost) in
    let behind : drop c.write_before-start.result c.write_before-start.new.buf ≡ codes " -> " ++ (row_tag s e.to ++ (codes " " ++ (kind_word e.kind ++ (codes " " ++ decimal e.cost)))) =
    c.write_before-start.ensures.written ∙ ap (λ l. codes " -> " ++ l) (c.write_row-to.ensures.written ∙ ap (λ l. row_tag s e.to ++ l) kind) in
    c.write_tag-start.ensures.written ∙ (λ i. from i ++ behind i)
    ∙ sym (pieces (row_tag s e.from) (codes " -> ") (row_tag s e.to) (codes " ") (kind_word e.kind) (codes " ") (decimal e.cost))

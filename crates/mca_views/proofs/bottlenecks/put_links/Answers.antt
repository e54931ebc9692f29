use Rattle.std.proofs.Common.{◌≡◌, ◌<◌, ◌-◌, [], ◌∙◌, ap, take, drop, arith, length, map, sym, subst, List, ℕ}
use Rattle.std.specs.Prelude.{slice_index_or}
use Rattle.std.proofs.lemmas.List.{length-map, length-drop, take_all}
use Rattle.std.proofs.Math.ListN.{get_or-map, get_or}
use Rattle.std.proofs.lemmas.List.{get_or_default}
use Rattle.std.proofs.lemmas.Result.{err_from_is_err_and}
use Rattle.critical_chain.specs.Graph.{no_edge}
use Rattle.critical_chain.specs.declared.graph.Edge.{Edge}
use Rattle.mca_views.specs.Bottleneck.{link_line}
use Rattle.mca_views.specs.Fault.{Over}
use Rattle.mca_views.specs.Lines.{line}
use Rattle.mca_views.specs.Page.{added}
use Rattle.mca_views.specs.Shown.{shown}
use Rattle.mca_views.proofs.Texts.{over_line, added_line}
use Rattle.mca_views.proofs.bottlenecks.put_links.Goals as goal

-- a line of a list of links is that of the link
line_at : (f : Edge → List ℕ) (links : List Edge) (k : ℕ) (text : List ℕ) → k < length links → text ≡ f (slice_index_or links k no_edge) → text ≡ get_or (map f links) k []
line_at f links k text lt is = is ∙ sym (get_or-map f links k no_edge) ∙ get_or_default (map f links) k (f no_edge) [] (rw (length-map links f) lt)

pub returns-in_err-put_line-clause-long : goal.returns-in_err-put_line-clause-long
returns-in_err-put_line-clause-long g c =
    let p = err_from_is_err_and c.from_residual.result c.from_residual.ensures.1 in
    let start = c.write_link-start.result in
    let buf = c.write_link-start.new.buf in
    let whole : take (80 - start) (drop start buf) ≡ drop start buf = take_all (80 - start) (drop start buf) (omega (arith, length-drop start buf)) in
    let f : Edge → List ℕ = link_line (shown g.M.Machine.meaning c.args.v.now) in
    rw (p.1, p.2) (over_line c.loop-e.page c.args.page.now (map f c.args.links.now) c.loop-e.e-index c.in_err-put_line.field-0.0 (rw (length-map c.args.links.now f) c.loop-e-test.true) c.loop-e.invariant.page
    (subst (λ t. Over c.loop-e.page.room (length (added c.loop-e.page (line t)).text) c.in_err-put_line.field-0.0) (line_at f c.args.links.now c.loop-e.e-index (take (80 - start) (drop start buf)) c.loop-e-test.true (whole ∙ c.write_link-start.ensures.written)) c.in_err-put_line.ensures.long))

pub loop-e-preserved : goal.loop-e-preserved
loop-e-preserved g c =
    let start = c.write_link-start.result in
    let buf = c.write_link-start.new.buf in
    let whole : take (80 - start) (drop start buf) ≡ drop start buf = take_all (80 - start) (drop start buf) (omega (arith, length-drop start buf)) in
    let f : Edge → List ℕ = link_line (shown g.M.Machine.meaning c.args.v.now) in
    record {
      tag = c.write_link-start.ensures.tag;
      page = c.in_ok-put_line.ensures.ok
          ∙ ap (λ t. added c.loop-e.page (line t)) (line_at f c.args.links.now c.loop-e.e-index (take (80 - start) (drop start buf)) c.loop-e-test.true (whole ∙ c.write_link-start.ensures.written))
          ∙ added_line c.loop-e.page c.args.page.now (map f c.args.links.now) c.loop-e.e-index (rw (length-map c.args.links.now f) c.loop-e-test.true) c.loop-e.invariant.page;
    }

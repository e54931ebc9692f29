use Rattle.std.proofs.Common.{◌≡◌, ◌++◌, ◌∙◌, ◌-◌, ap, sym, subst, take, length, get_or, replicate, ℕ}
use Rattle.std.proofs.lemmas.List.{get_or-replicate, length-replicate}
use Rattle.mca_views.specs.Shown.{Shown, shown}
use Rattle.mca_views.specs.Sums.{AreSums}
use Rattle.mca_views.specs.WaitTimes.{at_place}
use Rattle.mca_views.specs.declared.sums.Sums.{Sums as SumsOf}
use Rattle.mca_views.proofs.SumRows.{no_rows, nothing, fresh}
use Rattle.mca_views.proofs.sums.no_sums.Goals as goal

pub returns : goal.returns
returns g c =
    let s : Shown = shown g.M.Machine.meaning c.args.v.now in
    let n : ℕ = length s.body in
    let all : c.resize.new.self.items ≡ replicate {A = SumsOf} n nothing = c.in_ok-resize.ensures.items ∙ (λ i. take n (c.new-places.ensures.items i) ++ replicate (n - c.new-places.ensures.len i) nothing) ∙ fresh n nothing in
    record {
      places = ap length all ∙ length-replicate n nothing;
      each = λ place d lt. subst (λ x. AreSums s (at_place s place) 0 x) (sym (ap (λ l. get_or l place d) all ∙ get_or-replicate n place nothing d lt)) (no_rows s (at_place s place));
      all = no_rows s (λ wait. wait);
    }

use Rattle.std.proofs.Common.{◌≡◌, ◌+◌, ◌∙◌, sym, ap, subst, get_or, ℕ}
use Rattle.std.specs.Prelude.{max, min, if◌then◌else◌}
use Rattle.cycle_rules.specs.Bind.{row_of}
use Rattle.cycle_rules.specs.CycleBound.{max_below}
use Rattle.cycle_rules.specs.Row.{Input, Table, no_times, times}
use Rattle.cycle_rules.specs.Waits.{earliest, operands_at}
use Rattle.cycle_rules.specs.WaitTimes.{seen_from, by_phase, reads_time, pass_time, IsTimed}
use Rattle.cycle_rules.proofs.WaitsTimed.{timed, phase_seen, phase_after}
use Rattle.mca_views.specs.Past.{IsLatest}
use Rattle.mca_views.specs.Shown.{Shown, shown, run_of}
use Rattle.mca_views.proofs.Entries.{row_is, row_in}
use Rattle.mca_views.proofs.past.Past.memory_at.Goals as goal

pub returns : goal.returns
returns g c =
    let s : Shown = shown g.M.Machine.meaning c.args.v.now in
    let run : Input = run_of s in
    let t : Table = times s.table in
    let j : ℕ = c.args.j in
    let law : IsTimed run t (by_phase run t) = timed run t (by_phase run t) (phase_seen run t) (phase_after run t) in
    let lt = row_in s j c.requires.shown c.requires.row in
    let b = get_or c.args.v.now.body.now c.args.place c.index-v-place.result in
    let is : run.row j ≡ row_of b = row_is s j c.args.place c.index-v-place.result c.requires.shown c.requires.place in
    let row : get_or c.as_slice.result.now j no_times ≡ t j = ap (λ l. get_or l j no_times) c.as_slice.ensures in
    let first : c.earliest-earliest.result ≡ earliest run t j = c.earliest-earliest.ensures ∙ (λ i. if (sym is i).reserved then (row i).dispatch else (row i).dispatch + 1) in
    let reads : c.reads_time-reads.result ≡ reads_time run t (by_phase run t j) j (run.row j).reads = c.reads_time-reads.ensures ∙ (λ i. reads_time run t (seen_from run t (sym is i).reserved) j (sym is i).reads) in
    let latest : IsLatest run t (run.row j).reserved j c.latest.result.now = subst (λ r. IsLatest run t r.reserved j c.latest.result.now) (sym is) (c.latest.ensures run t j c.requires.past) in
    let order : c.lets_go-order.result ≡ max_below j (pass_time run t (by_phase run t j) j) = c.lets_go-order.ensures run t j latest (ap (λ r. r.kind) (sym is)) (ap (λ l. l.no_alias) c.limits.ensures) in
    let operands : c.max-operands.result ≡ operands_at run t j = c.max-operands.ensures ∙ (λ i. max (first i) ((c.min.ensures ∙ (λ k. min (row k).issue (reads k))) i)) ∙ sym (law.operands j lt) in
    c.max.ensures ∙ (λ i. max (operands i) ((c.min-2.ensures ∙ (λ k. min (row k).issue (order k))) i)) ∙ sym (law.memory j lt)

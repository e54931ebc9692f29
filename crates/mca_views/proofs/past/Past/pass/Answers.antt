use Rattle.std.proofs.Common.{◌≡◌, ◌<◌, ◌+◌, ◌∙◌, sym, ap, subst, true, false, ◌&&◌, not, get_or, ℕ}
use Rattle.std.specs.Prelude.{max, if◌then◌else◌}
use Rattle.std.proofs.lemmas.List.{length-set}
use Rattle.cycle_rules.specs.Bind.{row_of}
use Rattle.cycle_rules.specs.Row.{Input, Table, no_times, times}
use Rattle.cycle_rules.specs.WaitTimes.{seen_from}
use Rattle.mca_views.specs.Shown.{Shown, shown, run_of}
use Rattle.mca_views.proofs.Entries.{row_is}
use Rattle.mca_views.proofs.Operands.{wrote, by_reserved}
use Rattle.mca_views.proofs.past.Past.pass.Goals as goal

pub returns : goal.returns
returns g c =
    let s : Shown = shown g.M.Machine.meaning c.args.v.now in
    let run : Input = run_of s in
    let t : Table = times s.table in
    let j : ℕ = c.args.j in
    let b = get_or c.args.v.now.body.now c.args.place c.index-v-place.result in
    let is : run.row j ≡ row_of b = row_is s j c.args.place c.index-v-place.result c.requires.shown c.requires.place in
    let row : get_or c.as_slice.result.now j no_times ≡ t j = ap (λ l. get_or l j no_times) c.as_slice.ensures in
    let first : (get_or c.as_slice.result.now j no_times).issue ≡ seen_from run t true j = ap (λ r. r.issue) row ∙ by_reserved (run.row j).reserved (t j).issue in
    let other : c.seen_from-by_others.result ≡ seen_from run t false j = c.seen_from-by_others.ensures.is
    ∙ (λ i. if (sym is i).reserved && not false then (row i).issue + 1 else (row i).issue) in
    record {
      registers = length-set c.args.self.now.writers.items c.number.result _ ∙ c.requires.past.registers;
      writers = wrote run j c.number.result c.args.self.now.writers.items (subst (λ n. c.number.result < n) (sym c.requires.past.registers) c.number.ensures.bound)
          (c.number.ensures.value ∙ ap (λ r. r.rd) (sym is)) c.requires.past.writers;
      of_reserved = c.after-self.ensures run t true j c.requires.past.of_reserved (ap (λ r. r.kind) (sym is)) first (c.max.ensures ∙ (λ i. max (first i) (row i).complete));
      of_others = c.after-self-2.ensures run t false j c.requires.past.of_others (ap (λ r. r.kind) (sym is)) other (c.max-2.ensures ∙ (λ i. max (other i) (row i).complete));
    }

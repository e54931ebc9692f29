-- What is told of an instruction and of a row that are shown.
use Rattle.std.proofs.Common.{◌≡◌, ℕ, ◌*◌, ◌%◌, ◌<◌, ◌≤◌, length, map, get_or, arith, sym, ◌∙◌, ap, subst}
use Rattle.std.proofs.lemmas.List.{length-map, get_or-map}
use Rattle.std.proofs.lemmas.List.Elements.{All-get_or}
use Rattle.machine_model.specs.Meaning.{MachineMeaning}
use Rattle.machine_model.specs.Valid.{IsValidMachine}
use Rattle.cycle_rules.specs.Bind.{row_of}
use Rattle.cycle_rules.specs.Row.{no_row}
use Rattle.cycle_rules.specs.declared.bound.Bound.{Bound}
use Rattle.mca_views.specs.Shown.{Shown, run_of, IsShown, IsEntry}

pub entry_write : {numbers size : ℕ} (m : MachineMeaning) (b : Bound) → IsValidMachine numbers size m → IsEntry m b → b.write < m.write_count
entry_write m b valid is = subst (λ k. k < m.write_count) (sym is.write) (valid.binding b.op is.classes is.runs).write

pub entry_latency : {numbers size : ℕ} (m : MachineMeaning) (b : Bound) → IsValidMachine numbers size m → IsEntry m b → b.latency ≤ 1000000
entry_latency m b valid is = let low = (valid.write b.write (entry_write m b valid is)).latency in subst (λ n. n ≤ 1000000) (sym is.latency) low

pub place_low : (s : Shown) (j : ℕ) → IsShown s → j % length s.body < length s.body
place_low s j is = omega (arith, is.some)

pub entry_at : (s : Shown) (place : ℕ) (d : Bound) → IsShown s → place < length s.body → IsEntry s.machine (get_or s.body place d)
entry_at s place d is lt = All-get_or (IsEntry s.machine) s.body place d lt is.entry

pub row_is : (s : Shown) (j place : ℕ) (d : Bound) → IsShown s → place ≡ j % length s.body → (run_of s).row j ≡ row_of (get_or s.body place d)
row_is s j place d is e =
    ap (λ n. get_or (map row_of s.body) (j % n) no_row) (length-map s.body row_of) ∙ ap (λ k. get_or (map row_of s.body) k no_row) (sym e)
    ∙ get_or-map row_of s.body place d no_row (subst (λ k. k < length s.body) (sym e) (place_low s j is))

pub rows_are : (s : Shown) → IsShown s → length s.table ≡ (run_of s).rows
rows_are s is = is.rows ∙ ap (λ n. s.iterations * n) (sym (length-map s.body row_of))

pub row_in : (s : Shown) (j : ℕ) → IsShown s → j < length s.table → j < (run_of s).rows
row_in s j is lt = subst (λ n. j < n) (rows_are s is) lt

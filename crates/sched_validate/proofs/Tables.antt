-- The entries of records, and how a table is refused.
use Rattle.std.proofs.Common.{◌≡◌, List, [], ◌∷◌, ◌++◌, length, refl, ap, sym, subst, ◌∙◌, arith}
use Rattle.sched_checks.specs.declared.illness.IllKind.{IllKind}
use Rattle.sched_checks.specs.declared.illness.IllKind.TheVariants as ill
use Rattle.sched_records.specs.declared.records.Record.{Record}
use Rattle.sched_resolve.specs.Entries.{entries_from, entries_of, all_defaults}
use Rattle.sched_resolve.specs.InRange.{AreInRange}
use Rattle.sched_resolve.specs.declared.entry.Entry.{Entry}
use Rattle.sched_resolve.specs.declared.entry.Defaults.{Defaults}
use Rattle.sched_resolve.proofs.Told.{in_range}
use Rattle.sched_validate.specs.Validate.{UnlessMemory}

as_many : (rs earlier rest : List Record) → length (entries_from rs earlier rest) ≡ length rest
as_many rs earlier [] = refl
as_many rs earlier (r ∷ rest) = omega (arith, as_many rs (earlier ++ r ∷ []) rest)

pub as_many_entries : (rs : List Record) (es : List Entry) → es ≡ entries_of rs → length es ≡ length rs
as_many_entries rs es e = ap length e ∙ as_many rs [] rs

pub entries_in_range : (rs : List Record) (es : List Entry) (ds : List Defaults) → es ≡ entries_of rs → ds ≡ all_defaults rs → AreInRange es ds
entries_in_range rs es ds e d = subst (λ x. AreInRange x ds) (sym e) (subst (λ y. AreInRange (entries_of rs) y) (sym d) (in_range rs))

pub unless_memory : (k : IllKind) (P : Type 0) → P → UnlessMemory k P
unless_memory ill.Memory P p = tt
unless_memory _ P p = p

pub if_memory : (k : IllKind) (P : Type 0) → k ≡ ill.Memory → UnlessMemory k P
if_memory k P e = subst (λ x. UnlessMemory x P) (sym e) tt

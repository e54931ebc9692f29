-- What a reader returns against what reading on lists gives. Want of memory may come at any time, and has line 0.
use Rattle.std.specs.Prelude.{◌≡◌, Ok, Err, ⊤}
use Rattle.std.specs.declared.result.Result.{Result}
use Rattle.sched_records.specs.declared.refusal.TableKind.{TableKind}
use Rattle.sched_records.specs.declared.refusal.TableKind.TheVariants as faults
use Rattle.sched_records.specs.declared.refusal.TableRefusal.{TableRefusal}

-- a fact about every refusal but want of memory
abbrev pub UnlessMemory : TableKind → Type 0 → Type 0
UnlessMemory faults.Memory P = ⊤
UnlessMemory _ P = P

-- a fact about want of memory, and one about every other refusal
abbrev pub ByMemory : TableKind → Type 0 → Type 0 → Type 0
ByMemory faults.Memory Q P = Q
ByMemory _ Q P = P

abbrev pub Gives : {X Y : Type 0} → (X → Y) → Result X TableRefusal → Result Y TableRefusal → Type 0
Gives view (Ok x) read = read ≡ Ok (view x)
Gives view (Err e) read = ByMemory e.kind (e.line ≡ 0) (read ≡ Err e)

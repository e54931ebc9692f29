-- One element of a list with the sign behind it, as a reader takes it.
use Rattle.std.specs.Prelude.{ℕ, List, drop, true, false, Ok, Err, if◌then◌else◌}
use Rattle.std.specs.declared.option.Option.{Option}
use Rattle.sched_records.specs.declared.records.Atom.{Atom}
use Rattle.sched_records.specs.declared.value.Element.{Element}
use Rattle.sched_records.specs.declared.value.ListedName.{ListedName}
use Rattle.sched_records.specs.Tokens.{Lexeme, first_of}
use Rattle.sched_records.specs.Grammar.{◌>>=◌, Parsed, is_sign, refusal, name_at}
use Rattle.sched_records.specs.Values.{atom, wide_of, after_wide}

-- an element goes on behind a comma and ends behind `]`
abbrev pub ended : Atom → Option ℕ → List Lexeme → Parsed Element
ended a wide us =
    if is_sign 44 (first_of us) then Ok (record { atom = a; wide = wide; last = false }, drop 1 us) else
    if is_sign 93 (first_of us) then Ok (record { atom = a; wide = wide; last = true }, drop 1 us) else
    Err (after_wide wide (refusal (first_of us)))

abbrev pub element_at : List Lexeme → Parsed Element
element_at ts = atom (first_of ts) >>= λ a. ended a (wide_of (first_of ts)) (drop 1 ts)

abbrev pub name_ended : List ℕ → List Lexeme → Parsed ListedName
name_ended n us =
    if is_sign 44 (first_of us) then Ok (record { name = n; last = false }, drop 1 us) else
    if is_sign 41 (first_of us) then Ok (record { name = n; last = true }, drop 1 us) else
    Err (refusal (first_of us))

abbrev pub listed_name_at : List Lexeme → Parsed ListedName
listed_name_at ts = name_at ts >>= λ n. name_ended n.0 n.1

-- The timeline: what each row does in each cycle, as letters.
use Rattle.std.specs.Prelude.{zero, suc, ℕ, ◌+◌, ◌*◌, ◌/◌, ◌%◌, min, List, [], ◌∷◌, ◌++◌, codes, length, ◌||◌, ◌&&◌, nat_lt, nat_le, nat_eq, if◌then◌else◌}
use Rattle.std.specs.Fmt.{decimal}
use Rattle.mca_fixed.specs.Padding.{spaces}
use Rattle.mca_words.specs.declared.options.Options.{Options}
use Rattle.cycle_rules.specs.Row.{times}
use Rattle.cycle_rules.specs.Run.{total_of}
use Rattle.cycle_rules.specs.declared.times.Times.{Times}
use Rattle.mca_views.specs.Lines.{cell, listed}
use Rattle.mca_views.specs.Shown.{Shown, spelled}

-- a number, but no more than a limit; 0 is no limit
abbrev pub limited : ℕ → ℕ → ℕ
limited limit n = if nat_eq limit 0 then n else min limit n

-- the cycles that the timeline shows, and the rows of the iterations that it shows
abbrev pub cycles_shown : Shown → Options → ℕ
cycles_shown s o = limited o.timeline_max_cycles (total_of s.table)

abbrev pub iterations_shown : Shown → Options → ℕ
iterations_shown s o = limited o.timeline_max_iterations s.iterations

abbrev pub rows_shown : Shown → Options → ℕ
rows_shown s o = iterations_shown s o * length s.body

-- what a row does in a cycle: the first that applies
unfoldable pub letter : Times → ℕ → ℕ
letter r c =
    if nat_lt c r.dispatch || nat_lt r.retire c then (if nat_eq (c % 5) 0 then 46 else 32)  -- '.' or a space: it is not in flight
    else if nat_eq c r.dispatch then 68  -- D
    else if nat_eq c r.retire then 82  -- R
    else if nat_eq c r.complete then 69  -- E
    else if nat_lt c r.issue then 61  -- =
    else if nat_lt c r.complete then 101  -- e
    else 45  -- -

-- iteration and place of a row
abbrev pub tag : ℕ → ℕ → List ℕ
tag iteration place = codes "[" ++ decimal iteration ++ codes "," ++ decimal place ++ codes "]"

-- a row: its tag, its letters, and the instruction
abbrev pub row_text : List ℕ → ℕ → Times → List ℕ → List ℕ
row_text name cycles r spelling = cell name 10 ++ listed cycles (letter r) ++ spaces 3 ++ spelling

abbrev pub row_line : Shown → ℕ → ℕ → List ℕ
row_line s cycles j = row_text (tag (j / length s.body) (j % length s.body)) cycles (times s.table j) (spelled s (j % length s.body))

-- a row that dispatches in a cycle that is shown
abbrev pub lines_of_row : Shown → ℕ → ℕ → List (List ℕ)
lines_of_row s cycles j = if nat_lt (times s.table j).dispatch cycles then row_line s cycles j ∷ [] else []

-- those of n rows
unfoldable pub row_lines : Shown → ℕ → ℕ → List (List ℕ)
row_lines s cycles zero = []
row_lines s cycles (suc j) = row_lines s cycles j ++ lines_of_row s cycles j

-- the digits of the cycles: the last, and the one before it at each tenth
unfoldable pub ones : ℕ → ℕ
ones c = 48 + c % 10

unfoldable pub tens : ℕ → ℕ
tens c = if nat_le 10 c && nat_eq (c % 10) 0 then 48 + (c / 10) % 10 else 32

abbrev pub timeline_head : ℕ → List (List ℕ)
timeline_head cycles =
    codes "Timeline view:"
    ∷ (spaces 10 ++ listed cycles tens)
    ∷ (cell (codes "Index") 10 ++ listed cycles ones)
    ∷ []
    ∷ []

abbrev pub timeline_lines : Shown → Options → List (List ℕ)
timeline_lines s o = timeline_head (cycles_shown s o) ++ row_lines s (cycles_shown s o) (rows_shown s o)

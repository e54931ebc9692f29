-- Reading a record: its arguments and its fields.
-- No record of a table has a value of another form than its field takes; in one made by hand such a value counts as 0,
-- as the empty name, as false, or as one that is not given.
use Rattle.std.specs.Prelude.{ℕ, ℤ, pos, List, [], ◌∷◌, codes, nat_eq, map, slice_get, Bool, false, not, Some, None, if◌then◌else◌}
use Rattle.std.specs.Cmp.Lexicographic.{pointwise}
use Rattle.std.specs.Ordering.{int_eq}
use Rattle.std.specs.declared.option.Option.{Option}
use Rattle.sched_records.specs.Fields.{field_name}
use Rattle.sched_records.specs.declared.field.Field.{Field}
use Rattle.sched_records.specs.declared.records.Atom.{Atom}
use Rattle.sched_records.specs.declared.records.Atom.TheVariants.{Number, Quoted, Word}
use Rattle.sched_records.specs.declared.records.Member.{Member}
use Rattle.sched_records.specs.declared.records.Record.{Record}
use Rattle.sched_records.specs.declared.records.Value.{Value}
use Rattle.sched_records.specs.declared.records.Value.TheVariants.{One, List as Listed, Instrs}

-- an argument, by its place from 0
abbrev pub argument : Record → ℕ → Option Value
argument r k = slice_get r.args k

-- the value of a field that is given
abbrev pub value_among : List ℕ → List Member → Option Value
value_among name [] = None
value_among name (m ∷ ms) = if pointwise nat_eq m.name name then Some m.value else value_among name ms

unfoldable pub field : Record → Field → Option Value
field r f = value_among (field_name f) r.members

-- what an atom says
abbrev pub number_of : Atom → ℤ
number_of (Number n) = n
number_of (Quoted text) = pos 0
number_of (Word name) = pos 0

abbrev pub word_of : Atom → List ℕ
word_of (Number n) = []
word_of (Quoted text) = []
word_of (Word name) = name

abbrev pub truth_of : Atom → Bool
truth_of (Number n) = not (int_eq n (pos 0))
truth_of (Quoted text) = false
truth_of (Word name) = pointwise nat_eq name (codes "true")

-- what a value says
abbrev pub number_or : ℤ → Option Value → ℤ
number_or d (Some (One a)) = number_of a
number_or d _ = d

abbrev pub word_in : Option Value → List ℕ
word_in (Some (One a)) = word_of a
word_in _ = []

abbrev pub is_true : Option Value → Bool
is_true (Some (One a)) = truth_of a
is_true _ = false

abbrev pub atoms_in : Option Value → List Atom
atoms_in (Some (Listed atoms)) = atoms
atoms_in _ = []

abbrev pub instrs_in : Option Value → List (List ℕ)
instrs_in (Some (Instrs names)) = names
instrs_in _ = []

abbrev pub words_in : Option Value → List (List ℕ)
words_in v = map word_of (atoms_in v)

abbrev pub numbers_in : Option Value → List ℤ
numbers_in v = map number_of (atoms_in v)

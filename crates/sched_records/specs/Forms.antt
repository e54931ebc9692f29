-- The forms of values.
use Rattle.std.specs.Prelude.{ℕ, ℤ, pos, negsuc, List, codes, nat_eq, Bool, true, false, ◌||◌, Ok, Err, Some, None, if◌then◌else◌}
use Rattle.std.specs.Cmp.Lexicographic.{pointwise}
use Rattle.std.specs.List.{list_all}
use Rattle.std.specs.declared.option.Option.{Option}
use Rattle.std.specs.declared.result.Result.{Result}
use Rattle.sched_records.specs.declared.class.ValueForm.{ValueForm}
use Rattle.sched_records.specs.declared.class.ValueForm.TheVariants as forms
use Rattle.sched_records.specs.declared.class.AtomForm.{AtomForm}
use Rattle.sched_records.specs.declared.class.AtomForm.TheVariants as atom_form
use Rattle.sched_records.specs.declared.records.Atom.{Atom}
use Rattle.sched_records.specs.declared.records.Atom.TheVariants as atoms
use Rattle.sched_records.specs.declared.records.Value.{Value}
use Rattle.sched_records.specs.declared.records.Value.TheVariants as values
use Rattle.sched_records.specs.declared.refusal.TableKind.TheVariants as faults
use Rattle.sched_records.specs.declared.refusal.TableRefusal.{TableRefusal}
use Rattle.sched_records.specs.declared.value.Found.{Found}
use Rattle.sched_records.specs.Tokens.{Lexeme, first_of}
use Rattle.sched_records.specs.Grammar.{◌>>=◌, Parsed, fault}
use Rattle.sched_records.specs.Values.{value_at}

abbrev pub is_bit : ℤ → Bool
is_bit (pos n) = nat_eq n 0 || nat_eq n 1
is_bit (negsuc n) = false

abbrev pub is_truth_word : List ℕ → Bool
is_truth_word word = pointwise nat_eq word (codes "true") || pointwise nat_eq word (codes "false")

abbrev pub has_atom_form : AtomForm → Atom → Bool
has_atom_form atom_form.Number (atoms.Number n) = true
has_atom_form atom_form.Number _ = false
has_atom_form atom_form.Name (atoms.Word w) = true
has_atom_form atom_form.Name _ = false
has_atom_form atom_form.Truth (atoms.Number n) = is_bit n
has_atom_form atom_form.Truth (atoms.Quoted q) = false
has_atom_form atom_form.Truth (atoms.Word w) = is_truth_word w

abbrev pub is_one : AtomForm → Value → Bool
is_one s (values.One a) = has_atom_form s a
is_one s _ = false

abbrev pub is_each : AtomForm → Value → Bool
is_each s (values.List as_) = list_all (has_atom_form s) as_
is_each s _ = false

abbrev pub is_instrs : Value → Bool
is_instrs (values.Instrs ns) = true
is_instrs _ = false

abbrev pub has_form : ValueForm → Value → Bool
has_form (forms.One s) v = is_one s v
has_form (forms.Each s) v = is_each s v
has_form forms.Instrs v = is_instrs v
has_form forms.Any v = true

-- a value that begins with a token; it has no form where there is one argument too many
abbrev pub is_of : Option ValueForm → Value → Bool
is_of None v = false
is_of (Some form) v = has_form form v

abbrev pub unless_wide : Option ℕ → Value → Result Value TableRefusal
unless_wide None v = Ok v
unless_wide (Some line) v = Err (record { line = line; kind = faults.BadValue })

abbrev pub checked : Option ValueForm → Lexeme → Found → Result Value TableRefusal
checked form t found = if is_of form found.value then unless_wide found.wide found.value else Err (fault t faults.BadValue)

-- a value of a form
unfoldable pub value_as : Option ValueForm → List Lexeme → Parsed Value
value_as form ts = do
  f ← value_at ts
  v ← checked form (first_of ts) f.0
  Ok (v, f.1)

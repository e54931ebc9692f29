-- FIELD = VALUE, in a body or a scope.
use Rattle.std.specs.Prelude.{List, Bool, true, Ok, Err, Some, None, if◌then◌else◌}
use Rattle.std.specs.Option.{ok_or}
use Rattle.std.specs.List.{list_any}
use Rattle.std.specs.declared.option.Option.{Option}
use Rattle.std.specs.declared.result.Result.{Result}
use Rattle.sched_records.specs.declared.class.Class.{Class}
use Rattle.sched_records.specs.declared.field.Field.{Field}
use Rattle.sched_records.specs.declared.members.Given.{Given}
use Rattle.sched_records.specs.declared.refusal.TableKind.TheVariants as faults
use Rattle.sched_records.specs.declared.refusal.TableRefusal.{TableRefusal}
use Rattle.sched_records.specs.Tokens.{Lexeme, first_of}
use Rattle.sched_records.specs.Grammar.{◌>>=◌, Parsed, fault, sign_at, name_at}
use Rattle.sched_records.specs.Classes.{has_field}
use Rattle.sched_records.specs.Fields.{field_of, form_of}
use Rattle.sched_records.specs.Forms.{value_as}
use Rattle.sched_records.specs.Members.{is_given_by}

-- a body gives the fields of its class, a scope those of every class
abbrev pub may_give : Option Class → Field → Bool
may_give None f = true
may_give (Some c) f = has_field c f

abbrev pub field_allowed : Option Class → Option Field → Option Field
field_allowed c None = None
field_allowed c (Some f) = if may_give c f then Some f else None

abbrev pub not_repeated : List Given → Lexeme → Field → Result Field TableRefusal
not_repeated given t f = if list_any (is_given_by f) given then Err (fault t faults.RepeatedField) else Ok f

unfoldable pub field_at : Option Class → List Given → List Lexeme → Parsed Field
field_at c given ts = do
  n ← name_at ts
  f ← ok_or (field_allowed c (field_of n.0)) (fault (first_of ts) faults.UnknownField)
  g ← not_repeated given (first_of ts) f
  Ok (g, n.1)

unfoldable pub given_at : Option Class → List Given → List Lexeme → Parsed Given
given_at c given ts = do
  f ← field_at c given ts
  us ← sign_at 61 f.1
  v ← value_as (Some (form_of f.0)) us
  Ok (record { field = f.0; value = v.0 }, v.1)

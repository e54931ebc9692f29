-- Which fields a record has: those that its body gives, and those of the scopes around it.
use Rattle.std.specs.Prelude.{List, [], ◌∷◌, nat_eq, Bool, None, find, option_map}
use Rattle.std.specs.Option.{option_or}
use Rattle.std.specs.List.{filter_map}
use Rattle.std.specs.declared.option.Option.{Option}
use Rattle.sched_records.specs.declared.class.Class.{Class}
use Rattle.sched_records.specs.declared.field.Field.{Field}
use Rattle.sched_records.specs.declared.members.Given.{Given}
use Rattle.sched_records.specs.declared.records.Member.{Member}
use Rattle.sched_records.specs.declared.records.Value.{Value}
use Rattle.sched_records.specs.Classes.{fields}
use Rattle.sched_records.specs.Fields.{field_name, field_number}

abbrev pub is_given_by : Field → Given → Bool
is_given_by f g = nat_eq (field_number f) (field_number g.field)

abbrev pub value_in : Field → List Given → Option Value
value_in f given = option_map (λ g. g.value) (find (is_given_by f) given)

-- the value that the first layer gives which gives any: the body's, else that of the innermost scope
abbrev pub resolved : Field → List (List Given) → Option Value
resolved f [] = None
resolved f (layer ∷ layers) = option_or (value_in f layer) (resolved f layers)

abbrev pub member_of : List (List Given) → Field → Option Member
member_of layers f = option_map (λ v. record { name = field_name f; value = v }) (resolved f layers)

-- the fields of the class, in the byte order of their names, that some layer gives
abbrev pub members : Class → List (List Given) → List Member
members c layers = filter_map (member_of layers) (fields c)

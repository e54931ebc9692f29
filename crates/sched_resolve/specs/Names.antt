-- What names stand for: each by its name space, and there the first record that has it.
use Rattle.std.specs.Prelude.{ℕ, List, [], length, map, filter, position, nat_eq, Bool, true, false, Some, None, if◌then◌else◌}
use Rattle.std.specs.Cmp.Lexicographic.{pointwise}
use Rattle.std.specs.Option.{option_or}
use Rattle.std.specs.declared.option.Option.{Option}
use Rattle.sched_records.specs.Classes.{class_of}
use Rattle.sched_records.specs.declared.class.Class.{Class}
use Rattle.sched_records.specs.declared.class.Class.TheVariants as class
use Rattle.sched_records.specs.declared.records.Record.{Record}
use Rattle.sched_resolve.specs.Reading.{argument, word_in}
use Rattle.sched_resolve.specs.declared.name_space.NameSpace.{NameSpace}
use Rattle.sched_resolve.specs.declared.name_space.NameSpace.TheVariants as space

-- the classes of models, of resources, of writes and of advances

abbrev pub is_model : Option Class → Bool
is_model (Some class.SchedMachineModel) = true
is_model _ = false

abbrev pub is_resource : Option Class → Bool
is_resource (Some class.ProcResource) = true
is_resource (Some class.ProcResGroup) = true
is_resource _ = false

abbrev pub is_write : Option Class → Bool
is_write (Some class.WriteRes) = true
is_write (Some class.SchedWriteRes) = true
is_write _ = false

abbrev pub is_advance : Option Class → Bool
is_advance (Some class.ReadAdvance) = true
is_advance _ = false

-- the class that a WriteRes gives the resources of; none for a SchedWriteRes, which stands for itself by its own name
abbrev pub class_written : Option Class → Record → List ℕ
class_written (Some class.WriteRes) r = word_in (argument r 0)
class_written _ r = []

abbrev pub own_name : Option Class → Record → List ℕ
own_name (Some class.WriteRes) r = []
own_name _ r = r.name

-- whether records of a class have a place in a name space, and the name that one has there
abbrev pub has_place : NameSpace → Option Class → Bool
has_place space.Model c = is_model c
has_place space.Resource c = is_resource c
has_place space.OwnWrite c = is_write c
has_place space.WrittenClass c = is_write c
has_place space.Read c = is_advance c

abbrev pub name_by : NameSpace → Option Class → Record → List ℕ
name_by space.Model c r = r.name
name_by space.Resource c r = r.name
name_by space.OwnWrite c r = own_name c r
name_by space.WrittenClass c r = class_written c r
name_by space.Read c r = word_in (argument r 0)

-- the records of a name space and their names there, in order
abbrev pub counts_in : NameSpace → Record → Bool
counts_in s r = has_place s (class_of r.class)

abbrev pub name_in : NameSpace → Record → List ℕ
name_in s r = name_by s (class_of r.class) r

unfoldable pub names_in : NameSpace → List Record → List (List ℕ)
names_in s rs = map (name_in s) (filter (counts_in s) rs)

-- the place of a name in a name space; the empty name, which stands for no name, has none
unfoldable pub place_of : NameSpace → List Record → List ℕ → Option ℕ
place_of s rs name = if nat_eq (length name) 0 then None else position (pointwise nat_eq name) (names_in s rs)

-- the write that a name stands for: the SchedWriteRes of that name before the WriteRes of that class
abbrev pub write_named : List Record → List ℕ → Option ℕ
write_named rs name = option_or (place_of space.OwnWrite rs name) (place_of space.WrittenClass rs name)

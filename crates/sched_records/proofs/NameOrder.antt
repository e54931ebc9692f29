-- The members of a record stand in the byte order of their names.
use Rattle.std.proofs.Common.{◌≡◌, ℕ, List, [], ◌∷◌, map, refl, Bool, true, false, ◌&&◌, Some, None}
use Rattle.std.specs.List.{list_all, filter_map, cons_option}
use Rattle.std.specs.Option.{option_map}
use Rattle.std.specs.declared.option.Option.{Option}
use Rattle.sched_records.specs.declared.class.Class.{Class}
use Rattle.sched_records.specs.declared.class.Class.TheVariants as class
use Rattle.sched_records.specs.declared.field.Field.{Field}
use Rattle.sched_records.specs.declared.members.Given.{Given}
use Rattle.sched_records.specs.declared.records.Member.{Member}
use Rattle.sched_records.specs.declared.records.Value.{Value}
use Rattle.sched_records.specs.Classes.{fields}
use Rattle.sched_records.specs.Fields.{field_name}
use Rattle.sched_records.specs.Members.{member_of, members, resolved}
use Rattle.sched_records.specs.Order.{is_before, in_byte_order}

both_left : (a b : Bool) → (a && b) ≡ true → a ≡ true
both_left true b h = refl
both_left false b h = h

both_right : (a b : Bool) → (a && b) ≡ true → b ≡ true
both_right true b h = h
both_right false b h = cc

both : (a b : Bool) → a ≡ true → b ≡ true → (a && b) ≡ true
both true b h g = g
both false b h g = h

abbrev name_of : Member → List ℕ
name_of m = m.name

abbrev named : List (List Given) → List Field → List (List ℕ)
named layers fs = map name_of (filter_map (member_of layers) fs)

abbrev front : Field → Option Value → List Member → List Member
front f o ms = cons_option (option_map (λ v. record { name = field_name f; value = v }) o) ms

all_front : (p : List ℕ → Bool) (f : Field) (o : Option Value) (ms : List Member) → p (field_name f) ≡ true → list_all p (map name_of ms) ≡ true → list_all p (map name_of (front f o ms)) ≡ true
all_front p f None ms h g = g
all_front p f (Some v) ms h g = both (p (field_name f)) (list_all p (map name_of ms)) h g

all_named : (p : List ℕ → Bool) (layers : List (List Given)) (fs : List Field) → list_all p (map field_name fs) ≡ true → list_all p (named layers fs) ≡ true
all_named p layers [] h = refl
all_named p layers (f ∷ fs) h =
    all_front p f (resolved f layers) (filter_map (member_of layers) fs)
    (both_left (p (field_name f)) (list_all p (map field_name fs)) h)
    (all_named p layers fs (both_right (p (field_name f)) (list_all p (map field_name fs)) h))

order_front : (f : Field) (o : Option Value) (ms : List Member) → list_all (is_before (field_name f)) (map name_of ms) ≡ true → in_byte_order (map name_of ms) ≡ true → in_byte_order (map name_of (front f o ms)) ≡ true
order_front f None ms h g = g
order_front f (Some v) ms h g = both (list_all (is_before (field_name f)) (map name_of ms)) (in_byte_order (map name_of ms)) h g

order_named : (layers : List (List Given)) (fs : List Field) → in_byte_order (map field_name fs) ≡ true → in_byte_order (named layers fs) ≡ true
order_named layers [] h = refl
order_named layers (f ∷ fs) h =
    order_front f (resolved f layers) (filter_map (member_of layers) fs)
    (all_named (is_before (field_name f)) layers fs (both_left (list_all (is_before (field_name f)) (map field_name fs)) (in_byte_order (map field_name fs)) h))
    (order_named layers fs (both_right (list_all (is_before (field_name f)) (map field_name fs)) (in_byte_order (map field_name fs)) h))

table_order : (c : Class) → in_byte_order (map field_name (fields c)) ≡ true
table_order class.SchedMachineModel = refl
table_order class.ProcResource = refl
table_order class.ProcResGroup = refl
table_order class.WriteRes = refl
table_order class.SchedWriteRes = refl
table_order class.ReadAdvance = refl
table_order class.RegisterFile = refl
table_order class.RetireControlUnit = refl
table_order class.LoadQueue = refl
table_order class.StoreQueue = refl
table_order class.InstRW = refl
table_order class.SchedWrite = refl
table_order class.SchedRead = refl

pub members_order : (c : Class) (layers : List (List Given)) → in_byte_order (map name_of (members c layers)) ≡ true
members_order c layers = order_named layers (fields c) (table_order c)

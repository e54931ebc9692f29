-- What a record that stands before another says of it.
use Rattle.std.specs.Prelude.{ℕ, List, length, position, nat_eq, Bool, true, false, None, Some, ◌&&◌}
use Rattle.std.specs.Cmp.Lexicographic.{pointwise}
use Rattle.std.specs.List.{list_any}
use Rattle.std.specs.declared.option.Option.{Option}
use Rattle.sched_records.specs.Classes.{class_of}
use Rattle.sched_records.specs.declared.class.Class.{Class}
use Rattle.sched_records.specs.declared.class.Class.TheVariants as class
use Rattle.sched_records.specs.declared.records.Record.{Record}
use Rattle.sched_resolve.specs.Reading.{argument, word_in, words_in}
use Rattle.sched_resolve.specs.Names.{is_advance, names_in}
use Rattle.sched_resolve.specs.declared.name_space.NameSpace.TheVariants as space

-- a table, and the records of it that stand before one
pub record Seen : Type 0 where
  pub table : List Record
  pub earlier : List Record

abbrev pub is_write_res : Option Class → Bool
is_write_res (Some class.WriteRes) = true
is_write_res _ = false

-- it is a WriteRes of the class
abbrev pub writes_class : List ℕ → Record → Bool
writes_class n e = is_write_res (class_of e.class) && pointwise nat_eq n (word_in (argument e 0))

-- it is a ReadAdvance
abbrev pub advance_class : Record → Bool
advance_class e = is_advance (class_of e.class)

abbrev pub at_place : ℕ → Option ℕ → Bool
at_place p None = false
at_place p (Some q) = nat_eq p q

-- the first read of that name has the number
abbrev pub has_number : List Record → ℕ → List ℕ → Bool
has_number table p w = at_place p (position (pointwise nat_eq w) (names_in space.Read table))

-- it is a ReadAdvance of the read of that number, and lists no name
abbrev pub is_general : List Record → ℕ → Record → Bool
is_general table p e = advance_class e && (has_number table p (word_in (argument e 0)) && nat_eq (length (words_in (argument e 2))) 0)

-- it is a ReadAdvance of the read of that number, and lists the name
abbrev pub lists : List Record → ℕ → List ℕ → Record → Bool
lists table p n e = advance_class e && (has_number table p (word_in (argument e 0)) && list_any (pointwise nat_eq n) (words_in (argument e 2)))

-- The names of opcodes in tables: the mnemonic in upper case, with `_` for `.`.
use Rattle.std.specs.Prelude.{ℕ, ◌-◌, List, map, nat_eq, nat_le, ◌&&◌, find, if◌then◌else◌}
use Rattle.std.specs.Cmp.Lexicographic.{pointwise}
use Rattle.std.specs.declared.option.Option.{Option}
use Rattle.rv_isa.specs.declared.op.Op.{Op}
use Rattle.rv_isa.specs.Opcodes.{facts_of, opcodes}

-- `a` to `z` stand at 97 to 122, `A` to `Z` 32 before them; `.` is 46 and `_` 95
abbrev pub in_table : ℕ → ℕ
in_table b = if nat_le 97 b && nat_le b 122 then b - 32 else if nat_eq b 46 then 95 else b

abbrev pub table_name : Op → List ℕ
table_name o = map in_table (facts_of o).mnemonic

-- the opcode of a name; opcodes of other extensions are none
abbrev pub op_in_table : List ℕ → Option Op
op_in_table name = find (λ o. pointwise nat_eq name (table_name o)) opcodes

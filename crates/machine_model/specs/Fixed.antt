-- A machine by three numbers: its width, its reorder buffer, and its arithmetic units. It has four resources, 0 ALU, 1 MUL, 2 DIV and 3 MEM, and of the last three one unit each.
use Rattle.std.specs.Prelude.{ℕ, ◌+◌, ◌≤◌, pos, neg_ℤ, [], ◌∷◌, codes, Bool, true, false, Option, Some, None, nat_eq, nat_lt, if◌then◌else◌}
use Rattle.rv_isa.specs.Opcodes.{facts_of}
use Rattle.rv_isa.specs.declared.facts.Kind.{Kind}
use Rattle.rv_isa.specs.declared.facts.Kind.TheVariants as kind
use Rattle.rv_isa.specs.declared.op.Op.{Op}
use Rattle.rv_isa.specs.declared.op.Op.TheVariants as op
use Rattle.machine_model.specs.Meaning.{MachineMeaning}
use Rattle.machine_model.specs.Valid.{no_class, no_use}
use Rattle.machine_model.specs.declared.answers.ClassAnswer.TheVariants.{Class}
use Rattle.machine_model.specs.declared.answers.UnitOwner.{UnitOwner}
use Rattle.machine_model.specs.declared.facts.WriteFacts.{WriteFacts}
use Rattle.machine_model.specs.declared.limits.Limits.{Limits}
use Rattle.machine_model.specs.declared.tuning.Tuning.{Tuning}

-- the numbers that such a machine can have
pub record AreSizes (width reorder alus : ℕ) : Type 0 where
  pub width_low : 1 ≤ width
  pub width_high : width ≤ 64
  pub reorder_low : 1 ≤ reorder
  pub reorder_high : reorder ≤ 4096
  pub alus_low : 1 ≤ alus
  pub alus_high : alus ≤ 60

-- the number that is given; the machine's own where that is 0
abbrev pub given_or : ℕ → ℕ → ℕ
given_or given own = if nat_eq given 0 then own else given

-- what is given changes the dispatch width alone, and not how many retire
abbrev pub fixed_limits : ℕ → ℕ → Tuning → Limits
fixed_limits width reorder t = record {
  width = given_or t.dispatch width;
  reorder = reorder;
  retire = width;
  loads = given_or t.loads 16;
  stores = given_or t.stores 16;
  registers = given_or t.registers 0;
  no_alias = t.no_alias;
}

-- what one of the resources has, of what each of the four has
abbrev pub of_four : {A : Type 0} → A → A → A → A → ℕ → A
of_four alu mul div mem r = if nat_eq r 0 then alu else if nat_eq r 1 then mul else if nat_eq r 2 then div else mem

-- the units of ALU are the first, and those of MUL, DIV and MEM are behind them in this order
abbrev pub fixed_units : ℕ → ℕ → ℕ → Bool
fixed_units alus r u = of_four (nat_lt u alus) (nat_eq u alus) (nat_eq u (alus + 1)) (nat_eq u (alus + 2)) r

abbrev pub owned : ℕ → ℕ → Option UnitOwner
owned r place = Some (record { resource = r; place = place })

abbrev pub fixed_owner : ℕ → ℕ → Option UnitOwner
fixed_owner alus u = if nat_lt u alus then owned 0 u else if nat_eq u alus then owned 1 0
    else if nat_eq u (alus + 1) then owned 2 0 else if nat_eq u (alus + 2) then owned 3 0 else None

-- the write classes: 0 for arithmetic and whatever is not named here, 1 to multiply, 2 to divide, 3 to load, 4 to store
abbrev pub multiplies : Op → Bool
multiplies op.Mul = true
multiplies op.Mulh = true
multiplies op.Mulhsu = true
multiplies op.Mulhu = true
multiplies op.Mulw = true
multiplies _ = false

abbrev pub divides : Op → Bool
divides op.Div = true
divides op.Divu = true
divides op.Rem = true
divides op.Remu = true
divides op.Divw = true
divides op.Divuw = true
divides op.Remw = true
divides op.Remuw = true
divides _ = false

abbrev pub write_of_kind : Kind → ℕ
write_of_kind kind.Load = 3
write_of_kind kind.Store = 4
write_of_kind _ = 0

abbrev pub fixed_write : Op → ℕ
fixed_write o = if multiplies o then 1 else if divides o then 2 else write_of_kind (facts_of o).kind

-- one micro-op that holds a unit of one resource
abbrev pub one_use : ℕ → ℕ → ℕ → WriteFacts
one_use resource hold latency = record {
  latency = latency;
  uops = 1;
  use_count = 1;
  uses = record { resource = resource; hold = hold } ∷ no_use ∷ no_use ∷ no_use ∷ no_use ∷ no_use ∷ no_use ∷ no_use ∷ [];
  begins_group = false;
  ends_group = false;
}

abbrev pub fixed_class : ℕ → WriteFacts
fixed_class k = if nat_eq k 0 then one_use 0 1 1 else if nat_eq k 1 then one_use 1 1 3
    else if nat_eq k 2 then one_use 2 20 20 else if nat_eq k 3 then one_use 3 1 4 else one_use 3 1 1

abbrev pub fixed_meaning : ℕ → ℕ → ℕ → Tuning → MachineMeaning
fixed_meaning width reorder alus t = record {
  limits = fixed_limits width reorder t;
  unit_count = 64;
  resource_count = 4;
  buffer = of_four (neg_ℤ (pos 1)) (pos 8) (pos 1) (pos 16);
  resource_name = of_four (codes "ALU") (codes "MUL") (codes "DIV") (codes "MEM");
  units = fixed_units alus;
  owner = fixed_owner alus;
  file_count = 0;
  file_size = λ _. 0;
  file_of = λ _. None;
  class_of = λ o. Class (record { write = fixed_write o; reads = no_class ∷ no_class ∷ [] });
  write_count = 5;
  read_count = 0;
  class = fixed_class;
  advance = λ _ _. pos 0;
}

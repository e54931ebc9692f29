-- The words in which the worked examples are told: machines, instructions, and the times of rows.
use Rattle.std.specs.Prelude.{ℕ, ◌-◌, ℤ, pos, negsuc, List, [], ◌∷◌, ◌++◌, length, replicate, Bool, true, false, ◌||◌, Some, None, nat_lt, nat_eq, if◌then◌else◌}
use Rattle.machine_model.specs.Meaning.{MachineMeaning}
use Rattle.machine_model.specs.declared.answers.ClassAnswer.TheVariants.{Missing}
use Rattle.machine_model.specs.declared.limits.Limits.{Limits}
use Rattle.machine_model.specs.declared.facts.Use.{Use}
use Rattle.rv_isa.specs.declared.facts.Kind.{Kind}
use Rattle.rv_isa.specs.declared.facts.Kind.TheVariants.{Plain, Load, Store, Barrier}
use Rattle.cycle_rules.specs.Row.{Row, Input}
use Rattle.cycle_rules.specs.Pick.{no_unit}
use Rattle.cycle_rules.specs.declared.bound.Source.{Source}
use Rattle.cycle_rules.specs.declared.times.Times.{Times}

-- a rule, and what is run to show it: its run, and a table that is as the other rules say
pub record Example : Type 0 where
  pub rule : List ℕ
  pub input : Input
  pub run : List Times
  pub broken : List Times

abbrev pub example : List ℕ → Input → List Times → List Times → Example
example rule g run broken = record { rule = rule; input = g; run = run; broken = broken }

-- A machine of width 2 with a reorder buffer of 32. Resources: 0 PA with unit 0, 1 PB with unit 1, 2 PAB the group of both, 3 PD with unit 2, 4 PM with unit 3

abbrev pub limits : Limits
limits = record { width = 2; reorder = 32; retire = 0; loads = 0; stores = 0; registers = 0; no_alias = true }

abbrev pub units_of : ℕ → ℕ → Bool
units_of r u = if nat_eq r 2 then nat_lt u 2 else (if nat_lt r 2 then nat_eq u r else nat_eq u (r - 1))

abbrev pub machine_of : Limits → (ℕ → ℤ) → (ℕ → ℕ → ℤ) → MachineMeaning
machine_of bounds buffer advance = record {
  limits = bounds;
  unit_count = 4;
  resource_count = 5;
  buffer = buffer;
  resource_name = λ r. [];
  units = units_of;
  owner = λ u. None;
  file_count = 0;
  file_size = λ f. 0;
  file_of = λ r. None;
  class_of = λ o. Missing;
  write_count = 1;
  read_count = 1;
  class = λ k. record { latency = 1; uops = 1; use_count = 0; uses = []; begins_group = false; ends_group = false };
  advance = advance;
}

abbrev pub machine : MachineMeaning
machine = machine_of limits (λ r. negsuc 0) (λ r w. pos 0)

-- with one group more, PB and PD
abbrev pub overlapping : MachineMeaning
overlapping = record machine { resource_count = 6; units = λ r u. if nat_eq r 5 then nat_eq u 1 || nat_eq u 2 else units_of r u }

-- with a register file of a size that holds the registers below 16 at a cost, and a bound on all registers
abbrev pub with_file : ℕ → ℕ → ℕ → MachineMeaning
with_file registers size cost = record machine {
  limits = record limits { registers = registers };
  file_count = 1;
  file_size = λ f. size;
  file_of = λ r. if nat_lt r 16 then Some (record { file = 0; cost = cost }) else None;
}

abbrev pub with_limits : Limits → MachineMeaning
with_limits bounds = machine_of bounds (λ r. negsuc 0) (λ r w. pos 0)

abbrev pub with_buffer : ℕ → ℤ → MachineMeaning
with_buffer r size = machine_of limits (λ q. if nat_eq q r then size else negsuc 0) (λ q w. pos 0)

abbrev pub with_advance : ℤ → MachineMeaning
with_advance a = machine_of limits (λ r. negsuc 0) (λ r w. a)

-- instructions: the registers that they write and read

abbrev pub row_of : ℕ → ℕ → List Use → Bool → List Source → ℕ → Kind → Row
row_of uops latency uses reserved reads rd kind = record {
  uops = uops;
  latency = latency;
  uses = uses;
  reserved = reserved;
  reads = reads;
  rd = rd;
  write = 0;
  kind = kind;
  begins_group = false;
  ends_group = false;
}

abbrev pub use_of : ℕ → ℕ → List Use
use_of r hold = record { resource = r; hold = hold } ∷ []

abbrev pub reads : ℕ → ℕ → List Source
reads a b = record { reg = a; read = 0 } ∷ record { reg = b; read = 0 } ∷ []

abbrev pub add : ℕ → ℕ → ℕ → Row
add rd a b = row_of 1 1 (use_of 2 1) false (reads a b) rd Plain

abbrev pub mul : ℕ → ℕ → ℕ → Row
mul rd a b = row_of 1 3 (use_of 0 1) false (reads a b) rd Plain

abbrev pub div : ℕ → ℕ → ℕ → Row
div rd a b = row_of 1 20 (use_of 3 20) false (reads a b) rd Plain

abbrev pub lw : ℕ → ℕ → Row
lw rd a = row_of 1 4 (use_of 4 1) false (record { reg = a; read = 0 } ∷ []) rd Load

abbrev pub sw : ℕ → ℕ → Row
sw b a = row_of 1 3 (use_of 4 1) false (reads a b) 0 Store

abbrev pub fence : Row
fence = row_of 1 1 (use_of 1 1) false [] 0 Barrier

-- a divider that is reserved while it is held
abbrev pub reserved_div : ℕ → ℕ → ℕ → Row
reserved_div rd a b = row_of 1 3 (use_of 3 3) true (reads a b) rd Plain

-- a division of five micro-ops
abbrev pub wide_div : List Use → Row
wide_div uses = row_of 5 20 uses false (reads 11 12) 10 Plain

-- an addition that uses no resource
abbrev pub bare_add : ℕ → Row
bare_add rd = row_of 1 1 [] false (reads 14 15) rd Plain

abbrev pub at : ℕ → ℕ → ℕ → ℕ → List ℕ → Times
at d i w t us = record { dispatch = d; issue = i; complete = w; retire = t; units = us ++ replicate (8 - length us) no_unit }

abbrev pub begins : Row → Row
begins b = record b { begins_group = true }

abbrev pub ends : Row → Row
ends b = record b { ends_group = true }

abbrev pub unit : ℕ → List ℕ
unit u = u ∷ []

-- What a machine is, apart from how it is kept: the one record of its numbers that the cycle rules, the engines and the reports speak of.
use Rattle.std.specs.Prelude.{ℕ, ℤ, Bool, List, Option}
use Rattle.rv_isa.specs.declared.op.Op.{Op}
use Rattle.machine_model.specs.declared.answers.ClassAnswer.{ClassAnswer}
use Rattle.machine_model.specs.declared.answers.UnitOwner.{UnitOwner}
use Rattle.machine_model.specs.declared.limits.Limits.{Limits}
use Rattle.machine_model.specs.declared.facts.FileShare.{FileShare}
use Rattle.machine_model.specs.declared.facts.WriteFacts.{WriteFacts}

pub record MachineMeaning : Type 0 where
  pub limits : Limits
  -- units are the numbers below this
  pub unit_count : ℕ
  -- resources are the numbers below this
  pub resource_count : ℕ
  -- the buffer of a resource: -1 counts no entries, 0 makes it reserved, n of 1 or more bounds the rows that wait for it
  pub buffer : ℕ → ℤ
  -- the name of a resource; empty for none
  pub resource_name : ℕ → List ℕ
  -- whether a resource has a unit
  pub units : ℕ → ℕ → Bool
  -- the resource, other than a group, that has a unit, and the unit's place in it
  pub owner : ℕ → Option UnitOwner
  -- register files are the numbers below this
  pub file_count : ℕ
  -- the physical registers of a register file; 0 for no bound
  pub file_size : ℕ → ℕ
  -- the file that holds a register, and what a write of it costs there
  pub file_of : ℕ → Option FileShare
  -- the classes of an opcode
  pub class_of : Op → ClassAnswer
  -- write classes and read classes are the numbers below these
  pub write_count : ℕ
  pub read_count : ℕ
  pub class : ℕ → WriteFacts
  -- by how many cycles a read of a class comes before the completion of a write of a class (ReadAdvance)
  pub advance : ℕ → ℕ → ℤ

-- Instructions bound to a machine: each with the numbers of its classes, or the first that the machine does not run.
use Rattle.std.specs.Prelude.{◌≡◌, List, [], ◌∷◌, ◌++◌, ⊤, Ok, Err}
use Rattle.std.specs.declared.result.Result.{Result}
use Rattle.rv_isa.specs.declared.instr.Instr.{Instr}
use Rattle.machine_model.specs.Meaning.{MachineMeaning}
use Rattle.machine_model.specs.declared.answers.ClassAnswer.{ClassAnswer}
use Rattle.machine_model.specs.declared.answers.ClassAnswer.TheVariants.{Missing, Unsupported, Class}
use Rattle.cycle_rules.specs.Bind.{bound_of}
use Rattle.cycle_rules.specs.declared.bound.Bound.{Bound}
use Rattle.sched_validate.specs.declared.fault.BindFault.{BindFault}
use Rattle.sched_validate.specs.declared.fault.BindFault.TheVariants.{NoWriteRes, UnsupportedOp, Memory}

-- an instruction by what the machine answers of its opcode
abbrev pub bound_one : MachineMeaning → Instr → ClassAnswer → Result Bound BindFault
bound_one m i Missing = Err (NoWriteRes i.op)
bound_one m i Unsupported = Err (UnsupportedOp i.op)
bound_one m i (Class b) = Ok (bound_of m i b)

-- what comes before the rest
abbrev pub with_front : List Bound → Result (List Bound) BindFault → Result (List Bound) BindFault
with_front front (Ok rest) = Ok (front ++ rest)
with_front front (Err f) = Err f

abbrev pub before : Result Bound BindFault → Result (List Bound) BindFault → Result (List Bound) BindFault
before (Ok b) rest = with_front (b ∷ []) rest
before (Err f) rest = Err f

abbrev pub bound_code : MachineMeaning → List Instr → Result (List Bound) BindFault
bound_code m [] = Ok []
bound_code m (i ∷ is) = before (bound_one m i (m.class_of i.op)) (bound_code m is)

-- a fault stands in the input, unless it is want of memory
abbrev pub Caused : BindFault → Type 0 → Type 0
Caused Memory cause = ⊤
Caused _ cause = cause

-- a result is the value, or want of memory
abbrev pub IsResult : {T : Type 0} → Result T BindFault → Result T BindFault → Type 0
IsResult value (Ok t) = value ≡ Ok t
IsResult value (Err f) = Caused f (value ≡ Err f)

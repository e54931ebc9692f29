-- Models what every device tells: its count of faults, for a shelf the content of each name, and for a sink its bytes.
use Rattle.std.specs.Prelude.{◌≡◌, ℕ, ◌≤◌, List, ⊤, None, Some, OnErr}
use Rattle.std.specs.declared.option.Option.{Option}
use Rattle.std.specs.declared.result.Result.{Result}
use Rattle.mca_io.specs.Calls.{one_more}

-- a count rose, or stands at its end
abbrev pub Rose : ℕ → ℕ → Type 0
Rose before now = one_more before ≤ now

-- a count never falls, and a call that fails made it rise
pub record HasCause {T E : Type 0} (before now : ℕ) (result : Result T E) : Type 0 where
  pub later : before ≤ now
  pub failed : OnErr result (Rose before now)

-- what is seen of a sink: the bytes that it got, where it tells them, and its count of faults
pub record Seen : Type 0 where
  pub contents : Option (List ℕ)
  pub faults : ℕ

-- what a shelf tells of a name: nothing; that no file has it; the content of its file
abbrev pub Told : Type 0
Told = Option (Option (List ℕ))

-- what is left to read of a file of this name that was just chosen; a name told to be absent is never chosen
abbrev pub Opens : Told → Option (List ℕ) → Type 0
Opens None rest = ⊤
Opens (Some None) rest = ⊥
Opens (Some (Some content)) rest = rest ≡ Some content

-- the name has a file, and its content is as P says, where the shelf tells of the name
abbrev pub IfContent : Told → (List ℕ → Type 0) → Type 0
IfContent None P = ⊤
IfContent (Some None) P = ⊥
IfContent (Some (Some content)) P = P content

-- The head of a record, def NAME : CLASS < ARGUMENTS >, up to its `;` or the brace of its body.
use Rattle.std.specs.Prelude.{ℕ, List, [], ◌∷◌, ◌++◌, length, drop, map, nat_le, nat_lt, ◌&&◌, Ok, Err, slice_get, if◌then◌else◌}
use Rattle.std.specs.Option.{ok_or}
use Rattle.sched_records.specs.declared.class.Class.{Class}
use Rattle.sched_records.specs.declared.members.Given.{Given}
use Rattle.sched_records.specs.declared.records.Record.{Record}
use Rattle.sched_records.specs.declared.records.Value.{Value}
use Rattle.sched_records.specs.declared.refusal.TableKind.TheVariants as faults
use Rattle.sched_records.specs.declared.known.Known.{Known}
use Rattle.sched_records.specs.declared.known.Head.{Head}
use Rattle.sched_records.specs.declared.known.Doing.TheVariants as doing
use Rattle.sched_records.specs.declared.known.Step.{Step}
use Rattle.sched_records.specs.declared.known.Step.TheVariants as steps
use Rattle.sched_records.specs.declared.limits.TheConstants.{MOST_RECORDS}
use Rattle.sched_records.specs.Tokens.{Lexeme, first_of}
use Rattle.sched_records.specs.Grammar.{◌>>=◌, Parsed, fault, is_name, is_sign, refusal, sign_at, name_at}
use Rattle.sched_records.specs.Classes.{class_name, class_of, arguments, needed}
use Rattle.sched_records.specs.Forms.{value_as}
use Rattle.sched_records.specs.Members.{members}
use Rattle.sched_records.specs.RecordNames.{has_name}

-- a record with what its body and the scopes around it give
abbrev pub record_of : Known → Head → List Given → Record
record_of k head given = record { class = class_name head.class; name = head.name; args = head.args; members = members head.class (given ∷ map (λ s. s.given) k.scopes) }

-- behind the class and its arguments
abbrev pub head_end : Known → Head → List Lexeme → Parsed Step
head_end k head ts =
    if is_sign 59 (first_of ts) then Ok (steps.Whole (record_of k head []), drop 1 ts) else
    if is_sign 123 (first_of ts) then Ok (steps.Next (doing.Body head []), drop 1 ts) else
    if is_sign 44 (first_of ts) then Err (fault (first_of ts) faults.NotFlat) else
    Err (refusal (first_of ts))

-- at the `>`
abbrev pub arguments_end : Known → Head → List Lexeme → Parsed Step
arguments_end k head ts = if nat_lt (length head.args) (needed head.class) then Err (fault (first_of ts) faults.BadValue) else head_end k head (drop 1 ts)

-- behind the class, whose token is t
abbrev pub arguments_begin : Known → Head → Lexeme → List Lexeme → Parsed Step
arguments_begin k head t ts =
    if is_sign 60 (first_of ts) then (if is_sign 62 (first_of (drop 1 ts)) then arguments_end k head (drop 1 ts) else Ok (steps.Next (doing.Arguments head), drop 1 ts)) else
    if nat_lt 0 (needed head.class) then Err (fault t faults.BadValue) else
    head_end k head ts

abbrev pub with_argument : Head → Value → Head
with_argument head v = record { class = head.class; name = head.name; args = head.args ++ v ∷ [] }

abbrev pub argument_end : Known → Head → List Lexeme → Parsed Step
argument_end k head ts =
    if is_sign 44 (first_of ts) then Ok (steps.Next (doing.Arguments head), drop 1 ts) else
    if is_sign 62 (first_of ts) then arguments_end k head ts else
    Err (refusal (first_of ts))

unfoldable pub argument_at : Known → Head → List Lexeme → Parsed Step
argument_at k head ts = do
  v ← value_as (slice_get (arguments head.class) (length head.args)) ts
  argument_end k (with_argument head v.0) v.1

unfoldable pub class_at : List Lexeme → Parsed Class
class_at ts = do
  n ← name_at ts
  c ← ok_or (class_of n.0) (fault (first_of ts) faults.UnknownRecord)
  Ok (c, n.1)

abbrev pub name_or_none : List Lexeme → List ℕ
name_or_none ts = if is_name (first_of ts).kind then (first_of ts).bytes else []

abbrev pub behind_name : List Lexeme → List Lexeme
behind_name ts = if is_name (first_of ts).kind then drop 1 ts else ts

unfoldable pub head_at : Known → List Lexeme → Parsed Step
head_at k ts = do
  us ← sign_at 58 (behind_name ts)
  c ← class_at us
  arguments_begin k (record { class = c.0; name = name_or_none ts; args = [] }) (first_of us) c.1

-- the second `def` of a name, and the one that is one too many, are refused at the `def`
abbrev pub def_at : Known → List Lexeme → Parsed Step
def_at k ts =
    if is_name (first_of (drop 1 ts)).kind && has_name k.kept (first_of (drop 1 ts)).bytes then Err (fault (first_of ts) faults.RepeatedName) else
    if nat_le MOST_RECORDS (length k.kept) then Err (fault (first_of ts) faults.TooMany) else
    head_at k (drop 1 ts)

-- Items: bodies and `let` scopes, and the phrases that a text is read by.
use Rattle.std.specs.Prelude.{List, [], ◌∷◌, ◌++◌, length, drop, codes, nat_le, Bool, true, false, ◌&&◌, ◌||◌, Ok, Err, Some, None, if◌then◌else◌}
use Rattle.std.specs.Option.{is_some}
use Rattle.sched_records.specs.declared.members.Given.{Given}
use Rattle.sched_records.specs.declared.members.Scope.{Scope}
use Rattle.sched_records.specs.declared.refusal.TableKind.TheVariants as faults
use Rattle.sched_records.specs.declared.refusal.TableRefusal.{TableRefusal}
use Rattle.sched_records.specs.declared.known.Known.{Known}
use Rattle.sched_records.specs.declared.known.Head.{Head}
use Rattle.sched_records.specs.declared.known.Doing.{Doing}
use Rattle.sched_records.specs.declared.known.Doing.TheVariants as doing
use Rattle.sched_records.specs.declared.known.Step.{Step}
use Rattle.sched_records.specs.declared.known.Step.TheVariants as steps
use Rattle.sched_records.specs.declared.limits.TheConstants.{MOST_SCOPES}
use Rattle.sched_records.specs.Tokens.{Lexeme, first_of}
use Rattle.sched_records.specs.Grammar.{◌>>=◌, Parsed, fault, is_name, is_sign, is_word, is_among, reserved, types, refusal, refusal_among, sign_at}
use Rattle.sched_records.specs.Classes.{class_of}
use Rattle.sched_records.specs.Given.{given_at}
use Rattle.sched_records.specs.Heads.{record_of, def_at, argument_at}

-- ---- let FIELD = VALUE ; in a body

-- what is not flat where a `let` of a body would stand
abbrev pub begins_typed : Lexeme → Bool
begins_typed t = is_among types t || (is_name t.kind && is_some (class_of t.bytes))

abbrev pub body_refusal : Lexeme → TableRefusal
body_refusal t = if begins_typed t then fault t faults.NotFlat else refusal_among reserved t

unfoldable pub let_at : Head → List Given → List Lexeme → Parsed Step
let_at head given ts = do
  g ← given_at (Some head.class) given ts
  us ← sign_at 59 g.1
  Ok (steps.Next (doing.Body head (given ++ g.0 ∷ [])), us)

-- a `;` behind a body
abbrev pub behind_body : List Lexeme → List Lexeme
behind_body ts = if is_sign 59 (first_of ts) then drop 1 ts else ts

abbrev pub body_at : Known → Head → List Given → List Lexeme → Parsed Step
body_at k head given ts =
    if is_sign 125 (first_of ts) then Ok (steps.Whole (record_of k head given), behind_body (drop 1 ts)) else
    if is_word (codes "let") (first_of ts) then let_at head given (drop 1 ts) else
    Err (body_refusal (first_of ts))

-- ---- let FIELD = VALUE , .. in

abbrev pub scope_of : List Given → Bool → Scope
scope_of given braced = record { given = given; braced = braced }

-- behind `in`: items in braces, or one item
abbrev pub scope_begin : List Given → List Lexeme → Parsed Step
scope_begin given ts = if is_sign 123 (first_of ts) then Ok (steps.Into (scope_of given true), drop 1 ts) else Ok (steps.Into (scope_of given false), ts)

abbrev pub scope_end : List Given → List Lexeme → Parsed Step
scope_end given ts =
    if is_sign 44 (first_of ts) then Ok (steps.Next (doing.Scope given), drop 1 ts) else
    if is_word (codes "in") (first_of ts) then scope_begin given (drop 1 ts) else
    Err (refusal (first_of ts))

unfoldable pub scope_at : List Given → List Lexeme → Parsed Step
scope_at given ts = do
  g ← given_at None given ts
  scope_end (given ++ g.0 ∷ []) g.1

-- ---- an item, and the end of the items in braces

abbrev pub in_braces : List Scope → Bool
in_braces [] = false
in_braces (s ∷ ss) = s.braced

abbrev pub let_item_at : Known → List Lexeme → Parsed Step
let_item_at k ts = if nat_le MOST_SCOPES (length k.scopes) then Err (fault (first_of ts) faults.TooMany) else Ok (steps.Next (doing.Scope []), drop 1 ts)

abbrev pub item_at : Known → List Lexeme → Parsed Step
item_at k ts =
    if is_word (codes "def") (first_of ts) then def_at k ts else
    if is_word (codes "let") (first_of ts) then let_item_at k ts else
    if is_sign 125 (first_of ts) && in_braces k.scopes then Ok (steps.OutOf, drop 1 ts) else
    Err (refusal_among reserved (first_of ts))

-- the next phrase: an item's head, an argument, a `let` of a body, a field of a scope, or what ends one of them
abbrev pub phrase_at : Known → Doing → List Lexeme → Parsed Step
phrase_at k doing.Item ts = item_at k ts
phrase_at k (doing.Arguments head) ts = argument_at k head ts
phrase_at k (doing.Body head given) ts = body_at k head given ts
phrase_at k (doing.Scope given) ts = scope_at given ts

-- The records of a text, or its first fault.
use Rattle.std.specs.Prelude.{◌≡◌, ℕ, List, [], true, false, Ok, Err}
use Rattle.std.specs.declared.result.Result.{Result}
use Rattle.sched_records.specs.declared.known.Known.{Known}
use Rattle.sched_records.specs.declared.known.Doing.{Doing}
use Rattle.sched_records.specs.declared.known.Doing.TheVariants as doing
use Rattle.sched_records.specs.declared.known.Step.{Step}
use Rattle.sched_records.specs.declared.records.Record.{Record}
use Rattle.sched_records.specs.declared.refusal.TableRefusal.{TableRefusal}
use Rattle.sched_records.specs.Tokens.{Lexeme, tokens_of}
use Rattle.sched_records.specs.Items.{phrase_at}
use Rattle.sched_records.specs.Known.{known_after, doing_after, may_end}

-- what the tokens from a place on come to, given what is known there and what stands open: phrase
-- after phrase, up to the end of the text or to the first phrase that has a fault
pub data ComesTo (answer : Result (List Record) TableRefusal) : Known → Doing → List Lexeme → Type 0 where
  ends : {k : Known} {d : Doing} {ts : List Lexeme} → may_end k d ts ≡ true → answer ≡ Ok k.kept → ComesTo answer k d ts
  fails : {k : Known} {d : Doing} {ts : List Lexeme} (f : TableRefusal) → may_end k d ts ≡ false →
      phrase_at k d ts ≡ Err f → answer ≡ Err f → ComesTo answer k d ts
  goes_on : {k : Known} {d : Doing} {ts : List Lexeme} (step : Step) (rest : List Lexeme) → may_end k d ts ≡ false →
      phrase_at k d ts ≡ Ok (step, rest) → ComesTo answer (known_after k step) (doing_after step) rest → ComesTo answer k d ts

abbrev pub nothing_known : Known
nothing_known = record { scopes = []; kept = [] }

-- the text has these records
abbrev pub HasRecords : List ℕ → List Record → Type 0
HasRecords text records = ComesTo (Ok records) nothing_known doing.Item (tokens_of text)

-- the first fault of the text is this one
abbrev pub HasFault : List ℕ → TableRefusal → Type 0
HasFault text f = ComesTo (Err f) nothing_known doing.Item (tokens_of text)

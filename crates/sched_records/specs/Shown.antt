-- What a reader of tokens shows: the tokens that it has before it.
use Rattle.std.specs.Prelude.{ℕ, Bool, List, [], ◌∷◌, Some, None, if◌then◌else◌}
use Rattle.std.specs.declared.option.Option.{Option}
use Rattle.sched_records.specs.declared.tokens.Token.{Token}
use Rattle.sched_records.specs.Tokens.{Lexeme, tokens_from}

abbrev pub seen : Token → Lexeme
seen t = record { line = t.line; kind = t.kind; bytes = t.bytes.now }

abbrev pub shown : Option Token → Bool → List ℕ → ℕ → List Lexeme
shown None last rest line = []
shown (Some t) last rest line = seen t ∷ (if last then [] else tokens_from rest 0 line)

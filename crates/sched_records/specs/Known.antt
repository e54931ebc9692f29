-- What is known of a text up to a place, and what each phrase of it comes to.
use Rattle.std.specs.Prelude.{List, [], ◌∷◌, ◌++◌, length, drop, nat_eq, Bool, true, false, ◌&&◌}
use Rattle.sched_records.specs.declared.known.Known.{Known}
use Rattle.sched_records.specs.declared.known.Doing.{Doing}
use Rattle.sched_records.specs.declared.known.Doing.TheVariants as doing
use Rattle.sched_records.specs.declared.known.Step.{Step}
use Rattle.sched_records.specs.declared.known.Step.TheVariants as steps
use Rattle.sched_records.specs.Scopes.{closed}
use Rattle.sched_records.specs.Grammar.{is_the_end}
use Rattle.sched_records.specs.Tokens.{Lexeme, first_of}

-- what is known behind a phrase
abbrev pub known_after : Known → Step → Known
known_after k (steps.Next d) = k
known_after k (steps.Whole r) = record { scopes = closed k.scopes; kept = k.kept ++ r ∷ [] }
known_after k (steps.Into s) = record { scopes = s ∷ k.scopes; kept = k.kept }
known_after k steps.OutOf = record { scopes = closed (drop 1 k.scopes); kept = k.kept }

-- what stands open behind it
abbrev pub doing_after : Step → Doing
doing_after (steps.Next d) = d
doing_after (steps.Whole r) = doing.Item
doing_after (steps.Into s) = doing.Item
doing_after steps.OutOf = doing.Item

abbrev pub is_item : Doing → Bool
is_item doing.Item = true
is_item _ = false

-- a text may end where an item would stand and no scope is open
abbrev pub may_end : Known → Doing → List Lexeme → Bool
may_end k d ts = is_item d && nat_eq (length k.scopes) 0 && is_the_end (first_of ts).kind

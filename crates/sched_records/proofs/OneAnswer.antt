-- What tokens come to is one answer; and how a reader goes from phrase to phrase.
use Rattle.std.proofs.Common.{◌≡◌, List, sym, ◌∙◌, subst}
use Rattle.std.specs.declared.result.Result.{Result}
use Rattle.sched_records.specs.declared.known.Known.{Known}
use Rattle.sched_records.specs.declared.known.Doing.{Doing}
use Rattle.sched_records.specs.declared.known.Step.{Step}
use Rattle.sched_records.specs.declared.records.Record.{Record}
use Rattle.sched_records.specs.declared.refusal.TableKind.{TableKind}
use Rattle.sched_records.specs.declared.refusal.TableKind.TheVariants as faults
use Rattle.sched_records.specs.declared.refusal.TableRefusal.{TableRefusal}
use Rattle.sched_records.specs.Gives.{UnlessMemory, ByMemory}
use Rattle.sched_records.specs.Tokens.{Lexeme}
use Rattle.sched_records.specs.Known.{known_after, doing_after}
use Rattle.sched_records.specs.Table.{ComesTo, ends, fails, goes_on}

pub one : {a b : Result (List Record) TableRefusal} {k : Known} {d : Doing} {ts : List Lexeme} → ComesTo a k d ts → ComesTo b k d ts → a ≡ b
one (ends end a-is) (ends end' b-is) = a-is ∙ sym b-is
one (ends end a-is) (fails f end' read b-is) = cc
one (ends end a-is) (goes_on step rest end' read more) = cc
one (fails f end read a-is) (ends end' b-is) = cc
one (fails f end read a-is) (fails g end' read' b-is) = cc
one (fails f end read a-is) (goes_on step rest end' read' more) = cc
one (goes_on step rest end read more) (ends end' b-is) = cc
one (goes_on step rest end read more) (fails f end' read' b-is) = cc
one {b = b} {k = k} (goes_on step rest end read more) (goes_on step' rest' end' read' more') =
    let same : ◌≡◌ {A = Step × List Lexeme} (step', rest') (step, rest) = cc in
    one more (subst (λ (p : Step × List Lexeme). ComesTo b (known_after k p.0) (doing_after p.0) p.1) same more')

pub unless_map : {P Q : Type 0} (R : Type 0) (k : TableKind) → (P → Q) → ByMemory k R P → UnlessMemory k Q
unless_map R faults.Memory f h = tt
unless_map R _ f h = f h

pub at_memory : {R : Type 0} (P : Type 0) (k : TableKind) → ByMemory k R P → k ≡ faults.Memory → R
at_memory P faults.Memory h e = h
at_memory P _ h e = cc

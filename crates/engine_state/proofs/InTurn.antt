-- Of two rows that are not reserved and name one resource with a buffer of one entry, the older one issues first.
use Rattle.std.proofs.Common.{zero, suc, ◌≡◌, ℕ, ◌+◌, ◌<◌, ◌≤◌, inl, inr, List, [], ◌∷◌, arith, sym, ◌∙◌, ap, subst, refl, Bool, true, false, ◌&&◌, ◌||◌, not}
use Rattle.std.specs.Prelude.{nat_lt, nat_eq, if◌then◌else◌, slice_index_or}
use Rattle.std.specs.List.{list_all, list_any}
use Rattle.std.proofs.lemmas.Bool.Decides.{nat_tests}
use Rattle.std.proofs.lemmas.Bool.{cases_Bool, cases_eq, ltb-true, eqb-true, and_parts}
use Rattle.machine_model.specs.declared.facts.Use.{Use}
use Rattle.cycle_rules.specs.Below.{count_below, Least}
use Rattle.cycle_rules.specs.Row.{Input, Table, times, names, entries}
use Rattle.cycle_rules.specs.Dispatch.{has_room, fits_buffers, can_dispatch}
use Rattle.cycle_rules.specs.Issue.{can_start, can_issue}
use Rattle.cycle_rules.specs.Run.{IsIssue, IsRow, IsRunOf}
use Rattle.cycle_rules.specs.Seen.{key_at, is_seen, has_issued, sees}
use Rattle.cycle_rules.specs.declared.times.Times.{Times}
use Rattle.cycle_rules.proofs.Falls.{first_true, second_true}
use Rattle.cycle_rules.proofs.Sees.{choose_false}
use Rattle.engine_state.specs.InTurn.{IssuesInTurn}

-- the buffers of a row that dispatches have room
dispatch_room : (g : Input) (t : Table) (j c : ℕ) → can_dispatch g t j c ≡ true → (g.row j).reserved ≡ false → fits_buffers g t j c ≡ true
unfolding can_dispatch
dispatch_room g t j c e free = sym (choose_false (g.row j).reserved (can_start g t j c) (fits_buffers g t j c) free) ∙ second_true _ _ e

-- so has that of each resource that it names
all_named : (p : ℕ → Bool) (uses : List Use) (r : ℕ) → list_all (λ w. p w.resource) uses ≡ true → list_any (λ w. nat_eq w.resource r) uses ≡ true → p r ≡ true
all_named p [] r all some = absurd (cc some)
all_named p (w ∷ uses) r all some =
    let parts : (p w.resource ≡ true) × (list_all (λ u. p u.resource) uses ≡ true) = and_parts (p w.resource) (list_all (λ u. p u.resource) uses) all in
    elim (cases_Bool (nat_eq w.resource r)) [
      | inl here ↦ subst (λ n. p n ≡ true) (eqb-true w.resource r here) parts.0
      | inr other ↦ all_named p uses r parts.1 (rw other at some)
    ]

room_of : (g : Input) (t : Table) (j c r : ℕ) → fits_buffers g t j c ≡ true → names r (g.row j) ≡ true → has_room (entries (g.machine.buffer r)) (count_below j (λ k. names r (g.row k) && nat_lt c (t k).issue)) ≡ true
unfolding fits_buffers names
room_of g t j c r fits name = all_named (λ q. has_room (entries (g.machine.buffer q)) (count_below j (λ k. list_any (λ w. nat_eq w.resource q) (g.row k).uses && nat_lt c (t k).issue))) (g.row j).uses r fits name

none_room : (held : ℕ) → has_room 1 held ≡ true → held ≡ 0
unfolding has_room
none_room held e = let low : nat_lt held 1 ≡ true = e in grind (arith, nat_tests, low)

-- where none is counted, none passes
none_passes : (n : ℕ) (p : ℕ → Bool) → count_below n p ≡ 0 → (k : ℕ) → k < n → p k ≡ false
unfolding count_below
none_passes zero p none k lt = absurd (omega (arith, lt))
none_passes (suc n) p none k lt = elim (cases_Bool (p n)) [
  | inl is ↦ absurd (let sum : count_below n p + 1 ≡ 0 = rw is at none in omega (arith, sum))
  | inr last ↦ (let rest : count_below n p + 0 ≡ 0 = rw last at none in
      elim (cases_eq k n) [ inl here ↦ ap p here ∙ last | inr ne ↦ none_passes n p (omega (arith, rest)) k (omega (arith, lt, ne)) ])
]

-- what is seen by a cycle has come by it

seen_issue : (g : Input) (t : Table) (p k c j : ℕ) → (sees g t p k c j).issue ≤ c → (t j).issue ≤ c
seen_issue g t p k c j le = go (has_issued g t j c p k) le
  where
    go : (b : Bool) → (if b then (t j).issue else c + 1) ≤ c → (t j).issue ≤ c
    go true h = h
    go false h = absurd (omega (arith, h))

seen_dispatch : (g : Input) (t : Table) (p k c j : ℕ) → (sees g t p k c j).dispatch < c → (t j).dispatch < c
seen_dispatch g t p k c j lt = go (is_seen g (key_at (t j).dispatch 2 j) (key_at c p k)) lt
  where
    go : (b : Bool) → (if b then (t j).dispatch else c + 1) < c → (t j).dispatch < c
    go true h = h
    go false h = absurd (omega (arith, h))

after_dispatch : (g : Input) (t : Table) (j c : ℕ) → can_issue g t j c ≡ true → (t j).dispatch < c
unfolding can_issue
after_dispatch g t j c e = ltb-true (t j).dispatch c (first_true _ _ e)

least_issue : (g : Input) (t : Table) (j : ℕ) (b : Bool) → b ≡ false → IsIssue g t j b → can_issue g (sees g t 1 j (t j).issue) j (t j).issue ≡ true
least_issue g t j true is h = absurd (cc is)
least_issue g t j false is h = h.holds

and_second : (a b : Bool) → a ≡ true → (a && b) ≡ false → b ≡ false
and_second a b e f = cc

pub in_turn : (g : Input) (table : List Times) → IsRunOf g table → IssuesInTurn g table
in_turn g table run = λ r j k older lt one free_older free name_older name.
    let t : Table = times table in
    let d : ℕ = (t k).dispatch in
    let s : Table = sees g t 2 k d in
    let row : IsRow g t k = run.each k lt in
    let room : has_room (entries (g.machine.buffer r)) (count_below k (λ i. names r (g.row i) && nat_lt d (s i).issue)) ≡ true = room_of g s k d r (dispatch_room g s k d row.dispatch.holds free) name in
    let none : count_below k (λ i. names r (g.row i) && nat_lt d (s i).issue) ≡ 0 = none_room _ (subst (λ n. has_room n (count_below k (λ i. names r (g.row i) && nat_lt d (s i).issue)) ≡ true) one room) in
    let gone : nat_lt d (s j).issue ≡ false = and_second (names r (g.row j)) (nat_lt d (s j).issue) name_older (none_passes k (λ i. names r (g.row i) && nat_lt d (s i).issue) none j older) in
    let before : (t j).issue ≤ d = seen_issue g t 2 k d j (let le : (s j).issue ≤ d = grind (arith, nat_tests, gone) in le) in
    let after : d < (t k).issue = seen_dispatch g t 1 k (t k).issue k (after_dispatch g (sees g t 1 k (t k).issue) k (t k).issue (least_issue g t k (g.row k).reserved free row.issue)) in
    omega (arith, before, after)

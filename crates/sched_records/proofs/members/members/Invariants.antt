use Rattle.std.proofs.Common.{◌≡◌, ◌∷◌, ◌++◌, drop, map}
use Rattle.std.specs.List.{filter_map}
use Rattle.sched_records.specs.Members.{member_of}
use Rattle.sched_records.proofs.members.members.Given as goal

abbrev pub invariant-loop-field : goal.invariant-loop-field
invariant-loop-field l = let of_field = member_of (l.body ∷ map (λ s. s.given) l.scopes) in
    l.found.items ++ filter_map of_field (drop l.field-index l.fields) ≡ filter_map of_field l.fields

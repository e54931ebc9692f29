use Rattle.std.proofs.Common.{rules, ◌≡◌, ◌∙◌, None, Some, subst, cond, ap, w32}
use Rattle.std.proofs.lemmas.Int.{to_z-of_z}
use mir.Val.{SFits}
use Rattle.indexmap.specs.IndexMap.{get}
use Rattle.sched_validate.specs.Advances.{same_pair}
use Rattle.sched_validate.proofs.Pairs.{first_kept, pair_is}
use Rattle.sched_validate.proofs.advances.list_one.Goals as goal

pub returns-in_ok-insert : goal.returns-in_ok-insert
returns-in_ok-insert c = λ read write.
    let fits : SFits w32 c.args.cycles = search rules in
    first_kept (get same_pair c.args.listed.now (read, write)) (get same_pair c.insert.new.self (read, write)) (same_pair c.args.key (read, write)) c.args.cycles
    (c.in_ok-insert.ensures.updates.0 (read, write) ∙ ap (λ z. cond (same_pair c.args.key (read, write)) (Some z) (get same_pair c.args.listed.now (read, write))) (to_z-of_z w32 c.args.cycles fits))
    (λ same. subst (λ k. get same_pair c.args.listed.now k ≡ None) (pair_is c.args.key (read, write) same) (search rules))

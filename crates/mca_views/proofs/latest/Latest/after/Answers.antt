use Rattle.std.proofs.Common.{sym, ◌∙◌}
use Rattle.mca_views.proofs.LatestCycles.{plain_after, load_after, store_after, barrier_after}
use Rattle.mca_views.proofs.latest.Latest.after.Goals as goal

pub returns-in-Plain : goal.returns-in-Plain
returns-in-Plain c = λ g t reserved j is kind _ _. plain_after g t reserved j c.args.self is (sym kind ∙ c.in-Plain.is)

pub returns-in-Load : goal.returns-in-Load
returns-in-Load c = λ g t reserved j is kind issued completed. rw (c.max.ensures, c.max-in-Load.ensures) (load_after g t reserved j c.args.issued c.args.completed c.args.self is (sym kind ∙ c.in-Load.is) issued completed)

pub returns-in-Store : goal.returns-in-Store
returns-in-Store c = λ g t reserved j is kind issued completed. rw (c.max-in-Store.ensures, c.max-in-Store-2.ensures) (store_after g t reserved j c.args.issued c.args.completed c.args.self is (sym kind ∙ c.in-Store.is) issued completed)

pub returns-in-Barrier : goal.returns-in-Barrier
returns-in-Barrier c = λ g t reserved j is kind _ completed. rw c.max-in-Barrier.ensures (barrier_after g t reserved j c.args.completed c.args.self is (sym kind ∙ c.in-Barrier.is) completed)

use Rattle.std.proofs.Common.{max, sym, ◌∙◌, ap}
use Rattle.std.specs.Prelude.{if◌then◌else◌}
use Rattle.mca_views.proofs.LatestCycles.{plain_order, load_order, store_order, barrier_order}
use Rattle.mca_views.proofs.latest.Latest.lets_go.Goals as goal

pub returns-in-Plain : goal.returns-in-Plain
returns-in-Plain c = λ g t j is kind _. plain_order g t j (sym kind ∙ c.in-Plain.is)

pub returns-in-Load : goal.returns-in-Load
returns-in-Load c = λ g t j is kind pass. c.max-in-Load.ensures ∙ ap (λ m. max c.args.self.now.barriers m) (c.max.ensures ∙ ap (λ m. max c.args.self.now.fenced_loads m) (c.passed.ensures ∙ ap (λ b. if b then 0 else c.args.self.now.stores) pass))
    ∙ load_order g t j c.args.self.now is (sym kind ∙ c.in-Load.is)

pub returns-in-Store : goal.returns-in-Store
returns-in-Store c = λ g t j is kind _. c.max-in-Store-2.ensures ∙ ap (λ m. max c.args.self.now.barriers m) c.max-in-Store.ensures ∙ store_order g t j c.args.self.now is (sym kind ∙ c.in-Store.is)

pub returns-in-Barrier : goal.returns-in-Barrier
returns-in-Barrier c = λ g t j is kind _. c.max-in-Barrier-2.ensures ∙ ap (λ m. max c.args.self.now.barriers m) c.max-in-Barrier.ensures ∙ barrier_order g t j c.args.self.now is (sym kind ∙ c.in-Barrier.is)

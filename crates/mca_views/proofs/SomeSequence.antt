-- A run has a critical sequence: its waits are a graph, and each graph has one.
use Rattle.std.proofs.Common.{ℕ, inl, inr}
use Rattle.std.specs.Prelude.{Option, Some, None}
use Rattle.std.proofs.lemmas.Bool.{cases_Bool}
use Rattle.machine_model.specs.Valid.{IsValidMachine}
use Rattle.critical_chain.specs.declared.graph.Chain.{Chain}
use Rattle.critical_chain.proofs.Exists.{chain_exists}
use Rattle.cycle_rules.specs.Bind.{IsBoundBody}
use Rattle.cycle_rules.specs.Run.{IsRunOf}
use Rattle.dep_graph.proofs.Exists.{graph_exists}
use Rattle.mca_words.specs.declared.options.Options.{Options}
use Rattle.mca_views.specs.Bottleneck.{IsSequence, IsAsked}
use Rattle.mca_views.specs.Shown.{Shown, IsShown, run_of}

pub sequence_exists : (numbers size : ℕ) (s : Shown) → IsValidMachine numbers size s.machine → IsShown s → IsBoundBody s.machine s.body → IsRunOf (run_of s) s.table → (c : Chain) × IsSequence s c
sequence_exists numbers size s valid is bound run =
    let g = graph_exists numbers size s.machine s.body s.iterations s.table valid bound is.few run in
    let c = chain_exists g.0 g.2 in
    (c.0, record { graph = g.0; waits = g.1; is_graph = g.2; critical = c.1 })

pub asked_exists : (numbers size : ℕ) (o : Options) (s : Shown) → IsValidMachine numbers size s.machine → IsShown s → IsBoundBody s.machine s.body → IsRunOf (run_of s) s.table → (chain : Option Chain) × IsAsked o s chain
asked_exists numbers size o s valid is bound run = elim (cases_Bool o.bottleneck_analysis) [
  | inl on ↦ (let c = sequence_exists numbers size s valid is bound run in (Some c.0, (on, c.1)))
  | inr off ↦ (None, off)
]

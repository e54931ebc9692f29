use Rattle.std.proofs.Common.{◌<◌, ℕ, zero, suc, arith, refl}
use Rattle.cycle_rules.specs.Row.{Input}
use Rattle.dep_graph.specs.Walk.{IsWindow, window_at}
use Rattle.dep_graph.specs.declared.window.Limited.TheVariants.{FileRegisters}
use Rattle.dep_graph.specs.declared.window.Window.{Window}
use Rattle.std.specs.Prelude.{[], ◌∷◌}
use Rattle.dep_graph.proofs.Walks.{files_none}
use Rattle.dep_graph.proofs.walk.empty_files.Goals as goal

eight : (g : Input) (w : Window) → ((f n : ℕ) → IsWindow g (FileRegisters f) n 0 w) → (f : ℕ) → f < 8 → (n : ℕ) → IsWindow g (FileRegisters f) n 0 (window_at (w ∷ w ∷ w ∷ w ∷ w ∷ w ∷ w ∷ w ∷ []) f)
eight g w h zero lt n = h 0 n
eight g w h (suc zero) lt n = h 1 n
eight g w h (suc (suc zero)) lt n = h 2 n
eight g w h (suc (suc (suc zero))) lt n = h 3 n
eight g w h (suc (suc (suc (suc zero)))) lt n = h 4 n
eight g w h (suc (suc (suc (suc (suc zero))))) lt n = h 5 n
eight g w h (suc (suc (suc (suc (suc (suc zero)))))) lt n = h 6 n
eight g w h (suc (suc (suc (suc (suc (suc (suc zero))))))) lt n = h 7 n
eight g w h (suc (suc (suc (suc (suc (suc (suc (suc f)))))))) lt n = absurd (omega (arith, lt))

pub returns : goal.returns
returns c = λ g. files_none g _ refl (eight g c.empty.result (λ f n. c.empty.ensures g (FileRegisters f) n))

use Rattle.std.proofs.Common.{Bool, ◌≡◌, ℕ, List, [], ◌∷◌, ◌&&◌, not, refl, slice_index}
use Rattle.unit_sets.specs.Members.{in_word}
use Rattle.unit_sets.proofs.Four.{in_words-both, each_of_four}
use Rattle.unit_sets.proofs.set.UnitSetUnitMask.without.Goals as goal

pub returns : goal.returns
returns c =
    let words : List ℕ = c.difference.result ∷ c.difference-2.result ∷ c.difference-3.result ∷ c.difference-4.result ∷ [] in
    let xs : List ℕ = c.args.self.now.words in
    let ys : List ℕ = c.args.other.now.words in
    in_words-both (λ (here there : Bool). here && not there) refl words xs ys
    (each_of_four (λ k. (v : ℕ) → in_word (slice_index words k) v ≡ (in_word (slice_index xs k) v && not (in_word (slice_index ys k) v)))
    c.difference.ensures c.difference-2.ensures c.difference-3.ensures c.difference-4.ensures)

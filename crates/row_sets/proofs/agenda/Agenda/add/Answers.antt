use Rattle.std.proofs.Common.{◌≡◌, ◌%◌, ◌||◌, ℕ, Bool, arith, ap, ◌∙◌, sym, subst, refl, slice_index, slice_set, length, length-set, get_or-set_same, get_or-set_other, List}
use Rattle.row_sets.specs.Kept.{is_waiting}
use Rattle.row_sets.specs.Rows.{word_of}
use Rattle.row_sets.proofs.Classes.{word_read}
use Rattle.row_sets.proofs.Firsts.{Sooner}
use Rattle.row_sets.proofs.Soonest.{first_low, index_put}
use Rattle.row_sets.proofs.Times.{is_put, not_waiting, time_put, waiting-change}
use Rattle.row_sets.proofs.agenda.Agenda.add.Goals as goal

pub sooner-requires-2 : goal.sooner-requires-2
sooner-requires-2 c = first_low (is_waiting c.args.self.now.words.items) (slice_index c.args.self.now.times.items) c.args.self.now.some (slice_index c.args.self.now.soonest.items) c.args.self.now.first (length c.deref-2.result.now)
    (ap (λ (xs : List ℕ). length xs) c.deref-2.ensures.value ∙ c.args.self.now.times_size) c.args.self.now.index

pub invariant_of-self-clause-times_size : goal.invariant_of-self-clause-times_size
invariant_of-self-clause-times_size c = length-set c.args.self.now.times.items (c.args.k % 4096) c.args.time ∙ c.args.self.now.times_size

pub invariant_of-self-clause-soonest_size : goal.invariant_of-self-clause-soonest_size
invariant_of-self-clause-soonest_size c = length-set c.args.self.now.soonest.items (word_of c.args.k) c.sooner.result ∙ c.args.self.now.soonest_size

pub invariant_of-self-clause-index : goal.invariant_of-self-clause-index
invariant_of-self-clause-index c =
    let words : List ℕ = c.args.self.now.words.items in
    let times : List ℕ = c.args.self.now.times.items in
    let soonest : List ℕ = c.args.self.now.soonest.items in
    let word = word_read (λ (a b : Bool). a || b) words (word_of c.args.k) c.index_mut-3.result.now c.insert.new.self (c.args.k % 64) (omega (arith, c.args.self.now.words_size)) c.index_mut-3.ensures.value c.insert.ensures in
    let at : slice_index (slice_set soonest (word_of c.args.k) c.sooner.result) (word_of c.args.k) ≡ c.sooner.result = get_or-set_same soonest (word_of c.args.k) c.sooner.result 0 (omega (arith, c.args.self.now.soonest_size)) in
    index_put (is_waiting words) (is_waiting (slice_set words (word_of c.args.k) c.insert.new.self)) (slice_index times) (slice_index (slice_set times (c.args.k % 4096) c.args.time))
    c.args.self.now.some c.insert-2.new.self (slice_index soonest) (slice_index (slice_set soonest (word_of c.args.k) c.sooner.result)) c.args.self.now.first c.first_in.result (c.args.k % 4096) (word_of c.args.k) c.args.time c.sooner-2.result
    (is_put words times c.insert.new.self c.args.k c.args.time c.args.self.now.words_size c.args.self.now.times_size (not_waiting words times c.args.k c.requires) word)
    (omega arith) (omega arith) c.insert-2.ensures (λ w ne. get_or-set_other soonest (word_of c.args.k) w c.sooner.result 0 ne) c.first_in.ensures
    (subst (Sooner (slice_index times) (c.args.k % 4096) c.args.time c.first_in.result) (sym at) (subst (λ (xs : List ℕ). Sooner (slice_index xs) (c.args.k % 4096) c.args.time c.first_in.result c.sooner.result) c.deref.ensures.value c.sooner.ensures))
    (subst (λ (xs : List ℕ). Sooner (slice_index xs) (c.args.k % 4096) c.args.time c.args.self.now.first c.sooner-2.result) c.deref-2.ensures.value c.sooner-2.ensures)
    c.args.self.now.index

pub returns : goal.returns
returns c = λ j.
    let words : List ℕ = c.args.self.now.words.items in
    let word = word_read (λ (a b : Bool). a || b) words (word_of c.args.k) c.index_mut-3.result.now c.insert.new.self (c.args.k % 64) (omega (arith, c.args.self.now.words_size)) c.index_mut-3.ensures.value c.insert.ensures in
    time_put words (slice_set words (word_of c.args.k) c.insert.new.self) c.args.self.now.times.items c.args.k c.args.time j c.args.self.now.times_size
    (waiting-change (λ a b. a || b) (λ b. refl) words (word_of c.args.k) (c.args.k % 64) c.insert.new.self c.args.k j c.args.self.now.words_size refl refl word)

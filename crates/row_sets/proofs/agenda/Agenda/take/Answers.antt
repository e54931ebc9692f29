use Rattle.std.proofs.Common.{◌≡◌, ◌<◌, ◌+◌, ◌*◌, ◌/◌, ◌%◌, ◌&&◌, not, ℕ, Bool, arith, ap, ◌∙◌, sym, subst, refl, slice_index, slice_set, nat_eq, get_or-set_same, get_or-set_other, length-set, List, is_some, if◌then◌else◌}
use Rattle.std.proofs.lemmas.List.{get_or_read}
use Rattle.unit_sets.specs.Members.{in_word}
use Rattle.row_sets.specs.Kept.{is_waiting, time_in, AreSoonest}
use Rattle.row_sets.specs.Rows.{row_at}
use Rattle.row_sets.proofs.Classes.{word_read}
use Rattle.row_sets.proofs.Firsts.{FirstBelow}
use Rattle.row_sets.proofs.Places.{row_at-from, row_at-within, row_at-place}
use Rattle.row_sets.proofs.Soonest.{index_from_words, or_place, words_take}
use Rattle.row_sets.proofs.Times.{first_waits, place_apart, time_taken, waiting-change, waiting_word}
use Rattle.row_sets.proofs.agenda.Agenda.take.Goals as goal

pub invariant_of-self-clause-soonest_size : goal.invariant_of-self-clause-soonest_size
invariant_of-self-clause-soonest_size c = length-set c.args.self.now.soonest.items (c.in-Some.place / 64) c.unwrap_or.result ∙ c.args.self.now.soonest_size

pub invariant_of-self-clause-index : goal.invariant_of-self-clause-index
invariant_of-self-clause-index c =
    let place : ℕ = c.in-Some.place in
    let low : place < 4096 = c.in-Some.ensures.low in
    let words : List ℕ = c.args.self.now.words.items in
    let times : List ℕ = c.args.self.now.times.items in
    let soonest : List ℕ = c.args.self.now.soonest.items in
    let left : ℕ = c.index.result.now in
    let words' : List ℕ = slice_set words (place / 64) c.remove.new.self in
    let soonest' : List ℕ = slice_set soonest (place / 64) c.unwrap_or.result in
    let left_is : left ≡ slice_index words' (place / 64) = get_or_read words' _ _ (omega (arith, low, c.args.self.now.words_size, length-set words (place / 64) c.remove.new.self)) c.index.ensures 0 in
    let bits = word_read (λ (a b : Bool). not a && b) words (place / 64) c.index_mut.result.now c.remove.new.self (place % 64) (omega (arith, low, c.args.self.now.words_size)) c.index_mut.ensures.value c.remove.ensures in
    let others : (q : ℕ) → q < 4096 → (q ≡ place → ⊥) → is_waiting words' q ≡ is_waiting words q =
    λ q q_low ne. waiting-change (λ a b. not a && b) (λ b. refl) words (place / 64) (place % 64) c.remove.new.self place q c.args.self.now.words_size (omega (arith, low)) refl bits
    ∙ ap (λ b. not b && is_waiting words q) (place_apart q place q_low (λ e. ne (omega (arith, low)))) in
    let first : FirstBelow (in_word left) (λ v. 64 * (place / 64) + v) (slice_index times) 64 c.first_in-next.result =
    subst (λ (xs : List ℕ). FirstBelow (in_word left) (λ v. 64 * (place / 64) + v) (slice_index xs) 64 c.first_in-next.result) c.deref.ensures.value c.first_in-next.ensures in
    let some_is : (v : ℕ) → in_word c.with_member-self.result v ≡ (if nat_eq v (place / 64) then is_some c.first_in-next.result else in_word c.args.self.now.some v) =
    λ v. c.with_member-self.ensures v ∙ ap (λ b. if nat_eq v (place / 64) then b else in_word c.args.self.now.some v) c.is_some.ensures in
    let next_is : slice_index soonest' (place / 64) ≡ c.unwrap_or.result = get_or-set_same soonest (place / 64) c.unwrap_or.result 0 (omega (arith, low, c.args.self.now.soonest_size)) in
    let are : AreSoonest (is_waiting words') (slice_index times) c.with_member-self.result (slice_index soonest') =
    words_take (is_waiting words) (is_waiting words') (slice_index times) c.args.self.now.some c.with_member-self.result (slice_index soonest) (slice_index soonest') c.first_in-next.result place (place / 64) left
    low refl others (λ v v_low. waiting_word words' (place / 64) v (omega (arith, low)) v_low ∙ ap (λ w. in_word w v) (sym left_is)) first some_is
    (or_place c.first_in-next.result place (slice_index soonest' (place / 64)) (next_is ∙ c.unwrap_or.ensures)) (λ w ne. get_or-set_other soonest (place / 64) w c.unwrap_or.result 0 ne) c.args.self.now.index.words in
    index_from_words (is_waiting words') (slice_index times) c.with_member-self.result (slice_index soonest') c.first_of-self.result are
    (subst (λ (xs : List ℕ). FirstBelow (in_word c.with_member-self.result) (slice_index xs) (slice_index times) 64 c.first_of-self.result) c.deref-2.ensures.value
    (subst (λ (xs : List ℕ). FirstBelow (in_word c.with_member-self.result) (slice_index c.deref-2.result.now) (slice_index xs) 64 c.first_of-self.result) c.deref-3.ensures.value c.first_of-self.ensures))

pub returns : goal.returns
returns c =
    let place : ℕ = c.in-Some.place in
    let low : place < 4096 = c.in-Some.ensures.low in
    let words : List ℕ = c.args.self.now.words.items in
    let times : List ℕ = c.args.self.now.times.items in
    let row : c.row_at.result ≡ row_at c.args.start place = c.row_at.ensures in
    let bits = word_read (λ (a b : Bool). not a && b) words (place / 64) c.index_mut.result.now c.remove.new.self (place % 64) (omega (arith, low, c.args.self.now.words_size)) c.index_mut.ensures.value c.remove.ensures in
    let at : c.row_at.result % 4096 ≡ place = ap (λ k. k % 4096) row ∙ row_at-place c.args.start place low in
    record {
      from = omega (arith, row, row_at-from c.args.start place);
      within = omega (arith, row, row_at-within c.args.start place);
      time = slice_index times place;
      waits = ap (time_in words times) row ∙ first_waits words times place c.in-Some.ensures.soonest c.args.start;
      come = c.in-Some.ensures.come;
      rest = λ j. time_taken words (slice_set words (place / 64) c.remove.new.self) times c.row_at.result j
          (waiting-change (λ a b. not a && b) (λ b. refl) words (place / 64) (place % 64) c.remove.new.self c.row_at.result j c.args.self.now.words_size (omega (arith, at)) (omega (arith, at)) bits);
    }

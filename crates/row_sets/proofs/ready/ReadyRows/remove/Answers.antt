use Rattle.std.proofs.Common.{Bool, ◌≡◌, ◌+◌, ◌*◌, ◌%◌, ◌&&◌, not, nat_eq, ◌∙◌, ap, refl, arith, slice_index, length-set, if◌then◌else◌}
use Rattle.std.proofs.lemmas.Bool.{and_right}
use Rattle.std.proofs.lemmas.List.{get_or_read}
use Rattle.unit_sets.specs.Members.{in_word}
use Rattle.row_sets.specs.Rows.{word_of}
use Rattle.row_sets.proofs.Classes.{empty_removed, is_in-change, word_read}
use Rattle.row_sets.proofs.ready.ReadyRows.remove.Goals as goal

pub invariant_of-self-clause-classes_size : goal.invariant_of-self-clause-classes_size
invariant_of-self-clause-classes_size c = length-set c.args.self.now.classes.items (word_of c.args.k) c.with_member.result ∙ c.args.self.now.classes_size

pub invariant_of-self-clause-empty : goal.invariant_of-self-clause-empty
invariant_of-self-clause-empty c =
    let rows = word_read (λ (a b : Bool). not a && b) c.args.self.now.words.items (word_of c.args.k * 64 + c.args.class) c.index.result.now c.remove.new.self (c.args.k % 64) (omega (arith, c.args.self.now.size)) c.index.ensures c.remove.ensures in
    let was : c.index-2.result.now ≡ slice_index c.args.self.now.classes.items (word_of c.args.k) = get_or_read c.args.self.now.classes.items _ _ (omega (arith, c.args.self.now.classes_size)) c.index-2.ensures 0 in
    empty_removed c.args.self.now.words.items c.args.self.now.classes.items c.with_member.result c.remove.new.self c.args.class c.args.k c.args.self.now.size c.args.self.now.classes_size c.requires rows
    (λ v. c.with_member.ensures v ∙ ap (λ w. if nat_eq v c.args.class then not (nat_eq c.remove.new.self 0) else in_word w v) was) c.args.self.now.empty

pub returns : goal.returns
returns c = λ r j low.
    let rows = word_read (λ (a b : Bool). not a && b) c.args.self.now.words.items (word_of c.args.k * 64 + c.args.class) c.index.result.now c.remove.new.self (c.args.k % 64) (omega (arith, c.args.self.now.size)) c.index.ensures c.remove.ensures in
    is_in-change (λ (a b : Bool). not a && b) (λ b. refl) c.args.self.now.words.items c.remove.new.self c.args.class c.args.k r j c.args.self.now.size c.requires low rows

pub invariant_of-self-clause-unused : goal.invariant_of-self-clause-unused
invariant_of-self-clause-unused c = λ r j low out.
    let rows = word_read (λ (a b : Bool). not a && b) c.args.self.now.words.items (word_of c.args.k * 64 + c.args.class) c.index.result.now c.remove.new.self (c.args.k % 64) (omega (arith, c.args.self.now.size)) c.index.ensures c.remove.ensures in
    is_in-change (λ (a b : Bool). not a && b) (λ b. refl) c.args.self.now.words.items c.remove.new.self c.args.class c.args.k r j c.args.self.now.size c.requires low rows ∙ and_right _ _ (c.args.self.now.unused r j low out)

use Rattle.std.proofs.Common.{Bool, nat_eq, sym, ◌+◌, ◌*◌, ◌%◌, ◌||◌, ◌∙◌, refl, arith, length-set}
use Rattle.row_sets.specs.Rows.{same_place, word_of}
use Rattle.row_sets.proofs.Classes.{empty_put, unused_put, is_in-change, word_read}
use Rattle.row_sets.proofs.ready.ReadyRows.insert.Goals as goal

pub invariant_of-self-clause-classes_size : goal.invariant_of-self-clause-classes_size
invariant_of-self-clause-classes_size c = length-set c.args.self.now.classes.items (word_of c.args.k) c.insert-2.new.self ∙ c.args.self.now.classes_size

pub invariant_of-self-clause-empty : goal.invariant_of-self-clause-empty
invariant_of-self-clause-empty c =
    let rows = word_read (λ (a b : Bool). a || b) c.args.self.now.words.items (word_of c.args.k * 64 + c.args.class) c.index_mut.result.now c.insert.new.self (c.args.k % 64) (omega (arith, c.args.self.now.size)) c.index_mut.ensures.value c.insert.ensures in
    let known = word_read (λ (a b : Bool). a || b) c.args.self.now.classes.items (word_of c.args.k) c.index_mut-2.result.now c.insert-2.new.self c.args.class (omega (arith, c.args.self.now.classes_size)) c.index_mut-2.ensures.value c.insert-2.ensures in
    empty_put c.args.self.now.words.items c.args.self.now.classes.items c.insert-2.new.self c.insert.new.self c.args.class c.args.k c.args.self.now.size c.args.self.now.classes_size c.requires rows known c.args.self.now.empty

pub returns : goal.returns
returns c = λ r j low.
    let rows = word_read (λ (a b : Bool). a || b) c.args.self.now.words.items (word_of c.args.k * 64 + c.args.class) c.index_mut.result.now c.insert.new.self (c.args.k % 64) (omega (arith, c.args.self.now.size)) c.index_mut.ensures.value c.insert.ensures in
    is_in-change (λ (a b : Bool). a || b) (λ b. refl) c.args.self.now.words.items c.insert.new.self c.args.class c.args.k r j c.args.self.now.size c.requires low rows

pub invariant_of-self-clause-unused : goal.invariant_of-self-clause-unused
invariant_of-self-clause-unused c r j low out =
    let rows = word_read (λ (a b : Bool). a || b) c.args.self.now.words.items (word_of c.args.k * 64 + c.args.class) c.index_mut.result.now c.insert.new.self (c.args.k % 64) (omega (arith, c.args.self.now.size)) c.index_mut.ensures.value c.insert.ensures in
    unused_put (nat_eq r c.args.class) (same_place j c.args.k) _ _ (is_in-change (λ (a b : Bool). a || b) (λ b. refl) c.args.self.now.words.items c.insert.new.self c.args.class c.args.k r j c.args.self.now.size c.requires low rows) (c.args.self.now.unused r j low) (sym (c.insert-3.ensures r) ∙ out)

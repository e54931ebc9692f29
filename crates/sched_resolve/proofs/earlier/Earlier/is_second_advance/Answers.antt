use Rattle.std.proofs.Common.{◌∙◌, ap, sym, map, position, nat_eq}
use Rattle.std.specs.Cmp.Lexicographic.{pointwise}
use Rattle.std.proofs.lemmas.List.{length-map}
use Rattle.sched_resolve.specs.Reading.{word_of}
use Rattle.sched_resolve.specs.Names.{names_in}
use Rattle.sched_resolve.specs.declared.name_space.NameSpace.TheVariants as space
use Rattle.sched_resolve.proofs.SeenSteps.{second_advance, number_stands}
use Rattle.sched_resolve.proofs.earlier.Earlier.is_second_advance.Goals as goal

pub returns-in-None : goal.returns-in-None
returns-in-None c = absurd (number_stands c.args.self.now.table c.args.one.now c.argument_word.result.now c.requires.stands c.requires.advance c.argument_word.ensures
    (c.in-None.ensures ∙ ap (λ t. position (pointwise nat_eq c.argument_word.result.now) (names_in space.Read t)) c.requires.table))

pub returns-in-Some : goal.returns-in-Some
returns-in-Some c = c.has_advance.ensures ∙ (rw (← length-map c.argument_atoms.result.now word_of)
    (second_advance c.args.self.now.table c.args.self.now.earlier c.args.one.now c.argument_word.result.now (map word_of c.argument_atoms.result.now) c.in-Some.read c.argument_word.ensures (ap (map word_of) c.argument_atoms.ensures)
    (sym (c.in-Some.ensures ∙ ap (λ t. position (pointwise nat_eq c.argument_word.result.now) (names_in space.Read t)) c.requires.table))))

use Rattle.std.proofs.lemmas.Int.{to_z-of_z}
use mir.Val.{SFits}
use Rattle.std.proofs.Common.{rules, w32, ◌∙◌, ap, sym, Some, None, nat_eq}
use Rattle.std.specs.Prelude.{◌&&◌, if◌then◌else◌}
use Rattle.std.specs.Option.{option_or}
use Rattle.std.specs.List.{list_any}
use Rattle.indexmap.specs.IndexMap.{get}
use Rattle.sched_validate.specs.Advances.{same_pair}
use Rattle.sched_validate.specs.Classes.{lists, is_general}
use Rattle.sched_validate.proofs.Pairs.{find_more, or_none, unsupported_lists, unsupported_general, noted_lists, noted_general}
use Rattle.sched_validate.proofs.advances.Advances.add.Goals as goal

pub returns-then-advance : goal.returns-then-advance
returns-then-advance c = λ all stands. record {
  listed = λ r w. find_more (lists r w) all c.args.advance.now (get same_pair c.args.self.now.listed (r, w)) (get same_pair c.args.self.now.listed (r, w)) (stands.listed r w)
      (or_none (get same_pair c.args.self.now.listed (r, w)) ∙ ap (λ b. option_or (get same_pair c.args.self.now.listed (r, w)) (if b then Some c.args.advance.now.cycles else None)) (sym (unsupported_lists c.args.advance.now r w c.if-advance.true)));
  general = λ r. find_more (is_general r) all c.args.advance.now (get nat_eq c.args.self.now.general r) (get nat_eq c.args.self.now.general r) (stands.general r)
      (or_none (get nat_eq c.args.self.now.general r) ∙ ap (λ b. option_or (get nat_eq c.args.self.now.general r) (if b then Some c.args.advance.now.cycles else None)) (sym (unsupported_general c.args.advance.now r c.if-advance.true)));
}

pub returns : goal.returns
returns c = λ all stands.
    let fits : SFits w32 c.cycles_of-cycles.result = search rules in
    record {
      listed = λ r w. noted_lists all c.args.advance.now r w (get same_pair c.args.self.now.listed (r, w)) (get same_pair c.list.new.listed (r, w)) c.cycles_of-cycles.result c.as_slice.result.now
          c.if-advance.false c.cycles_of-cycles.ensures c.as_slice.ensures (stands.listed r w)
          (c.in_ok-list.ensures r w ∙ ap (λ z. option_or (get same_pair c.args.self.now.listed (r, w)) (if nat_eq c.args.advance.now.read r && list_any (λ v. nat_eq v w) c.as_slice.result.now then Some z else None)) (to_z-of_z w32 c.cycles_of-cycles.result fits));
      general = λ r. noted_general all c.args.advance.now r (get nat_eq c.args.self.now.general r) (get nat_eq c.note_general.new.general r) c.cycles_of-cycles.result
          c.if-advance.false c.cycles_of-cycles.ensures (stands.general r)
          (c.in_ok-note_general.ensures r ∙ ap (λ z. option_or (get nat_eq c.args.self.now.general r) (if nat_eq c.args.advance.now.read r && c.args.advance.now.general then Some z else None)) (to_z-of_z w32 c.cycles_of-cycles.result fits));
    }

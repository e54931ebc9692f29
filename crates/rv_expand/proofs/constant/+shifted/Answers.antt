use Rattle.std.proofs.Common.{◌≡◌, ◌-◌, ◌∙◌, ap, sym, false, rules}
use Rattle.std.specs.Int.{w64}
use Rattle.std.proofs.lemmas.Int.{to_z-of_z}
use Rattle.rv_expand.specs.Constant.{is_word, quotient_of, shifted, word}
use Rattle.rv_expand.proofs.Shifted.{shifted_more, shifted_never, shifted_no_more}
use Rattle.rv_expand.proofs.constant.+shifted.Goals.{then-shifts-eq0-via-then-shifts-eq0, then-shifts-eq0-via-else-shifts-eq0+then-is_word}
use Rattle.rv_expand.proofs.constant.+shifted.Goals as goal

pub returns-then-shifts-eq0 : goal.returns-then-shifts-eq0
returns-then-shifts-eq0 t c =
    let plain = to_z-of_z w64 c.args.value c.ranges.value in
    let short : shifted c.args.shifts c.args.rd c.args.value ≡ word c.args.rd c.args.value = elim c.then-shifts-eq0.branch [
      | then-shifts-eq0-via-then-shifts-eq0 w ↦ shifted_never c.args.shifts c.args.rd c.args.value w.if-shifts-eq0.true
      | then-shifts-eq0-via-else-shifts-eq0+then-is_word w ↦ shifted_no_more c.args.shifts c.args.rd c.args.value (sym (rw plain at w.is_word.ensures) ∙ w.if-is_word.true)
    ] in
    rw short (rw plain at c.word.ensures)

pub returns : goal.returns
returns t c =
    let plain = to_z-of_z w64 c.args.value c.ranges.value in
    let long : is_word c.args.value ≡ false = sym (rw plain at c.is_word.ensures) ∙ c.if-is_word.false in
    let quotient = to_z-of_z w64 c.quotient_of.result (search rules) ∙ c.quotient_of.ensures ∙ ap quotient_of plain in
    let front : c.in_ok-front.front.items ≡ shifted (c.args.shifts - 1) c.args.rd (quotient_of c.args.value) =
    c.in_ok-front.ensures ∙ ap (shifted (c.args.shifts - 1) c.args.rd) quotient in
    rw (shifted_more c.args.shifts c.args.rd c.args.value c.if-shifts-eq0.false long, ← front) (rw plain at c.with_low_bits.ensures)

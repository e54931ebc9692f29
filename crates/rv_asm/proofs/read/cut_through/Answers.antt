use Rattle.std.proofs.Common.{arith}
use Rattle.std.proofs.lemmas.List.{nil_from_length}
use Rattle.std.proofs.lemmas.Bool.Decides.{nat_tests}
use Rattle.rv_asm.proofs.Through.{goes_one, goes_end}
use Rattle.rv_asm.proofs.read.cut_through.Goals as goal

pub loop-rest-preserved : goal.loop-rest-preserved
loop-rest-preserved c = record {
  line = omega (arith, c.loop-rest.invariant.line, c.in_ok-step.ensures.line, c.split_at.ensures.front_len, c.split_at.ensures.back_len, c.piece_len.ensures.high);
  names = omega (arith, c.loop-rest.invariant.names, c.in_ok-step.ensures.more, c.split_at.ensures.front_len, c.split_at.ensures.back_len, c.piece_len.ensures.low);
  goes_on = goes_one c.args.text.now c.loop-rest.state c.step.new.self c.loop-rest.rest.now c.quotes-strings.result c.kind_at-kind.result c.piece_len.result c.split_at.result.0.now c.split_at.result.1.now
      (omega (arith, c.piece_len.ensures.low, c.piece_len.ensures.high)) c.quotes-strings.ensures c.kind_at-kind.ensures c.piece_len.ensures.len c.split_at.ensures.front c.split_at.ensures.back c.in_ok-step.ensures.ok c.loop-rest.invariant.goes_on;
}

pub returns : goal.returns
returns c = goes_end c.args.text.now c.loop-rest.state c.end.new.self c.loop-rest.rest.now (nil_from_length c.loop-rest.rest.now (grind (arith, nat_tests, c.is_empty.ensures, c.loop-rest-test.false))) c.in_ok-end.ensures.ok c.loop-rest.invariant.goes_on

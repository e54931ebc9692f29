use Rattle.std.proofs.Common.{◌<◌, length, ◌∙◌, arith}
use Rattle.sched_records.proofs.TokenSteps.{token_found, gap_found, gap_some}
use Rattle.sched_records.proofs.tokens.Tokens.at.Goals as goal

pub returns-then-not-is_gap : goal.returns-then-not-is_gap
returns-then-not-is_gap c =
    token_found c.pieces.rest.now c.bytes_of.result.now c.split_at.result.0.now c.split_at.result.1.now c.pieces.at c.line_of.result c.feeds.result
    c.piece_at-piece.result c.is_gap.result c.is_empty.result
    c.piece_at-piece.ensures.piece c.piece_at-piece.ensures.some c.piece_at-piece.ensures.within c.is_gap.ensures c.if-not-is_gap.true
    c.line_of.ensures c.bytes_of.ensures c.is_empty.ensures c.split_at.ensures.front c.split_at.ensures.back c.feeds.ensures.feeds
    ∙ c.pieces.invariant.same

pub pieces-preserved : goal.pieces-preserved
pieces-preserved c =
    let some : 0 < length c.pieces.rest.now = gap_some c.pieces.rest.now c.piece_at-piece.result c.is_gap.result c.piece_at-piece.ensures.piece c.is_gap.ensures c.if-not-is_gap.false in
    record {
      low = omega arith;
      same = gap_found c.pieces.rest.now c.split_at.result.0.now c.split_at.result.1.now c.pieces.at c.feeds.result c.piece_at-piece.result c.is_gap.result
          c.piece_at-piece.ensures.piece (c.piece_at-piece.ensures.some some) c.piece_at-piece.ensures.within c.is_gap.ensures c.if-not-is_gap.false
          c.split_at.ensures.front c.split_at.ensures.back c.feeds.ensures.feeds
          ∙ c.pieces.invariant.same;
    }

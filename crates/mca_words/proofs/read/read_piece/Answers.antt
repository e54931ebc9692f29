use Rattle.std.proofs.Common.{◌≡◌, ◌<◌, ◌+◌, length, map, string_bytes, arith, ap, ◌∙◌}
use Rattle.std.proofs.lemmas.List.{length-map}
use Rattle.mca_words.specs.Answer.{width, next_word}
use Rattle.mca_words.proofs.Steps.{step_fault, step_set, place_within}
use Rattle.mca_words.proofs.read.read_piece.Goals as goal

pub returns-in-Err-clause-err : goal.returns-in-Err-clause-err
returns-in-Err-clause-err c = λ not_memory.
    let within : c.args.at < length (map string_bytes c.args.words.now) = omega (arith, length-map c.args.words.now string_bytes) in
    step_fault (map string_bytes c.args.words.now) c.args.at c.args.settings.now.items c.deref.result.now c.word_at.result.now _ c.in-Err.kind within c.deref.ensures.value c.word_at.ensures c.next_word-next.ensures (c.in-Err.ensures (c.args.at + 1) not_memory)

pub returns-in_ok-push-in-Ok-clause-ok : goal.returns-in_ok-push-in-Ok-clause-ok
returns-in_ok-push-in-Ok-clause-ok c =
    let within : c.args.at < length (map string_bytes c.args.words.now) = omega (arith, length-map c.args.words.now string_bytes) in
    let counted : c.width.result ≡ width (next_word (map string_bytes c.args.words.now) c.args.at) = c.width.ensures ∙ ap width c.next_word-next.ensures in
    (omega arith, omega (arith, length-map c.args.words.now string_bytes, place_within (map string_bytes c.args.words.now) c.args.at within), rw c.in_ok-push-in-Ok.ensures.items (step_set (map string_bytes c.args.words.now) c.args.at c.args.settings.now.items c.deref.result.now c.word_at.result.now _ c.in-Ok.setting c.width.result within c.deref.ensures.value c.word_at.ensures c.next_word-next.ensures c.width.ensures (c.in-Ok.ensures (c.args.at + 1))))

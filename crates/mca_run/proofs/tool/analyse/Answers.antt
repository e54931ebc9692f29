use Rattle.std.proofs.Common.{inl, inr, subst, map, string_bytes, refl}
use Rattle.mca_run.specs.Lines.{line_of}
use Rattle.mca_run.specs.Outcome.{Gets, GetsFront, MayTell, MayTellOf}
use Rattle.mca_run.specs.Refusal.{IsRefusal}
use Rattle.mca_run.specs.declared.status.Status.TheVariants.{WriteFault}
use Rattle.mca_run.proofs.Outcomes.{done_complete, failure_complete, line_or_front, keeps_same, tell_complete, tell_refused, tell_plain, tell_words, tell_read, tell_not_done, tell_first, tell_rose, tell_line, tell_failed, stop_may, stop_may_of}
use Rattle.mca_run.proofs.tool.analyse.Goals as goal

-- The work stopped, and its line was told

pub returns-in-Err-clause-words : goal.returns-in-Err-clause-words
returns-in-Err-clause-words g c = λ fault e. c.in-Err.ensures.err.of_words fault (tell_words (g.E.Sink.told c.args.err.now, g.E.Sink.told c.tell.new.err) c.in-Err.stop.status c.tell.result fault c.tell.ensures e)

pub returns-in-Err-clause-words_first : goal.returns-in-Err-clause-words_first
returns-in-Err-clause-words_first g c = λ fault h. tell_first (g.E.Sink.told c.args.err.now, g.E.Sink.told c.tell.new.err) c.in-Err.stop.status c.tell.result fault c.tell.ensures (c.in-Err.ensures.err.words_first fault h)

pub returns-in-Err-clause-refused : goal.returns-in-Err-clause-refused
returns-in-Err-clause-refused g c = λ files tells. tell_refused (IsRefusal (map string_bytes c.args.words.now) files) (g.E.Sink.told c.args.err.now, g.E.Sink.told c.tell.new.err) c.in-Err.stop.status c.tell.result
    (c.in-Err.ensures.err.refused files tells) c.tell.ensures

pub returns-in-Err-clause-no_memory : goal.returns-in-Err-clause-no_memory
returns-in-Err-clause-no_memory g c = tell_plain (g.E.Sink.told c.args.err.now, g.E.Sink.told c.tell.new.err) c.in-Err.stop.status c.tell.result c.in-Err.stop.stops c.tell.ensures

pub returns-in-Err-clause-read_fault : goal.returns-in-Err-clause-read_fault
returns-in-Err-clause-read_fault g c = λ e. c.in-Err.ensures.err.fault (tell_read (g.E.Sink.told c.args.err.now, g.E.Sink.told c.tell.new.err) c.in-Err.stop.status c.tell.result c.tell.ensures e)

pub returns-in-Err-clause-read_in_order : goal.returns-in-Err-clause-read_in_order
returns-in-Err-clause-read_in_order g c = λ files tells e. c.in-Err.ensures.err.in_order files tells (tell_read (g.E.Sink.told c.args.err.now, g.E.Sink.told c.tell.new.err) c.in-Err.stop.status c.tell.result c.tell.ensures e)

pub returns-in-Err-clause-write_fault : goal.returns-in-Err-clause-write_fault
returns-in-Err-clause-write_fault g c = λ e. inr (tell_rose (g.E.Sink.told c.args.err.now, g.E.Sink.told c.tell.new.err) c.in-Err.stop.status c.tell.result c.in-Err.stop.stops c.tell.ensures e)

pub returns-in-Err-clause-line : goal.returns-in-Err-clause-line
returns-in-Err-clause-line g c = tell_line (g.O.Sink.told c.args.out.now, g.O.Sink.told c.args.out.now) (g.E.Sink.told c.args.err.now, g.E.Sink.told c.tell.new.err) c.in-Err.stop.status c.tell.result
    (keeps_same (g.O.Sink.told c.args.out.now).contents) c.tell.ensures

pub returns-in-Err-clause-after_write_fault : goal.returns-in-Err-clause-after_write_fault
returns-in-Err-clause-after_write_fault g c = λ e. inr (tell_failed (MayTell (map string_bytes c.args.words.now) (g.F.Shelf.faults c.args.shelf.now) (g.F.Shelf.faults c.work.new.shelf))
    (g.O.Sink.told c.args.out.now, g.O.Sink.told c.args.out.now) (g.E.Sink.told c.args.err.now, g.E.Sink.told c.tell.new.err) c.in-Err.stop.status c.tell.result c.in-Err.stop.stops
    (stop_may _ _ _ _ c.in-Err.stop.status c.in-Err.stop.stops c.in-Err.ensures.err) tt (keeps_same (g.O.Sink.told c.args.out.now).contents) c.tell.ensures e)

pub returns-in-Err-clause-after_write_fault_of : goal.returns-in-Err-clause-after_write_fault_of
returns-in-Err-clause-after_write_fault_of g c = λ files tells e. inr (tell_failed (MayTellOf (map string_bytes c.args.words.now) files (g.F.Shelf.faults c.args.shelf.now) (g.F.Shelf.faults c.work.new.shelf))
    (g.O.Sink.told c.args.out.now, g.O.Sink.told c.args.out.now) (g.E.Sink.told c.args.err.now, g.E.Sink.told c.tell.new.err) c.in-Err.stop.status c.tell.result c.in-Err.stop.stops
    (stop_may_of _ _ _ _ c.in-Err.stop.status c.in-Err.stop.stops c.in-Err.ensures.err files tells) tt (keeps_same (g.O.Sink.told c.args.out.now).contents) c.tell.ensures e)

pub returns-in-Err-clause-done : goal.returns-in-Err-clause-done
returns-in-Err-clause-done g c = λ files tells e. absurd (tell_not_done (g.E.Sink.told c.args.err.now, g.E.Sink.told c.tell.new.err) c.in-Err.stop.status c.tell.result c.in-Err.stop.stops c.tell.ensures e)

pub returns-in-Err-clause-read_to_end : goal.returns-in-Err-clause-read_to_end
returns-in-Err-clause-read_to_end g c = λ e. absurd (tell_not_done (g.E.Sink.told c.args.err.now, g.E.Sink.told c.tell.new.err) c.in-Err.stop.status c.tell.result c.in-Err.stop.stops c.tell.ensures e)

pub returns-in-Err-clause-no_error : goal.returns-in-Err-clause-no_error
returns-in-Err-clause-no_error g c = λ e. absurd (tell_not_done (g.E.Sink.told c.args.err.now, g.E.Sink.told c.tell.new.err) c.in-Err.stop.status c.tell.result c.in-Err.stop.stops c.tell.ensures e)

pub returns-in-Err-clause-completeness : goal.returns-in-Err-clause-completeness
returns-in-Err-clause-completeness g c = λ files tells. tell_complete (map string_bytes c.args.words.now) files (g.E.Sink.told c.args.err.now, g.E.Sink.told c.tell.new.err) c.in-Err.stop.status c.tell.result c.in-Err.stop.stops
    (c.in-Err.ensures.err.refused files tells) c.tell.ensures

-- The report was written

pub returns-in-Ok-write_whole-clause-words_first : goal.returns-in-Ok-write_whole-clause-words_first
returns-in-Ok-write_whole-clause-words_first g c = λ fault h. absurd (c.in-Ok.ensures.asked fault h)

pub returns-in-Ok-write_whole-clause-no_error : goal.returns-in-Ok-write_whole-clause-no_error
returns-in-Ok-write_whole-clause-no_error g c = λ e. keeps_same (g.E.Sink.told c.args.err.now).contents

pub returns-in-Ok-write_whole-clause-completeness : goal.returns-in-Ok-write_whole-clause-completeness
returns-in-Ok-write_whole-clause-completeness g c = λ files tells. done_complete (map string_bytes c.args.words.now) files (c.in-Ok.report.items) (c.in-Ok.ensures.ok files tells)

pub returns-in-Ok-write_whole-clause-done : goal.returns-in-Ok-write_whole-clause-done
returns-in-Ok-write_whole-clause-done g c = λ files tells e. record {
  report = c.in-Ok.report.items;
  is = c.in-Ok.ensures.ok files tells;
  bytes = subst (Gets (g.O.Sink.told c.args.out.now, g.O.Sink.told c.write_whole.new.sink)) c.as_slice.ensures.value c.in-Ok-write_whole.ensures.whole;
}

-- Writing it failed

pub returns-clause-completeness : goal.returns-clause-completeness
returns-clause-completeness g c = λ files tells. failure_complete (map string_bytes c.args.words.now) files WriteFault (inr (inl refl))

pub returns-clause-after_write_fault : goal.returns-clause-after_write_fault
returns-clause-after_write_fault g c = λ is. inl (record {
  report = c.in-Ok.report.items;
  is = tt;
  read_to_end = c.in-Ok.ensures.end;
  front = subst (GetsFront (g.O.Sink.told c.args.out.now, g.O.Sink.told c.write_whole.new.sink)) c.as_slice.ensures.value (record {
    count = c.in-Err-write_whole.ensures.front.0;
    proper = c.in-Err-write_whole.ensures.front.1;
    front = c.in-Err-write_whole.ensures.front.2;
    rose = c.in-Err-write_whole.ensures.cause.failed;
  });
  line = line_or_front (g.E.Sink.told c.args.err.now, g.E.Sink.told c.write_whole-in-Err-write_whole.new.sink)
      (line_of WriteFault) c.write_whole-in-Err-write_whole.result c.write_whole-in-Err-write_whole.ensures.whole c.write_whole-in-Err-write_whole.ensures.front c.write_whole-in-Err-write_whole.ensures.cause;
})

pub returns-clause-after_write_fault_of : goal.returns-clause-after_write_fault_of
returns-clause-after_write_fault_of g c = λ files tells is. inl (record {
  report = c.in-Ok.report.items;
  is = c.in-Ok.ensures.ok files tells;
  read_to_end = c.in-Ok.ensures.end;
  front = subst (GetsFront (g.O.Sink.told c.args.out.now, g.O.Sink.told c.write_whole.new.sink)) c.as_slice.ensures.value (record {
    count = c.in-Err-write_whole.ensures.front.0;
    proper = c.in-Err-write_whole.ensures.front.1;
    front = c.in-Err-write_whole.ensures.front.2;
    rose = c.in-Err-write_whole.ensures.cause.failed;
  });
  line = line_or_front (g.E.Sink.told c.args.err.now, g.E.Sink.told c.write_whole-in-Err-write_whole.new.sink)
      (line_of WriteFault) c.write_whole-in-Err-write_whole.result c.write_whole-in-Err-write_whole.ensures.whole c.write_whole-in-Err-write_whole.ensures.front c.write_whole-in-Err-write_whole.ensures.cause;
})

-- What a report, a line and a failed write make of a call.
use Rattle.std.proofs.Common.{◌≡◌, ℕ, ◌<◌, ◌⊎◌, inl, inr, List, length, take, Some, None, Ok, Err, true, sym, ◌∙◌, ap, subst, refl}
use Rattle.std.specs.Prelude.{OnOk, OnErr}
use Rattle.std.specs.declared.option.Option.{Option}
use Rattle.std.specs.declared.result.Result.{Result}
use Rattle.std.specs.Io.KnownBytes.{Keeps}
use Rattle.mca_io.specs.Devices.{HasCause, Rose, Told}
use Rattle.mca_words.specs.declared.fault.WordFault.{WordFault}
use Rattle.mca_words.specs.declared.options.Options.{Options}
use Rattle.mca_run.specs.Asked.{IsWordFault, IsAsked, IsLoadAsked}
use Rattle.mca_run.specs.Lines.{line_of}
use Rattle.mca_run.specs.Machines.{fixed_of}
use Rattle.mca_run.specs.Refusal.{Contents, WhereTold, IsRefusal, IfRefused}
use Rattle.mca_run.specs.Report.{IsFilesReport, IsReport, of_files, of_load}
use Rattle.mca_run.specs.Steps.{IsStopped}
use Rattle.mca_run.specs.Stop.{is_stop}
use Rattle.mca_run.specs.Outcome.{Change, IsKept, Gets, GetsFront, TellsLine, MayTell, MayTellOf, LineFailed, LineWritten, IsFailure, IsAccepted, IsComplete, HoldsNoMemory, NamedFault, NamedInOrder}
use Rattle.mca_run.specs.declared.status.Status.{Status}
use Rattle.mca_run.specs.declared.status.Status.TheVariants.{Done, Words, Assembly, Table, Machine, Limit, ReadFault, WriteFault, Memory}
use Rattle.mca_run.proofs.Causes.{none_is_some, load_not_files, refusal_load, refusal_same, refusal_accepted, not_both, refusal_assembly, refusal_table, machine_there}
use Rattle.mca_run.proofs.Refused.{stop_plain, stop_not_done, stop_not_write}

memory_not_write : Memory ≡ WriteFault → ⊥
memory_not_write e = cc

-- A report

files_complete : (words : List (List ℕ)) (contents : Contents) (a : List ℕ) → IsFilesReport words contents a → IsComplete words contents Done
files_complete words contents a q = record {
  refused = λ s h. absurd (not_both words contents s a h (of_files q));
  no_assembly = λ o asked none. absurd (absent_input o asked none);
  no_table = λ o p asked input none absent. absurd (absent_table o asked none absent);
  accepted = λ accepted. inl refl;
  load = λ seed asked. inl refl;
}
  where
    same : (o : Options) → IsAsked words o → o ≡ q.options
    same o asked = let both : ◌≡◌ {A = Result Options WordFault} (Ok o) (Ok q.options) = sym asked.options ∙ q.asked.options in cc

    absent_input : (o : Options) → IsAsked words o → contents o.input ≡ None → ⊥
    absent_input o asked none = none_is_some (contents o.input) q.input.text none (ap (λ x. contents x.input) (same o asked) ∙ q.input.there)

    absent_table : (o : Options) → IsAsked words o → fixed_of o ≡ None → contents o.table ≡ None → ⊥
    absent_table o asked none absent = machine_there contents q.options q.run.machine q.run.named (subst (λ x. fixed_of x ≡ None) (same o asked) none) (subst (λ x. contents x.table ≡ None) (same o asked) absent)

load_complete : (words : List (List ℕ)) (contents : Contents) (seed : ℕ) → IsLoadAsked words seed → IsComplete words contents Done
load_complete words contents seed loads = record {
  refused = λ s h. absurd (refusal_load words contents s seed h loads);
  no_assembly = λ o asked none. absurd (load_not_files words o seed asked loads);
  no_table = λ o p asked input none absent. absurd (load_not_files words o seed asked loads);
  accepted = λ accepted. inl refl;
  load = λ other asked. inl refl;
}

-- where there is a report, Done is a complete answer
pub done_complete : (words : List (List ℕ)) (contents : Contents) (a : List ℕ) → IsReport words contents a → IsComplete words contents Done
done_complete words contents a (of_files q) = files_complete words contents a q
done_complete words contents a (of_load seed asked q) = load_complete words contents seed asked

-- a line was written whole, or a proper front of it
pub line_or_front : {T E : Type 0} (sink : Change) (bytes : List ℕ) (r : Result T E) → OnOk r (Gets sink bytes) → OnErr r ((n : ℕ) × (n < length bytes) × Gets sink (take n bytes)) → HasCause sink.0.faults sink.1.faults r
    → Gets sink bytes ⊎ GetsFront sink bytes
line_or_front sink bytes (Ok x) whole front cause = inl whole
line_or_front sink bytes (Err e) whole front cause = inr (record { count = front.0; proper = front.1; front = front.2; rose = cause.failed })

pub keeps_same : (o : Option (List ℕ)) → Keeps o o
keeps_same None = tt
keeps_same (Some bytes) = refl

pub failure_complete : (words : List (List ℕ)) (contents : Contents) (result : Status) → IsFailure result → IsComplete words contents result
failure_complete words contents result failure = record {
  refused = λ s h. inr failure;
  no_assembly = λ o asked none. failure;
  no_table = λ o p asked input none absent. failure;
  accepted = λ accepted. inr failure;
  load = λ seed asked. inr failure;
}

-- A line

accepted_not_refused : (words : List (List ℕ)) (contents : Contents) (s : Status) → IsRefusal words contents s → IsAccepted words contents → ⊥
accepted_not_refused words contents s h a = refusal_accepted words contents s a.options a.program a.machine h a.asked a.input a.named a.taken a.short

refusal_complete : (words : List (List ℕ)) (contents : Contents) (s : Status) → IsRefusal words contents s → IsComplete words contents s
refusal_complete words contents s h = record {
  refused = λ t g. inl (refusal_same words contents s t h g);
  no_assembly = λ o asked none. absurd (refusal_assembly words contents s o h asked none);
  no_table = λ o p asked input none absent. absurd (refusal_table words contents s o p h asked input none absent);
  accepted = λ accepted. absurd (accepted_not_refused words contents s h accepted);
  load = λ seed asked. absurd (refusal_load words contents s seed h asked);
}

-- a status that stops the work is a complete answer
stop_complete : (words : List (List ℕ)) (contents : Contents) (s : Status) → is_stop s ≡ true → IfRefused (IsRefusal words contents) s → IsComplete words contents s
stop_complete words contents Done stops h = absurd (stop_not_done Done stops refl)
stop_complete words contents (Words fault) stops h = refusal_complete words contents (Words fault) h
stop_complete words contents (Assembly refusal) stops h = refusal_complete words contents (Assembly refusal) h
stop_complete words contents (Table refusal) stops h = refusal_complete words contents (Table refusal) h
stop_complete words contents (Machine refusal) stops h = refusal_complete words contents (Machine refusal) h
stop_complete words contents (Limit kind n) stops h = refusal_complete words contents (Limit kind n) h
stop_complete words contents ReadFault stops h = failure_complete words contents ReadFault (inl refl)
stop_complete words contents WriteFault stops h = absurd (stop_not_write WriteFault stops refl)
stop_complete words contents Memory stops h = failure_complete words contents Memory (inr (inr refl))

-- and so is what telling it leaves
pub tell_complete : (words : List (List ℕ)) (contents : Contents) (err : Change) (status result : Status) → is_stop status ≡ true → IfRefused (IsRefusal words contents) status → LineWritten err status result → IsComplete words contents result
tell_complete words contents err status result stops h (inl w) = subst (IsComplete words contents) (sym w.0) (stop_complete words contents status stops h)
tell_complete words contents err status result stops h (inr (inl w)) = subst (IsComplete words contents) (sym w.0) (failure_complete words contents Memory (inr (inr refl)))
tell_complete words contents err status result stops h (inr (inr w)) = subst (IsComplete words contents) (sym w.0) (failure_complete words contents WriteFault (inr (inl refl)))

pub tell_refused : (P : Status → Type 0) (err : Change) (status result : Status) → IfRefused P status → LineWritten err status result → IfRefused P result
tell_refused P err status result h (inl w) = subst (IfRefused P) (sym w.0) h
tell_refused P err status result h (inr (inl w)) = subst (IfRefused P) (sym w.0) tt
tell_refused P err status result h (inr (inr w)) = subst (IfRefused P) (sym w.0) tt

pub tell_plain : (err : Change) (status result : Status) → is_stop status ≡ true → LineWritten err status result → HoldsNoMemory result
tell_plain err status result stops (inl w) = subst HoldsNoMemory (sym w.0) (stop_plain status stops)
tell_plain err status result stops (inr (inl w)) = subst HoldsNoMemory (sym w.0) tt
tell_plain err status result stops (inr (inr w)) = subst HoldsNoMemory (sym w.0) tt

-- a status that is neither want of memory nor a write fault is that whose line was written
tell_same : (err : Change) (status result s : Status) → LineWritten err status result → result ≡ s → (s ≡ Memory → ⊥) → (s ≡ WriteFault → ⊥) → status ≡ s
tell_same err status result s (inl w) e not_memory not_write = sym w.0 ∙ e
tell_same err status result s (inr (inl w)) e not_memory not_write = absurd (not_memory (sym e ∙ w.0))
tell_same err status result s (inr (inr w)) e not_memory not_write = absurd (not_write (sym e ∙ w.0))

words_not_memory : (fault : WordFault) → Words fault ≡ Memory → ⊥
words_not_memory fault e = cc

words_not_write : (fault : WordFault) → Words fault ≡ WriteFault → ⊥
words_not_write fault e = cc

pub tell_words : (err : Change) (status result : Status) (fault : WordFault) → LineWritten err status result → result ≡ Words fault → status ≡ Words fault
tell_words err status result fault w e = tell_same err status result (Words fault) w e (words_not_memory fault) (words_not_write fault)

read_not_memory : ReadFault ≡ Memory → ⊥
read_not_memory e = cc

read_not_write : ReadFault ≡ WriteFault → ⊥
read_not_write e = cc

pub tell_read : (err : Change) (status result : Status) → LineWritten err status result → result ≡ ReadFault → status ≡ ReadFault
tell_read err status result w e = tell_same err status result ReadFault w e read_not_memory read_not_write

done_not_memory : Done ≡ Memory → ⊥
done_not_memory e = cc

done_not_write : Done ≡ WriteFault → ⊥
done_not_write e = cc

-- nothing that stops the work ends as Done
pub tell_not_done : (err : Change) (status result : Status) → is_stop status ≡ true → LineWritten err status result → result ≡ Done → ⊥
tell_not_done err status result stops w e = stop_not_done status stops (tell_same err status result Done w e done_not_memory done_not_write)

-- words that are refused first stay so, but for a failed write and want of memory
pub tell_first : (err : Change) (status result : Status) (fault : WordFault) → LineWritten err status result → (status ≡ Words fault) ⊎ (status ≡ Memory) → (result ≡ Words fault) ⊎ ((result ≡ WriteFault) ⊎ (result ≡ Memory))
tell_first err status result fault (inl w) (inl e) = inl (w.0 ∙ e)
tell_first err status result fault (inl w) (inr e) = inr (inr (w.0 ∙ e))
tell_first err status result fault (inr (inl w)) h = inr (inr w.0)
tell_first err status result fault (inr (inr w)) h = inr (inl w.0)

-- a write fault was counted
pub tell_rose : (err : Change) (status result : Status) → is_stop status ≡ true → LineWritten err status result → result ≡ WriteFault → Rose err.0.faults err.1.faults
tell_rose err status result stops (inl w) e = absurd (stop_not_write status stops (sym w.0 ∙ e))
tell_rose err status result stops (inr (inl w)) e = absurd (memory_not_write (sym w.0 ∙ e))
tell_rose err status result stops (inr (inr w)) e = w.1.2.rose

told_line : (out err : Change) (s : Status) → IsKept out → Gets err (line_of s) → TellsLine out err s
told_line out err Done kept gets = tt
told_line out err (Words fault) kept gets = record { kept = kept; line = gets }
told_line out err (Assembly refusal) kept gets = record { kept = kept; line = gets }
told_line out err (Table refusal) kept gets = record { kept = kept; line = gets }
told_line out err (Machine refusal) kept gets = record { kept = kept; line = gets }
told_line out err (Limit kind n) kept gets = record { kept = kept; line = gets }
told_line out err ReadFault kept gets = record { kept = kept; line = gets }
told_line out err WriteFault kept gets = tt
told_line out err Memory kept gets = record { kept = kept; line = gets }

-- the line was written, and nothing of a report
pub tell_line : (out err : Change) (status result : Status) → IsKept out → LineWritten err status result → TellsLine out err result
tell_line out err status result kept (inl w) = subst (TellsLine out err) (sym w.0) (told_line out err status kept w.1)
tell_line out err status result kept (inr (inl w)) = subst (TellsLine out err) (sym w.0) (told_line out err Memory kept w.1)
tell_line out err status result kept (inr (inr w)) = subst (TellsLine out err) (sym w.0) tt

-- a front of the line of a status that may be told
pub tell_failed : (May : Status → Type 0) (out err : Change) (status result : Status) → is_stop status ≡ true → May status → May Memory → IsKept out → LineWritten err status result
    → result ≡ WriteFault → LineFailed May out err
tell_failed May out err status result stops may memory kept (inl w) e = absurd (stop_not_write status stops (sym w.0 ∙ e))
tell_failed May out err status result stops may memory kept (inr (inl w)) e = absurd (memory_not_write (sym w.0 ∙ e))
tell_failed May out err status result stops may memory kept (inr (inr w)) e = record {
  status = w.1.0;
  may = elim w.1.1 [ inl same ↦ subst May (sym same) may | inr none ↦ subst May (sym none) memory ];
  front = w.1.2;
  kept = kept;
}

-- A status that stops the work may be told

may_by : (words : List (List ℕ)) (before after : List ℕ → ℕ) (s : Status) → is_stop s ≡ true → HoldsNoMemory s → ((fault : WordFault) → s ≡ Words fault → IsWordFault words fault) → (s ≡ ReadFault → NamedFault words before after)
    → MayTell words before after s
may_by words before after Done stops plain of_words fault_rose = stop_not_done Done stops refl
may_by words before after (Words fault) stops plain of_words fault_rose = of_words fault refl
may_by words before after (Assembly refusal) stops plain of_words fault_rose = plain
may_by words before after (Table refusal) stops plain of_words fault_rose = plain
may_by words before after (Machine refusal) stops plain of_words fault_rose = plain
may_by words before after (Limit kind n) stops plain of_words fault_rose = plain
may_by words before after ReadFault stops plain of_words fault_rose = fault_rose refl
may_by words before after WriteFault stops plain of_words fault_rose = stop_not_write WriteFault stops refl
may_by words before after Memory stops plain of_words fault_rose = plain

pub stop_may : (words : List (List ℕ)) (told : List ℕ → Told) (before after : List ℕ → ℕ) (s : Status) → is_stop s ≡ true → IsStopped words told before after s → MayTell words before after s
stop_may words told before after s stops h = may_by words before after s stops (stop_plain s stops) h.of_words h.fault

may_of : (words : List (List ℕ)) (contents : Contents) (before after : List ℕ → ℕ) (s : Status) → is_stop s ≡ true → IfRefused (IsRefusal words contents) s → (s ≡ ReadFault → NamedInOrder words contents before after)
    → MayTellOf words contents before after s
may_of words contents before after Done stops refused fault_rose = stop_not_done Done stops refl
may_of words contents before after (Words fault) stops refused fault_rose = refused
may_of words contents before after (Assembly refusal) stops refused fault_rose = refused
may_of words contents before after (Table refusal) stops refused fault_rose = refused
may_of words contents before after (Machine refusal) stops refused fault_rose = refused
may_of words contents before after (Limit kind n) stops refused fault_rose = refused
may_of words contents before after ReadFault stops refused fault_rose = fault_rose refl
may_of words contents before after WriteFault stops refused fault_rose = stop_not_write WriteFault stops refl
may_of words contents before after Memory stops refused fault_rose = tt

pub stop_may_of : (words : List (List ℕ)) (told : List ℕ → Told) (before after : List ℕ → ℕ) (s : Status) → is_stop s ≡ true → IsStopped words told before after s → WhereTold words told (λ files. MayTellOf words files before after s)
stop_may_of words told before after s stops h = λ files tells. may_of words files before after s stops (h.refused files tells) (h.in_order files tells)

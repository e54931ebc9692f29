-- The statuses of what the crates below refuse.
use Rattle.std.proofs.Common.{◌≡◌, ◌⊎◌, inl, inr, ℕ, List, Err, true, ap, refl}
use Rattle.mca_words.specs.Answer.{answer_of}
use Rattle.mca_words.specs.declared.fault.WordFault.{WordFault}
use Rattle.mca_words.specs.declared.fault.WordKind.{WordKind}
use Rattle.mca_words.specs.declared.fault.WordKind.TheVariants as word
use Rattle.region_marks.specs.Regions.{regions_of, MayRefuse}
use Rattle.rv_asm.specs.Program.{IsFault, IsProgram}
use Rattle.rv_asm.specs.declared.item.Item.{Item}
use Rattle.rv_asm.specs.declared.fault.AsmKind.{AsmKind}
use Rattle.rv_asm.specs.declared.fault.AsmKind.TheVariants as asm
use Rattle.rv_asm.specs.declared.fault.AsmRefusal.{AsmRefusal}
use Rattle.sched_checks.specs.declared.illness.IllKind.{IllKind}
use Rattle.sched_checks.specs.declared.illness.IllKind.TheVariants as ill
use Rattle.sched_records.specs.Gives.{UnlessMemory}
use Rattle.sched_records.specs.Table.{HasFault}
use Rattle.sched_records.specs.declared.refusal.TableKind.{TableKind}
use Rattle.sched_records.specs.declared.refusal.TableKind.TheVariants as table
use Rattle.sched_records.specs.declared.refusal.TableRefusal.{TableRefusal}
use Rattle.mca_run.specs.Refusal.{IsTextFault, own, of_marks}
use Rattle.mca_run.specs.Steps.{words_status, assembly_status, table_status, MayRefuseWords, MayRefuseText, MayRefuseRecordsOf}
use Rattle.mca_run.specs.Stop.{is_of_words, is_of_assembly, is_of_table, is_of_record}

pub is_words : (k : WordKind) → (k ≡ word.Memory → ⊥) → is_of_words k ≡ true
is_words word.Memory h = absurd (h refl)
is_words _ h = refl

pub is_assembly : (k : AsmKind) → (k ≡ asm.Memory → ⊥) → is_of_assembly k ≡ true
is_assembly asm.Memory h = absurd (h refl)
is_assembly _ h = refl

pub is_table : (k : TableKind) → (k ≡ table.Memory → ⊥) → is_of_table k ≡ true
is_table table.Memory h = absurd (h refl)
is_table _ h = refl

pub is_record : (k : IllKind) → (k ≡ ill.Memory → ⊥) → is_of_record k ≡ true
is_record ill.Memory h = absurd (h refl)
is_record _ h = refl

pub words_may : (words : List (List ℕ)) (f : WordFault) (k : WordKind) → ((k ≡ word.Memory → ⊥) → answer_of words ≡ Err f) → MayRefuseWords words (words_status f k)
words_may words f word.Memory h = tt
words_may words f word.UnknownOption h = h (λ e. (let bad : word.UnknownOption ≡ word.Memory = e in cc))
words_may words f word.Repeated h = h (λ e. (let bad : word.Repeated ≡ word.Memory = e in cc))
words_may words f word.MissingValue h = h (λ e. (let bad : word.MissingValue ≡ word.Memory = e in cc))
words_may words f word.BadNumber h = h (λ e. (let bad : word.BadNumber ≡ word.Memory = e in cc))
words_may words f word.OutOfRange h = h (λ e. (let bad : word.OutOfRange ≡ word.Memory = e in cc))
words_may words f word.UnknownMachine h = h (λ e. (let bad : word.UnknownMachine ≡ word.Memory = e in cc))
words_may words f word.TwoMachines h = h (λ e. (let bad : word.TwoMachines ≡ word.Memory = e in cc))
words_may words f word.NotTogether h = h (λ e. (let bad : word.NotTogether ≡ word.Memory = e in cc))
words_may words f word.TooManyInputs h = h (λ e. (let bad : word.TooManyInputs ≡ word.Memory = e in cc))
words_may words f word.NoInput h = h (λ e. (let bad : word.NoInput ≡ word.Memory = e in cc))
words_may words f word.NoMachine h = h (λ e. (let bad : word.NoMachine ≡ word.Memory = e in cc))

pub fault_may : (text : List ℕ) (r : AsmRefusal) (k : AsmKind) → (k ≡ asm.Memory) ⊎ IsTextFault text r → MayRefuseText text (assembly_status r k)
fault_may text r asm.Memory h = tt
fault_may text r asm.LongLine (inl e) = absurd (let bad : asm.LongLine ≡ asm.Memory = e in cc)
fault_may text r asm.LongLine (inr h) = h
fault_may text r asm.BadByte (inl e) = absurd (let bad : asm.BadByte ≡ asm.Memory = e in cc)
fault_may text r asm.BadByte (inr h) = h
fault_may text r asm.OpenComment (inl e) = absurd (let bad : asm.OpenComment ≡ asm.Memory = e in cc)
fault_may text r asm.OpenComment (inr h) = h
fault_may text r asm.RefusedDirective (inl e) = absurd (let bad : asm.RefusedDirective ≡ asm.Memory = e in cc)
fault_may text r asm.RefusedDirective (inr h) = h
fault_may text r asm.Compressed (inl e) = absurd (let bad : asm.Compressed ≡ asm.Memory = e in cc)
fault_may text r asm.Compressed (inr h) = h
fault_may text r asm.UnknownMnemonic (inl e) = absurd (let bad : asm.UnknownMnemonic ≡ asm.Memory = e in cc)
fault_may text r asm.UnknownMnemonic (inr h) = h
fault_may text r asm.OperandCount (inl e) = absurd (let bad : asm.OperandCount ≡ asm.Memory = e in cc)
fault_may text r asm.OperandCount (inr h) = h
fault_may text r asm.BadOperand (inl e) = absurd (let bad : asm.BadOperand ≡ asm.Memory = e in cc)
fault_may text r asm.BadOperand (inr h) = h
fault_may text r asm.ImmediateRange (inl e) = absurd (let bad : asm.ImmediateRange ≡ asm.Memory = e in cc)
fault_may text r asm.ImmediateRange (inr h) = h
fault_may text r asm.BeginInside (inl e) = absurd (let bad : asm.BeginInside ≡ asm.Memory = e in cc)
fault_may text r asm.BeginInside (inr h) = h
fault_may text r asm.TooManyRegions (inl e) = absurd (let bad : asm.TooManyRegions ≡ asm.Memory = e in cc)
fault_may text r asm.TooManyRegions (inr h) = h
fault_may text r asm.EndWithoutBegin (inl e) = absurd (let bad : asm.EndWithoutBegin ≡ asm.Memory = e in cc)
fault_may text r asm.EndWithoutBegin (inr h) = h
fault_may text r asm.WrongName (inl e) = absurd (let bad : asm.WrongName ≡ asm.Memory = e in cc)
fault_may text r asm.WrongName (inr h) = h
fault_may text r asm.NoInstruction (inl e) = absurd (let bad : asm.NoInstruction ≡ asm.Memory = e in cc)
fault_may text r asm.NoInstruction (inr h) = h
fault_may text r asm.RegionTooLong (inl e) = absurd (let bad : asm.RegionTooLong ≡ asm.Memory = e in cc)
fault_may text r asm.RegionTooLong (inr h) = h
fault_may text r asm.NeverEnded (inl e) = absurd (let bad : asm.NeverEnded ≡ asm.Memory = e in cc)
fault_may text r asm.NeverEnded (inr h) = h

pub text_may : (text : List ℕ) (r : AsmRefusal) → (r.kind ≡ asm.Memory) ⊎ IsFault text r → MayRefuseText text (assembly_status r r.kind)
text_may text r (inl memory) = fault_may text r r.kind (inl memory)
text_may text r (inr fault) = fault_may text r r.kind (inr (own fault))

pub marks_may : (text : List ℕ) (items : List Item) (names : List (List ℕ)) (r : AsmRefusal) → IsProgram text items names → MayRefuse (regions_of items) r → MayRefuseText text (assembly_status r r.kind)
marks_may text items names r program (inl memory) = fault_may text r r.kind (inl (ap (λ x. x.kind) memory))
marks_may text items names r program (inr fault) = fault_may text r r.kind (inr (of_marks items names program fault))

pub records_may : (text : List ℕ) (f : TableRefusal) (k : TableKind) → UnlessMemory k (HasFault text f) → MayRefuseRecordsOf text (table_status f k)
records_may text f table.Memory h = tt
records_may text f _ h = h

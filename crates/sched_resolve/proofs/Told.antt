-- Every place that an entry tells is in range.
use Rattle.std.proofs.Common.{◌≡◌, ℕ, suc, ◌+◌, ◌<◌, List, [], ◌∷◌, ◌++◌, length, map, filter, position, nat_eq, Some, None, Bool, true, false, cond, refl, ap, sym, subst, ◌∙◌, arith, is_some, Contains, if◌then◌else◌}
use Rattle.std.specs.Prelude.{drop}
use Rattle.std.specs.Cmp.Lexicographic.{pointwise}
use Rattle.std.specs.List.{filter_map, cons_option, All, AllByRecursion, slice_index_or}
use Rattle.std.specs.Option.{option_or, option_to_list}
use Rattle.std.specs.declared.option.Option.{Option}
use Rattle.std.proofs.lemmas.List.{length-append, length-map}
use Rattle.std.proofs.lemmas.List.Elements.{All-append, All-cons, All-nil, All-map, All-contains, All-from_recursion, filter-append}
use Rattle.std.proofs.lemmas.List.Quantifiers.{position-Some}
use Rattle.rv_isa.specs.Opcodes.{facts_of, opcodes}
use Rattle.sched_records.specs.Classes.{class_of}
use Rattle.sched_records.specs.declared.class.Class.{Class}
use Rattle.sched_records.specs.declared.class.Class.TheVariants as class
use Rattle.sched_records.specs.declared.records.Record.{Record}
use Rattle.sched_resolve.specs.Reading.{argument, word_in, words_in}
use Rattle.sched_resolve.specs.Names.{is_resource, is_write, is_advance, counts_in, name_in, names_in, place_of, write_named}
use Rattle.sched_resolve.specs.Noted.{advance_class}
use Rattle.sched_resolve.specs.Entries.{resources_named, all_writes_of, number_or_own, resource_entry, write_entry, advance_entry, queue_entry, rewrite_entry, first_name, entry_by, entry_of, entries_from, entries_of, defaults_of, all_defaults}
use Rattle.sched_resolve.specs.InRange.{AreInRange, resource_in, write_in, advance_in, resources_of, writes_of, advances_of}
use Rattle.sched_resolve.specs.declared.entry.Entry.{Entry}
use Rattle.sched_resolve.specs.declared.entry.Entry.TheVariants as entry
use Rattle.sched_resolve.specs.declared.entry.Makeup.TheVariants as makeup
use Rattle.sched_resolve.specs.declared.entry.Defaults.{Defaults}
use Rattle.sched_resolve.specs.declared.name_space.NameSpace.{NameSpace}
use Rattle.sched_resolve.specs.declared.name_space.NameSpace.TheVariants as space

-- ---- a place stands in its name space

-- how many records have a place there
abbrev count_in : NameSpace → List Record → ℕ
count_in s rs = length (filter (counts_in s) rs)

place_within : (s : NameSpace) (rs : List Record) (name : List ℕ) (p : ℕ) → place_of s rs name ≡ Some p → p < count_in s rs
unfolding place_of names_in
place_within s rs name p at = subst (λ n. p < n) (length-map (filter (counts_in s) rs) (name_in s)) (by_test (nat_eq (length name) 0) at)
  where
    by_test : (b : Bool) → (if b then None else position (pointwise nat_eq name) (map (name_in s) (filter (counts_in s) rs))) ≡ Some p → p < length (map (name_in s) (filter (counts_in s) rs))
    by_test true e = absurd (cc)
    by_test false e = (position-Some (pointwise nat_eq name) (map (name_in s) (filter (counts_in s) rs)) p [] e).0

write_within : (rs : List Record) (name : List ℕ) (p : ℕ) → write_named rs name ≡ Some p → p < count_in space.OwnWrite rs
write_within rs name p at = by_own (place_of space.OwnWrite rs name) refl at
  where
    by_own : (o : Option ℕ) → place_of space.OwnWrite rs name ≡ o → option_or o (place_of space.WrittenClass rs name) ≡ Some p → p < count_in space.OwnWrite rs
    by_own None e h = place_within space.WrittenClass rs name p h
    by_own (Some q) e h = place_within space.OwnWrite rs name p (e ∙ h)

all_of : {X : Type 0} (P : X → Type 0) (xs : List X) → ((x : X) → P x) → All P xs
all_of P xs h = λ k d lt. h (slice_index_or xs k d)

-- ---- what one entry tells

-- with so many resources, writes and advances
abbrev IsTold : ℕ → ℕ → ℕ → Entry → Type 0
IsTold nr nw na (entry.Model m) = Unit {0}
IsTold nr nw na (entry.Resource r) = (names : List (Option ℕ)) → r.makeup ≡ makeup.Group names → (p : ℕ) → Contains names (Some p) → p < nr
IsTold nr nw na (entry.Write w) = (p : ℕ) → Contains w.uses (Some p) → p < nr
IsTold nr nw na (entry.Advance a) = (a.read < na) × ((p : ℕ) → Contains a.writes p → p < nw)
IsTold nr nw na (entry.File f) = Unit {0}
IsTold nr nw na (entry.Retirement r) = Unit {0}
IsTold nr nw na (entry.LoadQueue q) = (p : ℕ) → q.resource ≡ Some p → p < nr
IsTold nr nw na (entry.StoreQueue q) = (p : ℕ) → q.resource ≡ Some p → p < nr
IsTold nr nw na (entry.Rewrite r) = ((p : ℕ) → r.write ≡ Some p → p < nw) × ((p : ℕ) → r.rs1 ≡ Some p → p < na) × ((p : ℕ) → r.rs2 ≡ Some p → p < na)
IsTold nr nw na entry.Nothing = Unit {0}

module _ (rs : List Record) where
  used_within : (names : List (List ℕ)) (p : ℕ) → Contains (map (place_of space.Resource rs) names) (Some p) → p < count_in space.Resource rs
  used_within names p has =
      let P : Option ℕ → Type 0 = λ o. (q : ℕ) → o ≡ Some q → q < count_in space.Resource rs in
      All-contains P (map (place_of space.Resource rs) names) (Some p) (All-map P (place_of space.Resource rs) names (all_of (λ n. P (place_of space.Resource rs n)) names (place_within space.Resource rs))) has p refl

  one_within : (o : Option ℕ) → ((p : ℕ) → o ≡ Some p → p < count_in space.OwnWrite rs) → All (λ p. p < count_in space.OwnWrite rs) (option_to_list o)
  one_within None h = All-nil (λ p. p < count_in space.OwnWrite rs)
  one_within (Some q) h = All-cons (λ p. p < count_in space.OwnWrite rs) q [] (h q refl) (All-nil (λ p. p < count_in space.OwnWrite rs))

  writes_within : (names : List (List ℕ)) → All (λ p. p < count_in space.OwnWrite rs) (all_writes_of rs names)
  writes_within [] = All-nil (λ p. p < count_in space.OwnWrite rs)
  writes_within (name ∷ names) =
      let P : ℕ → Type 0 = λ p. p < count_in space.OwnWrite rs in
      let own : Option ℕ = place_of space.OwnWrite rs name in
      let written : Option ℕ = place_of space.WrittenClass rs name in
      All-append P (option_to_list own ++ option_to_list written) (all_writes_of rs names)
      (All-append P (option_to_list own) (option_to_list written)
      (one_within own (place_within space.OwnWrite rs name))
      (one_within written (place_within space.WrittenClass rs name)))
      (writes_within names)

  abbrev Told : Entry → Type 0
  Told = IsTold (count_in space.Resource rs) (count_in space.OwnWrite rs) (count_in space.Read rs)

  advance_told : (earlier : List Record) (r : Record) → length (filter advance_class earlier) < count_in space.Read rs → Told (entry.Advance (advance_entry rs earlier r))
  unfolding advance_entry
  advance_told earlier r own = (
    by_read (place_of space.Read rs (word_in (argument r 0))) refl,
    λ p has. All-contains (λ q. q < count_in space.OwnWrite rs) (all_writes_of rs (words_in (argument r 2))) p (writes_within (words_in (argument r 2))) has,
  )
    where
      by_read : (o : Option ℕ) → place_of space.Read rs (word_in (argument r 0)) ≡ o → number_or_own (length (filter advance_class earlier)) o < count_in space.Read rs
      by_read None e = own
      by_read (Some p) e = place_within space.Read rs (word_in (argument r 0)) p e

  group_told : (r : Record) (names : List (Option ℕ)) → makeup.Group (resources_named rs (argument r 0)) ≡ makeup.Group names → (p : ℕ) → Contains names (Some p) → p < count_in space.Resource rs
  group_told r names e p has =
      let same : resources_named rs (argument r 0) ≡ names = cc in
      used_within (words_in (argument r 0)) p (subst (λ xs. Contains xs (Some p)) (sym same) has)

  entry_told : (earlier : List Record) (r : Record) (c : Option Class) → (is_advance c ≡ true → length (filter advance_class earlier) < count_in space.Read rs) → Told (entry_by rs earlier r c)
  unfolding resource_entry write_entry advance_entry queue_entry rewrite_entry
  entry_told earlier r (Some class.SchedMachineModel) own = tt
  entry_told earlier r (Some class.ProcResource) own = λ names e p has. absurd (cc)
  entry_told earlier r (Some class.ProcResGroup) own = group_told r
  entry_told earlier r (Some class.WriteRes) own = used_within (words_in (argument r 1))
  entry_told earlier r (Some class.SchedWriteRes) own = used_within (words_in (argument r 0))
  entry_told earlier r (Some class.ReadAdvance) own = advance_told earlier r (own refl)
  entry_told earlier r (Some class.RegisterFile) own = tt
  entry_told earlier r (Some class.RetireControlUnit) own = tt
  entry_told earlier r (Some class.LoadQueue) own = place_within space.Resource rs (word_in (argument r 0))
  entry_told earlier r (Some class.StoreQueue) own = place_within space.Resource rs (word_in (argument r 0))
  entry_told earlier r (Some class.InstRW) own = (
    write_within rs (first_name (words_in (argument r 0))),
    place_within space.Read rs (first_name (drop 1 (words_in (argument r 0)))),
    place_within space.Read rs (first_name (drop 2 (words_in (argument r 0)))),
  )
  entry_told earlier r (Some class.SchedWrite) own = tt
  entry_told earlier r (Some class.SchedRead) own = tt
  entry_told earlier r None own = tt

  entries_told : (earlier rest : List Record) → length (filter advance_class earlier) + length (filter advance_class rest) ≡ count_in space.Read rs → AllByRecursion Told (entries_from rs earlier rest)
  entries_told earlier [] counts = tt
  entries_told earlier (r ∷ rest) counts =
      (entry_told earlier r (class_of r.class) (λ e. before e), entries_told (earlier ++ r ∷ []) rest (after (advance_class r) refl))
    where
      before : advance_class r ≡ true → length (filter advance_class earlier) < count_in space.Read rs
      before e = let more : length (filter advance_class earlier) + length (r ∷ filter advance_class rest) ≡ count_in space.Read rs = rw e at counts in omega (arith, more)

      after : (b : Bool) → advance_class r ≡ b → length (filter advance_class (earlier ++ r ∷ [])) + length (filter advance_class rest) ≡ count_in space.Read rs
      after true e =
          let more : length (filter advance_class earlier) + length (r ∷ filter advance_class rest) ≡ count_in space.Read rs = rw e at counts in
          rw (filter-append advance_class earlier (r ∷ []), e, length-append (filter advance_class earlier) (r ∷ [])) (omega (arith, more))
      after false e =
          let more : length (filter advance_class earlier) + length (filter advance_class rest) ≡ count_in space.Read rs = rw e at counts in
          rw (filter-append advance_class earlier (r ∷ []), e, length-append (filter advance_class earlier) []) (omega (arith, more))

  told : (e : Entry) → Contains (entries_of rs) e → Told e
  told e has = All-contains Told (entries_of rs) e (All-from_recursion Told (entries_of rs) (entries_told [] rs (omega arith))) has

-- ---- each class of records has its entry

resource_is : (rs earlier : List Record) (r : Record) (c : Option Class) → is_some (resource_in (entry_by rs earlier r c)) ≡ is_resource c
resource_is rs earlier r None = refl
resource_is rs earlier r (Some class.SchedMachineModel) = refl
resource_is rs earlier r (Some class.ProcResource) = refl
resource_is rs earlier r (Some class.ProcResGroup) = refl
resource_is rs earlier r (Some class.WriteRes) = refl
resource_is rs earlier r (Some class.SchedWriteRes) = refl
resource_is rs earlier r (Some class.ReadAdvance) = refl
resource_is rs earlier r (Some class.RegisterFile) = refl
resource_is rs earlier r (Some class.RetireControlUnit) = refl
resource_is rs earlier r (Some class.LoadQueue) = refl
resource_is rs earlier r (Some class.StoreQueue) = refl
resource_is rs earlier r (Some class.InstRW) = refl
resource_is rs earlier r (Some class.SchedWrite) = refl
resource_is rs earlier r (Some class.SchedRead) = refl

write_is : (rs earlier : List Record) (r : Record) (c : Option Class) → is_some (write_in (entry_by rs earlier r c)) ≡ is_write c
write_is rs earlier r None = refl
write_is rs earlier r (Some class.SchedMachineModel) = refl
write_is rs earlier r (Some class.ProcResource) = refl
write_is rs earlier r (Some class.ProcResGroup) = refl
write_is rs earlier r (Some class.WriteRes) = refl
write_is rs earlier r (Some class.SchedWriteRes) = refl
write_is rs earlier r (Some class.ReadAdvance) = refl
write_is rs earlier r (Some class.RegisterFile) = refl
write_is rs earlier r (Some class.RetireControlUnit) = refl
write_is rs earlier r (Some class.LoadQueue) = refl
write_is rs earlier r (Some class.StoreQueue) = refl
write_is rs earlier r (Some class.InstRW) = refl
write_is rs earlier r (Some class.SchedWrite) = refl
write_is rs earlier r (Some class.SchedRead) = refl

advance_is : (rs earlier : List Record) (r : Record) (c : Option Class) → is_some (advance_in (entry_by rs earlier r c)) ≡ is_advance c
advance_is rs earlier r None = refl
advance_is rs earlier r (Some class.SchedMachineModel) = refl
advance_is rs earlier r (Some class.ProcResource) = refl
advance_is rs earlier r (Some class.ProcResGroup) = refl
advance_is rs earlier r (Some class.WriteRes) = refl
advance_is rs earlier r (Some class.SchedWriteRes) = refl
advance_is rs earlier r (Some class.ReadAdvance) = refl
advance_is rs earlier r (Some class.RegisterFile) = refl
advance_is rs earlier r (Some class.RetireControlUnit) = refl
advance_is rs earlier r (Some class.LoadQueue) = refl
advance_is rs earlier r (Some class.StoreQueue) = refl
advance_is rs earlier r (Some class.InstRW) = refl
advance_is rs earlier r (Some class.SchedWrite) = refl
advance_is rs earlier r (Some class.SchedRead) = refl

module _ {X : Type 0} (f : Entry → Option X) where
  counted : (rs : List Record) (t : Option Class → Bool) → ((earlier : List Record) (r : Record) (c : Option Class) → is_some (f (entry_by rs earlier r c)) ≡ t c) →
      (earlier rest : List Record) → length (filter_map f (entries_from rs earlier rest)) ≡ length (filter (λ r. t (class_of r.class)) rest)
  counted rs t h earlier [] = refl
  counted rs t h earlier (r ∷ rest) = by_one (f (entry_of rs earlier r)) (h earlier r (class_of r.class)) (counted rs t h (earlier ++ r ∷ []) rest)
    where
      by_one : (o : Option X) → is_some o ≡ t (class_of r.class) → length (filter_map f (entries_from rs (earlier ++ r ∷ []) rest)) ≡ length (filter (λ r. t (class_of r.class)) rest) →
          length (cons_option o (filter_map f (entries_from rs (earlier ++ r ∷ []) rest)))
          ≡ length (cond (t (class_of r.class)) (r ∷ filter (λ r. t (class_of r.class)) rest) (filter (λ r. t (class_of r.class)) rest))
      by_one None e more = rw (← e) more
      by_one (Some x) e more = rw (← e) (ap suc more)

-- ---- together

default_told : (rs : List Record) (d : Defaults) → Contains (all_defaults rs) d →
    ((p : ℕ) → d.write ≡ Some p → p < count_in space.OwnWrite rs) × ((p : ℕ) → d.rs1 ≡ Some p → p < count_in space.Read rs) × ((p : ℕ) → d.rs2 ≡ Some p → p < count_in space.Read rs)
unfolding defaults_of all_defaults
default_told rs d has =
    let P : Defaults → Type 0 = λ x. ((p : ℕ) → x.write ≡ Some p → p < count_in space.OwnWrite rs) × ((p : ℕ) → x.rs1 ≡ Some p → p < count_in space.Read rs) × ((p : ℕ) → x.rs2 ≡ Some p → p < count_in space.Read rs) in
    All-contains P (all_defaults rs) d (All-map P (defaults_of rs) opcodes (all_of (λ o. P (defaults_of rs o)) opcodes
    (λ o. (place_within space.WrittenClass rs (facts_of o).write, place_within space.Read rs (facts_of o).read1, place_within space.Read rs (facts_of o).read2)))) has

pub in_range : (rs : List Record) → AreInRange (entries_of rs) (all_defaults rs)
unfolding all_defaults
in_range rs =
    let nr : count_in space.Resource rs ≡ length (resources_of (entries_of rs)) = sym (counted resource_in rs is_resource (resource_is rs) [] rs) in
    let nw : count_in space.OwnWrite rs ≡ length (writes_of (entries_of rs)) = sym (counted write_in rs is_write (write_is rs) [] rs) in
    let na : count_in space.Read rs ≡ length (advances_of (entries_of rs)) = sym (counted advance_in rs is_advance (advance_is rs) [] rs) in
    record {
      uses = λ w has p at. subst (λ n. p < n) nr (told rs (entry.Write w) has p at);
      members = λ r has names of p at. subst (λ n. p < n) nr (told rs (entry.Resource r) has names of p at);
      load = λ q has p at. subst (λ n. p < n) nr (told rs (entry.LoadQueue q) has p at);
      store = λ q has p at. subst (λ n. p < n) nr (told rs (entry.StoreQueue q) has p at);
      writes = λ a has p at. subst (λ n. p < n) nw ((told rs (entry.Advance a) has).1 p at);
      write = λ r has p at. subst (λ n. p < n) nw ((told rs (entry.Rewrite r) has).0 p at);
      default_write = λ d has p at. subst (λ n. p < n) nw ((default_told rs d has).0 p at);
      read = λ a has. subst (λ n. a.read < n) na (told rs (entry.Advance a) has).0;
      rs1 = λ r has p at. subst (λ n. p < n) na ((told rs (entry.Rewrite r) has).1 p at);
      rs2 = λ r has p at. subst (λ n. p < n) na ((told rs (entry.Rewrite r) has).2 p at);
      default_rs1 = λ d has p at. subst (λ n. p < n) na ((default_told rs d has).1 p at);
      default_rs2 = λ d has p at. subst (λ n. p < n) na ((default_told rs d has).2 p at);
      opcodes = refl;
    }

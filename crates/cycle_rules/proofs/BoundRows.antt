-- The rows of a body that is bound by a valid machine.
use Rattle.std.proofs.Common.{zero, suc, ◌≡◌, ℕ, ◌+◌, ◌*◌, ◌%◌, ◌<◌, ◌≤◌, List, [], ◌∷◌, ◌++◌, length, map, take, arith, sym, ◌∙◌, ap, subst, refl, Bool, true, false}
use Rattle.std.specs.Prelude.{nat_le, slice_index, slice_index_or, if◌then◌else◌, drop}
use Rattle.std.specs.List.{list_all, prefix_len}
use Rattle.std.proofs.Math.Seq.{take-append_seam}
use Rattle.std.proofs.lemmas.Bool.{and_parts, lt-ltb, le-leb}
use Rattle.std.proofs.lemmas.Bool.Decides.{nat_tests}
use Rattle.std.proofs.lemmas.List.{take-append-drop, length-take-le, length-append, length-map}
use Rattle.std.proofs.lemmas.List.Folds.{list_all-append}
use Rattle.rv_isa.specs.Instruction.{has_rs1, has_rs2}
use Rattle.rv_isa.specs.Opcodes.{facts_of}
use Rattle.rv_isa.specs.declared.facts.Form.{Form}
use Rattle.rv_isa.specs.declared.instr.Instr.{Instr}
use Rattle.machine_model.specs.Meaning.{MachineMeaning}
use Rattle.machine_model.specs.Uses.{units_of, put_use, put_uses, in_use_order}
use Rattle.machine_model.specs.Valid.{IsBinding, IsWrite, IsValidMachine, no_class, no_use}
use Rattle.machine_model.specs.declared.answers.Binding.{Binding}
use Rattle.machine_model.specs.declared.facts.Use.{Use}
use Rattle.machine_model.specs.declared.facts.WriteFacts.{WriteFacts}
use Rattle.machine_model.specs.declared.answers.ClassAnswer.TheVariants.{Class}
use Rattle.cycle_rules.specs.Bind.{uses_of, eight, two, source, sources_in, sources_of, bound_of, row_of, has_class, AreUses, IsBoundBy, IsBoundBody, IsBoundRow, IsBound, AreBound, AreBoundRows}
use Rattle.cycle_rules.specs.Row.{input, no_row}
use Rattle.cycle_rules.specs.declared.bound.Bound.{Bound}
use Rattle.cycle_rules.specs.declared.bound.Source.{Source}

-- the use order has as many uses
length_put : (size : ℕ → ℕ) (met : List Use) (w : Use) → length (put_use size met w) ≡ length met + 1
length_put size met w =
    let place : ℕ = prefix_len (λ v. nat_le (size v.resource) (size w.resource)) met in
    let parts : length (take place met ++ drop place met) ≡ length met = ap length (take-append-drop place met) in
    omega (arith, parts, length-append (take place met) (w ∷ drop place met), length-append (take place met) (drop place met))

length_puts : (size : ℕ → ℕ) (met ws : List Use) → length (put_uses size met ws) ≡ length met + length ws
length_puts size met [] = omega arith
length_puts size met (w ∷ ws) = omega (arith, length_puts size (put_use size met w) ws, length_put size met w)

-- the first of a list with something behind it
take_front : {A : Type 0} (n : ℕ) (xs ys : List A) → length xs ≡ n → take n (xs ++ ys) ≡ xs
take_front n xs ys e = subst (λ k. take k (xs ++ ys) ≡ xs) e (take-append_seam xs ys)

-- what all uses pass as they are written, all pass in use order
all_put : (p : Use → Bool) (size : ℕ → ℕ) (met : List Use) (w : Use) → list_all p met ≡ true → p w ≡ true → list_all p (put_use size met w) ≡ true
all_put p size met w all one =
    let place : ℕ = prefix_len (λ v. nat_le (size v.resource) (size w.resource)) met in
    let parts : (list_all p (take place met) ≡ true) × (list_all p (drop place met) ≡ true)
    = and_parts _ _ (sym (list_all-append p (take place met) (drop place met)) ∙ ap (list_all p) (take-append-drop place met) ∙ all) in
    list_all-append p (take place met) (w ∷ drop place met) ∙ rw (parts.0, one, parts.1) refl

all_puts : (p : Use → Bool) (size : ℕ → ℕ) (met ws : List Use) → list_all p met ≡ true → list_all p ws ≡ true → list_all p (put_uses size met ws) ≡ true
all_puts p size met [] all rest = all
all_puts p size met (w ∷ ws) all rest =
    let parts : (p w ≡ true) × (list_all p ws ≡ true) = and_parts (p w) (list_all p ws) rest in
    all_puts p size (put_use size met w) ws (all_put p size met w all parts.0) parts.1

all_taken : {A : Type 0} (p : A → Bool) (n : ℕ) (xs : List A) (d : A) → n ≤ length xs → ((i : ℕ) → i < n → p (slice_index_or xs i d) ≡ true) → list_all p (take n xs) ≡ true
all_taken p zero xs d le h = refl
all_taken p (suc n) [] d le h = absurd (omega arith)
all_taken p (suc n) (x ∷ xs) d le h = rw (h 0 (omega arith), all_taken p n xs d (omega arith) (λ i lt. h (suc i) (omega arith))) refl

many_uses : (m : MachineMeaning) (f : WriteFacts) → IsWrite m f → length (in_use_order (units_of m) (uses_of f)) ≡ f.use_count
many_uses m f is =
    let enough : f.use_count ≤ length f.uses = omega (arith, is.use_count, is.eight) in
    omega (arith, length_puts (units_of m) [] (uses_of f), length-take-le f.use_count f.uses enough)

-- the uses that count of the eight places are those of the class, in use order
uses_taken : (m : MachineMeaning) (f : WriteFacts) → IsWrite m f → take f.use_count (eight (in_use_order (units_of m) (uses_of f))) ≡ in_use_order (units_of m) (uses_of f)
uses_taken m f is = take_front f.use_count (in_use_order (units_of m) (uses_of f)) _ (many_uses m f is)

uses_row : (m : MachineMeaning) (f : WriteFacts) → IsWrite m f → AreUses m (in_use_order (units_of m) (uses_of f))
uses_row m f is =
    let enough : f.use_count ≤ length f.uses = omega (arith, is.use_count, is.eight) in
    record {
      few = omega (arith, many_uses m f is, is.use_count);
      known = all_puts _ (units_of m) [] (uses_of f) refl (all_taken _ f.use_count f.uses no_use enough (λ i lt. lt-ltb _ _ (is.use_of i lt).resource));
      short = all_puts _ (units_of m) [] (uses_of f) refl (all_taken _ f.use_count f.uses no_use enough (λ i lt. le-leb _ _ (is.use_of i lt).hold));
      met = is.met;
    }

few_sources : (f : Form) (i : Instr) (b : Binding) → length (sources_in f i b) ≤ 2
few_sources f i b = few (has_rs1 f) (has_rs2 f)
  where
    few : (p q : Bool) → length ((if p then source i.rs1 (slice_index b.reads 0) ∷ [] else []) ++ (if q then source i.rs2 (slice_index b.reads 1) ∷ [] else [])) ≤ 2
    few true true = omega arith
    few true false = omega arith
    few false true = omega arith
    few false false = omega arith

class_one : (m : MachineMeaning) (r class : ℕ) → ((class ≡ no_class → ⊥) → class < m.read_count) → has_class m (source r class) ≡ true
class_one m r class h = grind (arith, nat_tests, h)

read_classes : (m : MachineMeaning) (i : Instr) (b : Binding) → IsBinding m b → (f : Form) → list_all (has_class m) (sources_in f i b) ≡ true
read_classes m i b is f =
    list_all-append (has_class m) (if has_rs1 f then source i.rs1 (slice_index b.reads 0) ∷ [] else []) (if has_rs2 f then source i.rs2 (slice_index b.reads 1) ∷ [] else [])
    ∙ rw (one (has_rs1 f) i.rs1 (slice_index b.reads 0) is.rs1, one (has_rs2 f) i.rs2 (slice_index b.reads 1) is.rs2) refl
  where
    one : (has : Bool) (r class : ℕ) → ((class ≡ no_class → ⊥) → class < m.read_count) → list_all (has_class m) (if has then source r class ∷ [] else []) ≡ true
    one true r class h = rw (class_one m r class h) refl
    one false r class h = refl

-- what binding an instruction gives, on a valid machine
instr_is_bound : {numbers size : ℕ} (m : MachineMeaning) (i : Instr) (b : Binding) → IsValidMachine numbers size m → m.class_of i.op ≡ Class b → IsBound m (bound_of m i b)
instr_is_bound m i b valid class =
    let own : IsBinding m b = valid.binding i.op b class in
    let facts : IsWrite m (m.class b.write) = valid.write b.write own.write in
    let uses : _ = uses_taken m (m.class b.write) facts in
    let reads : take (length (sources_of i b)) (two (sources_of i b)) ≡ sources_of i b = take_front (length (sources_of i b)) (sources_of i b) _ refl in
    let few : length (sources_of i b) ≤ 2 = few_sources (facts_of i.op).form i b in
    record {
      use_count = facts.use_count;
      read_count = few;
      row = record {
        write = own.write;
        numbers = record { uops = refl; latency = refl; uses = uses; reserved = refl; begins_group = refl; ends_group = refl };
        uops_low = facts.uops_low;
        uops_high = facts.uops_high;
        latency = facts.latency;
        uses = subst (AreUses m) (sym uses) (uses_row m (m.class b.write) facts);
        reads_few = subst (λ (ss : List Source). length ss ≤ 2) (sym reads) few;
        reads = subst (λ ss. list_all (has_class m) ss ≡ true) (sym reads) (read_classes m i b own (facts_of i.op).form);
      };
    }

pub entry_is_bound : {numbers size : ℕ} (m : MachineMeaning) (b : Bound) → IsValidMachine numbers size m → IsBoundBy m b → IsBound m b
entry_is_bound m b valid is = subst (IsBound m) (sym is.bound) (instr_is_bound m is.instr is.classes valid is.runs)

pub body_is_bound : (numbers size : ℕ) (m : MachineMeaning) (body : List Bound) → IsValidMachine numbers size m → IsBoundBody m body → AreBound m body
body_is_bound numbers size m body valid is k d lt = entry_is_bound m _ valid (is k d lt)

-- the rows of a body, repeated
row_at : (m : MachineMeaning) (body : List Bound) → AreBound m body → (k : ℕ) → k < length body → IsBoundRow m (slice_index_or (map row_of body) k no_row)
row_at m [] are k lt = absurd (omega arith)
row_at m (b ∷ body) are zero lt = (are 0 b (omega arith)).row
row_at m (b ∷ body) are (suc k) lt = row_at m body (λ i d low. are (suc i) d (omega arith)) k (omega arith)

pub input_is_bound : (m : MachineMeaning) (body : List Bound) (iterations : ℕ) → AreBound m body → AreBoundRows (input m (map row_of body) iterations)
input_is_bound m body iterations are j lt =
    let same : length (map row_of body) ≡ length body = length-map body row_of in
    rw same (row_at m body are (j % length body) (low (length body) (rw same at lt)))
  where
    low : (n : ℕ) → j < iterations * n → j % n < n
    low zero h = absurd (omega arith)
    low (suc n) h = omega arith

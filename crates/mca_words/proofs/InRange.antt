-- The numbers that options hold are those of their ranges.
use Rattle.std.proofs.Common.{◌≡◌, ℕ, ◌+◌, ◌≤◌, List, [], ◌∷◌, ◌++◌, length, Bool, true, false, cond, not, nat_eq, nat_lt, Some, None, Ok, Err, refl, sym, subst, arith}
use Rattle.std.specs.Prelude.{codes}
use Rattle.std.specs.Cmp.Lexicographic.{pointwise, same_text}
use Rattle.std.specs.List.{list_any}
use Rattle.std.specs.declared.option.Option.{Option}
use Rattle.std.specs.declared.result.Result.{Result}
use Rattle.std.proofs.lemmas.Bool.Decides.{nat_tests}
use Rattle.mca_words.specs.Answer.{answer_from, answer_of, end_answer, end_fault, then_on}
use Rattle.mca_words.specs.InRange.{AreInRange}
use Rattle.mca_words.specs.Options.{setting_of, number_or, number_or_none, options_of}
use Rattle.mca_words.specs.Pieces.{Piece, pieces_of, is_option, name_of, given_value}
use Rattle.mca_words.specs.Settings.{is_input, stands, has_other_machine, is_beside_load, named, option_set, input_set, set_by}
use Rattle.mca_words.specs.Table.{form_of}
use Rattle.mca_words.specs.Values.{is_machine, is_number, number_of, truth_of, machine_value, number_value, truth_value, value_of_text, value_of}
use Rattle.mca_words.specs.declared.fault.WordFault.{WordFault}
use Rattle.mca_words.specs.declared.fault.WordKind.{WordKind}
use Rattle.mca_words.specs.declared.fault.WordKind.TheVariants.{BadNumber, OutOfRange, UnknownMachine, Repeated, TwoMachines, NotTogether, TooManyInputs}
use Rattle.mca_words.specs.declared.options.Options.{Options}
use Rattle.mca_words.specs.declared.settings.Setting.{Setting}
use Rattle.mca_words.specs.declared.settings.Setting.TheVariants.{Input, Named}
use Rattle.mca_words.specs.declared.table.ValueForm.{ValueForm}
use Rattle.mca_words.specs.declared.table.ValueForm.TheVariants.{FileName, MachineName, NumberUpTo, OptionalNumber, TruthValue}
use Rattle.mca_words.specs.declared.value.Value.{Value}
use Rattle.mca_words.specs.declared.value.Value.TheVariants.{Text, Number, Truth}

-- the greatest number of a form
abbrev most_of : Option ValueForm → ℕ
most_of (Some (NumberUpTo most default)) = most
most_of (Some (OptionalNumber most)) = most
most_of _ = 0

-- the value is no number above this one
abbrev IsAtMost : ℕ → Value → Type 0
IsAtMost most value = number_or 0 (Some value) ≤ most

-- no option's number among the settings is above its greatest
abbrev AreWithin : (List ℕ → ℕ) → List Setting → Type 0
AreWithin most settings = (name : List ℕ) → number_or 0 (setting_of settings name) ≤ most name

text_within : (most : ℕ) (text : List ℕ) (value : Value) → ◌≡◌ {A = Result Value WordKind} (Ok (Text text)) (Ok value) → IsAtMost most value
text_within most text value e =
    let same : Text text ≡ value = cc in
    subst (IsAtMost most) same (omega arith)

machine_within : (most : ℕ) (text : List ℕ) (value : Value) → machine_value text ≡ Ok value → IsAtMost most value
machine_within most text value e = go (is_machine text) e
  where
    go : (b : Bool) → ◌≡◌ {A = Result Value WordKind} (cond b (Ok (Text text)) (Err UnknownMachine)) (Ok value) → IsAtMost most value
    go true is = text_within most text value is
    go false is = absurd cc

number_within : (most : ℕ) (text : List ℕ) (value : Value) → number_value most text ≡ Ok value → IsAtMost most value
number_within most text value e = go (is_number text) (nat_lt most (number_of text)) refl e
  where
    go : (digits above : Bool) → nat_lt most (number_of text) ≡ above → ◌≡◌ {A = Result Value WordKind} (cond (not digits) (Err BadNumber) (cond above (Err OutOfRange) (Ok (Number (number_of text))))) (Ok value) → IsAtMost most value
    go false above test is = absurd cc
    go true true test is = absurd cc
    go true false test is =
        let same : Number (number_of text) ≡ value = cc in
        let low : number_of text ≤ most = grind (arith, nat_tests) in
        subst (IsAtMost most) same low

truth_within : (most : ℕ) (truth : Option Bool) (value : Value) → truth_value truth ≡ Ok value → IsAtMost most value
truth_within most None value e = absurd cc
truth_within most (Some truth) value e =
    let same : Truth truth ≡ value = cc in
    subst (IsAtMost most) same (omega arith)

-- the value of a form is no number above the form's greatest
from_text_within : (form : ValueForm) (text : List ℕ) (value : Value) → value_of_text form text ≡ Ok value → IsAtMost (most_of (Some form)) value
from_text_within FileName text value e = text_within 0 text value e
from_text_within MachineName text value e = machine_within 0 text value e
from_text_within (NumberUpTo most default) text value e = number_within most text value e
from_text_within (OptionalNumber most) text value e = number_within most text value e
from_text_within (TruthValue default) text value e = truth_within 0 (truth_of text) value e

value_within : (form : ValueForm) (text : Option (List ℕ)) (value : Value) → value_of form text ≡ Ok value → IsAtMost (most_of (Some form)) value
value_within (TruthValue default) None value e = truth_within 0 (Some true) value e
value_within (TruthValue default) (Some text) value e = truth_within 0 (truth_of text) value e
value_within form None value e = absurd cc
value_within form (Some []) value e = absurd cc
value_within form (Some (byte ∷ bytes)) value e = from_text_within form (byte ∷ bytes) value e

-- one option that was set
one_within : (most : List ℕ → ℕ) (name : List ℕ) (value : Value) → IsAtMost (most name) value → AreWithin most (Named name value ∷ [])
one_within most name value within other = go (pointwise nat_eq name other) refl
  where
    go : (b : Bool) → pointwise nat_eq name other ≡ b → number_or 0 (cond b (Some value) None) ≤ most other
    go true e = subst (λ n. IsAtMost (most n) value) (same_text name other (sym e)) within
    go false e = omega arith

named_within : (most : List ℕ → ℕ) (settings : List Setting) (name : List ℕ) (r : Result Value WordKind) (x : Setting) → ((value : Value) → r ≡ Ok value → IsAtMost (most name) value) → named settings name r ≡ Ok x → AreWithin most (x ∷ [])
named_within most settings name (Err kind) x within e = absurd cc
named_within most settings name (Ok value) x within e = go (has_other_machine settings name) (is_beside_load settings name) e
  where
    go : (b c : Bool) → ◌≡◌ {A = Result Setting WordKind} (cond b (Err TwoMachines) (cond c (Err NotTogether) (Ok (Named name value)))) (Ok x) → AreWithin most (x ∷ [])
    go true c is = absurd cc
    go false true is = absurd cc
    go false false is =
        let same : Named name value ≡ x = cc in
        subst (λ y. AreWithin most (y ∷ [])) same (one_within most name value (within value refl))

option_within : (most : List ℕ → ℕ) (settings : List Setting) (name : List ℕ) (text : Option (List ℕ)) (form : Option ValueForm) (x : Setting) → most name ≡ most_of form → option_set settings name text form ≡ Ok x → AreWithin most (x ∷ [])
option_within most settings name text None x is e = absurd cc
option_within most settings name text (Some form) x is e = go (stands settings name) e
  where
    go : (b : Bool) → ◌≡◌ {A = Result Setting WordKind} (cond b (Err Repeated) (named settings name (value_of form text))) (Ok x) → AreWithin most (x ∷ [])
    go true e = absurd cc
    go false e = named_within most settings name (value_of form text) x (λ value gives. subst (λ m. IsAtMost m value) (sym is) (value_within form text value gives)) e

input_within : (most : List ℕ → ℕ) (settings : List Setting) (text : List ℕ) (x : Setting) → input_set settings text ≡ Ok x → AreWithin most (x ∷ [])
input_within most settings text x e = go (stands settings (codes "load")) (list_any is_input settings) e
  where
    go : (b c : Bool) → ◌≡◌ {A = Result Setting WordKind} (cond b (Err NotTogether) (cond c (Err TooManyInputs) (Ok (Input text)))) (Ok x) → AreWithin most (x ∷ [])
    go true c is = absurd cc
    go false true is = absurd cc
    go false false is =
        let same : Input text ≡ x = cc in
        let none : AreWithin most (Input text ∷ []) = λ name. omega arith in
        subst (λ y. AreWithin most (y ∷ [])) same none

-- the greatest number of an option by the table
greatest : List ℕ → ℕ
greatest name = most_of (form_of name)

greatest_is : (name : List ℕ) → greatest name ≡ most_of (form_of name)
unfolding greatest
greatest_is name = refl

-- what a piece sets
piece_within : (settings : List Setting) (p : Piece) (x : Setting) → set_by settings p ≡ Ok x → AreWithin greatest (x ∷ [])
piece_within settings p x e = go (is_option p.word) e
  where
    go : (b : Bool) → cond b (option_set settings (name_of p.word) (given_value p) (form_of (name_of p.word))) (input_set settings p.word) ≡ Ok x → AreWithin greatest (x ∷ [])
    go true is = option_within greatest settings (name_of p.word) (given_value p) (form_of (name_of p.word)) x (greatest_is (name_of p.word)) is
    go false is = input_within greatest settings p.word x is

-- one more setting
more_within : (settings : List Setting) (x : Setting) (name : List ℕ) (most : ℕ) → number_or 0 (setting_of settings name) ≤ most → number_or 0 (setting_of (x ∷ []) name) ≤ most → number_or 0 (setting_of (settings ++ x ∷ []) name) ≤ most
more_within [] x name most old new = new
more_within (Input text ∷ settings) x name most old new = more_within settings x name most old new
more_within (Named own value ∷ settings) x name most old new = go (pointwise nat_eq own name) (λ rest. more_within settings x name most rest new) old
  where
    go : (b : Bool) → (number_or 0 (setting_of settings name) ≤ most → number_or 0 (setting_of (settings ++ x ∷ []) name) ≤ most) → number_or 0 (cond b (Some value) (setting_of settings name)) ≤ most → number_or 0 (cond b (Some value) (setting_of (settings ++ x ∷ []) name)) ≤ most
    go true on here = here
    go false on here = on here

-- a number or its default
set_within : (most default : ℕ) (o : Option Value) → default ≤ most → number_or 0 o ≤ most → number_or default o ≤ most
set_within most default None low within = low
set_within most default (Some (Text text)) low within = low
set_within most default (Some (Number number)) low within = within
set_within most default (Some (Truth truth)) low within = low

given_within : (most : ℕ) (o : Option Value) → number_or 0 o ≤ most → (seed : ℕ) → number_or_none o ≡ Some seed → seed ≤ most
given_within most (Some (Number number)) within seed e =
    let same : number ≡ seed = cc in
    subst (λ n. n ≤ most) same within
given_within most None within seed e = absurd cc
given_within most (Some (Text text)) within seed e = absurd cc
given_within most (Some (Truth truth)) within seed e = absurd cc

options_within : (settings : List Setting) → AreWithin greatest settings → AreInRange (options_of settings)
unfolding greatest
options_within settings within = record {
  iterations = set_within 1048576 100 (setting_of settings (codes "iterations")) (omega arith) (within (codes "iterations"));
  dispatch = set_within 64 0 (setting_of settings (codes "dispatch")) (omega arith) (within (codes "dispatch"));
  register_file_size = set_within 65536 0 (setting_of settings (codes "register-file-size")) (omega arith) (within (codes "register-file-size"));
  lqueue = set_within 4096 0 (setting_of settings (codes "lqueue")) (omega arith) (within (codes "lqueue"));
  squeue = set_within 4096 0 (setting_of settings (codes "squeue")) (omega arith) (within (codes "squeue"));
  timeline_max_iterations = set_within 1048576 10 (setting_of settings (codes "timeline-max-iterations")) (omega arith) (within (codes "timeline-max-iterations"));
  timeline_max_cycles = set_within 1000000 80 (setting_of settings (codes "timeline-max-cycles")) (omega arith) (within (codes "timeline-max-cycles"));
  load = given_within 4294967295 (setting_of settings (codes "load")) (within (codes "load"));
}

end_in_range : (number : ℕ) (settings : List Setting) (kind : Option WordKind) (o : Options) → AreWithin greatest settings → end_answer number settings kind ≡ Ok o → AreInRange o
end_in_range number settings (Some kind) o within e = absurd cc
end_in_range number settings None o within e =
    let same : options_of settings ≡ o = cc in
    subst AreInRange same (options_within settings within)

then_in_range : (number : ℕ) (r : Result Setting WordKind) (on : Setting → Result Options WordFault) (o : Options) → ((x : Setting) → r ≡ Ok x → on x ≡ Ok o → AreInRange o) → then_on number r on ≡ Ok o → AreInRange o
then_in_range number (Err kind) on o rest e = absurd cc
then_in_range number (Ok x) on o rest e = rest x refl e

-- reading on from settings that are within their bounds
from_in_range : (count : ℕ) (pieces : List Piece) (settings : List Setting) (o : Options) → AreWithin greatest settings → answer_from count settings pieces ≡ Ok o → AreInRange o
from_in_range count [] settings o within e = end_in_range count settings (end_fault settings) o within e
from_in_range count (p ∷ pieces) settings o within e =
    then_in_range p.number (set_by settings p) (λ x. answer_from count (settings ++ x ∷ []) pieces) o
    (λ x sets rest. from_in_range count pieces (settings ++ x ∷ []) o (λ name. more_within settings x name (greatest name) (within name) (piece_within settings p x sets name)) rest)
    e

-- the options of a command line are in range
pub in_range : (words : List (List ℕ)) (o : Options) → answer_of words ≡ Ok o → AreInRange o
in_range words o e = from_in_range (length words + 1) (pieces_of words) [] o (λ name. omega arith) e

-- Where `-load` was set, nothing else was.
use Rattle.std.proofs.Common.{◌≡◌, ℕ, ◌+◌, List, [], ◌∷◌, ◌++◌, length, Bool, true, false, cond, not, ◌||◌, ◌&&◌, nat_eq, nat_lt, Some, None, Ok, Err, refl, sym, ◌∙◌, ap, arith}
use Rattle.std.specs.Prelude.{codes}
use Rattle.std.specs.Cmp.Lexicographic.{pointwise, same_text}
use Rattle.std.specs.List.{list_any}
use Rattle.std.specs.declared.option.Option.{Option}
use Rattle.std.specs.declared.result.Result.{Result}
use Rattle.std.proofs.lemmas.Bool.Decides.{nat_tests}
use Rattle.std.proofs.lemmas.List.{nil_from_length}
use Rattle.std.proofs.lemmas.List.Folds.{list_any-append}
use Rattle.mca_words.specs.Answer.{answer_from, answer_of, end_answer, end_fault, then_on}
use Rattle.mca_words.specs.Options.{setting_of, number_or_none, number_given, options_of, load_options}
use Rattle.mca_words.specs.Pieces.{Piece, pieces_of, is_option, name_of, given_value}
use Rattle.mca_words.specs.Settings.{is_input, is_named, stands, has_other_machine, named, option_set, input_set, set_by}
use Rattle.mca_words.specs.Table.{form_of}
use Rattle.mca_words.specs.Values.{is_number, number_of, number_value, value_of}
use Rattle.mca_words.specs.declared.fault.WordFault.{WordFault}
use Rattle.mca_words.specs.declared.fault.WordKind.{WordKind}
use Rattle.mca_words.specs.declared.fault.WordKind.TheVariants.{BadNumber, OutOfRange, Repeated, TwoMachines, NotTogether, TooManyInputs}
use Rattle.mca_words.specs.declared.options.Options.{Options}
use Rattle.mca_words.specs.declared.settings.Setting.{Setting}
use Rattle.mca_words.specs.declared.settings.Setting.TheVariants.{Input, Named}
use Rattle.mca_words.specs.declared.table.ValueForm.{ValueForm}
use Rattle.mca_words.specs.declared.table.ValueForm.TheVariants.{OptionalNumber}
use Rattle.mca_words.specs.declared.value.Value.{Value}
use Rattle.mca_words.specs.declared.value.Value.TheVariants.{Number}

abbrev load : List ℕ
load = codes "load"

-- the settings are `-load` with its number, and nothing else
abbrev IsLoad : List Setting → Type 0
IsLoad settings = (seed : ℕ) × (settings ≡ Named load (Number seed) ∷ [])

-- `-load` stands alone, where it stands
abbrev IsAlone : List Setting → Type 0
IsAlone settings = stands settings load ≡ true → IsLoad settings

-- the value of a form that takes a number is one
number_is : (most : ℕ) (text : List ℕ) (value : Value) → number_value most text ≡ Ok value → (seed : ℕ) × (value ≡ Number seed)
number_is most text value e = go (is_number text) (nat_lt most (number_of text)) e
  where
    go : (digits above : Bool) → ◌≡◌ {A = Result Value WordKind} (cond (not digits) (Err BadNumber) (cond above (Err OutOfRange) (Ok (Number (number_of text))))) (Ok value) → (seed : ℕ) × (value ≡ Number seed)
    go false above is = absurd cc
    go true true is = absurd cc
    go true false is = (number_of text, cc)

load_value : (most : ℕ) (text : Option (List ℕ)) (value : Value) → value_of (OptionalNumber most) text ≡ Ok value → (seed : ℕ) × (value ≡ Number seed)
load_value most None value e = absurd cc
load_value most (Some []) value e = absurd cc
load_value most (Some (byte ∷ bytes)) value e = number_is most (byte ∷ bytes) value e

-- an option is set alone, and by a number, where it is `-load`; no option is set where `-load` stands
named_alone : (settings : List Setting) (name : List ℕ) (r : Result Value WordKind) (x : Setting) → IsAlone settings → (stands settings load ≡ true → pointwise nat_eq name load ≡ true → ⊥) → (pointwise nat_eq name load ≡ true → (value : Value) → r ≡ Ok value → (seed : ℕ) × (value ≡ Number seed)) → named settings name r ≡ Ok x → IsAlone (settings ++ x ∷ [])
named_alone settings name (Err kind) x alone once number e = absurd cc
named_alone settings name (Ok value) x alone once number e = go (has_other_machine settings name) (stands settings load) (pointwise nat_eq name load) (nat_eq (length settings) 0) refl refl refl e
  where
    go : (b s l n : Bool) → stands settings load ≡ s → pointwise nat_eq name load ≡ l → nat_eq (length settings) 0 ≡ n → ◌≡◌ {A = Result Setting WordKind} (cond b (Err TwoMachines) (cond (s || (l && not n)) (Err NotTogether) (Ok (Named name value)))) (Ok x) → IsAlone (settings ++ x ∷ [])
    go true s l n is_s is_l is_n is = absurd cc
    go false true l n is_s is_l is_n is = absurd cc
    go false false true false is_s is_l is_n is = absurd cc
    go false false true true is_s is_l is_n is = λ there.
        let sets : Named name value ≡ x = cc in
        let none : settings ≡ [] = nil_from_length settings (grind (arith, nat_tests)) in
        let given : (seed : ℕ) × (value ≡ Number seed) = number is_l value refl in
        let same : name ≡ load = same_text name load (sym is_l) in
        (given.0, ap (λ s. s ++ x ∷ []) none ∙ ap (λ y. y ∷ []) (sym sets) ∙ ap (λ m. Named m value ∷ []) same ∙ ap (λ v. Named load v ∷ []) given.1)
    go false false false n is_s is_l is_n is = λ there.
        let sets : Named name value ≡ x = cc in
        let no : stands (settings ++ x ∷ []) load ≡ false = list_any-append (is_named load) settings (x ∷ []) ∙ ap (λ b. b || (is_named load x || false)) is_s ∙ ap (λ y. is_named load y || false) (sym sets) ∙ ap (λ b. b || false) is_l in
        absurd cc

option_alone : (settings : List Setting) (name : List ℕ) (text : Option (List ℕ)) (form : Option ValueForm) (x : Setting) → form_of name ≡ form → IsAlone settings → option_set settings name text form ≡ Ok x → IsAlone (settings ++ x ∷ [])
option_alone settings name text None x is alone e = absurd cc
option_alone settings name text (Some form) x is alone e = go (stands settings name) refl e
  where
    of_load : pointwise nat_eq name load ≡ true → (value : Value) → value_of form text ≡ Ok value → (seed : ℕ) × (value ≡ Number seed)
    of_load is_l value gives =
        let same : name ≡ load = same_text name load (sym is_l) in
        let has : Some form ≡ Some (OptionalNumber 4294967295) = sym is ∙ ap form_of same in
        let form_is : form ≡ OptionalNumber 4294967295 = cc in
        load_value 4294967295 text value (ap (λ f. value_of f text) (sym form_is) ∙ gives)

    go : (b : Bool) → stands settings name ≡ b → ◌≡◌ {A = Result Setting WordKind} (cond b (Err Repeated) (named settings name (value_of form text))) (Ok x) → IsAlone (settings ++ x ∷ [])
    go true first e = absurd cc
    go false first e = named_alone settings name (value_of form text) x alone
        (λ there is_l. let both : stands settings name ≡ true = ap (stands settings) (same_text name load (sym is_l)) ∙ there in absurd cc)
        of_load e

input_alone : (settings : List Setting) (text : List ℕ) (x : Setting) → IsAlone settings → input_set settings text ≡ Ok x → IsAlone (settings ++ x ∷ [])
input_alone settings text x alone e = go (stands settings load) (list_any is_input settings) refl e
  where
    go : (b c : Bool) → stands settings load ≡ b → ◌≡◌ {A = Result Setting WordKind} (cond b (Err NotTogether) (cond c (Err TooManyInputs) (Ok (Input text)))) (Ok x) → IsAlone (settings ++ x ∷ [])
    go true c is_s is = absurd cc
    go false true is_s is = absurd cc
    go false false is_s is = λ there.
        let sets : Input text ≡ x = cc in
        let no : stands (settings ++ x ∷ []) load ≡ false = list_any-append (is_named load) settings (x ∷ []) ∙ ap (λ b. b || (is_named load x || false)) is_s ∙ ap (λ y. is_named load y || false) (sym sets) in
        absurd cc

piece_alone : (settings : List Setting) (p : Piece) (x : Setting) → IsAlone settings → set_by settings p ≡ Ok x → IsAlone (settings ++ x ∷ [])
piece_alone settings p x alone e = go (is_option p.word) e
  where
    go : (b : Bool) → cond b (option_set settings (name_of p.word) (given_value p) (form_of (name_of p.word))) (input_set settings p.word) ≡ Ok x → IsAlone (settings ++ x ∷ [])
    go true is = option_alone settings (name_of p.word) (given_value p) (form_of (name_of p.word)) x refl alone is
    go false is = input_alone settings p.word x alone is

-- an option with a value stands
value_stands : (settings : List Setting) (name : List ℕ) (value : Value) → setting_of settings name ≡ Some value → stands settings name ≡ true
value_stands [] name value e = absurd cc
value_stands (Input text ∷ settings) name value e = value_stands settings name value e
value_stands (Named own given ∷ settings) name value e = go (pointwise nat_eq own name) (value_stands settings name value) e
  where
    go : (b : Bool) → (setting_of settings name ≡ Some value → stands settings name ≡ true) → cond b (Some given) (setting_of settings name) ≡ Some value → (b || stands settings name) ≡ true
    go true on is = refl
    go false on is = on is

number_stands : (settings : List Setting) (name : List ℕ) (o : Option Value) (seed : ℕ) → setting_of settings name ≡ o → number_or_none o ≡ Some seed → stands settings name ≡ true
number_stands settings name None seed is e = absurd cc
number_stands settings name (Some value) seed is e = value_stands settings name value is

end_alone : (number : ℕ) (settings : List Setting) (kind : Option WordKind) (o : Options) (seed : ℕ) → IsAlone settings → end_answer number settings kind ≡ Ok o → o.load ≡ Some seed → o ≡ load_options seed
end_alone number settings (Some kind) o seed alone e given = absurd cc
end_alone number settings None o seed alone e given =
    let same : options_of settings ≡ o = cc in
    let given_is : number_given settings load ≡ Some seed = ap (λ p. p.load) same ∙ given in
    let is : IsLoad settings = alone (number_stands settings load (setting_of settings load) seed refl given_is) in
    let seed_is : Some is.0 ≡ Some seed = ap (λ s. number_given s load) (sym is.1) ∙ given_is in
    let own : is.0 ≡ seed = cc in
    sym same ∙ ap options_of is.1 ∙ ap load_options own

then_alone : (number : ℕ) (r : Result Setting WordKind) (on : Setting → Result Options WordFault) (o : Options) (P : Type 0) → ((x : Setting) → r ≡ Ok x → on x ≡ Ok o → P) → then_on number r on ≡ Ok o → P
then_alone number (Err kind) on o P rest e = absurd cc
then_alone number (Ok x) on o P rest e = rest x refl e

from_alone : (count : ℕ) (pieces : List Piece) (settings : List Setting) (o : Options) (seed : ℕ) → IsAlone settings → answer_from count settings pieces ≡ Ok o → o.load ≡ Some seed → o ≡ load_options seed
from_alone count [] settings o seed alone e given = end_alone count settings (end_fault settings) o seed alone e given
from_alone count (p ∷ pieces) settings o seed alone e given =
    then_alone p.number (set_by settings p) (λ x. answer_from count (settings ++ x ∷ []) pieces) o (o ≡ load_options seed)
    (λ x sets rest. from_alone count pieces (settings ++ x ∷ []) o seed (piece_alone settings p x alone sets) rest given)
    e

-- where `-load` was given, the options are those that it gives
pub stands_alone : (words : List (List ℕ)) (o : Options) (seed : ℕ) → answer_of words ≡ Ok o → o.load ≡ Some seed → o ≡ load_options seed
stands_alone words o seed e given = from_alone (length words + 1) (pieces_of words) [] o seed (λ there. absurd cc) e given

-- Models the answer to a command line apart from how it is read: which settings lead up to it.
use Rattle.std.specs.Prelude.{◌≡◌, ◌⊎◌, List, ℕ, ◌+◌, ◌≤◌, length, take, slice_get, Some, None, Ok, Err}
use Rattle.std.specs.declared.result.Result.{Result}
use Rattle.mca_words.specs.Answer.{end_fault}
use Rattle.mca_words.specs.Options.{options_of}
use Rattle.mca_words.specs.Pieces.{Piece, pieces_of}
use Rattle.mca_words.specs.Settings.{set_by}
use Rattle.mca_words.specs.declared.fault.WordFault.{WordFault}
use Rattle.mca_words.specs.declared.options.Options.{Options}
use Rattle.mca_words.specs.declared.settings.Setting.{Setting}

-- these settings are what the first pieces set, each after those before it
pub record AreSet (pieces : List Piece) (settings : List Setting) : Type 0 where
  pub as_many : length settings ≤ length pieces
  pub each : (k : ℕ) (piece : Piece) (setting : Setting) → slice_get pieces k ≡ Some piece → slice_get settings k ≡ Some setting → set_by (take k settings) piece ≡ Ok setting

-- the piece after these settings has the fault
pub record IsPieceFault (pieces : List Piece) (settings : List Setting) (fault : WordFault) : Type 0 where
  pub piece : Piece
  pub there : slice_get pieces (length settings) ≡ Some piece
  pub kind : set_by settings piece ≡ Err fault.kind
  pub word : fault.word ≡ piece.number

-- all pieces set something, and the fault shows after them
pub record IsEndFault (count : ℕ) (pieces : List Piece) (settings : List Setting) (fault : WordFault) : Type 0 where
  pub all : length settings ≡ length pieces
  pub kind : end_fault settings ≡ Some fault.kind
  pub word : fault.word ≡ count

-- all pieces set something, no fault shows after them, and these are the options
pub record AreOptions (pieces : List Piece) (settings : List Setting) (options : Options) : Type 0 where
  pub all : length settings ≡ length pieces
  pub none : end_fault settings ≡ None
  pub same : options ≡ options_of settings

abbrev pub Follows : ℕ → List Piece → List Setting → Result Options WordFault → Type 0
Follows count pieces settings (Ok options) = AreOptions pieces settings options
Follows count pieces settings (Err fault) = IsPieceFault pieces settings fault ⊎ IsEndFault count pieces settings fault

-- the answer to pieces; a fault that shows after them has the number `count`
pub record IsAnswerTo (count : ℕ) (pieces : List Piece) (answer : Result Options WordFault) : Type 0 where
  pub settings : List Setting
  pub are_set : AreSet pieces settings
  pub follows : Follows count pieces settings answer

-- the answer to a command line
abbrev pub IsAnswer : List (List ℕ) → Result Options WordFault → Type 0
IsAnswer words answer = IsAnswerTo (length words + 1) (pieces_of words) answer

-- Models a shelf in memory: its files, when a call fails, how much a read moves and what a call leaves.
use Rattle.std.specs.Prelude.{◌≡◌, ℕ, ◌<◌, min, List, [], ◌∷◌, ◌++◌, length, take, drop, Bool, true, false, ◌||◌, nat_eq, if◌then◌else◌, Some, None, is_none, unwrap_or, option_map, slice_index_or}
use Rattle.std.specs.Cmp.Lexicographic.{pointwise}
use Rattle.std.specs.declared.option.Option.{Option}
use Rattle.mca_io.specs.Calls.{one_more, is_listed}
use Rattle.mca_io.specs.declared.mem_shelf.MemFile.{MemFile}

-- the bytes of the file with this name, the first one of several
abbrev pub content_of : List MemFile → List ℕ → Option (List ℕ)
content_of [] name = None
content_of (file ∷ files) name = if pointwise nat_eq file.name name then Some file.bytes else content_of files name

-- `rest` is what is left to read of the chosen file, none where no file is chosen; `failing` has the
-- numbers of the calls that are to fail; `calls` calls were made, `choose` and `read` counted together
pub record ShelfState : Type 0 where
  pub files : List MemFile
  pub rest : Option (List ℕ)
  pub take : ℕ
  pub failing : List ℕ
  pub calls : ℕ
  pub faults : ℕ

-- the next call is one of those that are to fail
abbrev pub call_fails : ShelfState → Bool
call_fails s = is_listed s.failing (one_more s.calls)

-- choosing this name next fails
abbrev pub choose_fails : ShelfState → List ℕ → Bool
choose_fails s name = call_fails s || is_none (content_of s.files name)

-- the shelf after a call, with its faults counted
abbrev pub counted : ShelfState → Bool → ShelfState
counted s fails = record s { calls = one_more s.calls; faults = if fails then one_more s.faults else s.faults }

-- the shelf after choosing this name
abbrev pub after_choose : ShelfState → List ℕ → ShelfState
after_choose s name = record (counted s (choose_fails s name)) {
  rest = if choose_fails s name then s.rest else content_of s.files name;
}

-- what is left to read
abbrev pub left_of : ShelfState → List ℕ
left_of s = unwrap_or s.rest []

-- how many bytes a read that does not fail gives into a buffer of this length
abbrev pub given : ShelfState → ℕ → ℕ
given s room = min s.take (min room (length (left_of s)))

-- the shelf after a read into a buffer of this length
abbrev pub after_read : ShelfState → ℕ → ShelfState
after_read s room = record (counted s (call_fails s)) {
  rest = if call_fails s then s.rest else Some (drop (given s room) (left_of s));
}

-- the buffer after a read
abbrev pub read_into : ShelfState → List ℕ → List ℕ
read_into s buffer = if call_fails s then buffer else take (given s (length buffer)) (left_of s) ++ drop (given s (length buffer)) buffer

abbrev pub no_file : MemFile
no_file = record { name = []; bytes = [] }

-- what is left of the file at a place, from an offset on
abbrev pub rest_of : List MemFile → Option ℕ → ℕ → Option (List ℕ)
rest_of files place at = option_map (λ k. drop at (slice_index_or files k no_file).bytes) place

-- none of the files before this place has the name
abbrev pub NoneBefore : List MemFile → List ℕ → ℕ → Type 0
NoneBefore files name place = (k : ℕ) → k < place → pointwise nat_eq (slice_index_or files k no_file).name name ≡ false

-- the place of the first file with the name, or none where no file has it
abbrev pub IsPlace : List MemFile → List ℕ → Option ℕ → Type 0
IsPlace files name None = NoneBefore files name (length files)
IsPlace files name (Some k) = (k < length files) × (pointwise nat_eq (slice_index_or files k no_file).name name ≡ true) × NoneBefore files name k

-- Values: numbers, strings and names, lists of them, and `(instrs ..)`.
use Rattle.std.specs.Prelude.{ℕ, List, [], ◌∷◌, ◌++◌, drop, codes, Bool, true, false, ◌&&◌, Ok, Err, Some, None, if◌then◌else◌}
use Rattle.std.specs.Option.{ok_or, option_or}
use Rattle.std.specs.declared.option.Option.{Option}
use Rattle.std.specs.declared.result.Result.{Result}
use Rattle.sched_records.specs.declared.piece.TokenKind.{TokenKind}
use Rattle.sched_records.specs.declared.piece.TokenKind.TheVariants as kinds
use Rattle.sched_records.specs.declared.records.Atom.{Atom}
use Rattle.sched_records.specs.declared.records.Atom.TheVariants as atoms
use Rattle.sched_records.specs.declared.records.Value.TheVariants as values
use Rattle.sched_records.specs.declared.refusal.TableKind.{TableKind}
use Rattle.sched_records.specs.declared.refusal.TableKind.TheVariants as faults
use Rattle.sched_records.specs.declared.refusal.TableRefusal.{TableRefusal}
use Rattle.sched_records.specs.declared.value.Listed.{Listed}
use Rattle.sched_records.specs.declared.value.Found.{Found}
use Rattle.sched_records.specs.Tokens.{Lexeme, first_of}
use Rattle.sched_records.specs.Numbers.{literal_of}
use Rattle.sched_records.specs.Grammar.{◌>>=◌, Parsed, fault, is_name, is_sign, is_among, reserved, refusal, word_at}

abbrev pub is_number : TokenKind → Bool
is_number kinds.Number = true
is_number _ = false

-- the line of a number beyond 64 bits
abbrev pub wide_of : Lexeme → Option ℕ
wide_of t = if is_number t.kind && (literal_of t.bytes).wide then Some t.line else None

abbrev pub atom_of : TokenKind → List ℕ → Option Atom
atom_of kinds.Number bytes = Some (atoms.Number (literal_of bytes).value)
atom_of kinds.Quoted bytes = Some (atoms.Quoted bytes)
atom_of kinds.Name bytes = Some (atoms.Word bytes)
atom_of _ bytes = None

abbrev pub atom : Lexeme → Result Atom TableRefusal
atom t = if is_among reserved t then Err (fault t faults.NotFlat) else ok_or (atom_of t.kind t.bytes) (refusal t)

abbrev pub is_want : TableKind → Bool
is_want faults.Memory = true
is_want _ = false

-- a number beyond 64 bits stands before every fault of the list behind it
abbrev pub after_wide : Option ℕ → TableRefusal → TableRefusal
after_wide None f = f
after_wide (Some line) f = if is_want f.kind then f else record { line = line; kind = faults.BadValue }

-- elements before the rest of a list, and the first number beyond 64 bits
abbrev pub with_front : List Atom → Option ℕ → Parsed Listed → Parsed Listed
with_front front wide (Err f) = Err (after_wide wide f)
with_front front wide (Ok x) = Ok (record { atoms = front ++ x.0.atoms; wide = option_or wide x.0.wide }, x.1)

-- behind `[` and where it is not closed at once: atoms with commas between, up to `]`
abbrev pub elements : List Lexeme → Parsed Listed
elements [] = Err (refusal (first_of []))
elements (t ∷ []) = atom t >>= λ a. with_front (a ∷ []) (wide_of t) (Err (refusal (first_of [])))
elements (t ∷ u ∷ ts) = atom t >>= λ a. with_front (a ∷ []) (wide_of t)
    (if is_sign 44 u then elements ts else if is_sign 93 u then Ok (record { atoms = []; wide = None }, ts) else Err (refusal u))

-- behind `(instrs`: names with commas between, up to `)`
abbrev pub with_names : List (List ℕ) → Parsed (List (List ℕ)) → Parsed (List (List ℕ))
with_names front (Err f) = Err f
with_names front (Ok x) = Ok (front ++ x.0, x.1)

abbrev pub names : List Lexeme → Parsed (List (List ℕ))
names [] = Err (refusal (first_of []))
names (t ∷ []) = if is_name t.kind then Err (refusal (first_of [])) else Err (refusal t)
names (t ∷ u ∷ ts) = if is_name t.kind
    then with_names (t.bytes ∷ []) (if is_sign 44 u then names ts else if is_sign 41 u then Ok ([], ts) else Err (refusal u))
    else Err (refusal t)

-- a value by the grammar, and its first number beyond 64 bits
unfoldable pub list_at : List Lexeme → Parsed Found
list_at ts =
    if is_sign 93 (first_of ts) then Ok (record { value = values.List []; wide = None }, drop 1 ts) else do
      l ← elements ts
      Ok (record { value = values.List l.0.atoms; wide = l.0.wide }, l.1)

unfoldable pub instrs_at : List Lexeme → Parsed Found
instrs_at ts = do
  us ← word_at (codes "instrs") ts
  ns ← names us
  Ok (record { value = values.Instrs ns.0; wide = None }, ns.1)

unfoldable pub one_at : List Lexeme → Parsed Found
one_at ts = do
  a ← atom (first_of ts)
  Ok (record { value = values.One a; wide = wide_of (first_of ts) }, drop 1 ts)

unfoldable pub value_at : List Lexeme → Parsed Found
value_at ts =
    if is_sign 91 (first_of ts) then list_at (drop 1 ts) else
    if is_sign 40 (first_of ts) then instrs_at (drop 1 ts) else
    one_at ts

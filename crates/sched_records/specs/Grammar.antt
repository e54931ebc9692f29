-- What may stand at a place of the tokens, and the fault of what may not.
use Rattle.std.specs.Prelude.{ℕ, List, [], ◌∷◌, drop, codes, nat_eq, Bool, true, false, ◌&&◌, Ok, Err, if◌then◌else◌}
use Rattle.std.specs.Cmp.Lexicographic.{pointwise}
use Rattle.std.specs.List.{list_any}
use Rattle.std.specs.declared.result.Result.{Result}
use Rattle.sched_records.specs.declared.piece.TokenKind.{TokenKind}
use Rattle.sched_records.specs.declared.piece.TokenKind.TheVariants as kinds
use Rattle.sched_records.specs.declared.refusal.TableKind.{TableKind}
use Rattle.sched_records.specs.declared.refusal.TableKind.TheVariants as faults
use Rattle.sched_records.specs.declared.refusal.TableRefusal.{TableRefusal}
use Rattle.sched_records.specs.Tokens.{Lexeme, first_of}

infixl 10 ◌>>=◌
abbrev pub ◌>>=◌ : {A B : Type 0} → Result A TableRefusal → (A → Result B TableRefusal) → Result B TableRefusal
(Ok x) >>= f = f x
(Err e) >>= f = Err e

-- a value that is read from the tokens, and the tokens behind it; or the first fault
abbrev pub Parsed : Type 0 → Type 0
Parsed A = Result (A × List Lexeme) TableRefusal

abbrev pub fault : Lexeme → TableKind → TableRefusal
fault t kind = record { line = t.line; kind = kind }

abbrev pub is_name : TokenKind → Bool
is_name kinds.Name = true
is_name _ = false

abbrev pub is_operator : TokenKind → Bool
is_operator kinds.Operator = true
is_operator _ = false

abbrev pub is_the_end : TokenKind → Bool
is_the_end kinds.End = true
is_the_end _ = false

abbrev pub has_sign : ℕ → TokenKind → Bool
has_sign b (kinds.Sign c) = nat_eq c b
has_sign b _ = false

abbrev pub is_sign : ℕ → Lexeme → Bool
is_sign b t = has_sign b t.kind

abbrev pub is_word : List ℕ → Lexeme → Bool
is_word word t = is_name t.kind && pointwise nat_eq t.bytes word

abbrev pub is_among : List (List ℕ) → Lexeme → Bool
is_among words t = is_name t.kind && list_any (λ w. pointwise nat_eq t.bytes w) words

-- the words of TableGen that do not stand where an item, a `let` of a body or a value would
abbrev pub reserved : List (List ℕ)
reserved = codes "class" ∷ codes "multiclass" ∷ codes "defm" ∷ codes "defset" ∷ codes "deftype" ∷ codes "foreach" ∷ codes "defvar" ∷ codes "if" ∷ codes "assert" ∷ codes "dump" ∷ codes "include" ∷ []

-- the types that begin a typed field
abbrev pub types : List (List ℕ)
types = codes "bit" ∷ codes "bits" ∷ codes "code" ∷ codes "dag" ∷ codes "int" ∷ codes "list" ∷ codes "string" ∷ []

-- the fault of a token that may not stand where it stands
abbrev pub refusal : Lexeme → TableRefusal
refusal t = fault t (if is_operator t.kind then faults.NotFlat else faults.Syntax)

-- the same where reserved words are not flat
abbrev pub refusal_among : List (List ℕ) → Lexeme → TableRefusal
refusal_among words t = if is_among words t then fault t faults.NotFlat else refusal t

-- a sign that has to stand there
abbrev pub sign_at : ℕ → List Lexeme → Result (List Lexeme) TableRefusal
sign_at b ts = if is_sign b (first_of ts) then Ok (drop 1 ts) else Err (refusal (first_of ts))

abbrev pub word_at : List ℕ → List Lexeme → Result (List Lexeme) TableRefusal
word_at word ts = if is_word word (first_of ts) then Ok (drop 1 ts) else Err (refusal (first_of ts))

abbrev pub name_at : List Lexeme → Parsed (List ℕ)
name_at ts = if is_name (first_of ts).kind then Ok ((first_of ts).bytes, drop 1 ts) else Err (refusal (first_of ts))

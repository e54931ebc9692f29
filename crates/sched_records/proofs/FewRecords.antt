-- No more records are kept than a table may have: a `def` that is one too many is refused.
use Rattle.std.proofs.Common.{◌≡◌, ℕ, ◌+◌, ◌<◌, ◌≤◌, List, [], ◌∷◌, ◌++◌, length, drop, codes, Bool, true, false, ◌&&◌, Ok, Err, None, refl, ap, arith, nat_le, if◌then◌else◌, length-append}
use Rattle.std.proofs.lemmas.Bool.Decides.{nat_tests}
use Rattle.std.specs.declared.result.Result.{Result}
use Rattle.sched_records.specs.declared.members.Given.{Given}
use Rattle.sched_records.specs.declared.known.Known.{Known}
use Rattle.sched_records.specs.declared.known.Doing.{Doing}
use Rattle.sched_records.specs.declared.known.Doing.TheVariants as doing
use Rattle.sched_records.specs.declared.known.Step.{Step}
use Rattle.sched_records.specs.declared.known.Step.TheVariants as steps
use Rattle.sched_records.specs.declared.records.Record.{Record}
use Rattle.sched_records.specs.declared.refusal.TableKind.TheVariants as faults
use Rattle.sched_records.specs.declared.refusal.TableRefusal.{TableRefusal}
use Rattle.sched_records.specs.declared.limits.TheConstants.{MOST_RECORDS}
use Rattle.sched_records.specs.Tokens.{Lexeme, first_of}
use Rattle.sched_records.specs.Grammar.{◌>>=◌, Parsed, fault, is_name, is_sign, is_word}
use Rattle.sched_records.specs.Given.{given_at}
use Rattle.sched_records.specs.Items.{scope_begin, scope_end, scope_at, in_braces, let_item_at, item_at, phrase_at}
use Rattle.sched_records.specs.RecordNames.{has_name}
use Rattle.sched_records.specs.Heads.{head_at, def_at}
use Rattle.sched_records.specs.Known.{known_after, doing_after}
use Rattle.sched_records.specs.Table.{ComesTo, ends, fails, goes_on}

-- the records that are open
abbrev pub opened : Doing → ℕ
opened doing.Item = 0
opened (doing.Arguments head) = 1
opened (doing.Body head given) = 1
opened (doing.Scope given) = 0

-- the records that a phrase adds to those kept, an open one among them
abbrev pub added : Step → ℕ
added (steps.Next d) = opened d
added (steps.Whole r) = 1
added (steps.Into s) = 0
added steps.OutOf = 0

-- there is room for what a phrase adds
pub record Fits (k : Known) (read : Parsed Step) : Type 0 where
  pub room : (step : Step) (rest : List Lexeme) → read ≡ Ok (step, rest) → length k.kept + added step ≤ MOST_RECORDS

one_open : (d : Doing) → opened d ≤ 1
one_open doing.Item = omega arith
one_open (doing.Arguments head) = omega arith
one_open (doing.Body head given) = omega arith
one_open (doing.Scope given) = omega arith

one_added : (s : Step) → added s ≤ 1
one_added (steps.Next d) = one_open d
one_added (steps.Whole r) = omega arith
one_added (steps.Into s) = omega arith
one_added steps.OutOf = omega arith

-- whatever a phrase adds fits where one more record does
fits_below : (k : Known) (read : Parsed Step) → length k.kept < MOST_RECORDS → Fits k read
fits_below k read h = record { room = λ step rest e. omega (arith, one_added step) }

refused : (k : Known) (f : TableRefusal) → Fits k (Err f)
refused k f = record { room = λ step rest e. cc }

none_added : (k : Known) (s : Step) (rest : List Lexeme) → added s ≡ 0 → length k.kept ≤ MOST_RECORDS → Fits k (Ok (s, rest))
none_added k s rest none h = record {
  room = λ step behind e.
      let same : ◌≡◌ {A = Step × List Lexeme} (s, rest) (step, behind) = cc in
      let as_many : added s ≡ added step = ap (λ (p : Step × List Lexeme). added p.0) same in
      omega arith;
}

fits_either : (k : Known) (b : Bool) (x y : Parsed Step) → (b ≡ true → Fits k x) → (b ≡ false → Fits k y) → Fits k (if b then x else y)
fits_either k true x y f g = f refl
fits_either k false x y f g = g refl

fits_behind : {A : Type 0} (k : Known) (r : Result A TableRefusal) (f : A → Parsed Step) → ((x : A) → Fits k (f x)) → Fits k (r >>= f)
fits_behind k (Ok x) f h = h x
fits_behind k (Err e) f h = refused k e

fits_not_full : (k : Known) (r : Parsed Step) → nat_le MOST_RECORDS (length k.kept) ≡ false → Fits k r
fits_not_full k r few = fits_below k r (grind (arith, nat_tests))

scope_begin_fits : (k : Known) (given : List Given) (ts : List Lexeme) → length k.kept ≤ MOST_RECORDS → Fits k (scope_begin given ts)
scope_begin_fits k given ts h =
    fits_either k (is_sign 123 (first_of ts)) _ _ (λ _. none_added k (steps.Into _) _ refl h) (λ _. none_added k (steps.Into _) _ refl h)

scope_end_fits : (k : Known) (given : List Given) (ts : List Lexeme) → length k.kept ≤ MOST_RECORDS → Fits k (scope_end given ts)
scope_end_fits k given ts h =
    fits_either k (is_sign 44 (first_of ts)) _ _ (λ _. none_added k (steps.Next (doing.Scope given)) _ refl h) (λ _.
    fits_either k (is_word (codes "in") (first_of ts)) _ _ (λ _. scope_begin_fits k given (drop 1 ts) h) (λ _. refused k _))

scope_fits : (k : Known) (given : List Given) (ts : List Lexeme) → length k.kept ≤ MOST_RECORDS → Fits k (scope_at given ts)
unfolding scope_at
scope_fits k given ts h = fits_behind k (given_at None given ts) _ (λ g. scope_end_fits k (given ++ g.0 ∷ []) g.1 h)

new_fits : (k : Known) (ts : List Lexeme) → Fits k (if nat_le MOST_RECORDS (length k.kept) then Err (fault (first_of ts) faults.TooMany) else head_at k (drop 1 ts))
new_fits k ts = fits_either k (nat_le MOST_RECORDS (length k.kept)) _ _ (λ _. refused k _) (λ few. fits_not_full k _ few)

def_fits : (k : Known) (ts : List Lexeme) → Fits k (def_at k ts)
def_fits k ts = fits_either k (is_name (first_of (drop 1 ts)).kind && has_name k.kept (first_of (drop 1 ts)).bytes) _ _ (λ _. refused k _) (λ _. new_fits k ts)

let_item_fits : (k : Known) (ts : List Lexeme) → length k.kept ≤ MOST_RECORDS → Fits k (let_item_at k ts)
let_item_fits k ts h = fits_either k (nat_le 16 (length k.scopes)) _ _ (λ _. refused k _) (λ _. none_added k (steps.Next (doing.Scope [])) _ refl h)

item_fits : (k : Known) (ts : List Lexeme) → length k.kept ≤ MOST_RECORDS → Fits k (item_at k ts)
item_fits k ts h =
    fits_either k (is_word (codes "def") (first_of ts)) _ _ (λ _. def_fits k ts) (λ _.
    fits_either k (is_word (codes "let") (first_of ts)) _ _ (λ _. let_item_fits k ts h) (λ _.
    fits_either k (is_sign 125 (first_of ts) && in_braces k.scopes) _ _ (λ _. none_added k steps.OutOf _ refl h) (λ _. refused k _)))

phrase_fits : (k : Known) (d : Doing) (ts : List Lexeme) → length k.kept + opened d ≤ MOST_RECORDS → Fits k (phrase_at k d ts)
phrase_fits k doing.Item ts h = item_fits k ts (omega arith)
phrase_fits k (doing.Arguments head) ts h = fits_below k _ (omega arith)
phrase_fits k (doing.Body head given) ts h = fits_below k _ (omega arith)
phrase_fits k (doing.Scope given) ts h = scope_fits k given ts (omega arith)

kept_after : (k : Known) (s : Step) → length (known_after k s).kept + opened (doing_after s) ≡ length k.kept + added s
kept_after k (steps.Next d) = refl
kept_after k (steps.Whole r) = omega (arith, length-append {A = Record})
kept_after k (steps.Into s) = refl
kept_after k steps.OutOf = refl

pub few : {answer : Result (List Record) TableRefusal} {k : Known} {d : Doing} {ts : List Lexeme} (records : List Record) →
    ComesTo answer k d ts → answer ≡ Ok records → length k.kept + opened d ≤ MOST_RECORDS → length records ≤ MOST_RECORDS
few {k = k} records (ends end answer-is) is h = let same : records ≡ k.kept = cc in rw same (omega arith)
few records (fails f end read answer-is) is h = cc
few {k = k} {d = d} {ts = ts} records (goes_on step rest end read more) is h =
    let fits : length k.kept + added step ≤ MOST_RECORDS = (phrase_fits k d ts h).room step rest read in
    few records more is (omega (arith, kept_after k step))

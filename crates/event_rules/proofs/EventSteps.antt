-- What an event changes.
use Rattle.std.proofs.Common.{zero, suc, ◌≡◌, ℕ, ◌+◌, ◌*◌, ◌/◌, ◌%◌, ◌<◌, ◌⊎◌, inl, inr, List, [], ◌∷◌, ◌++◌, arith, sym, ◌∙◌, ap, subst, refl, Bool, true, false, ◌&&◌, ◌||◌, not}
use Rattle.std.specs.Prelude.{nat_eq, if◌then◌else◌, Option, Some, None, is_some}
use Rattle.std.specs.List.{list_any}
use Rattle.std.proofs.lemmas.Bool.{cases_Bool, cases_eq, eq-eqb, ne_eqb, eqb-false}
use Rattle.std.proofs.lemmas.Nat.{div-mul-add, mod-mul-add}
use Rattle.std.proofs.lemmas.List.Folds.{list_any-append}
use Rattle.cycle_rules.specs.Row.{Input, phase, uops_of, lead, advance_of}
use Rattle.cycle_rules.specs.Schedule.{Fall, Known, Rules, key, next, known_at, made, event}
use Rattle.cycle_rules.specs.Events.{events, known_of, may_fall, rules_of}
use Rattle.cycle_rules.specs.Issue.{producer}
use Rattle.event_rules.specs.Due.{later_by, later, read_after, read_from, all_read_from, ready_from, following, listed, changes, dispatch_sets, issue_sets, all_times}
use Rattle.event_rules.specs.Skip.{known_before, with_fall, EventFalls, EventWaits, is_row, ReadyStays, waits_for, ReadyUnknown, AfterEvent}
use Rattle.cycle_rules.specs.declared.bound.Source.{Source}
use Rattle.event_rules.proofs.TakenStill.{or_parts}
use Rattle.cycle_rules.proofs.Sees.{known_in}
use Rattle.cycle_rules.proofs.Rows.{allowed_at, takes_at, event_below, phase_free}
use Rattle.event_rules.proofs.Skips.{skip_rows}
use Rattle.event_rules.proofs.Quiet.{no_issue}
use Rattle.event_rules.proofs.Turns.{set_of_row}
use Rattle.cycle_rules.proofs.Exists.{not_both}

-- the rules' step at the key of an event that may fall
falls_at : {P : Type 0} (r : Rules P) (m k e c : ℕ) (known : Known P) → k / m ≡ c → k % m ≡ e → known e ≡ None → r.allowed known c e ≡ true
    → (x : ℕ) → next r m known k x (known x) ≡ (if nat_eq x e then Some (record { cycle = c; what = r.takes known c e }) else known x)
falls_at {P} r m k e c known at which none allowed x = go (cases_eq x e) (known x) refl
  where
    go : (x ≡ e) ⊎ (x ≡ e → ⊥) → (o : Option (Fall P)) → known x ≡ o → next r m known k x o ≡ (if nat_eq x e then Some (record { cycle = c; what = r.takes known c e }) else o)
    go (inl s) (Some f) is = absurd (not_both (known e) f none (subst (λ y. known y ≡ Some f) s is))
    go (inl s) None is =
        let here : nat_eq x (k % m) ≡ true = eq-eqb x (k % m) (s ∙ sym which) in
        let may : r.allowed known (k / m) x ≡ true = subst (λ y. r.allowed known (k / m) y ≡ true) (sym s) (subst (λ d. r.allowed known d e ≡ true) (sym at) allowed) in
        rw (here, may, eq-eqb x e s) (ap (λ d. Some (record { cycle = d; what = r.takes known d x })) at ∙ ap (λ y. Some (record { cycle = c; what = r.takes known c y })) s)
    go (inr ne) (Some f) is = rw (ne_eqb x e ne) refl
    go (inr ne) None is = rw (ne_eqb x e ne, ne_eqb x (k % m) (λ s. ne (s ∙ which))) refl

pub event_falls : EventFalls
event_falls g c p j three lt none may =
    let m : ℕ = events g in let e : ℕ = event g.rows p j in
    let below : e < m = event_below g p j three lt in
    let sum : key m c (event g.rows p (j + 1)) ≡ suc (key m c e) = omega arith in
    let allowed : (rules_of g).allowed (known_before g c p j) c e ≡ true = allowed_at g (known_before g c p j) c p j lt ∙ may in
    let step : (x : ℕ) → known_at (rules_of g) m (suc (key m c e)) x ≡ with_fall e (record { cycle = c; what = (rules_of g).takes (known_before g c p j) c e }) (known_before g c p j) x
    = λ x. falls_at (rules_of g) m (key m c e) e c (known_before g c p j) (div-mul-add c m e below) (mod-mul-add c m e below) none allowed x in
    ap (known_at (rules_of g) m) sum ∙ (λ i x. step x i) ∙ ap (λ us. with_fall e (record { cycle = c; what = us }) (known_before g c p j)) (takes_at g (known_before g c p j) c p j lt)

pub event_waits : EventWaits
event_waits g c p j three lt h = skip_rows g c p j 1 three (omega (arith, lt)) (λ k lo hi none. (let s : j ≡ k = omega (arith, lo, hi) in
    subst (λ x. may_fall g (known_before g c p j) c p x ≡ false) s (h (subst (λ x. known_before g c p j (event g.rows p x) ≡ None) (sym s) none))))

-- Ready times

pub ready_stays : ReadyStays
ready_stays g known v j q same h = all_same_reads (g.row j).reads h
  where
    at : (read : ℕ) (o : Option ℕ) → is_row q o ≡ false → read_after g v read o ≡ read_after g known read o
    at read None e = refl
    at read (Some k) e = ap (later_by (lead (g.row k).latency (advance_of g.machine read (g.row k).write))) (same k (eqb-false k q e))

    one : (b : Bool) (read : ℕ) (o : Option ℕ) → (not b && is_row q o) ≡ false → (if b then Some 0 else read_after g v read o) ≡ (if b then Some 0 else read_after g known read o)
    one true read o e = refl
    one false read o e = at read o e

    all_same_reads : (reads : List Source) → list_any (λ s. not (nat_eq s.reg 0) && is_row q (producer g j s.reg)) reads ≡ false → all_read_from g v j reads ≡ all_read_from g known j reads
    all_same_reads [] e = refl
    all_same_reads (s ∷ rest) e = let p : _ = or_parts _ _ e in
        ap (λ o. later o (all_read_from g v j rest)) (one (nat_eq s.reg 0) s.read (producer g j s.reg) p.0) ∙ ap (later (read_from g known j s)) (all_same_reads rest p.1)

pub ready_unknown : ReadyUnknown
ready_unknown g known j = all_reads (g.row j).reads
  where
    moved : (n : ℕ) (o : Option (Fall (List ℕ))) → is_some (later_by n o) ≡ not (not (is_some o))
    moved n None = refl
    moved n (Some f) = refl

    one : (b : Bool) (read : ℕ) (o : Option ℕ) → is_some (if b then Some 0 else read_after g known read o) ≡ not (not b && waits_for g known o)
    one true read o = refl
    one false read None = refl
    one false read (Some k) = moved (lead (g.row k).latency (advance_of g.machine read (g.row k).write)) (known_of g known (phase (g.row k)) k)

    both : (x y : Option ℕ) → is_some (later x y) ≡ (is_some x && is_some y)
    both (Some x) (Some y) = refl
    both (Some x) None = refl
    both None y = refl

    not_or : (a b : Bool) → (not a && not b) ≡ not (a || b)
    not_or true b = refl
    not_or false b = refl

    all_reads : (reads : List Source) → is_some (all_read_from g known j reads) ≡ not (list_any (λ s. not (nat_eq s.reg 0) && waits_for g known (producer g j s.reg)) reads)
    all_reads [] = refl
    all_reads (s ∷ rest) = both (read_from g known j s) (all_read_from g known j rest) ∙ rw (one (nat_eq s.reg 0) s.read (producer g j s.reg), all_reads rest) (not_or _ _)

-- After an event

any_left : (x : ℕ) (xs ys : List ℕ) → list_any (nat_eq x) xs ≡ true → list_any (nat_eq x) (xs ++ ys) ≡ true
any_left x xs ys h = list_any-append (nat_eq x) xs ys ∙ rw h refl

any_right : (x : ℕ) (xs ys : List ℕ) → list_any (nat_eq x) ys ≡ true → list_any (nat_eq x) (xs ++ ys) ≡ true
any_right x xs ys h = list_any-append (nat_eq x) xs ys ∙ rw h (or_true (list_any (nat_eq x) xs))
  where
    or_true : (b : Bool) → (b || true) ≡ true
    or_true true = refl
    or_true false = refl

first_any : (x n : ℕ) (xs : List ℕ) → x ≡ n → list_any (nat_eq x) (n ∷ xs) ≡ true
first_any x n xs e = rw (eq-eqb x n e) refl

in_all : (g : Input) (known : Known (List ℕ)) (c p k : ℕ) (f : Fall (List ℕ)) → p < 3 → (p ≡ 1 → phase (g.row k) ≡ 1) → known_of g known p k ≡ Some f → f.cycle ≡ c → list_any (nat_eq (c + 1)) (all_times g known k) ≡ true
unfolding all_times
in_all g known c zero k f three issue is e = any_left _ (following (known_of g known 2 k) (dispatch_sets g k) ++ following (known_of g known (phase (g.row k)) k) (issue_sets g k) ++ following (known_of g known 0 k) (λ t. (t + 1) ∷ [])) (listed (ready_from g known k))
    (any_right _ (following (known_of g known 2 k) (dispatch_sets g k) ++ following (known_of g known (phase (g.row k)) k) (issue_sets g k)) _ (rw is (first_any (c + 1) (f.cycle + 1) [] (omega (arith, e)))))
in_all g known c (suc zero) k f three issue is e =
    let here : known_of g known (phase (g.row k)) k ≡ Some f = subst (λ p. known_of g known p k ≡ Some f) (sym (issue refl)) is in
    any_left _ (following (known_of g known 2 k) (dispatch_sets g k) ++ following (known_of g known (phase (g.row k)) k) (issue_sets g k) ++ following (known_of g known 0 k) (λ t. (t + 1) ∷ [])) (listed (ready_from g known k))
    (any_left _ (following (known_of g known 2 k) (dispatch_sets g k) ++ following (known_of g known (phase (g.row k)) k) (issue_sets g k)) _
    (any_right _ (following (known_of g known 2 k) (dispatch_sets g k)) _ (subst (λ o. list_any (nat_eq (c + 1)) (following o (issue_sets g k)) ≡ true) (sym here) (first_any (c + 1) (f.cycle + 1) ((f.cycle + (g.row k).latency) ∷ (f.cycle + (g.row k).latency + 1) ∷ changes f.cycle (g.row k).uses) (omega (arith, e))))))
in_all g known c (suc (suc zero)) k f three issue is e = any_left _ (following (known_of g known 2 k) (dispatch_sets g k) ++ following (known_of g known (phase (g.row k)) k) (issue_sets g k) ++ following (known_of g known 0 k) (λ t. (t + 1) ∷ [])) (listed (ready_from g known k))
    (any_left _ (following (known_of g known 2 k) (dispatch_sets g k) ++ following (known_of g known (phase (g.row k)) k) (issue_sets g k)) _
    (any_left _ (following (known_of g known 2 k) (dispatch_sets g k)) _ (subst (λ o. list_any (nat_eq (c + 1)) (following o (dispatch_sets g k)) ≡ true) (sym is) (first_any (c + 1) (f.cycle + 1) ((f.cycle + uops_of g k / g.machine.limits.width) ∷ (f.cycle + uops_of g k / g.machine.limits.width + 1) ∷ []) (omega (arith, e))))))
in_all g known c (suc (suc (suc p))) k f three issue is e = absurd (omega (arith, three))

pub after_event : AfterEvent
after_event g bound c p k f le three lk is at = set_of_row g bound (c + 1) (c + 1) k le lk
    (in_all g (made (rules_of g) (events g) (c + 1)) c p k f three issue (known_in g (made (rules_of g) (events g) (c + 1)) p k lk ∙ is) at)
  where
    issue : p ≡ 1 → phase (g.row k) ≡ 1
    issue one = elim (cases_Bool (g.row k).reserved) [
      | inr free ↦ phase_free (g.row k) free
      | inl reserved ↦ absurd (no_issue g ((c + 1) * events g) k f 1 (event g.rows 1 k) refl (div-mul-add 1 g.rows k lk) (mod-mul-add 1 g.rows k lk) (omega (arith, lk)) reserved
          (subst (λ q. made (rules_of g) (events g) (c + 1) (event g.rows q k) ≡ Some f) one is))
    ]

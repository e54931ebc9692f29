-- What a row that has not issued waits for, as what is read of lists.
use Rattle.std.proofs.Common.{inl, inr, suc, ◌≡◌, ℕ, ◌+◌, ◌<◌, ◌≤◌, Bool, true, false, not, ◌&&◌, ◌||◌, List, [], ◌∷◌, refl, arith, nat_lt, nat_le, nat_eq}
use Rattle.std.specs.List.{list_all, list_any}
use Rattle.std.proofs.lemmas.Bool.{cases_Bool}
use Rattle.std.proofs.lemmas.Bool.Decides.{nat_tests}
use Rattle.rv_isa.specs.declared.facts.Kind.{Kind}
use Rattle.rv_isa.specs.declared.facts.Kind.TheVariants.{Plain, Load, Store, Barrier}
use Rattle.cycle_rules.specs.Row.{is_load, is_store, is_barrier}
use Rattle.cycle_rules.specs.Issue.{memory_order}
use Rattle.mem_queues.specs.Order.{MemRow, has_fence, may_go, kind_of, waits}
use Rattle.mem_queues.specs.Queues.{in_order, overtakes, keeps_order, done_by, waits_as}

pub and_both : (x y : Bool) → (x && y) ≡ true → (x ≡ true) × (y ≡ true)
and_both true y h = (refl, h)
and_both false y h = absurd (cc h)

pub not-true : (b : Bool) → not b ≡ true → b ≡ false
not-true true h = absurd (cc h)
not-true false h = refl

pub one-more : (k : ℕ) → 1 + k ≡ suc k
one-more k = omega arith

pub or-true : (b : Bool) → (b || true) ≡ true
or-true true = refl
or-true false = refl

pub or-false : (b : Bool) → (b || false) ≡ b
or-false true = refl
or-false false = refl

pub and-none : (b : Bool) → (b && false) ≡ false
and-none true = refl
and-none false = refl

pub and-true : (b : Bool) → (b && true) ≡ b
and-true true = refl
and-true false = refl

-- a row that passes stands below j
abbrev pub any_before : (MemRow → Bool) → ℕ → List MemRow → Bool
any_before p j rows = list_any (λ x. p x && nat_lt x.row j) rows

-- a load that has not issued stands below j, and a store or a barrier between the two
unfoldable pub fenced : ℕ → List MemRow → Bool
fenced j [] = false
fenced j (x ∷ rows) = ((waits_as is_load x && nat_lt x.row j) && has_fence j rows) || fenced j rows

-- from j on no row has issued but those of some kinds
abbrev pub late : (Kind → Bool) → ℕ → List MemRow → Bool
late may j rows = list_all (λ y. (nat_lt y.row j || not y.issued) || may y.kind) rows

abbrev pub no_kind : Kind → Bool
no_kind k = false

-- all of a kind below j have completed
abbrev pub is_past : (Kind → Bool) → ℕ → ℕ → List MemRow → Bool
is_past of_kind j c rows = not (any_before (waits_as of_kind) j rows) && done_by of_kind c rows

abbrev pub rule : Kind → Bool → ℕ → ℕ → List MemRow → Bool
rule Plain na j c rows = true
rule Load na j c rows = (is_past is_barrier j c rows && (na || is_past is_store j c rows)) && not (fenced j rows)
rule Store na j c rows = (is_past is_barrier j c rows && not (any_before (waits_as is_load) j rows)) && not (any_before (waits_as is_store) j rows)
rule Barrier na j c rows = (is_past is_barrier j c rows && is_past is_load j c rows) && is_past is_store j c rows

step-load : (kind : Kind) (i lt k f na b db s ds fs : Bool) → ((lt || not i) || is_load kind) ≡ true → ((not lt || memory_order Load kind (record { may_pass = na; fenced = f; issued = i; completed = i && k })) && (((not b && db) && (na || (not s && ds))) && not fs)) ≡ (((not (((is_barrier kind && not i) && lt) || b) && ((not (is_barrier kind && i) || k) && db)) && (na || (not (((is_store kind && not i) && lt) || s) && ((not (is_store kind && i) || k) && ds)))) && not ((((is_load kind && not i) && lt) && f) || fs))
unfolding memory_order is_load is_store is_barrier
step-load Plain true true k f na b db s ds fs h = refl
step-load Plain true false k f na b db s ds fs h = absurd (cc h)
step-load Plain false true k f na b db s ds fs h = refl
step-load Plain false false k f na b db s ds fs h = refl
step-load Load true true k true na b db s ds fs h = refl
step-load Load true true k false na b db s ds fs h = refl
step-load Load true false k f na b db s ds fs h = refl
step-load Load false true k true na true db s ds fs h = refl
step-load Load false true k true true false true s ds fs h = refl
step-load Load false true k true false false true true ds fs h = refl
step-load Load false true k true false false true false true fs h = refl
step-load Load false true k true false false true false false fs h = refl
step-load Load false true k true na false false s ds fs h = refl
step-load Load false true k false na b db s ds fs h = refl
step-load Load false false k f na b db s ds fs h = refl
step-load Store true true k f true b db s ds fs h = refl
step-load Store true true true f false b db s ds fs h = refl
step-load Store true true false f false true db s ds fs h = refl
step-load Store true true false f false false true true ds fs h = refl
step-load Store true true false f false false true false ds fs h = refl
step-load Store true true false f false false false s ds fs h = refl
step-load Store true false k f na b db s ds fs h = absurd (cc h)
step-load Store false true k f true b db s ds fs h = refl
step-load Store false true k f false true db s ds fs h = refl
step-load Store false true k f false false true s ds fs h = refl
step-load Store false true k f false false false s ds fs h = refl
step-load Store false false k f na b db s ds fs h = refl
step-load Barrier true true true f na b db s ds fs h = refl
step-load Barrier true true false f na true db s ds fs h = refl
step-load Barrier true true false f na false db s ds fs h = refl
step-load Barrier true false k f na b db s ds fs h = absurd (cc h)
step-load Barrier false true k f na b db s ds fs h = refl
step-load Barrier false false k f na b db s ds fs h = refl

step-store : (kind : Kind) (i lt k f na b db l s : Bool) → ((lt || not i) || is_load kind) ≡ true → ((not lt || memory_order Store kind (record { may_pass = na; fenced = f; issued = i; completed = i && k })) && (((not b && db) && not l) && not s)) ≡ (((not (((is_barrier kind && not i) && lt) || b) && ((not (is_barrier kind && i) || k) && db)) && not (((is_load kind && not i) && lt) || l)) && not (((is_store kind && not i) && lt) || s))
unfolding memory_order is_load is_store is_barrier
step-store Plain true true k f na b db l s h = refl
step-store Plain true false k f na b db l s h = absurd (cc h)
step-store Plain false true k f na b db l s h = refl
step-store Plain false false k f na b db l s h = refl
step-store Load true true k f na b db l s h = refl
step-store Load true false k f na b db l s h = refl
step-store Load false true k f na true db l s h = refl
step-store Load false true k f na false true l s h = refl
step-store Load false true k f na false false l s h = refl
step-store Load false false k f na b db l s h = refl
step-store Store true true k f na b db l s h = refl
step-store Store true false k f na b db l s h = absurd (cc h)
step-store Store false true k f na true db l s h = refl
step-store Store false true k f na false true true s h = refl
step-store Store false true k f na false true false s h = refl
step-store Store false true k f na false false l s h = refl
step-store Store false false k f na b db l s h = refl
step-store Barrier true true true f na b db l s h = refl
step-store Barrier true true false f na true db l s h = refl
step-store Barrier true true false f na false db l s h = refl
step-store Barrier true false k f na b db l s h = absurd (cc h)
step-store Barrier false true k f na b db l s h = refl
step-store Barrier false false k f na b db l s h = refl

step-barrier : (kind : Kind) (i lt k f na b db l dl s ds : Bool) → ((lt || not i) || false) ≡ true → ((not lt || memory_order Barrier kind (record { may_pass = na; fenced = f; issued = i; completed = i && k })) && (((not b && db) && (not l && dl)) && (not s && ds))) ≡ (((not (((is_barrier kind && not i) && lt) || b) && ((not (is_barrier kind && i) || k) && db)) && (not (((is_load kind && not i) && lt) || l) && ((not (is_load kind && i) || k) && dl))) && (not (((is_store kind && not i) && lt) || s) && ((not (is_store kind && i) || k) && ds)))
unfolding memory_order is_load is_store is_barrier
step-barrier Plain true true k f na b db l dl s ds h = refl
step-barrier Plain true false k f na b db l dl s ds h = absurd (cc h)
step-barrier Plain false true k f na b db l dl s ds h = refl
step-barrier Plain false false k f na b db l dl s ds h = refl
step-barrier Load true true true f na b db l dl s ds h = refl
step-barrier Load true true false f na true db l dl s ds h = refl
step-barrier Load true true false f na false true true dl s ds h = refl
step-barrier Load true true false f na false true false dl s ds h = refl
step-barrier Load true true false f na false false l dl s ds h = refl
step-barrier Load true false k f na b db l dl s ds h = absurd (cc h)
step-barrier Load false true k f na true db l dl s ds h = refl
step-barrier Load false true k f na false true l dl s ds h = refl
step-barrier Load false true k f na false false l dl s ds h = refl
step-barrier Load false false k f na b db l dl s ds h = refl
step-barrier Store true true true f na b db l dl s ds h = refl
step-barrier Store true true false f na true db l dl s ds h = refl
step-barrier Store true true false f na false true true dl s ds h = refl
step-barrier Store true true false f na false true false true true ds h = refl
step-barrier Store true true false f na false true false true false ds h = refl
step-barrier Store true true false f na false true false false s ds h = refl
step-barrier Store true true false f na false false l dl s ds h = refl
step-barrier Store true false k f na b db l dl s ds h = absurd (cc h)
step-barrier Store false true k f na true db l dl s ds h = refl
step-barrier Store false true k f na false true true dl s ds h = refl
step-barrier Store false true k f na false true false true s ds h = refl
step-barrier Store false true k f na false true false false s ds h = refl
step-barrier Store false true k f na false false l dl s ds h = refl
step-barrier Store false false k f na b db l dl s ds h = refl
step-barrier Barrier true true true f na b db l dl s ds h = refl
step-barrier Barrier true true false f na true db l dl s ds h = refl
step-barrier Barrier true true false f na false db l dl s ds h = refl
step-barrier Barrier true false k f na b db l dl s ds h = absurd (cc h)
step-barrier Barrier false true k f na b db l dl s ds h = refl
step-barrier Barrier false false k f na b db l dl s ds h = refl

pub go-load : (na : Bool) (j c : ℕ) (rows : List MemRow) → late is_load j rows ≡ true → may_go Load na j c rows ≡ rule Load na j c rows
unfolding fenced
go-load na j c [] h = rw (or-true na) refl
go-load na j c (x ∷ rows) h =
    let b = and_both ((nat_lt x.row j || not x.issued) || is_load x.kind) (late is_load j rows) h in
    rw (go-load na j c rows b.1) (step-load x.kind x.issued (nat_lt x.row j) (nat_le x.complete c) (has_fence j rows) na (any_before (waits_as is_barrier) j rows) (done_by is_barrier c rows) (any_before (waits_as is_store) j rows) (done_by is_store c rows) (fenced j rows) b.0)

pub go-store : (na : Bool) (j c : ℕ) (rows : List MemRow) → late is_load j rows ≡ true → may_go Store na j c rows ≡ rule Store na j c rows
go-store na j c [] h = refl
go-store na j c (x ∷ rows) h =
    let b = and_both ((nat_lt x.row j || not x.issued) || is_load x.kind) (late is_load j rows) h in
    rw (go-store na j c rows b.1) (step-store x.kind x.issued (nat_lt x.row j) (nat_le x.complete c) (has_fence j rows) na (any_before (waits_as is_barrier) j rows) (done_by is_barrier c rows) (any_before (waits_as is_load) j rows) (any_before (waits_as is_store) j rows) b.0)

pub go-barrier : (na : Bool) (j c : ℕ) (rows : List MemRow) → late no_kind j rows ≡ true → may_go Barrier na j c rows ≡ rule Barrier na j c rows
go-barrier na j c [] h = refl
go-barrier na j c (x ∷ rows) h =
    let b = and_both ((nat_lt x.row j || not x.issued) || false) (late no_kind j rows) h in
    rw (go-barrier na j c rows b.1) (step-barrier x.kind x.issued (nat_lt x.row j) (nat_le x.complete c) (has_fence j rows) na (any_before (waits_as is_barrier) j rows) (done_by is_barrier c rows) (any_before (waits_as is_load) j rows) (done_by is_load c rows) (any_before (waits_as is_store) j rows) (done_by is_store c rows) b.0)

-- rows above a number
abbrev pub are_above : ℕ → List MemRow → Bool
are_above a rows = list_all (λ y. nat_lt a y.row) rows

pub waits-none : (a j : ℕ) (rows : List MemRow) → are_above a rows ≡ true → j ≤ a → waits j rows ≡ false
waits-none a j [] h l = refl
waits-none a j (x ∷ rows) h l =
    let b = and_both (nat_lt a x.row) (are_above a rows) h in
    let n : nat_eq x.row j ≡ false = grind (arith, nat_tests, b.0) in
    rw n (waits-none a j rows b.1 l)

pub waits-above : (a j : ℕ) (rows : List MemRow) → are_above a rows ≡ true → waits j rows ≡ true → a < j
waits-above a j [] h w = absurd (cc w)
waits-above a j (x ∷ rows) h w =
    let b = and_both (nat_lt a x.row) (are_above a rows) h in
    elim (cases_Bool (nat_eq x.row j)) [
      | inl q ↦ grind (arith, nat_tests, b.0)
      | inr n ↦ waits-above a j rows b.1 (rw n at w)
    ]

late-all : (na : Bool) (j : ℕ) (k : Kind) (may : Kind → Bool) (rows : List MemRow) → ((y : Kind) → overtakes na y k ≡ true → may y ≡ true) → list_all (λ (y : MemRow). not y.issued || overtakes na y.kind k) rows ≡ true → late may j rows ≡ true
late-all na j k may [] m h = refl
late-all na j k may (x ∷ rows) m h =
    let b = and_both (not x.issued || overtakes na x.kind k) (list_all (λ (y : MemRow). not y.issued || overtakes na y.kind k) rows) h in
    let r = late-all na j k may rows m b.1 in
    elim (cases_Bool x.issued) [
      | inl i ↦ let o = rw i at b.0 in rw (m x.kind o, or-true (nat_lt x.row j || not x.issued)) r
      | inr i ↦ rw (i, or-true (nat_lt x.row j)) r
    ]

-- what the order that is kept says of the rows from one that waits on
pub late-known : (na : Bool) (j : ℕ) (may : Kind → Bool) (rows : List MemRow) → in_order rows ≡ true → keeps_order na rows ≡ true → waits j rows ≡ true → ((y : Kind) → overtakes na y (kind_of j rows) ≡ true → may y ≡ true) → late may j rows ≡ true
late-known na j may [] o k w m = refl
late-known na j may (x ∷ rows) o k w m =
    let ob = and_both (are_above x.row rows) (in_order rows) o in
    let kb = and_both (x.issued || list_all (λ (y : MemRow). not y.issued || overtakes na y.kind x.kind) rows) (keeps_order na rows) k in
    elim (cases_Bool (nat_eq x.row j)) [
      | inl q ↦
          let e : x.row ≡ j = grind (arith, nat_tests) in
          let none = waits-none x.row j rows ob.0 (omega arith) in
          let i = not-true x.issued (rw (q, none, or-false (not x.issued)) at w) in
          let all = rw i at kb.0 in
          let r = late-all na j x.kind may rows (λ y h. m y (rw q h)) all in
          rw (i, or-true (nat_lt x.row j)) r
      | inr n ↦
          let later = rw n at w in
          let l : nat_lt x.row j ≡ true = let a = waits-above x.row j rows ob.0 later in grind (arith, nat_tests) in
          rw l (late-known na j may rows ob.1 kb.1 later (λ y h. m y (rw n h)))
    ]

pub go-plain : (na : Bool) (j c : ℕ) (rows : List MemRow) → may_go Plain na j c rows ≡ true
unfolding memory_order
go-plain na j c [] = refl
go-plain na j c (x ∷ rows) = rw (or-true (not (nat_lt x.row j)), go-plain na j c rows) refl

load-over : (na : Bool) (k y : Kind) → overtakes na y k ≡ true → is_load y ≡ true
unfolding is_load
load-over na k Load h = refl
load-over na k Plain h = absurd (cc h)
load-over na k Store h = absurd (cc h)
load-over na k Barrier h = absurd (cc h)

none-over : (na : Bool) (y : Kind) → overtakes na y Barrier ≡ true → no_kind y ≡ true
none-over na Load h = absurd (cc h)
none-over na Plain h = absurd (cc h)
none-over na Store h = absurd (cc h)
none-over na Barrier h = absurd (cc h)

-- the test of a row that waits is the rule of its kind
pub go-by : (na : Bool) (j c : ℕ) (rows : List MemRow) (k : Kind) → in_order rows ≡ true → keeps_order na rows ≡ true → waits j rows ≡ true → kind_of j rows ≡ k → may_go k na j c rows ≡ rule k na j c rows
go-by na j c rows Plain o kept w e = go-plain na j c rows
go-by na j c rows Load o kept w e = go-load na j c rows (late-known na j is_load rows o kept w (λ y h. load-over na (kind_of j rows) y h))
go-by na j c rows Store o kept w e = go-store na j c rows (late-known na j is_load rows o kept w (λ y h. load-over na (kind_of j rows) y h))
go-by na j c rows Barrier o kept w e = go-barrier na j c rows (late-known na j no_kind rows o kept w (λ y h. none-over na y (rw e at h)))

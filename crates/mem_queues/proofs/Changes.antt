-- The queues after a row has entered, issued or retired.
use Rattle.std.proofs.Common.{inl, inr, suc, ◌≡◌, ℕ, ◌+◌, ◌-◌, ◌<◌, ◌≤◌, Bool, true, false, not, ◌&&◌, ◌||◌, List, [], ◌∷◌, ◌++◌, Option, length, drop, refl, ap, sym, ◌∙◌, cond, arith, is_some, nat_lt, nat_le, nat_eq}
use Rattle.std.specs.List.{list_all, slice_get, remove}
use Rattle.std.proofs.lemmas.List.{length-map, length_push}
use Rattle.std.proofs.lemmas.List.Sums.{sum_by_push, sum_by-cons}
use Rattle.std.proofs.lemmas.Bool.{cases_Bool}
use Rattle.std.proofs.lemmas.Bool.Decides.{nat_tests}
use Rattle.machine_model.specs.declared.limits.Limits.{Limits}
use Rattle.rv_isa.specs.declared.facts.Kind.{Kind}
use Rattle.rv_isa.specs.declared.facts.Kind.TheVariants.{Plain, Load, Store, Barrier}
use Rattle.node_pool.specs.Pool.{Pool, before_value, list_of, with_list}
use Rattle.node_pool.specs.declared.node.Node.{Node}
use Rattle.cycle_rules.specs.Row.{is_load, is_store, is_barrier}
use Rattle.mem_queues.specs.Order.{MemRow, is_plain, moved, with_issue, are_below, may_go, kind_of, waits, retires_as}
use Rattle.mem_queues.specs.Queues.{in_order, overtakes, keeps_order, done_by, waits_as, is_kind, nodes_of, lists_of, AreListed, AreKept, IsDone}
use Rattle.mem_queues.specs.Firsts.{starts_at}
use Rattle.mem_queues.proofs.Going.{and_both, and-true, or-true, are_above, not-true, one-more}
use Rattle.mem_queues.proofs.Rows.{IsChanged, changed, node_at, nodes-in, nodes-out, order-more, keeps-more, kinds-more, done-more, lists-few, order-moved, kinds-moved, count-moved, done-issue, wait-remove, wait-other, held-same, lists-issue, keeps-issue, drop-first, at-first, here-waits}

less-suc : (a b : ℕ) → nat_lt (suc a) (suc b) ≡ nat_lt a b
less-suc a b = grind (arith, nat_tests)

less-zero : (n : ℕ) → nat_lt 0 (suc n) ≡ true
less-zero n = grind (arith, nat_tests)

is-some-first : (j : ℕ) (xs : List Node) → starts_at j xs ≡ true → is_some (slice_get xs 0) ≡ true
is-some-first j [] s = absurd (cc s)
is-some-first j (x ∷ xs) s = refl

-- the first node of a list is taken out
pub popped : (pool after : Pool) (l j : ℕ) (r : Option Node) → l < length pool.lists → starts_at j (list_of pool l) ≡ true → r ≡ slice_get (list_of pool l) 0 → after ≡ cond (is_some r) (with_list pool l (drop 1 (list_of pool l)) (pool.spare + 1)) pool → IsChanged pool after l (drop 1 (list_of pool l)) (pool.spare + 1)
popped pool after l j r h s e a =
    let t : is_some r ≡ true = rw e (is-some-first j (list_of pool l) s) in
    changed pool after l (drop 1 (list_of pool l)) (pool.spare + 1) h (rw t at a)

-- the list of a row that issues, where it is the first
pub wait-pop : (p : Kind → Bool) (pool after : Pool) (l j w : ℕ) (rows : List MemRow) → in_order rows ≡ true → waits j rows ≡ true → list_of pool l ≡ nodes_of (waits_as p) rows → starts_at j (nodes_of (waits_as p) rows) ≡ true → IsChanged pool after l (drop 1 (list_of pool l)) (pool.spare + 1) → IsChanged pool after l (nodes_of (waits_as p) (with_issue j w rows)) (pool.spare + 1)
wait-pop p pool after l j w rows o wt e s ch = record {
  lists = ch.lists;
  here = ch.here ∙ rw e (drop-first (waits_as p) j rows s ∙ wait-remove p j w rows o wt);
  others = ch.others;
  spare_is = ch.spare_is;
}

before-known : (p : Kind → Bool) (j : ℕ) (rows : List MemRow) → in_order rows ≡ true → waits j rows ≡ true → p (kind_of j rows) ≡ true → nat_lt (before_value j (nodes_of (waits_as p) rows)) (length (nodes_of (waits_as p) rows)) ≡ true
before-known p j [] o wt k = absurd (cc wt)
before-known p j (x ∷ rows) o wt k =
    let ob = and_both (are_above x.row rows) (in_order rows) o in
    elim (cases_Bool (nat_eq x.row j)) [
      | inl q ↦
          let i = here-waits j x rows ob.0 q wt in
          let t : waits_as p x ≡ true = rw (rw q at k, i) refl in
          rw (t, q, less-zero (length (nodes_of (waits_as p) rows))) refl
      | inr n ↦
          let r = before-known p j rows ob.1 (rw n at wt) (rw n at k) in
          elim (cases_Bool (waits_as p x)) [
            | inl t ↦ rw (t, n, one-more, less-suc (before_value j (nodes_of (waits_as p) rows)) (length (nodes_of (waits_as p) rows))) r
            | inr f ↦ rw f r
          ]
    ]

-- the list of a load that issues
pub taken : (pool after : Pool) (l j w : ℕ) (found : Bool) (rows : List MemRow) → l < length pool.lists → in_order rows ≡ true → waits j rows ≡ true → is_load (kind_of j rows) ≡ true → list_of pool l ≡ nodes_of (waits_as is_load) rows → found ≡ nat_lt (before_value j (list_of pool l)) (length (list_of pool l)) → after ≡ cond found (with_list pool l (remove (list_of pool l) (before_value j (list_of pool l))) (pool.spare + 1)) pool → IsChanged pool after l (nodes_of (waits_as is_load) (with_issue j w rows)) (pool.spare + 1)
taken pool after l j w found rows h o wt k e is a =
    let t : found ≡ true = is ∙ rw e (before-known is_load j rows o wt k) in
    let ch = changed pool after l (remove (list_of pool l) (before_value j (list_of pool l))) (pool.spare + 1) h (rw t at a) in
    record {
      lists = ch.lists;
      here = ch.here ∙ rw e (wait-remove is_load j w rows o wt);
      others = ch.others;
      spare_is = ch.spare_is;
    }

barrier-only : (k : Kind) → is_barrier k ≡ true → (is_load k ≡ false) × (is_store k ≡ false)
unfolding is_load is_store is_barrier
barrier-only Barrier h = (refl, refl)
barrier-only Plain h = absurd (cc h)
barrier-only Load h = absurd (cc h)
barrier-only Store h = absurd (cc h)

store-only : (k : Kind) → is_store k ≡ true → (is_load k ≡ false) × (is_barrier k ≡ false)
unfolding is_load is_store is_barrier
store-only Store h = (refl, refl)
store-only Plain h = absurd (cc h)
store-only Load h = absurd (cc h)
store-only Barrier h = absurd (cc h)

load-only : (k : Kind) → is_load k ≡ true → (is_store k ≡ false) × (is_barrier k ≡ false)
unfolding is_load is_store is_barrier
load-only Load h = (refl, refl)
load-only Plain h = absurd (cc h)
load-only Store h = absurd (cc h)
load-only Barrier h = absurd (cc h)

done-own : (p : Kind → Bool) (d r w since j : ℕ) (rows : List MemRow) → in_order rows ≡ true → waits j rows ≡ true → p (kind_of j rows) ≡ true → IsDone p d since rows → ((c : ℕ) → nat_le r c ≡ (nat_le d c && nat_le w c)) → IsDone p r since (with_issue j w rows)
done-own p d r w since j rows o wt k done last = λ c h. last c ∙ rw (done c h, done-issue p j w c rows o wt, k) refl

done-other : (p : Kind → Bool) (d w since j : ℕ) (rows : List MemRow) → in_order rows ≡ true → waits j rows ≡ true → p (kind_of j rows) ≡ false → IsDone p d since rows → IsDone p d since (with_issue j w rows)
done-other p d w since j rows o wt k done = λ c h. done c h ∙ sym (rw (done-issue p j w c rows o wt, k) (and-true (done_by p c rows)))

-- the queues after a row has issued
issued-kept : (limits kept : Limits) (loads stores ld sd bd : ℕ) (pool : Pool) (since : ℕ) (rows : List MemRow) (after : Pool) (ld2 sd2 bd2 j w c : ℕ) → AreKept limits kept loads stores ld sd bd pool since rows → waits j rows ≡ true → may_go (kind_of j rows) limits.no_alias j c rows ≡ true → AreListed after (with_issue j w rows) → after.spare ≡ pool.spare + 1 → IsDone is_load ld2 since (with_issue j w rows) → IsDone is_store sd2 since (with_issue j w rows) → IsDone is_barrier bd2 since (with_issue j w rows) → AreKept limits kept loads stores ld2 sd2 bd2 after since (with_issue j w rows)
issued-kept limits kept loads stores ld sd bd pool since rows after ld2 sd2 bd2 j w c are wt go listed spare dl ds db = record {
  limits_are = are.limits_are;
  loads_are = are.loads_are ∙ sym (count-moved is_load j w rows);
  stores_are = are.stores_are ∙ sym (count-moved is_store j w rows);
  order = order-moved j w rows ∙ are.order;
  kinds = kinds-moved j w rows ∙ are.kinds;
  issue = keeps-issue limits.no_alias j w c rows (kind_of j rows) refl are.order are.kinds wt are.issue go;
  fit = let l = length-map rows (moved j w) in let f = are.fit in omega arith;
  listed = listed;
  nodes = let n = are.nodes in let l = lists-issue j w rows are.order wt in omega arith;
  loads_done = dl;
  stores_done = ds;
  barriers_done = db;
}

pub issued-barrier : (limits kept : Limits) (loads stores ld sd bd : ℕ) (pool : Pool) (since : ℕ) (rows : List MemRow) (after : Pool) (r j w c : ℕ) → AreKept limits kept loads stores ld sd bd pool since rows → waits j rows ≡ true → may_go (kind_of j rows) limits.no_alias j c rows ≡ true → is_barrier (kind_of j rows) ≡ true → IsChanged pool after 2 (nodes_of (waits_as is_barrier) (with_issue j w rows)) (pool.spare + 1) → ((x : ℕ) → nat_le r x ≡ (nat_le bd x && nat_le w x)) → AreKept limits kept loads stores ld sd r after since (with_issue j w rows)
issued-barrier limits kept loads stores ld sd bd pool since rows after r j w c are wt go k ch last =
    let o = barrier-only (kind_of j rows) k in
    let listed : AreListed after (with_issue j w rows) = record {
      lists = ch.lists ∙ are.listed.lists;
      waiting_loads = ch.others 0 (λ z. absurd (omega arith)) ∙ are.listed.waiting_loads ∙ sym (wait-other is_load j w rows are.order wt o.0);
      waiting_stores = ch.others 1 (λ z. absurd (omega arith)) ∙ are.listed.waiting_stores ∙ sym (wait-other is_store j w rows are.order wt o.1);
      waiting_barriers = ch.here;
      loads = ch.others 3 (λ z. absurd (omega arith)) ∙ are.listed.loads ∙ sym (held-same is_load j w rows);
      stores = ch.others 4 (λ z. absurd (omega arith)) ∙ are.listed.stores ∙ sym (held-same is_store j w rows);
    } in
    issued-kept limits kept loads stores ld sd bd pool since rows after ld sd r j w c are wt go listed ch.spare_is (done-other is_load ld w since j rows are.order wt o.0 are.loads_done) (done-other is_store sd w since j rows are.order wt o.1 are.stores_done) (done-own is_barrier bd r w since j rows are.order wt k are.barriers_done last)

pub issued-store : (limits kept : Limits) (loads stores ld sd bd : ℕ) (pool : Pool) (since : ℕ) (rows : List MemRow) (after : Pool) (r j w c : ℕ) → AreKept limits kept loads stores ld sd bd pool since rows → waits j rows ≡ true → may_go (kind_of j rows) limits.no_alias j c rows ≡ true → is_store (kind_of j rows) ≡ true → IsChanged pool after 1 (nodes_of (waits_as is_store) (with_issue j w rows)) (pool.spare + 1) → ((x : ℕ) → nat_le r x ≡ (nat_le sd x && nat_le w x)) → AreKept limits kept loads stores ld r bd after since (with_issue j w rows)
issued-store limits kept loads stores ld sd bd pool since rows after r j w c are wt go k ch last =
    let o = store-only (kind_of j rows) k in
    let listed : AreListed after (with_issue j w rows) = record {
      lists = ch.lists ∙ are.listed.lists;
      waiting_loads = ch.others 0 (λ z. absurd (omega arith)) ∙ are.listed.waiting_loads ∙ sym (wait-other is_load j w rows are.order wt o.0);
      waiting_stores = ch.here;
      waiting_barriers = ch.others 2 (λ z. absurd (omega arith)) ∙ are.listed.waiting_barriers ∙ sym (wait-other is_barrier j w rows are.order wt o.1);
      loads = ch.others 3 (λ z. absurd (omega arith)) ∙ are.listed.loads ∙ sym (held-same is_load j w rows);
      stores = ch.others 4 (λ z. absurd (omega arith)) ∙ are.listed.stores ∙ sym (held-same is_store j w rows);
    } in
    issued-kept limits kept loads stores ld sd bd pool since rows after ld r bd j w c are wt go listed ch.spare_is (done-other is_load ld w since j rows are.order wt o.0 are.loads_done) (done-own is_store sd r w since j rows are.order wt k are.stores_done last) (done-other is_barrier bd w since j rows are.order wt o.1 are.barriers_done)

pub issued-load : (limits kept : Limits) (loads stores ld sd bd : ℕ) (pool : Pool) (since : ℕ) (rows : List MemRow) (after : Pool) (r j w c : ℕ) → AreKept limits kept loads stores ld sd bd pool since rows → waits j rows ≡ true → may_go (kind_of j rows) limits.no_alias j c rows ≡ true → is_load (kind_of j rows) ≡ true → IsChanged pool after 0 (nodes_of (waits_as is_load) (with_issue j w rows)) (pool.spare + 1) → ((x : ℕ) → nat_le r x ≡ (nat_le ld x && nat_le w x)) → AreKept limits kept loads stores r sd bd after since (with_issue j w rows)
issued-load limits kept loads stores ld sd bd pool since rows after r j w c are wt go k ch last =
    let o = load-only (kind_of j rows) k in
    let listed : AreListed after (with_issue j w rows) = record {
      lists = ch.lists ∙ are.listed.lists;
      waiting_loads = ch.here;
      waiting_stores = ch.others 1 (λ z. absurd (omega arith)) ∙ are.listed.waiting_stores ∙ sym (wait-other is_store j w rows are.order wt o.0);
      waiting_barriers = ch.others 2 (λ z. absurd (omega arith)) ∙ are.listed.waiting_barriers ∙ sym (wait-other is_barrier j w rows are.order wt o.1);
      loads = ch.others 3 (λ z. absurd (omega arith)) ∙ are.listed.loads ∙ sym (held-same is_load j w rows);
      stores = ch.others 4 (λ z. absurd (omega arith)) ∙ are.listed.stores ∙ sym (held-same is_store j w rows);
    } in
    issued-kept limits kept loads stores ld sd bd pool since rows after r sd bd j w c are wt go listed ch.spare_is (done-own is_load ld r w since j rows are.order wt k are.loads_done last) (done-other is_store sd w since j rows are.order wt o.0 are.stores_done) (done-other is_barrier bd w since j rows are.order wt o.1 are.barriers_done)

-- a node is spare for each list in which one more row can stand
pub spare-two : (limits kept : Limits) (loads stores ld sd bd : ℕ) (pool : Pool) (since : ℕ) (rows : List MemRow) → AreKept limits kept loads stores ld sd bd pool since rows → length rows < limits.reorder → 2 ≤ pool.spare
spare-two limits kept loads stores ld sd bd pool since rows are few = let n = are.nodes in let l = lists-few rows in omega arith

abbrev pub new_row : ℕ → Kind → MemRow
new_row row kind = record { row = row; kind = kind; issued = false; complete = 0 }

-- the queues after a row has entered
entered-kept : (limits kept : Limits) (loads stores ld sd bd : ℕ) (pool : Pool) (since : ℕ) (rows : List MemRow) (after : Pool) (loads2 stores2 row : ℕ) (kind : Kind) → AreKept limits kept loads stores ld sd bd pool since rows → is_plain kind ≡ false → length rows < limits.reorder → are_below row rows ≡ true → AreListed after (rows ++ new_row row kind ∷ []) → after.spare + lists_of (new_row row kind) ≡ pool.spare → loads2 ≡ loads + cond (is_load kind) 1 0 → stores2 ≡ stores + cond (is_store kind) 1 0 → AreKept limits kept loads2 stores2 ld sd bd after since (rows ++ new_row row kind ∷ [])
entered-kept limits kept loads stores ld sd bd pool since rows after loads2 stores2 row kind are real few below listed spare nl ns =
    let x = new_row row kind in
    record {
      limits_are = are.limits_are;
      loads_are = let a = are.loads_are in let q = sum_by_push (λ (y : MemRow). cond (is_load y.kind) 1 0) rows x in omega arith;
      stores_are = let a = are.stores_are in let q = sum_by_push (λ (y : MemRow). cond (is_store y.kind) 1 0) rows x in omega arith;
      order = order-more rows x are.order below;
      kinds = kinds-more rows x real are.kinds;
      issue = keeps-more limits.no_alias rows x refl ∙ are.issue;
      fit = let l = length_push rows x in omega arith;
      listed = listed;
      nodes = let n = are.nodes in let q = sum_by_push lists_of rows x in omega arith;
      loads_done = done-more is_load ld since rows x refl are.loads_done;
      stores_done = done-more is_store sd since rows x refl are.stores_done;
      barriers_done = done-more is_barrier bd since rows x refl are.barriers_done;
    }

pub entered-load : (limits kept : Limits) (loads stores ld sd bd : ℕ) (pool : Pool) (since : ℕ) (rows : List MemRow) (mid after : Pool) (row : ℕ) → AreKept limits kept loads stores ld sd bd pool since rows → length rows < limits.reorder → are_below row rows ≡ true → mid ≡ with_list pool 0 (list_of pool 0 ++ node_at row ∷ []) (pool.spare - 1) → after ≡ with_list mid 3 (list_of mid 3 ++ node_at row ∷ []) (mid.spare - 1) → AreKept limits kept (loads + 1) stores ld sd bd after since (rows ++ new_row row Load ∷ [])
unfolding is_load is_store is_barrier
entered-load limits kept loads stores ld sd bd pool since rows mid after row are few below e f =
    let x = new_row row Load in
    let n = are.listed.lists in
    let two = spare-two limits kept loads stores ld sd bd pool since rows are few in
    let a = changed pool mid 0 (list_of pool 0 ++ node_at row ∷ []) (pool.spare - 1) (omega arith) e in
    let m = a.lists in
    let b = changed mid after 3 (list_of mid 3 ++ node_at row ∷ []) (mid.spare - 1) (omega arith) f in
    let listed : AreListed after (rows ++ x ∷ []) = record {
      lists = b.lists ∙ a.lists ∙ n;
      waiting_loads = b.others 0 (λ z. absurd (omega arith)) ∙ a.here ∙ rw are.listed.waiting_loads (sym (nodes-in (waits_as is_load) rows x refl));
      waiting_stores = b.others 1 (λ z. absurd (omega arith)) ∙ a.others 1 (λ z. absurd (omega arith)) ∙ are.listed.waiting_stores ∙ sym (nodes-out (waits_as is_store) rows x refl);
      waiting_barriers = b.others 2 (λ z. absurd (omega arith)) ∙ a.others 2 (λ z. absurd (omega arith)) ∙ are.listed.waiting_barriers ∙ sym (nodes-out (waits_as is_barrier) rows x refl);
      loads = b.here ∙ rw (a.others 3 (λ z. absurd (omega arith)), are.listed.loads) (sym (nodes-in (is_kind is_load) rows x refl));
      stores = b.others 4 (λ z. absurd (omega arith)) ∙ a.others 4 (λ z. absurd (omega arith)) ∙ are.listed.stores ∙ sym (nodes-out (is_kind is_store) rows x refl);
    } in
    entered-kept limits kept loads stores ld sd bd pool since rows after (loads + 1) stores row Load are refl few below listed (let s = a.spare_is in let t = b.spare_is in omega arith) (omega arith) (omega arith)

pub entered-store : (limits kept : Limits) (loads stores ld sd bd : ℕ) (pool : Pool) (since : ℕ) (rows : List MemRow) (mid after : Pool) (row : ℕ) → AreKept limits kept loads stores ld sd bd pool since rows → length rows < limits.reorder → are_below row rows ≡ true → mid ≡ with_list pool 1 (list_of pool 1 ++ node_at row ∷ []) (pool.spare - 1) → after ≡ with_list mid 4 (list_of mid 4 ++ node_at row ∷ []) (mid.spare - 1) → AreKept limits kept loads (stores + 1) ld sd bd after since (rows ++ new_row row Store ∷ [])
unfolding is_load is_store is_barrier
entered-store limits kept loads stores ld sd bd pool since rows mid after row are few below e f =
    let x = new_row row Store in
    let n = are.listed.lists in
    let two = spare-two limits kept loads stores ld sd bd pool since rows are few in
    let a = changed pool mid 1 (list_of pool 1 ++ node_at row ∷ []) (pool.spare - 1) (omega arith) e in
    let m = a.lists in
    let b = changed mid after 4 (list_of mid 4 ++ node_at row ∷ []) (mid.spare - 1) (omega arith) f in
    let listed : AreListed after (rows ++ x ∷ []) = record {
      lists = b.lists ∙ a.lists ∙ n;
      waiting_loads = b.others 0 (λ z. absurd (omega arith)) ∙ a.others 0 (λ z. absurd (omega arith)) ∙ are.listed.waiting_loads ∙ sym (nodes-out (waits_as is_load) rows x refl);
      waiting_stores = b.others 1 (λ z. absurd (omega arith)) ∙ a.here ∙ rw are.listed.waiting_stores (sym (nodes-in (waits_as is_store) rows x refl));
      waiting_barriers = b.others 2 (λ z. absurd (omega arith)) ∙ a.others 2 (λ z. absurd (omega arith)) ∙ are.listed.waiting_barriers ∙ sym (nodes-out (waits_as is_barrier) rows x refl);
      loads = b.others 3 (λ z. absurd (omega arith)) ∙ a.others 3 (λ z. absurd (omega arith)) ∙ are.listed.loads ∙ sym (nodes-out (is_kind is_load) rows x refl);
      stores = b.here ∙ rw (a.others 4 (λ z. absurd (omega arith)), are.listed.stores) (sym (nodes-in (is_kind is_store) rows x refl));
    } in
    entered-kept limits kept loads stores ld sd bd pool since rows after loads (stores + 1) row Store are refl few below listed (let s = a.spare_is in let t = b.spare_is in omega arith) (omega arith) (omega arith)

pub entered-barrier : (limits kept : Limits) (loads stores ld sd bd : ℕ) (pool : Pool) (since : ℕ) (rows : List MemRow) (after : Pool) (row : ℕ) → AreKept limits kept loads stores ld sd bd pool since rows → length rows < limits.reorder → are_below row rows ≡ true → after ≡ with_list pool 2 (list_of pool 2 ++ node_at row ∷ []) (pool.spare - 1) → AreKept limits kept loads stores ld sd bd after since (rows ++ new_row row Barrier ∷ [])
unfolding is_load is_store is_barrier
entered-barrier limits kept loads stores ld sd bd pool since rows after row are few below e =
    let x = new_row row Barrier in
    let n = are.listed.lists in
    let two = spare-two limits kept loads stores ld sd bd pool since rows are few in
    let a = changed pool after 2 (list_of pool 2 ++ node_at row ∷ []) (pool.spare - 1) (omega arith) e in
    let listed : AreListed after (rows ++ x ∷ []) = record {
      lists = a.lists ∙ n;
      waiting_loads = a.others 0 (λ z. absurd (omega arith)) ∙ are.listed.waiting_loads ∙ sym (nodes-out (waits_as is_load) rows x refl);
      waiting_stores = a.others 1 (λ z. absurd (omega arith)) ∙ are.listed.waiting_stores ∙ sym (nodes-out (waits_as is_store) rows x refl);
      waiting_barriers = a.here ∙ rw are.listed.waiting_barriers (sym (nodes-in (waits_as is_barrier) rows x refl));
      loads = a.others 3 (λ z. absurd (omega arith)) ∙ are.listed.loads ∙ sym (nodes-out (is_kind is_load) rows x refl);
      stores = a.others 4 (λ z. absurd (omega arith)) ∙ are.listed.stores ∙ sym (nodes-out (is_kind is_store) rows x refl);
    } in
    entered-kept limits kept loads stores ld sd bd pool since rows after loads stores row Barrier are refl few below listed (let s = a.spare_is in omega arith) (omega arith) (omega arith)

done-retired : (p : Kind → Bool) (d since c : ℕ) (x : MemRow) (rows : List MemRow) → since ≤ c → x.complete < c → IsDone p d since (x ∷ rows) → IsDone p d c rows
done-retired p d since c x rows h l done = λ y m.
    let e : nat_le x.complete y ≡ true = grind (arith, nat_tests) in
    done y (omega arith) ∙ rw (e, or-true (not (p x.kind && x.issued))) refl

-- the oldest row is one that retires
pub record IsOldest (row c : ℕ) (x : MemRow) : Type 0 where
  pub row_is : x.row ≡ row
  pub issued : x.issued ≡ true
  pub done : x.complete < c

oldest : (row c : ℕ) (x : MemRow) (rows : List MemRow) → retires_as row c (x ∷ rows) ≡ true → IsOldest row c x
oldest row c x rows h =
    let a = and_both (nat_eq x.row row) (x.issued && nat_lt x.complete c) h in
    let b = and_both x.issued (nat_lt x.complete c) a.1 in
    record {
      row_is = grind (arith, nat_tests, a.0);
      issued = b.0;
      done = grind (arith, nat_tests, b.1);
    }

wait-skip : (p : Kind → Bool) (x : MemRow) (rows : List MemRow) → x.issued ≡ true → nodes_of (waits_as p) (x ∷ rows) ≡ nodes_of (waits_as p) rows
wait-skip p x rows i = elim (cases_Bool (p x.kind)) [ inl t ↦ rw (i, t) refl | inr f ↦ rw f refl ]

held-skip : (p : Kind → Bool) (x : MemRow) (rows : List MemRow) → p x.kind ≡ false → nodes_of (is_kind p) (x ∷ rows) ≡ nodes_of (is_kind p) rows
held-skip p x rows f = rw f refl

held-drop : (p : Kind → Bool) (x : MemRow) (rows : List MemRow) → p x.kind ≡ true → drop 1 (nodes_of (is_kind p) (x ∷ rows)) ≡ nodes_of (is_kind p) rows
held-drop p x rows t = rw t refl

-- the queues after the oldest row has retired
retired-kept : (limits kept : Limits) (loads stores ld sd bd : ℕ) (pool : Pool) (since : ℕ) (x : MemRow) (rows : List MemRow) (after : Pool) (loads2 stores2 row c : ℕ) → AreKept limits kept loads stores ld sd bd pool since (x ∷ rows) → since ≤ c → IsOldest row c x → AreListed after rows → after.spare ≡ pool.spare + lists_of x → loads2 + cond (is_load x.kind) 1 0 ≡ loads → stores2 + cond (is_store x.kind) 1 0 ≡ stores → AreKept limits kept loads2 stores2 ld sd bd after c rows
retired-kept limits kept loads stores ld sd bd pool since x rows after loads2 stores2 row c are h old listed spare nl ns =
    let o = and_both (are_above x.row rows) (in_order rows) are.order in
    let r = and_both (not (is_plain x.kind)) (list_all (λ (y : MemRow). not (is_plain y.kind)) rows) are.kinds in
    let k = and_both (x.issued || list_all (λ (y : MemRow). not y.issued || overtakes limits.no_alias y.kind x.kind) rows) (keeps_order limits.no_alias rows) are.issue in
    record {
      limits_are = are.limits_are;
      loads_are = let a = are.loads_are in let q = sum_by-cons (λ (y : MemRow). cond (is_load y.kind) 1 0) x rows in omega arith;
      stores_are = let a = are.stores_are in let q = sum_by-cons (λ (y : MemRow). cond (is_store y.kind) 1 0) x rows in omega arith;
      order = o.1;
      kinds = r.1;
      issue = k.1;
      fit = let f = are.fit in omega arith;
      listed = listed;
      nodes = let n = are.nodes in let q = sum_by-cons lists_of x rows in omega arith;
      loads_done = done-retired is_load ld since c x rows h old.done are.loads_done;
      stores_done = done-retired is_store sd since c x rows h old.done are.stores_done;
      barriers_done = done-retired is_barrier bd since c x rows h old.done are.barriers_done;
    }

-- which list the oldest row is the first of
first-is : (p : Kind → Bool) (row c : ℕ) (x : MemRow) (rows : List MemRow) (list : List Node) (b : Bool) → in_order (x ∷ rows) ≡ true → IsOldest row c x → list ≡ nodes_of (is_kind p) (x ∷ rows) → starts_at row list ≡ b → p x.kind ≡ b
first-is p row c x rows list b o old e s = sym (at-first (is_kind p) x rows o) ∙ (ap (λ r. starts_at r (nodes_of (is_kind p) (x ∷ rows))) old.row_is ∙ rw e at s)

barrier-left : (k : Kind) → is_plain k ≡ false → is_load k ≡ false → is_store k ≡ false → is_barrier k ≡ true
unfolding is_load is_store is_barrier
barrier-left Barrier p l s = refl
barrier-left Plain p l s = absurd (cc p)
barrier-left Load p l s = absurd (cc l)
barrier-left Store p l s = absurd (cc s)

pub retired-load : (limits kept : Limits) (loads stores ld sd bd : ℕ) (pool : Pool) (since : ℕ) (rows : List MemRow) (after : Pool) (row c : ℕ) → AreKept limits kept loads stores ld sd bd pool since rows → since ≤ c → retires_as row c rows ≡ true → starts_at row (list_of pool 3) ≡ true → IsChanged pool after 3 (drop 1 (list_of pool 3)) (pool.spare + 1) → (1 ≤ loads) × AreKept limits kept (loads - 1) stores ld sd bd after c (drop 1 rows)
retired-load limits kept loads stores ld sd bd pool since [] after row c are h r s ch = absurd (cc r)
retired-load limits kept loads stores ld sd bd pool since (x ∷ rows) after row c are h r s ch =
    let old = oldest row c x rows r in
    let t = first-is is_load row c x rows (list_of pool 3) true are.order old are.listed.loads s in
    let o = load-only x.kind t in
    let listed : AreListed after rows = record {
      lists = ch.lists ∙ are.listed.lists;
      waiting_loads = ch.others 0 (λ z. absurd (omega arith)) ∙ are.listed.waiting_loads ∙ wait-skip is_load x rows old.issued;
      waiting_stores = ch.others 1 (λ z. absurd (omega arith)) ∙ are.listed.waiting_stores ∙ wait-skip is_store x rows old.issued;
      waiting_barriers = ch.others 2 (λ z. absurd (omega arith)) ∙ are.listed.waiting_barriers ∙ wait-skip is_barrier x rows old.issued;
      loads = ch.here ∙ rw are.listed.loads (held-drop is_load x rows t);
      stores = ch.others 4 (λ z. absurd (omega arith)) ∙ are.listed.stores ∙ held-skip is_store x rows o.0;
    } in
    let one : cond {A = ℕ} (is_load x.kind) 1 0 ≡ 1 = rw t refl in
    let none : cond {A = ℕ} (is_store x.kind) 1 0 ≡ 0 = rw o.0 refl in
    let stood : lists_of x ≡ 1 = rw (old.issued, o.1) refl in
    let n = are.loads_are in
    let q = sum_by-cons (λ (y : MemRow). cond (is_load y.kind) 1 0) x rows in
    let some : 1 ≤ loads = omega arith in
    (some, retired-kept limits kept loads stores ld sd bd pool since x rows after (loads - 1) stores row c are h old listed (let sp = ch.spare_is in omega arith) (omega arith) (omega arith))

pub retired-store : (limits kept : Limits) (loads stores ld sd bd : ℕ) (pool : Pool) (since : ℕ) (rows : List MemRow) (after : Pool) (row c : ℕ) → AreKept limits kept loads stores ld sd bd pool since rows → since ≤ c → retires_as row c rows ≡ true → starts_at row (list_of pool 4) ≡ true → IsChanged pool after 4 (drop 1 (list_of pool 4)) (pool.spare + 1) → (1 ≤ stores) × AreKept limits kept loads (stores - 1) ld sd bd after c (drop 1 rows)
retired-store limits kept loads stores ld sd bd pool since [] after row c are h r s ch = absurd (cc r)
retired-store limits kept loads stores ld sd bd pool since (x ∷ rows) after row c are h r s ch =
    let old = oldest row c x rows r in
    let t = first-is is_store row c x rows (list_of pool 4) true are.order old are.listed.stores s in
    let o = store-only x.kind t in
    let listed : AreListed after rows = record {
      lists = ch.lists ∙ are.listed.lists;
      waiting_loads = ch.others 0 (λ z. absurd (omega arith)) ∙ are.listed.waiting_loads ∙ wait-skip is_load x rows old.issued;
      waiting_stores = ch.others 1 (λ z. absurd (omega arith)) ∙ are.listed.waiting_stores ∙ wait-skip is_store x rows old.issued;
      waiting_barriers = ch.others 2 (λ z. absurd (omega arith)) ∙ are.listed.waiting_barriers ∙ wait-skip is_barrier x rows old.issued;
      loads = ch.others 3 (λ z. absurd (omega arith)) ∙ are.listed.loads ∙ held-skip is_load x rows o.0;
      stores = ch.here ∙ rw are.listed.stores (held-drop is_store x rows t);
    } in
    let one : cond {A = ℕ} (is_store x.kind) 1 0 ≡ 1 = rw t refl in
    let none : cond {A = ℕ} (is_load x.kind) 1 0 ≡ 0 = rw o.0 refl in
    let stood : lists_of x ≡ 1 = rw (old.issued, o.1) refl in
    let n = are.stores_are in
    let q = sum_by-cons (λ (y : MemRow). cond (is_store y.kind) 1 0) x rows in
    let some : 1 ≤ stores = omega arith in
    (some, retired-kept limits kept loads stores ld sd bd pool since x rows after loads (stores - 1) row c are h old listed (let sp = ch.spare_is in omega arith) (omega arith) (omega arith))

pub retired-barrier : (limits kept : Limits) (loads stores ld sd bd : ℕ) (pool : Pool) (since : ℕ) (rows : List MemRow) (row c : ℕ) → AreKept limits kept loads stores ld sd bd pool since rows → since ≤ c → retires_as row c rows ≡ true → starts_at row (list_of pool 3) ≡ false → starts_at row (list_of pool 4) ≡ false → AreKept limits kept loads stores ld sd bd pool c (drop 1 rows)
retired-barrier limits kept loads stores ld sd bd pool since [] row c are h r s t = absurd (cc r)
retired-barrier limits kept loads stores ld sd bd pool since (x ∷ rows) row c are h r s t =
    let old = oldest row c x rows r in
    let a = first-is is_load row c x rows (list_of pool 3) false are.order old are.listed.loads s in
    let b = first-is is_store row c x rows (list_of pool 4) false are.order old are.listed.stores t in
    let real = and_both (not (is_plain x.kind)) (list_all (λ (y : MemRow). not (is_plain y.kind)) rows) are.kinds in
    let k = barrier-left x.kind (not-true (is_plain x.kind) real.0) a b in
    let listed : AreListed pool rows = record {
      lists = are.listed.lists;
      waiting_loads = are.listed.waiting_loads ∙ wait-skip is_load x rows old.issued;
      waiting_stores = are.listed.waiting_stores ∙ wait-skip is_store x rows old.issued;
      waiting_barriers = are.listed.waiting_barriers ∙ wait-skip is_barrier x rows old.issued;
      loads = are.listed.loads ∙ held-skip is_load x rows a;
      stores = are.listed.stores ∙ held-skip is_store x rows b;
    } in
    let nl : cond {A = ℕ} (is_load x.kind) 1 0 ≡ 0 = rw a refl in
    let ns : cond {A = ℕ} (is_store x.kind) 1 0 ≡ 0 = rw b refl in
    let stood : lists_of x ≡ 0 = rw (old.issued, k) refl in
    retired-kept limits kept loads stores ld sd bd pool since x rows pool loads stores row c are h old listed (omega arith) (omega arith) (omega arith)

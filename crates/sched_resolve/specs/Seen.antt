-- What is known of the records that stand before one: which classes have resources, and what the advances of each read list.
use Rattle.std.specs.Prelude.{◌≡◌, ℕ, ◌≤◌, List, length, filter, take, nat_eq, ◌&&◌}
use Rattle.std.specs.Cmp.Lexicographic.{pointwise}
use Rattle.std.specs.List.{list_any}
use Rattle.sched_resolve.specs.declared.earlier.Earlier.TheInside.{Inside}
use Rattle.sched_resolve.specs.Noted.{advance_class, writes_class, is_general, lists}

pub record AreSeen (i : Inside) : Type 0 where
  pub within : i.count ≤ length i.records.now
  pub few : i.advances ≤ i.count
  pub counted : i.advances ≡ length (filter advance_class (take i.count i.records.now))
  pub written : (n : List ℕ) → list_any (λ k. pointwise nat_eq n k.now) i.classes.keys ≡ list_any (writes_class n) (take i.count i.records.now)
  pub empty : (p : ℕ) → list_any (nat_eq p) i.general.keys ≡ list_any (is_general i.records.now p) (take i.count i.records.now)
  pub named : (p : ℕ) (n : List ℕ) → list_any (λ k. nat_eq p k.0 && pointwise nat_eq n k.1.now) i.listed.keys ≡ list_any (lists i.records.now p n) (take i.count i.records.now)

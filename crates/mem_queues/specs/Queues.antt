-- What the load and store queues keep of the rows.
use Rattle.std.specs.Prelude.{◌≡◌, ℕ, ◌+◌, ◌≤◌, List, [], ◌∷◌, map, length, Bool, true, false, not, ◌&&◌, ◌||◌, nat_le, nat_lt, if◌then◌else◌}
use Rattle.std.specs.List.{filter, list_all, sum_by}
use Rattle.machine_model.specs.declared.limits.Limits.{Limits}
use Rattle.rv_isa.specs.declared.facts.Kind.{Kind}
use Rattle.rv_isa.specs.declared.facts.Kind.TheVariants.{Load, Store}
use Rattle.node_pool.specs.Pool.{Pool, list_of}
use Rattle.node_pool.specs.declared.node.Node.{Node}
use Rattle.cycle_rules.specs.Row.{is_load, is_store, is_barrier}
use Rattle.mem_queues.specs.declared.queues.MemQueues.{MemQueues}
use Rattle.mem_queues.specs.Order.{MemRow, is_plain, loads_in, stores_in}

-- each row is below the later ones
abbrev pub in_order : List MemRow → Bool
in_order [] = true
in_order (x ∷ rows) = list_all (λ y. nat_lt x.row y.row) rows && in_order rows

-- a row of one kind may issue before an older one of another has
abbrev pub overtakes : Bool → Kind → Kind → Bool
overtakes no_alias Load Load = true
overtakes no_alias Load Store = no_alias
overtakes no_alias _ _ = false

-- no row has issued before an older one that it may not overtake
abbrev pub keeps_order : Bool → List MemRow → Bool
keeps_order no_alias [] = true
keeps_order no_alias (x ∷ rows) = (x.issued || list_all (λ y. not y.issued || overtakes no_alias y.kind x.kind) rows) && keeps_order no_alias rows

-- the rows of a kind that have issued have completed by a cycle
abbrev pub done_by : (Kind → Bool) → ℕ → List MemRow → Bool
done_by of_kind c rows = list_all (λ x. not (of_kind x.kind && x.issued) || nat_le x.complete c) rows

-- a row of a kind that has not issued
abbrev pub waits_as : (Kind → Bool) → MemRow → Bool
waits_as of_kind x = of_kind x.kind && not x.issued

abbrev pub is_kind : (Kind → Bool) → MemRow → Bool
is_kind of_kind x = of_kind x.kind

-- the nodes of the rows that pass
abbrev pub nodes_of : (MemRow → Bool) → List MemRow → List Node
nodes_of p rows = map (λ x. record { key = x.row; value = x.row }) (filter p rows)

-- in how many lists a row stands
abbrev pub lists_of : MemRow → ℕ
lists_of x = (if x.issued then 0 else 1) + (if is_barrier x.kind then 0 else 1)

-- the lists are the loads, the stores and the barriers that have not issued, and all loads and all stores
pub record AreListed (pool : Pool) (rows : List MemRow) : Type 0 where
  pub lists : length pool.lists ≡ 5
  pub waiting_loads : list_of pool 0 ≡ nodes_of (waits_as is_load) rows
  pub waiting_stores : list_of pool 1 ≡ nodes_of (waits_as is_store) rows
  pub waiting_barriers : list_of pool 2 ≡ nodes_of (waits_as is_barrier) rows
  pub loads : list_of pool 3 ≡ nodes_of (is_kind is_load) rows
  pub stores : list_of pool 4 ≡ nodes_of (is_kind is_store) rows

-- a cycle tells the same as the completions of the issued rows of a kind, from one cycle on
abbrev pub IsDone : (Kind → Bool) → ℕ → ℕ → List MemRow → Type 0
IsDone of_kind done since rows = (c : ℕ) → since ≤ c → nat_le done c ≡ done_by of_kind c rows

pub record AreKept (limits kept : Limits) (loads stores load_done store_done barrier_done : ℕ) (pool : Pool) (since : ℕ) (rows : List MemRow) : Type 0 where
  pub limits_are : kept ≡ limits
  pub loads_are : loads ≡ loads_in rows
  pub stores_are : stores ≡ stores_in rows
  pub order : in_order rows ≡ true
  pub kinds : list_all (λ x. not (is_plain x.kind)) rows ≡ true
  pub issue : keeps_order limits.no_alias rows ≡ true
  pub fit : length rows ≤ limits.reorder
  pub listed : AreListed pool rows
  pub nodes : pool.spare + sum_by lists_of rows ≡ limits.reorder + limits.reorder
  pub loads_done : IsDone is_load load_done since rows
  pub stores_done : IsDone is_store store_done since rows
  pub barriers_done : IsDone is_barrier barrier_done since rows

-- the rows that the queues of a machine stand for, from the cycle of the last retirement on
abbrev pub StandsFor : Limits → MemQueues → ℕ → List MemRow → Type 0
StandsFor limits q since rows = AreKept limits q.limits q.loads q.stores q.load_done q.store_done q.barrier_done q.rows since rows

-- What a pool is: its lists, and how many nodes are spare.
use Rattle.std.specs.Prelude.{◌≡◌, ℕ, List, [], ◌∷◌, length, map, Bool, true, ◌&&◌, slice_index_or, slice_set, nat_le, nat_lt, nat_eq}
use Rattle.std.specs.List.{list_all, position_or_len}
use Rattle.node_pool.specs.Chain.{places, IsShared, IsCut}
use Rattle.node_pool.specs.declared.node.Node.{Node}
use Rattle.node_pool.specs.declared.span.Span.{Span}

pub record Pool : Type 0 where
  pub lists : List (List Node)
  -- the nodes that stand in no list
  pub spare : ℕ
  -- all nodes
  pub nodes : ℕ

abbrev pub no_node : Node
no_node = record { key = 0; value = 0 }

-- a list of a pool
abbrev pub list_of : Pool → ℕ → List Node
list_of p l = slice_index_or p.lists l []

-- a pool with another list in place of one, and another count of spare nodes
abbrev pub with_list : Pool → ℕ → List Node → ℕ → Pool
with_list p l xs spare = record p { lists = slice_set p.lists l xs; spare = spare }

-- no key is greater than a later one
abbrev pub in_key_order : List Node → Bool
in_key_order [] = true
in_key_order (x ∷ xs) = list_all (λ y. nat_le x.key y.key) xs && in_key_order xs

-- how many nodes stand before the first of a key or more
abbrev pub before_key : ℕ → List Node → ℕ
before_key key xs = position_or_len (λ x. nat_le key x.key) xs

-- where a key goes in a sorted list: after all keys that are not greater
abbrev pub place_of : List Node → ℕ → ℕ
place_of xs key = position_or_len (λ x. nat_lt key x.key) xs

-- how many nodes stand before the first with a value
abbrev pub before_value : ℕ → List Node → ℕ
before_value value xs = position_or_len (λ x. nat_eq x.value value) xs

-- How a pool is kept

-- the nodes at places
abbrev pub nodes_of : List Node → List ℕ → List Node
nodes_of nodes ps = map (λ i. slice_index_or nodes i no_node) ps

abbrev pub nodes_in : List ℕ → List Node → Span → List Node
nodes_in next nodes s = nodes_of nodes (places next s)

abbrev pub pool_of : List ℕ → List Node → List Span → Span → Pool
pool_of next nodes spans free = record { lists = map (nodes_in next nodes) spans; spare = free.len; nodes = length next }

pub record IsKept (next : List ℕ) (nodes : List Node) (spans : List Span) (free : Span) : Type 0 where
  pub shared : IsShared next (free ∷ spans)
  pub size : length nodes ≡ length next

-- a span is cut before the first node that passes
pub record IsCutBefore (next : List ℕ) (nodes : List Node) (whole : Span) (passes : Node → Bool) (front back : Span) : Type 0 where
  pub cut : IsCut next whole front back
  pub first : front.len ≡ position_or_len passes (nodes_in next nodes whole)

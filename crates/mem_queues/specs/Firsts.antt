-- What is read at the fronts of lists.
use Rattle.std.specs.Prelude.{ℕ, List, [], ◌∷◌, Bool, true, false, not, ◌&&◌, ◌||◌, Option, Some, None, is_some, nat_le, nat_lt, nat_eq}
use Rattle.std.specs.List.{slice_get}
use Rattle.rv_isa.specs.declared.facts.Kind.{Kind}
use Rattle.rv_isa.specs.declared.facts.Kind.TheVariants.{Plain, Load, Store, Barrier}
use Rattle.node_pool.specs.Pool.{before_key}
use Rattle.node_pool.specs.declared.node.Node.{Node}

-- the first row is below a number, and is the number
abbrev pub starts_below : ℕ → List Node → Bool
starts_below row [] = false
starts_below row (x ∷ xs) = nat_lt x.key row

abbrev pub starts_at : ℕ → List Node → Bool
starts_at row [] = false
starts_at row (x ∷ xs) = nat_eq x.key row

-- a node is there, and its row is at most a number
abbrev pub is_upto : ℕ → Option Node → Bool
is_upto row None = false
is_upto row (Some x) = nat_le x.key row

-- the first load is at most a number, and no store stands behind it and is at most the number
abbrev pub is_free : ℕ → List Node → List Node → Bool
is_free row [] stores = false
is_free row (u ∷ loads) stores = nat_le u.key row && not (is_upto row (slice_get stores (before_key u.key stores)))

-- there is a first load, and a store stands behind it
abbrev pub fenced_first : List Node → List Node → Bool
fenced_first [] stores = false
fenced_first (u ∷ loads) stores = is_some (slice_get stores (before_key u.key stores))

-- a row of a kind that comes next may issue, by what is told of those that are in: whether the barriers, the loads and the stores have completed, whether a load and a store wait, and whether a fence stands behind a load that waits
abbrev pub goes_by : Kind → Bool → Bool → Bool → Bool → Bool → Bool → Bool → Bool
goes_by Plain no_alias barriers loads stores load_waits store_waits fenced = true
goes_by Load no_alias barriers loads stores load_waits store_waits fenced = (barriers && (no_alias || stores)) && not fenced
goes_by Store no_alias barriers loads stores load_waits store_waits fenced = (barriers && not load_waits) && not store_waits
goes_by Barrier no_alias barriers loads stores load_waits store_waits fenced = (barriers && loads) && stores

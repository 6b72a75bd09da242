-- Which columns of a segment are live: for each of 16 its node where it is, and else nothing.
use Rattle.std.specs.Prelude.{ℕ, ◌-◌, Bool, false, not, nat_lt, ◌==◌, List, length, find, Option, Some, None, is_some, slice_index_or}
use Rattle.std.specs.List.{filter, range_with_len}
use Rattle.cod_types.specs.Limits.{Shape}
use Rattle.cod_types.specs.declared.call.NodeId.{NodeId}

-- the node of column i, where it is live
abbrev pub node_at : List (Option NodeId) → ℕ → Option NodeId
node_at live i = slice_index_or live i None

abbrev pub is_live : List (Option NodeId) → ℕ → Bool
is_live live i = is_some (node_at live i)

-- how many of the first n columns are down
abbrev pub count_down : List (Option NodeId) → (n : ℕ) → ℕ
count_down live n = length (filter (λ i. not (is_live live i)) (range_with_len 0 n))

-- more columns are down than the parity columns can stand for
abbrev pub is_lost : Shape → List (Option NodeId) → Bool
is_lost g live = nat_lt (g.n - g.k) (count_down live g.n)

abbrev pub is_node : ℕ → Option NodeId → Bool
is_node node None = false
is_node node (Some x) = x.0 == node

-- the lowest of the first n columns that is live and on the node
abbrev pub column_on : (n : ℕ) → List (Option NodeId) → (node : ℕ) → Option ℕ
column_on n live node = find (λ i. is_node node (node_at live i)) (range_with_len 0 n)

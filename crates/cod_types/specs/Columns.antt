-- The columns of a segment: how many bytes each has, and on which nodes they can stand.
use Rattle.std.specs.Prelude.{◌≢◌, ℕ, ◌+◌, ◌%◌, ◌<◌, nat_lt, if◌then◌else◌, List, map}
use Rattle.std.specs.List.{range_with_len}
use Rattle.cod_types.specs.Limits.{Shape}

-- the bytes of column i: those of a block, and behind a parity block its reserved space
abbrev pub column_size : Shape → (i : ℕ) → ℕ
column_size g i = if nat_lt i g.k then g.block else g.block + g.reserve

-- the node of a column at first: one beside the other, each segment one node further
abbrev pub home_of : (seg col nodes : ℕ) → ℕ
home_of seg col nodes = (seg + col) % nodes

-- all nodes in cyclic order after this one, which comes last
abbrev pub nodes_after : (after nodes : ℕ) → List ℕ
nodes_after after nodes = map (λ step. (after + 1 + step) % nodes) (range_with_len 0 nodes)

-- two columns of a segment stand on two nodes, where there are enough
abbrev pub HomesDiffer : Type 0
HomesDiffer = (seg nodes col other : ℕ) → col < nodes → other < nodes → col ≢ other → home_of seg col nodes ≢ home_of seg other nodes

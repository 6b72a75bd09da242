-- How a segment is made.
use Rattle.std.specs.Prelude.{◌≡◌, ◌≤◌, ◌<◌, ℕ, Bool, not, List, filter, length, slice_index, None}
use Rattle.std.specs.List.{range_with_len}
use Rattle.cod_types.specs.Columns.{column_size, home_of}
use Rattle.cod_types.specs.Limits.{Shape}
use Rattle.cod_types.specs.declared.call.NodeId.{NodeId}
use Rattle.cod_chronicle.specs.Legal.{node_id}
use Rattle.cod_chronicle.specs.Said.{Site}
use Rattle.cod_seg.specs.Seg.{Col, col_at}
use Rattle.cod_seg.specs.Start.{IsNewColumn}

-- the nodes, of so many, on which a shelf may fail
abbrev pub frail_below : (never_fail : NodeId → Bool) → (nodes : ℕ) → List ℕ
frail_below never_fail nodes = filter (λ x. not (never_fail (node_id x))) (range_with_len 0 nodes)

-- each column from this one on has room on its home node
abbrev pub HomesHaveRoom : Shape → (segment nodes from : ℕ) → (free : List ℕ) → Type 0
HomesHaveRoom g segment nodes from free =
    (i : ℕ) → from ≤ i → i < g.n → column_size g i ≤ slice_index free (home_of segment i nodes)

-- no device call was made on its region
abbrev pub IsUntouched : Col → Type 0
IsUntouched c = (c.state.device.reads ≡ 0) × (c.state.device.writes ≡ 0)

-- so many columns, none of them touched
abbrev pub AreUntouched : List Col → (count : ℕ) → Type 0
AreUntouched cols count = (i : ℕ) → i < count → IsUntouched (col_at cols i)

-- so many columns, each new, and untouched
pub record AreNew (site : Site) (frail : List ℕ) (cols : List Col) (count : ℕ) : Type 0 where
  pub size : length cols ≡ count
  pub each : (i : ℕ) → i < count → IsNewColumn site frail None i (col_at cols i)
  pub untouched : AreUntouched cols count

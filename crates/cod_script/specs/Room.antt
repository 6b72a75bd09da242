-- What the columns of segments take on the nodes, each on its home.
use Rattle.std.specs.Prelude.{ℕ, ◌==◌, nat_le, Bool, if◌then◌else◌}
use Rattle.std.specs.List.{sum_by, range_with_len, list_all}
use Rattle.cod_types.specs.Columns.{column_size, home_of}
use Rattle.cod_types.specs.Limits.{Shape}

-- how many bytes column i of segment s takes on node x
unfoldable pub column_on : Shape → (nodes x s i : ℕ) → ℕ
column_on g nodes x s i = if home_of s i nodes == x then column_size g i else 0

-- how many bytes segment s takes on node x
unfoldable pub taken_by : Shape → (nodes x s : ℕ) → ℕ
taken_by g nodes x s = sum_by (column_on g nodes x s) (range_with_len 0 g.n)

-- how many bytes so many segments take on node x
unfoldable pub taken_on : Shape → (nodes segments x : ℕ) → ℕ
taken_on g nodes segments x = sum_by (taken_by g nodes x) (range_with_len 0 segments)

-- no node takes more than it has
unfoldable pub has_room : Shape → (nodes capacity segments : ℕ) → Bool
has_room g nodes capacity segments = list_all (λ x. nat_le (taken_on g nodes segments x) capacity) (range_with_len 0 nodes)

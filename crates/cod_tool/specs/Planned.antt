-- What is printed of a scenario without its run.
use Rattle.std.specs.Prelude.{ℕ, ◌-◌, true, List, [], ◌∷◌, ◌++◌, length, map, codes, decimal}
use Rattle.std.specs.List.{flat_map, range_with_len}
use Rattle.cod_types.specs.Columns.{home_of}
use Rattle.cod_script.specs.Room.{taken_on}
use Rattle.cod_script.specs.Script.{Script}
use Rattle.cod_text.specs.Printed.{line_of, node_text, segment_word}
use Rattle.cod_tool.specs.Fit.{calls_of}

-- `ok`, with the numbers of segments, clients and segment calls
abbrev pub check_text : Script → List ℕ
check_text x =
    line_of (codes "ok" ∷ codes "segments" ∷ decimal (length x.segments) ∷ codes "clients" ∷ decimal (length x.clients) ∷ codes "calls" ∷ decimal (calls_of x)
    ∷ [])

-- the line of segment s: its name, and the nodes where its columns stand at first
unfoldable pub home_line : Script → (s : ℕ) → List ℕ
home_line x s = line_of (codes "plan" ∷ segment_word x s ∷ map (λ i. decimal (home_of s i x.nodes)) (range_with_len 0 x.shape.n))

-- the bytes that the columns of all segments take on node y at first
abbrev pub all_take : Script → (y : ℕ) → ℕ
all_take x y = taken_on x.shape x.nodes (length x.segments) y

-- the line of node y, where each column stands as at first
unfoldable pub first_node_line : Script → (y : ℕ) → List ℕ
first_node_line x y = node_text y true (all_take x y) (x.capacity - all_take x y)

abbrev pub nodes_text : Script → List ℕ
nodes_text x = flat_map (first_node_line x) (range_with_len 0 x.nodes)

-- a line for each segment, and one for each node
abbrev pub placement_text : Script → List ℕ
placement_text x = flat_map (home_line x) (range_with_len 0 (length x.segments)) ++ nodes_text x

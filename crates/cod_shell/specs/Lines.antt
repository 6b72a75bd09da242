-- The lines of columns and nodes, and the whole text of a run's end.
use Rattle.std.specs.Prelude.{◌≡◌, ℕ, ◌-◌, ◌<◌, not, List, ◌++◌, length, map, is_some, Option, slice_index_or}
use Rattle.std.specs.List.{flat_map, range_with_len}
use Rattle.cod_board.specs.declared.kill.Kill.{Kill}
use Rattle.cod_board.specs.Kills.{kill_of}
use Rattle.cod_place.specs.Rooms.{bytes_on}
use Rattle.cod_script.specs.Script.{Script, nobody}
use Rattle.cod_seg.specs.Seg.{Seg, col_at}
use Rattle.cod_segment.specs.Events.{rooms_of}
use Rattle.cod_repair.specs.Columns.{line_of as line_at}
use Rattle.cod_text.specs.Printed.{chronicle_text, layout_text, node_text}

-- the segment has a name in the scenario, and its geometry
pub record IsNamed (x : Script) (s : Seg) : Type 0 where
  pub there : s.site.segment < length x.segments
  pub shape : s.site.shape ≡ x.shape

-- A scenario prints as the whole one: its clients may have no lines any more.
pub record PrintsAs (whole bare : Script) : Type 0 where
  pub same : bare ≡ record whole { clients = bare.clients }
  pub count : length bare.clients ≡ length whole.clients
  pub names : (c : ℕ) → (slice_index_or bare.clients c nobody).name ≡ (slice_index_or whole.clients c nobody).name

-- the line of column i of a segment
unfoldable pub column_text : Script → Seg → (i : ℕ) → List ℕ
column_text x s i = layout_text x (line_at (record { 0 = s.site.segment }) i (col_at s.cols i))

-- the lines of a segment's columns
abbrev pub columns_text : Script → Seg → List ℕ
columns_text x s = flat_map (column_text x s) (range_with_len 0 x.shape.n)

-- the bytes that the rooms of these segments take on a node
abbrev pub taken_on : List Seg → (node : ℕ) → ℕ
taken_on segs node = bytes_on node (flat_map rooms_of segs)

-- The line of a node: killed or up as the board has it, and what is taken and free, which add up to the capacity.
unfoldable pub node_line : Script → List (Option Kill) → List Seg → (node : ℕ) → List ℕ
node_line x kills segs node = node_text node (not (is_some (kill_of kills node))) (taken_on segs node) (x.capacity - taken_on segs node)

abbrev pub node_lines : Script → List (Option Kill) → List Seg → List ℕ
node_lines x kills segs = flat_map (node_line x kills segs) (range_with_len 0 x.nodes)

-- the lines of all columns and of the nodes
abbrev pub end_lines : Script → List (Option Kill) → List Seg → List ℕ
end_lines x kills segs = flat_map (columns_text x) segs ++ node_lines x kills segs

-- the lines of the chronicles, of all columns and of the nodes
abbrev pub run_lines : Script → List (Option Kill) → List Seg → List ℕ
run_lines x kills segs = chronicle_text x (map (λ (s : Seg). s.log) segs) ++ end_lines x kills segs

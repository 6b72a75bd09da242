-- What the lines of a scenario say, and what a list of them says together.
use Rattle.std.specs.Prelude.{ℕ, ◌+◌, ◌*◌, Bool, List, [], ◌∷◌, ◌++◌, map, take, drop, fold}
use Rattle.std.specs.List.{sum_by}
use Rattle.cod_types.specs.Limits.{Shape, record_overhead}
use Rattle.cod_scenario.specs.declared.said.Said.{Said}
use Rattle.cod_scenario.specs.declared.said.Said.TheVariants as said
use Rattle.cod_scenario.specs.declared.said.Header.{Header}
use Rattle.cod_script.specs.Room.{has_room}
use Rattle.cod_script.specs.Script.{Script, Body, script_from, onto_last}
use Rattle.cod_script.specs.Weight.{region, what_weight}

-- the numbers of the first eight lines, 0 where a line has not come
abbrev pub no_header : Header
no_header = record { version = 0; nodes = 0; capacity = 0; n = 0; k = 0; block = 0; update = 0; reserve = 0; unit = 0; alpha = 0 }

abbrev pub noted : Header → Said → Header
noted h (said.Codfs v) = record h { version = v }
noted h (said.Nodes count capacity) = record h { nodes = count; capacity = capacity }
noted h (said.Code n k) = record h { n = n; k = k }
noted h (said.Block b) = record h { block = b }
noted h (said.Update u) = record h { update = u }
noted h (said.Reserve r) = record h { reserve = r }
noted h (said.Unit x) = record h { unit = x }
noted h (said.Alpha a) = record h { alpha = a }
noted h _ = h

-- the first eight lines are the header
unfoldable pub header_of : List Said → Header
header_of lines = fold noted no_header (take 8 lines)

-- the geometry that the header gives
abbrev pub shape_of : Header → Shape
shape_of h = record { version = h.version; n = h.n; k = h.k; block = h.block; update = h.update; reserve = h.reserve; unit = h.unit; alpha = h.alpha }

-- nothing behind the header
abbrev pub no_body : Body
no_body = record { segments = []; clients = []; schedule = []; workers = 0; rounds = 0 }

-- what stands behind the header, with one line more
abbrev pub with_line : Body → Said → Body
with_line p (said.Segment name) = record p { segments = p.segments ++ name ∷ [] }
with_line p (said.Client name) = record p { clients = p.clients ++ (record { name = name; lines = [] }) ∷ [] }
with_line p (said.Does line what) = record p { clients = onto_last p.clients (record { line = line; what = what }) }
with_line p (said.Care workers rounds) = record p { workers = workers; rounds = rounds }
with_line p (said.Schedule turns) = record p { schedule = p.schedule ++ turns }
with_line p _ = p

unfoldable pub body_of : List Said → Body
body_of lines = fold with_line no_body lines

-- the scenario that lines give
abbrev pub script_with : Header → Body → Script
script_with h b = script_from (shape_of h) h.nodes h.capacity b

unfoldable pub script_of : List Said → Script
script_of lines = script_with (header_of lines) (body_of lines)

-- the names of the segments and of the clients, in order
abbrev pub segments_of : List Said → List (List ℕ)
segments_of lines = (body_of lines).segments

abbrev pub client_names : Body → List (List ℕ)
client_names p = map (λ c. c.name) p.clients

abbrev pub clients_of : List Said → List (List ℕ)
clients_of lines = client_names (body_of lines)

-- the bytes of a segment, and the least that `reserve` may be
abbrev pub bytes_of : Header → ℕ
bytes_of h = h.k * h.block

abbrev pub floor_of : Header → ℕ
floor_of h = h.k * (record_overhead h.version + h.update)

-- what a line adds to the weight
unfoldable pub line_weight : Header → Said → ℕ
line_weight h (said.Segment name) = h.n * region (shape_of h)
line_weight h (said.Does line what) = what_weight (shape_of h) what
line_weight h (said.Care workers rounds) = workers * rounds * region (shape_of h)
line_weight h _ = 0

-- what the lines after the header add
unfoldable pub weight_of : List Said → ℕ
weight_of lines = sum_by (line_weight (header_of lines)) (drop 8 lines)

-- the header's nodes have room for the columns of so many segments
abbrev pub holds : Header → (segments : ℕ) → Bool
holds h segments = has_room (shape_of h) h.nodes h.capacity segments

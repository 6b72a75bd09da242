-- What every scenario has.
use Rattle.std.specs.Prelude.{◌≡◌, ℕ, ◌<◌, ◌≤◌, ◌^◌, List, [], ◌∷◌, ◌++◌, length, true, map, slice_index_or}
use Rattle.std.specs.List.{All, sum_by}
use Rattle.hex.specs.Hex.{IsBytes}
use Rattle.cod_types.specs.Limits.{IsWithin}
use Rattle.cod_types.specs.declared.call.Call.{Call}
use Rattle.cod_types.specs.declared.call.Call.TheVariants.{Read, Write, Swap, Put, Merge, Tick, Rebuild, Upgrade, Drain}
use Rattle.cod_words.specs.Words.{is_name}
use Rattle.cod_script.specs.declared.line.Line.{Line}
use Rattle.cod_script.specs.declared.line.What.{What}
use Rattle.cod_script.specs.declared.line.What.TheVariants.{Segment, Fail}
use Rattle.cod_script.specs.Room.{taken_on}
use Rattle.cod_script.specs.Script.{Script, Client}
use Rattle.cod_script.specs.Weight.{weight}

-- a drained node is there
abbrev pub NamesNode : ℕ → Call → Type 0
NamesNode nodes (Drain node) = node.0 < nodes
NamesNode nodes (Read off len) = Unit {0}
NamesNode nodes (Write off bytes) = Unit {0}
NamesNode nodes (Swap off old new) = Unit {0}
NamesNode nodes (Put bytes) = Unit {0}
NamesNode nodes Merge = Unit {0}
NamesNode nodes Tick = Unit {0}
NamesNode nodes Rebuild = Unit {0}
NamesNode nodes Upgrade = Unit {0}

-- each byte that a call has is below 256
abbrev pub HasBytes : Call → Type 0
HasBytes (Write off bytes) = IsBytes bytes
HasBytes (Swap off old new) = IsBytes old × IsBytes new
HasBytes (Put bytes) = IsBytes bytes
HasBytes (Read off len) = Unit {0}
HasBytes Merge = Unit {0}
HasBytes Tick = Unit {0}
HasBytes Rebuild = Unit {0}
HasBytes Upgrade = Unit {0}
HasBytes (Drain node) = Unit {0}

-- an upgrade is asked for only where records of version 2 may be written
abbrev pub IsDatedCall : (version : ℕ) → Call → Type 0
IsDatedCall version Upgrade = version ≡ 2
IsDatedCall version (Read off len) = Unit {0}
IsDatedCall version (Write off bytes) = Unit {0}
IsDatedCall version (Swap off old new) = Unit {0}
IsDatedCall version (Put bytes) = Unit {0}
IsDatedCall version Merge = Unit {0}
IsDatedCall version Tick = Unit {0}
IsDatedCall version Rebuild = Unit {0}
IsDatedCall version (Drain node) = Unit {0}

abbrev pub IsDated : (version : ℕ) → What → Type 0
IsDated version (Segment seg call) = IsDatedCall version call
IsDated version (Fail node) = Unit {0}

-- the segment or the node of a line is there, and its bytes are bytes
abbrev pub IsThere : (nodes segments : ℕ) → What → Type 0
IsThere nodes segments (Segment seg call) = (seg.0 < segments) × NamesNode nodes call × HasBytes call
IsThere nodes segments (Fail node) = node.0 < nodes

abbrev pub IsLine : (nodes segments : ℕ) → Line → Type 0
IsLine nodes segments l = (1 ≤ l.line) × IsThere nodes segments l.what

-- a client has a name, and its lines name what is there
abbrev pub IsClient : (nodes segments : ℕ) → Client → Type 0
IsClient nodes segments c = (is_name c.name ≡ true) × All (IsLine nodes segments) c.lines

-- each line of a client is one that this version has
abbrev pub IsDatedClient : (version : ℕ) → Client → Type 0
IsDatedClient version c = All (λ l. IsDated version l.what) c.lines

abbrev pub line_count : List Client → ℕ
line_count clients = sum_by (λ c. length c.lines) clients

-- no two of the names are one
abbrev pub AllDiffer : List (List ℕ) → Type 0
AllDiffer names = (i j : ℕ) → i < length names → j < length names → slice_index_or names i [] ≡ slice_index_or names j [] → i ≡ j

-- these numbers rise, the first of them above t
abbrev pub NumbersRise : (t : ℕ) → List ℕ → Type 0
NumbersRise t [] = Unit {0}
NumbersRise t (n ∷ ns) = (t < n) × NumbersRise n ns

-- the numbers of all clients' lines, client by client
abbrev pub line_numbers : List Client → List ℕ
line_numbers [] = []
line_numbers (c ∷ cs) = map (λ l. l.line) c.lines ++ line_numbers cs

-- `dated`: an upgrade stands only in a scenario of version 2; `lines_rise`: a line's number tells the line; `room`: the columns that
-- stand at home on a node fit into what it has.
pub record IsScenario (p : Script) : Type 0 where
  pub shape : IsWithin p.shape
  pub some_nodes : 1 ≤ p.nodes
  pub most_nodes : p.nodes ≤ 64
  pub columns : p.shape.n ≤ p.nodes
  pub some_capacity : 1 ≤ p.capacity
  pub some_segments : 1 ≤ length p.segments
  pub most_segments : length p.segments ≤ 1024
  pub segment_names : All (λ name. is_name name ≡ true) p.segments
  pub segments_differ : AllDiffer p.segments
  pub some_clients : 1 ≤ length p.clients
  pub most_clients : length p.clients ≤ 64
  pub clients : All (IsClient p.nodes (length p.segments)) p.clients
  pub dated : All (IsDatedClient p.shape.version) p.clients
  pub clients_differ : AllDiffer (map (λ c. c.name) p.clients)
  pub few_lines : line_count p.clients < 2 ^ 32
  pub lines_rise : NumbersRise 0 (line_numbers p.clients)
  pub turns : All (λ turn. turn < length p.clients) p.schedule
  pub most_workers : p.workers ≤ 16
  pub most_rounds : p.rounds ≤ 65536
  pub room : (x : ℕ) → x < p.nodes → taken_on p.shape p.nodes (length p.segments) x ≤ p.capacity
  pub light : weight p ≤ 268435456

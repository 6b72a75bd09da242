-- A scenario as plain data, and what its clients are to do.
use Rattle.std.specs.Prelude.{ℕ, zero, suc, Option, Some, None, List, [], ◌∷◌, ◌++◌, slice_index_or}
use Rattle.std.specs.List.{filter_map}
use Rattle.cod_types.specs.Limits.{Shape}
use Rattle.cod_types.specs.declared.call.Call.{Call}
use Rattle.cod_script.specs.declared.line.Line.{Line}
use Rattle.cod_script.specs.declared.line.What.{What}
use Rattle.cod_script.specs.declared.line.What.TheVariants.{Segment, Fail}

-- a client's name and its lines
pub record Client : Type 0 where
  pub name : List ℕ
  pub lines : List Line

-- what stands behind the header: the names of the segments, the clients, whose turn it is at first, and the care workers with
-- their rounds
pub record Body : Type 0 where
  pub segments : List (List ℕ)
  pub clients : List Client
  pub schedule : List ℕ
  pub workers : ℕ
  pub rounds : ℕ

-- The geometry of each segment, the nodes and the bytes that each has, and the body.
pub record Script : Type 0 where
  pub shape : Shape
  pub nodes : ℕ
  pub capacity : ℕ
  pub segments : List (List ℕ)
  pub clients : List Client
  pub schedule : List ℕ
  pub workers : ℕ
  pub rounds : ℕ

abbrev pub script_from : (shape : Shape) (nodes capacity : ℕ) → Body → Script
script_from shape nodes capacity b =
    record {
      shape = shape;
      nodes = nodes;
      capacity = capacity;
      segments = b.segments;
      clients = b.clients;
      schedule = b.schedule;
      workers = b.workers;
      rounds = b.rounds;
    }

-- one line more for the last client
abbrev pub onto_last : List Client → Line → List Client
onto_last [] line = []
onto_last (c ∷ []) line = record c { lines = c.lines ++ line ∷ [] } ∷ []
onto_last (c ∷ d ∷ more) line = c ∷ onto_last (d ∷ more) line

-- a call to a segment
pub record Ask : Type 0 where
  pub segment : ℕ
  pub call : Call

abbrev pub ask_of : What → Option Ask
ask_of (Segment seg call) = Some (record { segment = seg.0; call = call })
ask_of (Fail node) = None

-- the segment calls of some lines
abbrev pub asks : List Line → List Ask
asks lines = filter_map (λ l. ask_of l.what) lines

-- no client
abbrev pub nobody : Client
nobody = record { name = []; lines = [] }

-- the lines of a caller; one that is no client has none
abbrev pub lines_by : Script → ℕ → List Line
lines_by x who = (slice_index_or x.clients who nobody).lines

-- the clients, of whom this one has no line
abbrev pub clients_without : List Client → (who : ℕ) → List Client
clients_without [] who = []
clients_without (c ∷ cs) zero = record c { lines = [] } ∷ cs
clients_without (c ∷ cs) (suc who) = c ∷ clients_without cs who

-- the scenario in which this client has no line, and all else is the same
abbrev pub without_lines : Script → (who : ℕ) → Script
without_lines x who = record x { clients = clients_without x.clients who }

-- What is true of a segment between its events.
use Rattle.std.specs.Prelude.{◌≡◌, ◌≢◌, ℕ, ◌+◌, ◌<◌, ◌≤◌, ◌==◌, not, Bool, true, false, Option, None, Some, is_some, List, [], length, slice_index}
use Rattle.std.specs.Prelude.{slice_index_or, ⊤, All}
use Rattle.std.specs.List.{list_any, AllByRecursion}
use Rattle.std.specs.Option.{option_map}
use Rattle.atomic_table.specs.Seated.{TableId}
use Rattle.cod_types.specs.Columns.{column_size}
use Rattle.cod_types.specs.Limits.{IsWithin, Shape}
use Rattle.cod_types.specs.Overwritten.{byte_of}
use Rattle.cod_types.specs.Plain.{bytes_at, refusal}
use Rattle.cod_types.specs.declared.call.Call.{Call as Asked}
use Rattle.cod_types.specs.declared.call.Call.TheVariants.{Write, Swap}
use Rattle.cod_types.specs.declared.call.Reply.TheVariants.{Done}
use Rattle.cod_layout.specs.Parts.{length_in, part_in, place_of}
use Rattle.cod_code.specs.Codewords.{AreBytes}
use Rattle.cod_code.specs.Columns.{gamma}
use Rattle.cod_code.specs.Segments.{column_byte}
use Rattle.cod_chronicle.specs.declared.entry.Cause.TheVariants.{Fault}
use Rattle.cod_chronicle.specs.declared.entry.Entry.{Entry}
use Rattle.cod_chronicle.specs.declared.entry.Entry.TheVariants.{Down}
use Rattle.cod_chronicle.specs.Said.{Site, bytes_of, call_count, fault_of, is_down, is_over, IsChronicle, node_of, numbers_by}
use Rattle.cod_chronicle.specs.Legal.{IsLegal, IsPlain}
use Rattle.cod_claims.specs.declared.claim.Claim.{Claim}
use Rattle.cod_claims.specs.Changes.{IsDelta, new_bytes, new_in}
use Rattle.cod_claims.specs.Claimed.{AreClaims, claim_at, HasNone, is_of, kept_of, noted_length}
use Rattle.cod_data.specs.Values.{HasValue}
use Rattle.cod_parity.specs.Held.{Holds, Piece}
use Rattle.cod_parity.specs.Log.{scaled}
use Rattle.cod_parity.specs.State.{empty, IsKept}
use Rattle.cod_seg.specs.Seg.{Col, col_at, node_in, Rebuilding, Seg, Target}

-- the shelf may fail on the node
abbrev pub is_frail : (frail : List ℕ) (node : ℕ) → Bool
is_frail frail node = list_any (λ x. x == node) frail

-- a fault is counted from 1 on, and is of a node on which the shelf may fail
abbrev pub IsFault : (frail : List ℕ) → Entry → Type 0
IsFault frail (Down stamp col node (Fault count)) = (1 ≤ count) × (is_frail frail node.0 ≡ true)
IsFault frail _ = ⊤

-- The chronicle is one and is legal, its faults are of nodes that may fail, and the bytes that it leaves are bytes.
pub record IsHistory (site : Site) (frail : List ℕ) (log : List Entry) : Type 0 where
  pub chronicle : IsChronicle log
  pub legal : IsLegal site log
  pub honest : AllByRecursion (IsFault frail) log
  pub plain : AreBytes (bytes_of site log)

-- A column is where the chronicle says, and is up where it isn't down there. Its region tells what it holds where the site
-- does, as many bytes as it is long, has had no fault while the column is up, and has the fault that the last mark names.
-- Where the shelf never fails on the node the region never fails. The room, whose badge is of the segment's pools, has at least
-- the region's length, and just that where the shelf never fails at all. A data column's region is one block, and the column
-- has no reserve. A parity column keeps its numbers within their limits, and while it is up its region is its block and its
-- reserve.
pub record IsColumn (site : Site) (frail : List ℕ) (pools : Option TableId) (log : List Entry) (i : ℕ) (c : Col) : Type 0 where
  pub there : node_in c ≡ node_of site log i
  pub owned : c.room.of ≡ pools
  pub up : c.is_up ≡ not (is_down log i)
  pub shape : c.state.shape ≡ site.shape
  pub tells : is_some c.state.device.content ≡ site.told
  pub full : (held : List ℕ) → c.state.device.content ≡ Some held → length held ≡ c.state.device.size
  pub clean : c.is_up ≡ true → c.state.device.faults ≡ 0
  pub marked : (count : ℕ) → fault_of log i ≡ Some count → c.state.device.faults ≡ count
  pub sure : is_frail frail (node_in c) ≡ false → c.state.device.never_fails ≡ true
  pub fits : c.state.device.size ≤ c.room.bytes
  pub roomy : frail ≡ [] → c.room.bytes ≡ c.state.device.size
  pub block : i < site.shape.k → c.state.device.size ≡ site.shape.block
  pub plain : i < site.shape.k → c.state ≡ empty site.shape 0 10000 c.state.device
  pub reserve : site.shape.k ≤ i → IsKept c.state
  pub exact : site.shape.k ≤ i → c.is_up ≡ true → c.state.device.size ≡ site.shape.block + c.state.size

-- n columns, on different nodes, all of them among the nodes that there are, which are at most 64
pub record AreColumns (site : Site) (frail : List ℕ) (pools : Option TableId) (log : List Entry) (cols : List Col) : Type 0 where
  pub size : length cols ≡ site.shape.n
  pub most : site.nodes ≤ 64
  pub each : (i : ℕ) → i < site.shape.n → IsColumn site frail pools log i (col_at cols i)
  pub apart : (i j : ℕ) → i < site.shape.n → j < site.shape.n → node_of site log i ≡ node_of site log j → i ≡ j
  pub known : (i : ℕ) → i < site.shape.n → node_of site log i < site.nodes

-- no block has more committed updates than the chronicle has calls
pub record AreCuts (log : List Entry) (cuts : List ℕ) : Type 0 where
  pub size : length cuts ≡ 16
  pub each : (j : ℕ) → slice_index cuts j ≤ call_count log

-- where an update's range begins
abbrev pub begin_of : Asked → ℕ
begin_of (Write off bytes) = off
begin_of (Swap off old new) = off
begin_of _ = 0

abbrev pub is_update : Asked → Bool
is_update (Write off bytes) = true
is_update (Swap off old new) = true
is_update _ = false

-- how many bytes of an update's range lie in block j
abbrev pub length_on : Shape → Asked → (j : ℕ) → ℕ
length_on g call j = length_in g.block (begin_of call) (length (new_bytes call)) j

-- The claim of block j is for an update that a plain segment answers Done, with a number above its caller's earlier ones.
-- It has the part of that update in block j, and each block with a part is claimed by its caller. Its delta is, place by
-- place, the byte there xor the update's.
pub record IsClaim (site : Site) (log : List Entry) (claims : List (Option Claim)) (j : ℕ) (c : Claim) : Type 0 where
  pub among : j < site.shape.k
  pub newest : All (λ m. m < c.number) (numbers_by c.owner.0 log)
  pub update : is_update c.delta.call ≡ true
  pub free : refusal site.shape c.delta.call ≡ None
  pub done : IsPlain site.told (bytes_of site log) c.delta.call Done
  pub part : c.delta.part ≡ part_in site.shape.block (begin_of c.delta.call) (length (new_bytes c.delta.call)) j
  pub some : 1 ≤ c.delta.part.len
  pub from : c.delta.at + begin_of c.delta.call ≡ place_of site.shape.block c.delta.part
  pub bytes : AreBytes (new_bytes c.delta.call)
  pub size : length c.delta.bytes ≡ c.delta.part.len
  pub delta : site.told ≡ true
      → IsDelta (bytes_at (bytes_of site log) (place_of site.shape.block c.delta.part) c.delta.part.len) (new_in c.delta) c.delta.bytes
  pub all : (m : ℕ) → m < site.shape.k → 1 ≤ length_on site.shape c.delta.call m → is_of c.owner.0 (claim_at claims m) ≡ true

-- at most one claim for each block, and all claims of a caller for one call
pub record AreOpen (site : Site) (log : List Entry) (claims : List (Option Claim)) : Type 0 where
  pub sixteen : AreClaims claims
  pub each : (j : ℕ) (c : Claim) → claim_at claims j ≡ Some c → IsClaim site log claims j c

-- a node on which a target failed may fail, and the fault was counted
abbrev pub AreBroken : (frail : List ℕ) → (broken : List (Option ℕ)) → Type 0
AreBroken frail broken = (node count : ℕ) → slice_index_or broken node None ≡ Some count → (1 ≤ count) × (is_frail frail node ≡ true)

-- A target stands on a node that no column is on. Its region has had no fault and is as long as its column's has to be.
pub record IsTarget (site : Site) (frail : List ℕ) (pools : Option TableId) (log : List Entry) (col : ℕ) (t : Target) : Type 0 where
  pub alone : (i : ℕ) → i < site.shape.n → node_of site log i ≢ t.room.node.0
  pub known : t.room.node.0 < site.nodes
  pub owned : t.room.of ≡ pools
  pub tells : is_some t.device.content ≡ site.told
  pub full : (held : List ℕ) → t.device.content ≡ Some held → length held ≡ t.device.size
  pub clean : t.device.faults ≡ 0
  pub sure : is_frail frail t.room.node.0 ≡ false → t.device.never_fails ≡ true
  pub fits : t.device.size ≤ t.room.bytes
  pub roomy : frail ≡ [] → t.room.bytes ≡ t.device.size
  pub size : t.device.size ≡ column_size site.shape col
  pub within : t.filled ≤ site.shape.block

abbrev pub HasTarget : (site : Site) (frail : List ℕ) (pools : Option TableId) (log : List Entry) (col : ℕ) → Option Target → Type 0
HasTarget site frail pools log col None = ⊤
HasTarget site frail pools log col (Some t) = IsTarget site frail pools log col t

-- a rebuild in progress is of a column that is down
pub record IsRebuilding (site : Site) (frail : List ℕ) (pools : Option TableId) (log : List Entry) (r : Rebuilding) : Type 0 where
  pub column : r.col < site.shape.n
  pub down : is_down log r.col ≡ true
  pub honest : AreBroken frail r.broken
  pub goal : HasTarget site frail pools log r.col r.target

abbrev pub MayRebuild : (site : Site) (frail : List ℕ) (pools : Option TableId) (log : List Entry) → Option Rebuilding → Type 0
MayRebuild site frail pools log None = ⊤
MayRebuild site frail pools log (Some r) = IsRebuilding site frail pools log r

-- a caller has no rebuild in progress
abbrev pub IsOther : (caller : ℕ) → Option Rebuilding → Type 0
IsOther caller None = ⊤
IsOther caller (Some r) = r.caller ≢ caller

-- the caller of a rebuild in progress has no claim
abbrev pub IsSingle : (claims : List (Option Claim)) → Option Rebuilding → Type 0
IsSingle claims None = ⊤
IsSingle claims (Some r) = HasNone r.caller claims

-- a claim's delta on parity column i, as a record of so many bytes has it
abbrev pub piece_on : (k i j len : ℕ) → Claim → Piece
piece_on k i j len c = record { off = c.delta.part.off; bytes = scaled (gamma k i j) c.delta.bytes; length = len }

-- the record that the claim of block j has on parity column i, where it has noted one
abbrev pub noted_piece : (k i j : ℕ) → Option Claim → Option Piece
noted_piece k i j None = None
noted_piece k i j (Some c) = option_map (λ len. piece_on k i j len c) (noted_length i (Some c))

abbrev pub pending_on : (k : ℕ) (claims : List (Option Claim)) (i j : ℕ) → Option Piece
pending_on k claims i j = noted_piece k i j (claim_at claims j)

-- where the target's region tells what it holds, its first bytes are those of the column
abbrev pub IsFilled : (g : Shape) (b : List ℕ) (col : ℕ) → Target → Type 0
IsFilled g b col t = (held : List ℕ) → t.device.content ≡ Some held → (x : ℕ) → x < t.filled → slice_index held x ≡ column_byte g.k g.block col b x

abbrev pub FillsTarget : (g : Shape) (b : List ℕ) (col : ℕ) → Option Target → Type 0
FillsTarget g b col None = ⊤
FillsTarget g b col (Some t) = IsFilled g b col t

abbrev pub FillsRebuild : (g : Shape) (b : List ℕ) → Option Rebuilding → Type 0
FillsRebuild g b None = ⊤
FillsRebuild g b (Some r) = FillsTarget g b r.col r.target

-- The columns hold the bytes b. A data column that is up holds its block, with the delta of its claim added where that was
-- applied. A parity column that is up has at the cut the bytes that the code gives it, and past the cut one record for each
-- claim that has noted it, and no other. A target's first bytes are those of its column.
pub record HoldBytes (g : Shape) (b cuts : List ℕ) (claims : List (Option Claim)) (cols : List Col) (rebuild : Option Rebuilding) : Type 0 where
  pub blocks : (i : ℕ) → i < g.k → (col_at cols i).is_up ≡ true
      → HasValue (col_at cols i).state.device (byte_of (kept_of (claim_at claims i))) (column_byte g.k g.block i b)
  pub parities : (i : ℕ) → g.k ≤ i → i < g.n → (col_at cols i).is_up ≡ true
      → Holds (col_at cols i).state cuts (column_byte g.k g.block i b) (pending_on g.k claims i)
  pub target : FillsRebuild g b rebuild

-- records have version 1 or 2, and 2 only where the geometry admits it
pub record IsVersion (g : Shape) (version : ℕ) : Type 0 where
  pub first : 1 ≤ version
  pub last : version ≤ 2
  pub second : version ≡ 2 → g.version ≡ 2

-- A segment is sound. The last of these says something only where regions tell what they hold and no more columns are down
-- than the code makes up for.
pub record Sound (s : Seg) : Type 0 where
  pub shape : IsWithin s.site.shape
  pub dated : IsVersion s.site.shape s.version
  pub history : IsHistory s.site s.frail s.log
  pub columns : AreColumns s.site s.frail s.pools s.log s.cols
  pub cut : AreCuts s.log s.cuts
  pub claimed : AreOpen s.site s.log s.claims
  pub rebuilt : MayRebuild s.site s.frail s.pools s.log s.rebuild
  pub single : IsSingle s.claims s.rebuild
  pub holds : s.site.told ≡ true → is_over s.site s.log ≡ false → HoldBytes s.site.shape (bytes_of s.site s.log) s.cuts s.claims s.cols s.rebuild

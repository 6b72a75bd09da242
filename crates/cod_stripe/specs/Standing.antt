-- What a segment stands for, where it is taken in turns.
use Rattle.std.specs.Prelude.{◌≡◌, ℕ, Bool, true, false, List, [], ◌∷◌, ◌++◌, Option, Some, None, length}
use Rattle.std.specs.List.{flat_map}
use Rattle.atomic_table.specs.Seated.{TableId}
use Rattle.cod_types.specs.Limits.{Shape}
use Rattle.cod_region.specs.Device.{Device}
use Rattle.cod_chronicle.specs.declared.entry.Entry.{Entry}
use Rattle.cod_chronicle.specs.Event.{Request, Setting}
use Rattle.cod_chronicle.specs.Standing.{OpenCalls}
use Rattle.cod_claims.specs.declared.claim.Claim.{Claim}
use Rattle.cod_seg.specs.Next.{next_step, open_in}
use Rattle.cod_seg.specs.Seg.{Col, Rebuilding, Seg, Target}
use Rattle.cod_seg.specs.Sound.{Sound}
use Rattle.cod_segment.specs.Events.{Costs, IsSettingOf, Makes, NoneFails, Swept}

abbrev pub bit : Bool → ℕ
bit true = 1
bit false = 0

abbrev pub optional : Option ℕ → List ℕ
optional None = 0 ∷ []
optional (Some n) = 1 ∷ n ∷ []

abbrev pub shape_numbers : Shape → List ℕ
shape_numbers g = g.version ∷ g.n ∷ g.k ∷ g.block ∷ g.update ∷ g.reserve ∷ g.unit ∷ g.alpha ∷ []

-- Of which pools the rooms have badges. It can be read back wherever it stands: it begins with whether there are such pools, and the
-- list of names in it with its length.
abbrev pub pools_numbers : Option TableId → List ℕ
pools_numbers None = 0 ∷ []
pools_numbers (Some of) = 1 ∷ of.words ∷ of.slots ∷ of.views_name ∷ of.atom ∷ of.block ∷ of.offset ∷ length of.slot_names ∷ of.slot_names

-- What no event changes: the number of nodes, the pools, the geometry, the segment, whether regions tell, and the nodes on which they
-- may fail.
abbrev pub name_of : Seg → List ℕ
name_of s = s.site.nodes ∷ pools_numbers s.pools ++ (shape_numbers s.site.shape ++ (s.site.segment ∷ bit s.site.told ∷ s.frail))

abbrev pub device_numbers : Device → List ℕ
device_numbers d = d.size ∷ d.reads ∷ d.writes ∷ d.faults ∷ []

abbrev pub column_numbers : Col → List ℕ
column_numbers c =
    (bit c.is_up ∷ c.room.node.0 ∷ device_numbers c.state.device) ++ (c.state.size ∷ c.state.used ∷ c.state.appended ∷ c.state.average ∷ [])

-- a claim's owner, its call's number, its place, and its marks, with the length of each noted record
abbrev pub claim_numbers : Option Claim → List ℕ
claim_numbers None = 0 ∷ []
claim_numbers (Some c) =
    (1 ∷ c.owner.0 ∷ c.number ∷ c.delta.part.off ∷ c.delta.part.len ∷ bit c.applied ∷ []) ++ flat_map optional c.noted

abbrev pub target_numbers : Option Target → List ℕ
target_numbers None = 0 ∷ []
target_numbers (Some t) = (1 ∷ t.room.node.0 ∷ t.filled ∷ []) ++ device_numbers t.device

abbrev pub rebuild_numbers : Option Rebuilding → List ℕ
rebuild_numbers None = 0 ∷ []
rebuild_numbers (Some r) = (1 ∷ r.caller ∷ r.number ∷ r.col ∷ []) ++ (flat_map optional r.broken ++ target_numbers r.target)

-- What an event may change, but for bytes: the version of records, the columns, the cuts, the claims, and the rebuild in progress.
abbrev pub gauge_of : Seg → List ℕ
gauge_of s =
    s.version ∷ flat_map column_numbers s.cols ++ (s.cuts ++ (flat_map claim_numbers s.claims ++ rebuild_numbers s.rebuild))

-- One event of a caller: its sweep, and then the steps of its next step, with their device calls.
pub record IsStep (caller : ℕ) (old : List Entry) (gauge : List ℕ) (open_before : OpenCalls) (now : List Entry) (gauge_now : List ℕ) (open_now : OpenCalls) : Type 0 where
  pub before : Seg
  pub mid : Seg
  pub after : Seg
  pub w : Setting
  pub r : Request
  pub clock : ℕ
  pub swept_clock : ℕ
  pub last_clock : ℕ
  pub answered : Bool
  pub own : r.caller ≡ caller
  pub sound : Sound before
  pub setting : IsSettingOf w before
  pub sweeps : Swept w before clock swept_clock mid
  pub swept : Makes w r clock swept_clock false before mid
  pub made : Makes w r swept_clock last_clock answered mid after
  pub costs : NoneFails mid after → Costs mid caller r.call (next_step mid caller r.call) after
  pub old_is : before.log ≡ old
  pub gauge_is : gauge_of before ≡ gauge
  pub open_is : (c : ℕ) → open_in before c ≡ open_before c
  pub now_is : after.log ≡ now
  pub gauge_now_is : gauge_of after ≡ gauge_now
  pub open_now_is : (c : ℕ) → open_in after c ≡ open_now c

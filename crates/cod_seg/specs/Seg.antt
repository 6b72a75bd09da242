-- A segment as plain data.
use Rattle.std.specs.Prelude.{ℕ, Bool, false, List, slice_index_or, slice_set, Option, None}
use Rattle.atomic_table.specs.Seated.{TableId}
use Rattle.cod_types.specs.Limits.{shape}
use Rattle.cod_region.specs.Device.{Device}
use Rattle.cod_chronicle.specs.declared.entry.Entry.{Entry}
use Rattle.cod_chronicle.specs.Legal.{node_id}
use Rattle.cod_chronicle.specs.Said.{Site}
use Rattle.cod_claims.specs.declared.claim.Claim.{Claim}
use Rattle.cod_parity.specs.State.{State, empty}
use Rattle.cod_place.specs.Room.{Room}

-- A column: its room, which has its node, whether it is up, and its state. A data column is one with an empty reserve: of
-- its state only the region counts.
pub record Col : Type 0 where
  pub room : Room
  pub is_up : Bool
  pub state : State

-- the region that a column is brought to, its room, and how many of its first bytes are there
pub record Target : Type 0 where
  pub room : Room
  pub filled : ℕ
  pub device : Device

-- A rebuild in progress: whose call, which column, the count of faults for which each node broke that did, and the target
-- where there is one.
pub record Rebuilding : Type 0 where
  pub caller : ℕ
  pub number : ℕ
  pub col : ℕ
  pub broken : List (Option ℕ)
  pub target : Option Target

-- A segment: its site, the nodes on which its shelf may fail, the pools of which its rooms have badges, if they have any, its
-- chronicle, its columns, how many updates of each block are committed, the claims, the version of the records that it
-- writes, and the rebuild in progress.
pub record Seg : Type 0 where
  pub site : Site
  pub frail : List ℕ
  pub pools : Option TableId
  pub log : List Entry
  pub cols : List Col
  pub cuts : List ℕ
  pub claims : List (Option Claim)
  pub version : ℕ
  pub rebuild : Option Rebuilding

abbrev pub no_device : Device
no_device = record { size = 0; content = None; reads = 0; writes = 0; faults = 0; never_fails = false }

abbrev pub no_col : Col
no_col =
    record { room = record { node = node_id 0; bytes = 0; of = None }; is_up = false; state = empty (shape 1 0 0 0 0 0 0 0) 0 0 no_device }

-- the i-th column
abbrev pub col_at : List Col → ℕ → Col
col_at cols i = slice_index_or cols i no_col

-- the columns with another i-th one
abbrev pub with_col : List Col → ℕ → Col → List Col
with_col cols i c = slice_set cols i c

-- the node of a column
abbrev pub node_in : Col → ℕ
node_in c = c.room.node.0

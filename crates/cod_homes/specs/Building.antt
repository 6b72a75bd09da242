-- How the segments of a scenario are built.
use Rattle.std.specs.Prelude.{◌≡◌, ℕ, ◌<◌, List, length, None}
use Rattle.std.specs.List.{flat_map}
use Rattle.cod_region.specs.Device.{AllRegions}
use Rattle.cod_chronicle.specs.Said.{site_as}
use Rattle.cod_place.specs.Room.{Room}
use Rattle.cod_place.specs.Rooms.{AddUp, bytes_on, Store}
use Rattle.cod_script.specs.Room.{taken_on}
use Rattle.cod_script.specs.Script.{Script}
use Rattle.cod_seg.specs.Seg.{Seg}
use Rattle.cod_seg.specs.Start.{IsNew}
use Rattle.cod_segment.specs.Events.{rooms_of}
use Rattle.cod_stripe.specs.Building.{AreUntouched, frail_below}
use Rattle.cod_advance.specs.Worlds.{seg_at}

-- the rooms of all segments
abbrev pub all_rooms : List Seg → List Room
all_rooms segs = flat_map rooms_of segs

-- a segment was just built, over regions of a shelf on which no call was made
pub record IsBuilt (x : Script) (regions : AllRegions) (i : ℕ) (s : Seg) : Type 0 where
  pub new : IsNew s
  pub untouched : AreUntouched s.cols x.shape.n
  pub site : s.site ≡ site_as regions.tell x.shape x.nodes i
  pub plain : s.pools ≡ None
  pub frail : s.frail ≡ frail_below regions.never_fail x.nodes

-- so many segments were, and their rooms are all that were taken
pub record AreBuilt (x : Script) (regions : AllRegions) (count : ℕ) (segs : List Seg) (pools : Store) : Type 0 where
  pub size : length segs ≡ count
  pub each : (i : ℕ) → i < count → IsBuilt x regions i (seg_at segs i)
  pub sums : AddUp pools (all_rooms segs)
  pub taken : (node : ℕ) → bytes_on node (all_rooms segs) ≡ taken_on x.shape x.nodes count node
  pub capacity : pools.capacity ≡ x.capacity
  pub nodes : length pools.free ≡ x.nodes

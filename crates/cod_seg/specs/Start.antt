-- A segment that was just built.
use Rattle.std.specs.Prelude.{◌≡◌, ◌≤◌, ℕ, ◌<◌, nat_lt, if◌then◌else◌, true, false, Option, List, [], length, replicate, is_some, Some, None}
use Rattle.atomic_table.specs.Seated.{TableId}
use Rattle.cod_types.specs.Columns.{column_size, home_of}
use Rattle.cod_types.specs.Limits.{IsWithin}
use Rattle.cod_region.specs.Device.{Zeros}
use Rattle.cod_chronicle.specs.Said.{Site}
use Rattle.cod_claims.specs.Claimed.{unclaimed}
use Rattle.cod_parity.specs.State.{empty}
use Rattle.cod_seg.specs.Seg.{Col, col_at, node_in, Seg}
use Rattle.cod_seg.specs.Sound.{is_frail}

-- a column at its home, up, of zeros
pub record IsNewColumn (site : Site) (frail : List ℕ) (pools : Option TableId) (i : ℕ) (c : Col) : Type 0 where
  pub home : node_in c ≡ home_of site.segment i site.nodes
  pub owned : c.room.of ≡ pools
  pub live : c.is_up ≡ true
  pub is : c.state ≡ empty site.shape (if nat_lt i site.shape.k then 0 else site.shape.reserve) 10000 c.state.device
  pub tells : is_some c.state.device.content ≡ site.told
  pub full : (held : List ℕ) → c.state.device.content ≡ Some held → length held ≡ c.state.device.size
  pub clean : c.state.device.faults ≡ 0
  pub sure : is_frail frail (node_in c) ≡ false → c.state.device.never_fails ≡ true
  pub room : c.room.bytes ≡ c.state.device.size
  pub long : c.state.device.size ≡ column_size site.shape i
  pub zeros : Zeros c.state.device.content c.state.device.size

-- no entry, no cut, no claim, no rebuild, and at least as many nodes as columns, so that their homes differ
pub record IsNew (s : Seg) : Type 0 where
  pub within : IsWithin s.site.shape
  pub enough_nodes : s.site.shape.n ≤ s.site.nodes
  pub most_nodes : s.site.nodes ≤ 64
  pub size : length s.cols ≡ s.site.shape.n
  pub each : (i : ℕ) → i < s.site.shape.n → IsNewColumn s.site s.frail s.pools i (col_at s.cols i)
  pub begins : s ≡ record {
    site = s.site;
    frail = s.frail;
    pools = s.pools;
    log = [];
    cols = s.cols;
    cuts = replicate 16 0;
    claims = unclaimed;
    version = 1;
    rebuild = None;
  }

-- What a place for a column is, and why there is none.
use Rattle.std.specs.Prelude.{◌++◌, All, ◌≡◌, ◌≢◌, ℕ, ◌<◌, ◌∷◌, [], false, true, is_some, List, length, None, Ok, Err, Option, Some, Result}
use Rattle.cod_types.specs.declared.call.Reply.TheVariants.{NoSpare}
use Rattle.cod_types.specs.declared.reasons.Reason.{Reason}
use Rattle.cod_region.specs.Device.{Zeros}
use Rattle.cod_chronicle.specs.Event.{IsSeenReply, Setting}
use Rattle.cod_chronicle.specs.Legal.{IsReasons, IsWhy, others}
use Rattle.cod_chronicle.specs.Said.{node_of}
use Rattle.cod_board.specs.declared.kill.Kill.{Kill as Killed}
use Rattle.cod_board.specs.Kills.{kill_of}
use Rattle.cod_place.specs.Room.{Room}
use Rattle.cod_place.specs.Spares.{fault_of, nodes_of}
use Rattle.cod_seg.specs.Seg.{Seg, Target}
use Rattle.cod_seg.specs.Sound.{is_frail}
use Rattle.cod_segment.specs.Events.{IsSettingOf, kills_at}
use Rattle.cod_placing.specs.declared.placing.Missing.{Missing}

-- the room of what was found
abbrev pub rooms_in : Result Target Missing → List Room
rooms_in (Ok t) = t.room ∷ []
rooms_in (Err e) = []

-- A target of so many zeros, of which no byte is there, and no call was made on its region. It stands on a node of the cluster that no
-- column is on, up or down, that isn't broken, and that isn't killed on the board as it is afterwards. Its room has just its bytes,
-- and a badge of the segment's pools. Where the shelf never fails, it never fails.
pub record IsFresh (s : Seg) (bytes : ℕ) (broken : List (Option ℕ)) (kills : List (Option Killed)) (t : Target) : Type 0 where
  pub alone : (i : ℕ) → i < s.site.shape.n → node_of s.site s.log i ≢ t.room.node.0
  pub known : t.room.node.0 < s.site.nodes
  pub owned : t.room.of ≡ s.pools
  pub room : t.room.bytes ≡ bytes
  pub fresh : t.filled ≡ 0
  pub size : t.device.size ≡ bytes
  pub tells : is_some t.device.content ≡ s.site.told
  pub full : (held : List ℕ) → t.device.content ≡ Some held → length held ≡ t.device.size
  pub zeros : Zeros t.device.content bytes
  pub unread : t.device.reads ≡ 0
  pub unwritten : t.device.writes ≡ 0
  pub clean : t.device.faults ≡ 0
  pub sure : is_frail s.frail t.room.node.0 ≡ false → t.device.never_fails ≡ true
  pub whole : fault_of broken t.room.node.0 ≡ None
  pub up : kill_of kills t.room.node.0 ≡ None

-- Each node that could take column c has its reason among those given, and each reason was seen.
pub record HasNoSpare (s : Seg) (c : ℕ) (kills : List (Option Killed)) (given : List Reason) : Type 0 where
  pub reasons : IsReasons s.site s.log c given
  pub seen : (w : Setting) → IsSettingOf w s → ((x : ℕ) → w.seen x ≡ kills_at kills x) → IsSeenReply w.seen w.may (NoSpare given)

-- A node is the first that could take column c: each before it, in cyclic order after the one where the column is, has its reason
-- among those given.
pub record IsFirst (s : Seg) (c : ℕ) (given : List Reason) (node : ℕ) : Type 0 where
  pub rest : List ℕ
  pub first : others s.site s.log (node_of s.site s.log c) ≡ nodes_of given ++ (node ∷ rest)
  pub whys : All (λ r. IsWhy s.site.shape c r.why) given

-- Some node is, which is neither broken nor killed.
pub record HasSpare (s : Seg) (c : ℕ) (broken : List (Option ℕ)) (kills : List (Option Killed)) (given : List Reason) : Type 0 where
  pub node : ℕ
  pub first : IsFirst s c given node
  pub whole : fault_of broken node ≡ None
  pub up : kill_of kills node ≡ None

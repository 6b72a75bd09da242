-- What a cluster leaves.
use Rattle.std.specs.Prelude.{◌≡◌, ℕ, ◌≤◌, Option, None, Some, List, length, map, slice_get}
use Rattle.atomic_table.specs.Seated.{TableId}
use Rattle.cod_chronicle.specs.declared.entry.Entry.{Entry}
use Rattle.cod_chronicle.specs.Said.{site_as}
use Rattle.cod_board.specs.declared.kill.Kill.{Kill}
use Rattle.cod_place.specs.Rooms.{AddUp, Store}
use Rattle.cod_script.specs.Script.{Script}
use Rattle.cod_seats.specs.Totals.{times, once_below}
use Rattle.cod_seg.specs.Next.{open_in}
use Rattle.cod_seg.specs.Pools.{owned}
use Rattle.cod_seg.specs.Seg.{Seg}
use Rattle.cod_seg.specs.Sound.{Sound}
use Rattle.cod_stripe.specs.Building.{frail_below}
use Rattle.cod_stripe.specs.Standing.{name_of}
use Rattle.cod_turn.specs.declared.view.View.{View}
use Rattle.cod_turn.specs.Seats.{IsIdle, Seated}
use Rattle.cod_turn.specs.Turning.{callers, Meets}
use Rattle.cod_homes.specs.Building.{all_rooms}
use Rattle.cod_accounts.specs.Closing.{ClosedBoard, ClosedSegment}
use Rattle.cod_pass.specs.States.{Common, course_on, IsCommonOf, IsPassOf, IsRestOf, known_by, PassState, RestState}

-- a segment's list
abbrev pub log_of : Seg → List Entry
log_of s = s.log

-- The only seat of a turn: it has all callers' numbers. Its segment's rooms are of these pools.
pub record IsLast (pools turn : TableId) (seat : Seated Seg) : Type 0 where
  pub turn_is : seat.of ≡ turn
  pub idle : IsIdle seat
  pub all : length (callers seat.knows) ≡ 65536
  pub first : Seg
  pub named : seat.knows.name ≡ name_of first
  pub owner : first.pools ≡ Some pools
  pub nodes : first.site.nodes ≤ pools.words

-- so is each of these seats, one of each turn
pub record AreLast (pools : TableId) (turns : List TableId) (seats : List (Seated Seg)) : Type 0 where
  pub count : length seats ≡ length turns
  pub each : (i : ℕ) (turn : TableId) (seat : Seated Seg) → slice_get turns i ≡ Some turn → slice_get seats i ≡ Some seat → IsLast pools turn seat

-- A segment whose turn was ended by a seat that knew this much, and whose rooms were given back their bytes.
pub record IsReleased (v : View Seg) (now : Seg) : Type 0 where
  pub value : Seg
  pub meets : Meets name_of log_of open_in v value
  pub places : (p : ℕ) → times p v.places ≡ once_below p (length value.log)
  pub sound : Sound value
  pub is : now ≡ owned None value

-- so is each of these segments
abbrev pub AreReleased : List (Seated Seg) → List Seg → Type 0
AreReleased seats values = (i : ℕ) (seat : Seated Seg) (now : Seg) → slice_get seats i ≡ Some seat → slice_get values i ≡ Some now → IsReleased seat.knows now

-- All there is of a cluster of this scenario: what callers share, the first seats, and all passes that were split off.
pub record IsWhole (x : Script) (c : Common) (rest : RestState) (passes : List PassState) : Type 0 where
  pub common : IsCommonOf x c
  pub first : IsRestOf x c (length passes) rest
  pub each : (i : ℕ) (p : PassState) → slice_get passes i ≡ Some p → IsPassOf x c p

-- A segment at the end: it is sound, is where the scenario has it, and its rooms are plain. Its list has what each pass did there, and
-- nothing else.
pub record IsLeft (x : Script) (c : Common) (passes : List PassState) (i : ℕ) (s : Seg) : Type 0 where
  pub sound : Sound s
  pub site : s.site ≡ site_as c.regions.tell x.shape x.nodes i
  pub frail : s.frail ≡ frail_below c.regions.never_fail x.nodes
  pub plain : s.pools ≡ None
  pub closed : ClosedSegment name_of log_of open_in (course_on x c.regions) (map known_by passes) i s

-- A cluster was closed: it left all segments of the scenario, in order, a board of all nodes with the kills that passes made, and pools of
-- the old capacity, in which what is free and the segments' rooms add up.
pub record IsClosedOf (x : Script) (c : Common) (passes : List PassState) (values : List Seg) (kills : List (Option Kill)) (pools : Store) : Type 0 where
  pub count : length values ≡ length x.segments
  pub each : (i : ℕ) (s : Seg) → slice_get values i ≡ Some s → IsLeft x c passes i s
  pub nodes : length kills ≡ x.nodes
  pub board : ClosedBoard (map known_by passes) kills
  pub capacity : pools.capacity ≡ x.capacity
  pub free : length pools.free ≡ x.nodes
  pub rooms : AddUp pools (all_rooms values)

-- What one turn of a client does to a replay.
use Rattle.std.specs.Prelude.{◌≡◌, ℕ, if◌then◌else◌, List, ◌++◌, length, Option, Some, slice_set}
use Rattle.cod_types.specs.declared.call.SegId.{SegId}
use Rattle.cod_board.specs.declared.kill.Kill.{Kill}
use Rattle.cod_board.specs.Kills.{killed}
use Rattle.cod_chronicle.specs.Event.{Setting}
use Rattle.cod_claims.specs.Slips.{Paper}
use Rattle.cod_place.specs.Room.{Room}
use Rattle.cod_place.specs.Rooms.{CameFrom, Store}
use Rattle.cod_seg.specs.Seg.{Seg}
use Rattle.cod_segment.specs.declared.asking.Outcome.{Outcome}
use Rattle.cod_segment.specs.Advancing.{IsAdvanced, number_after}
use Rattle.cod_segment.specs.Events.{Balances, call_in, is_answered, IsSettingOf, kills_at, request_of, rooms_of}
use Rattle.cod_segment.specs.Exact.{Turns}
use Rattle.cod_turns.specs.Turns.{board_clock}
use Rattle.cod_advance.specs.Worlds.{seg_at}
use Rattle.cod_replay.specs.State.{play_at, State}
use Rattle.cod_replay.specs.Tasks.{gone_on, Play, slip_in, task_of}
use Rattle.cod_replay.specs.declared.task.Task.TheVariants.{Call}

-- a client after an event of its call
abbrev pub played : Outcome → (seg : SegId) (clock : ℕ) (slip : Paper) → Play → Play
played outcome seg clock slip p =
    record p { number = number_after outcome p.number; clock = clock; tasks = slice_set p.tasks p.next (Call seg slip) }

-- where it was answered, the line is done
abbrev pub done_if : Outcome → Play → Play
done_if outcome p = if is_answered outcome then gone_on p else p

-- What an event of a caller's call does to its segment and to the pools.
pub record HasEvent (kills : List (Option Kill)) (caller number clock after : ℕ) (outcome : Outcome) (slip slip_after : Paper) (old new : Seg) (before now : Store) : Type 0 where
  pub turns : (w : Setting) → IsSettingOf w old → ((x : ℕ) → w.known x ≡ kills_at kills x) → ((x : ℕ) → w.seen x ≡ kills_at kills x)
      → Turns w (request_of caller number (call_in slip)) clock after outcome old new
  pub advanced : IsAdvanced outcome (request_of caller number (call_in slip)) after new slip slip_after
  pub rooms : (rest : List Room) → CameFrom before (rooms_of old ++ rest) → CameFrom now (rooms_of new ++ rest)
  pub balance : Balances (Some before.free) (Some now.free) (rooms_of old) (rooms_of new)
  pub nodes : length now.free ≡ length before.free

-- a replay in which a segment had an event of a client's call
abbrev pub served_as : (who : ℕ) (seg : SegId) (outcome : Outcome) (clock : ℕ) (slip : Paper) (now : Seg) (pools : Store) → State → State
served_as who seg outcome clock slip now pools s =
    record s {
      pools = pools;
      segs = slice_set s.segs seg.0 now;
      plays = slice_set s.plays who (done_if outcome (played outcome seg clock slip (play_at s.plays who)));
    }

-- A turn of a client with a segment's call: that segment has one event of it, and all else stays.
pub record Serves (who : ℕ) (seg : SegId) (outcome : Outcome) (old new : State) : Type 0 where
  pub clock : ℕ
  pub slip : Paper
  pub now : Seg
  pub pools : Store
  pub event : HasEvent old.kills (play_at old.plays who).caller (play_at old.plays who).number (play_at old.plays who).clock clock outcome
      (slip_in (task_of (play_at old.plays who))) slip (seg_at old.segs seg.0) now old.pools pools
  pub becomes : new ≡ served_as who seg outcome clock slip now pools old

-- the kill by a client's line
abbrev pub kill_by : (line : ℕ) → Play → Kill
kill_by line p = record { line = line; clock = board_clock p.clock }

-- A turn of a client with a `fail` line: its node is killed, and all else stays.
abbrev pub failed : (who line node : ℕ) → State → State
failed who line node s = record s {
  kills = killed node (kill_by line (play_at s.plays who)) s.kills;
  plays = slice_set s.plays who (gone_on (play_at s.plays who));
}

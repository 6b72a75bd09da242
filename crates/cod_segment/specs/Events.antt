-- The events of a segment, as they are promised.
use Rattle.std.specs.Prelude.{◌≡◌, ◌≢◌, ◌⊎◌, ℕ, ◌+◌, ◌<◌, ◌^◌, IsTrue, unwrap_or, Bool, true, false, List, [], ◌∷◌, ◌++◌, length, map, slice_index, slice_set, Option, Some, None, option_map, All}
use Rattle.std.specs.List.{range_with_len}
use Rattle.cod_types.specs.Faults.{grown}
use Rattle.cod_types.specs.declared.call.Call.{Call as Asked}
use Rattle.cod_types.specs.declared.call.Call.TheVariants.{Merge, Rebuild, Upgrade}
use Rattle.cod_types.specs.declared.call.Reply.{Reply}
use Rattle.cod_types.specs.declared.reasons.Reason.{Reason}
use Rattle.cod_region.specs.Device.{Device}
use Rattle.cod_chronicle.specs.declared.entry.Entry.{Entry}
use Rattle.cod_chronicle.specs.declared.entry.Entry.TheVariants.{Call}
use Rattle.cod_chronicle.specs.Event.{Kills, Request, Setting}
use Rattle.cod_chronicle.specs.Said.{numbers_by}
use Rattle.cod_chronicle.specs.Sweep.{Sweeps}
use Rattle.cod_claims.specs.Slips.{Paper, prepared}
use Rattle.cod_board.specs.declared.kill.Kill.{Kill as Killed}
use Rattle.cod_board.specs.Kills.{kill_of}
use Rattle.cod_place.specs.Room.{Room}
use Rattle.cod_place.specs.Rooms.{bytes_on}
use Rattle.cod_seg.specs.Calls.{column_costs, Cost, costs_on, drained, nothing}
use Rattle.cod_seg.specs.Happens.{Happened}
use Rattle.cod_seg.specs.Next.{open_in}
use Rattle.cod_seg.specs.Seg.{Col, col_at, Rebuilding, Seg, Target}
use Rattle.cod_seg.specs.Sound.{is_frail}
use Rattle.cod_seg.specs.Steps.{Goes}
use Rattle.cod_seg.specs.declared.next.Step.{Step}
use Rattle.cod_seg.specs.declared.next.Step.TheVariants as step
use Rattle.cod_segment.specs.declared.asking.Outcome.{Outcome}
use Rattle.cod_segment.specs.declared.asking.Outcome.TheVariants.{Moved, Answered, Held}

-- ---- what an event is asked

abbrev pub request_of : (caller number : ℕ) → Asked → Request
request_of caller number call = record { caller = caller; number = number; call = call }

-- A call that has begun has one link left, and a rebuild its lists of reasons.
pub record HasBegun (p : Paper) (call : Asked) : Type 0 where
  pub call_is : p.call ≡ Some call
  pub link : p.links ≡ 1
  pub lists : call ≡ Rebuild → (first : List Reason) × (second : List Reason) × (p.reasons ≡ Some (first, second))
  pub unanswered : p.reply ≡ None

-- A slip has a caller's call, which is either whole and the caller has nothing open, or has begun and is what the caller has open. Its
-- number is above those of the caller's calls that are answered. An upgrade is asked for only where the geometry admits records of
-- version 2.
pub record IsAsked (s : Seg) (caller number : ℕ) (p : Paper) (call : Asked) : Type 0 where
  pub newest : All (λ m. m < number) (numbers_by caller s.log)
  pub state : ((open_in s caller ≡ None) × (p ≡ prepared s.site.shape call)) ⊎ ((open_in s caller ≡ Some (number, call)) × HasBegun p call)
  pub dated : call ≡ Upgrade → s.site.shape.version ≡ 2

-- the rooms of a segment: its target's, where there is one, and then those of the columns
abbrev pub goal_rooms : Option Target → List Room
goal_rooms None = []
goal_rooms (Some t) = t.room ∷ []

-- the broken nodes, and the target's, with its count of faults
abbrev pub broken_with : Option Target → List (Option ℕ) → List (Option ℕ)
broken_with None broken = broken
broken_with (Some t) broken = slice_set broken t.room.node.0 (Some t.device.faults)

abbrev pub rebuild_rooms : Option Rebuilding → List Room
rebuild_rooms None = []
rebuild_rooms (Some r) = goal_rooms r.target

abbrev pub rooms_of : Seg → List Room
rooms_of s = rebuild_rooms s.rebuild ++ map (λ (c : Col). c.room) s.cols

-- What is free and what these rooms take is on each node what it was, where free bytes are told.
abbrev pub Balances : (before after : Option (List ℕ)) (old new : List Room) → Type 0
Balances before after old new = (f : List ℕ) → before ≡ Some f → (g : List ℕ) × (after ≡ Some g) × (length g ≡ length f)
    × ((node : ℕ) → node < length f → slice_index g node + bytes_on node new ≡ slice_index f node + bytes_on node old)

-- there is room for so many entries more
abbrev pub HasRoom : (more : ℕ) → Seg → Type 0
HasRoom more s = length s.log + s.site.shape.n + more < 2 ^ 63

-- ---- what comes of it

-- the kills on a board, as events see them
abbrev pub kills_at : List (Option Killed) → Kills
kills_at kills node = option_map (λ (k : Killed). record { line = k.line; clock = k.clock }) (kill_of kills node)

-- a setting of a segment's events: its site, and a region may fail where its shelf may
pub record IsSettingOf (w : Setting) (s : Seg) : Type 0 where
  pub site : w.site ≡ s.site
  pub may : (node : ℕ) → is_frail s.frail node ≡ true → IsTrue (w.may node)

-- An event makes some steps of a request, before which the caller's clock is t and after which it is `after`.
pub record Makes (w : Setting) (r : Request) (t after : ℕ) (answered : Bool) (s u : Seg) : Type 0 where
  pub steps : Goes s u
  pub happened : Happened w r t after answered s u steps

abbrev pub is_answered : Outcome → Bool
is_answered (Answered position stamp) = true
is_answered _ = false

abbrev pub IsCallOf : Request → (stamp : ℕ) → (reply : Option Reply) → Entry → Type 0
IsCallOf r stamp None e = ⊥
IsCallOf r stamp (Some reply) e = e ≡ Call record { 0 = r.caller } r.number stamp r.call reply

-- The call goes on, and its caller has it open; or it was answered, by the entry at this position, which is the last: the slip has its
-- reply, and its caller has nothing open.
abbrev pub IsOutcome : Outcome → (r : Request) (after : ℕ) (u : Seg) → Paper → Type 0
IsOutcome Moved r after u p = (open_in u r.caller ≡ Some (r.number, r.call)) × HasBegun p r.call
IsOutcome (Answered position stamp) r after u p =
    (open_in u r.caller ≡ None) × (stamp ≡ after)
    × ((before : List Entry) × (last : Entry) × (u.log ≡ before ++ last ∷ []) × (position ≡ length before) × IsCallOf r stamp p.reply last)
IsOutcome (Held h) r after u p = ⊥

-- ---- its device calls

abbrev pub Counts : Cost → (old new : Device) → Type 0
Counts cost old new = (new.reads ≡ grown cost.reads old.reads) × (new.writes ≡ grown cost.writes old.writes)

abbrev pub CountsTarget : Cost → (old new : Option Target) → Type 0
CountsTarget cost (Some t) (Some u) = Counts cost t.device u.device
CountsTarget cost _ _ = Unit {0}

-- a rebuild that stays in progress
abbrev pub CountsRebuild : Seg → (caller : ℕ) → Step → (old new : Option Rebuilding) → Type 0
CountsRebuild s caller next (Some r) (Some q) = (t : Target) → r.target ≡ Some t → CountsTarget (costs_on s caller r.col next t) r.target q.target
CountsRebuild s caller next _ _ = Unit {0}

-- A column's region that stays was read and written just so often. One that a drain leaves in its place was only read: how often, the
-- places tell that were tried.
abbrev pub CountsColumn : Seg → Asked → Step → (i : ℕ) → (old new : Device) → Type 0
CountsColumn s call step.Drain i old new = (drained s call ≢ Some i → Counts nothing old new) × (new.writes ≡ old.writes)
CountsColumn s call next i old new = Counts (column_costs s call next i) old new

-- Where no column goes down in the event, each column's region, but that of one that comes to another place, was read and written just
-- so often; and a target that stays.
pub record Costs (s : Seg) (caller : ℕ) (call : Asked) (next : Step) (u : Seg) : Type 0 where
  pub columns : (i : ℕ) → i < s.site.shape.n → (col_at u.cols i).room.node ≡ (col_at s.cols i).room.node
      → CountsColumn s call next i (col_at s.cols i).state.device (col_at u.cols i).state.device
  pub target : CountsRebuild s caller next s.rebuild u.rebuild

abbrev pub NoneFails : (s u : Seg) → Type 0
NoneFails s u = (i : ℕ) → i < s.site.shape.n → (col_at s.cols i).is_up ≡ true → (col_at u.cols i).is_up ≡ true

-- ---- beside

-- the call that a slip has
abbrev pub call_in : Paper → Asked
call_in p = unwrap_or p.call Merge

-- A sweep marks in order each column that is up and whose node the board shows as killed, and nothing else of the chronicle.
pub record Swept (w : Setting) (s : Seg) (t after : ℕ) (u : Seg) : Type 0 where
  pub marks : List Entry
  pub grown : u.log ≡ s.log ++ marks
  pub sweeps : Sweeps w s.log t (range_with_len 0 s.site.shape.n) marks after

-- Passes, and what they share, as plain data.
use Rattle.std.specs.Prelude.{◌≡◌, ℕ, ◌+◌, Bool, List, [], ◌∷◌, length, map, slice_get, Some}
use Rattle.atomic_table.specs.Seated.{TableId}
use Rattle.cod_types.specs.Limits.{Shape}
use Rattle.cod_region.specs.Device.{AllRegions}
use Rattle.cod_chronicle.specs.Said.{site_as}
use Rattle.cod_board.specs.Seats.{Seated as BoardSeated}
use Rattle.cod_place.specs.Free.{at_node, Pooled, Seated as PoolSeated}
use Rattle.cod_script.specs.Script.{Script}
use Rattle.cod_seg.specs.Seg.{Seg}
use Rattle.cod_seg.specs.Sound.{is_frail}
use Rattle.cod_stripe.specs.Building.{frail_below}
use Rattle.cod_stripe.specs.Standing.{name_of}
use Rattle.cod_turn.specs.Seats.{IsIdle, Seated}
use Rattle.cod_turn.specs.Turning.{callers}
use Rattle.cod_turns.specs.Turns.{Course}
use Rattle.cod_accounts.specs.Working.{Pass}
use Rattle.cod_pass.specs.Readiness.{Fits, IsReady}

-- A pass: its caller, the number of its next call, its clock, its seats of the segments' turns, of which geometry its bench is, and its
-- seats of the board and of the pools.
pub record PassState : Type 0 where
  pub caller : ℕ
  pub number : ℕ
  pub clock : ℕ
  pub seats : List (Seated Seg)
  pub bench : Shape
  pub board : BoardSeated
  pub pools : PoolSeated

-- what a pass knows, as its account has it
abbrev pub known_by : PassState → Pass Seg
known_by p = record { caller = p.caller; number = p.number; clock = p.clock; seats = map (λ (s : Seated Seg). s.knows) p.seats; board = p.board.knows }

-- the seats with the numbers that no pass has
pub record RestState : Type 0 where
  pub seats : List (Seated Seg)
  pub board : BoardSeated
  pub pools : PoolSeated

-- What passes share: which turns, which board and which pools these are, and what holds of the shelf's regions.
pub record Common : Type 0 where
  pub turns : List TableId
  pub board : TableId
  pub pools : Pooled
  pub regions : AllRegions

-- a scenario over the regions of a shelf, which may fail on nodes of the scenario alone
abbrev pub course_on : Script → AllRegions → Course
course_on x regions = record { script = x; may = is_frail (frail_below regions.never_fail x.nodes); told = regions.tell }

-- What is shared is of this scenario: it has a turn of each segment, and a board and pools of its nodes.
pub record IsCommonOf (x : Script) (c : Common) : Type 0 where
  pub turns : length c.turns ≡ length x.segments
  pub board : c.board.words ≡ x.nodes
  pub pools : c.pools.of.words ≡ x.nodes
  pub capacity : c.pools.capacity ≡ x.capacity

-- A seat of the i-th segment's turn, by which a caller can make the call with this number: the seat knows a segment there.
pub record IsSeatAt (x : Script) (c : Common) (caller number : ℕ) (bench : Shape) (i : ℕ) (seat : Seated Seg) : Type 0 where
  pub turn : slice_get c.turns i ≡ Some seat.of
  pub last : Seg
  pub ready : IsReady caller number last seat
  pub fits : Fits c.board c.pools.of c.regions bench last
  pub site : last.site ≡ site_as c.regions.tell x.shape x.nodes i
  pub frail : last.frail ≡ frail_below c.regions.never_fail x.nodes

-- A pass by which its caller can make a call of any segment. It has one number of the board, and no bytes of the pools.
pub record IsPassOf (x : Script) (c : Common) (p : PassState) : Type 0 where
  pub count : length p.seats ≡ length c.turns
  pub seats : (i : ℕ) (seat : Seated Seg) → slice_get p.seats i ≡ Some seat → IsSeatAt x c p.caller p.number p.bench i seat
  pub bench : p.bench ≡ x.shape
  pub board : p.board.of ≡ c.board
  pub number_of_board : length p.board.knows.numbers ≡ 1
  pub pools : p.pools.of ≡ c.pools.of
  pub no_bytes : p.pools.bytes ≡ []

-- A first seat of the i-th turn, from which so many were split off, and which has added nothing: with them it has all callers' numbers. It
-- knows the name of the segment that is there.
pub record IsRestAt (x : Script) (c : Common) (passes i : ℕ) (seat : Seated Seg) : Type 0 where
  pub turn : slice_get c.turns i ≡ Some seat.of
  pub idle : IsIdle seat
  pub first : Seg
  pub named : seat.knows.name ≡ name_of first
  pub site : first.site ≡ site_as c.regions.tell x.shape x.nodes i
  pub frail : first.frail ≡ frail_below c.regions.never_fail x.nodes
  pub owner : first.pools ≡ Some c.pools.of
  pub places : seat.knows.places ≡ []
  pub numbers : length (callers seat.knows) + passes ≡ 65536

-- The first seats, from which so many passes were split off. They made no kill, and have no bytes: all that is taken, rooms have.
pub record IsRestOf (x : Script) (c : Common) (passes : ℕ) (r : RestState) : Type 0 where
  pub count : length r.seats ≡ length c.turns
  pub seats : (i : ℕ) (seat : Seated Seg) → slice_get r.seats i ≡ Some seat → IsRestAt x c passes i seat
  pub board : r.board.of ≡ c.board
  pub no_kill : r.board.knows.made ≡ []
  pub numbers : length r.board.knows.numbers + passes ≡ 65536
  pub pools : r.pools.of ≡ c.pools.of
  pub no_bytes : (node : ℕ) → at_node node r.pools.bytes ≡ 0

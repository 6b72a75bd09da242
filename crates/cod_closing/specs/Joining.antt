-- Seats that come together.
use Rattle.std.specs.Prelude.{◌≡◌, ℕ, Some, List, [], ◌∷◌, ◌++◌, length, slice_get}
use Rattle.atomic_table.specs.Seated.{TableId}
use Rattle.cod_seg.specs.Seg.{Seg}
use Rattle.cod_board.specs.Words.{both_of as both_boards}
use Rattle.cod_turn.specs.Seats.{IsIdle, Seated}
use Rattle.cod_turn.specs.Turning.{both_of}
use Rattle.cod_pass.specs.States.{PassState, RestState}

-- a seat of a turn to which another was joined
abbrev pub both_seats : Seated Seg → Seated Seg → Seated Seg
both_seats s t = record { of = s.of; knows = both_of s.knows t.knows }

-- the first seats of all turns to which others were joined
abbrev pub both_turns : List (Seated Seg) → List (Seated Seg) → List (Seated Seg)
both_turns [] ts = []
both_turns (s ∷ ss) [] = s ∷ ss
both_turns (s ∷ ss) (t ∷ ts) = both_seats s t ∷ both_turns ss ts

-- the first seats to which a pass's were joined
abbrev pub with_pass : RestState → PassState → RestState
with_pass r p = record {
  seats = both_turns r.seats p.seats;
  board = record { of = r.board.of; knows = both_boards r.board.knows p.board.knows };
  pools = record r.pools { bytes = r.pools.bytes ++ p.pools.bytes };
}

-- and those of passes, in order
abbrev pub with_passes : RestState → List PassState → RestState
with_passes r [] = r
with_passes r (p ∷ ps) = with_passes (with_pass r p) ps

-- a seat of each of these turns, in order, that holds nothing
pub record AreSeatsOf (turns : List TableId) (seats : List (Seated Seg)) : Type 0 where
  pub count : length seats ≡ length turns
  pub each : (i : ℕ) (s : Seated Seg) → slice_get seats i ≡ Some s → (slice_get turns i ≡ Some s.of) × IsIdle s

-- a pass of these turns, of this board and of these pools
pub record IsTheirs (turns : List TableId) (board pools : TableId) (p : PassState) : Type 0 where
  pub seats : AreSeatsOf turns p.seats
  pub board_is : p.board.of ≡ board
  pub pools_are : p.pools.of ≡ pools

-- so are the first seats
pub record IsOurs (turns : List TableId) (board pools : TableId) (r : RestState) : Type 0 where
  pub seats : AreSeatsOf turns r.seats
  pub board_is : r.board.of ≡ board
  pub pools_are : r.pools.of ≡ pools

-- How seats are split, and what a cluster starts with.
use Rattle.std.specs.Prelude.{◌≡◌, ℕ, ◌+◌, ◌-◌, ◌≤◌, ◌<◌, All, List, [], ◌∷◌, length, map, slice_get, None, Some}
use Rattle.atomic_table.specs.Seated.{TableId}
use Rattle.cod_types.specs.Limits.{Shape}
use Rattle.cod_region.specs.Device.{AllRegions}
use Rattle.cod_board.specs.Seats.{Seated as BoardSeated}
use Rattle.cod_place.specs.Free.{at_node}
use Rattle.cod_script.specs.Script.{Script}
use Rattle.cod_seats.specs.Totals.{range}
use Rattle.cod_seg.specs.Next.{open_in}
use Rattle.cod_seg.specs.Seg.{Seg}
use Rattle.cod_stripe.specs.Standing.{name_of}
use Rattle.cod_turn.specs.Seats.{Seated}
use Rattle.cod_turn.specs.Turning.{all_at}
use Rattle.cod_accounts.specs.Working.{IsNew}
use Rattle.cod_pass.specs.States.{Common, IsCommonOf, IsPassOf, IsRestOf, known_by, PassState, RestState}

-- the rooms of each segment are plain, and it has at most so many nodes
abbrev pub ArePlain : (nodes : ℕ) → List Seg → Type 0
ArePlain nodes segs = All (λ s. (s.pools ≡ None) × (s.site.nodes ≤ nodes)) segs

-- nothing happened to any of these
abbrev pub AreEmpty : List Seg → Type 0
AreEmpty segs = All (λ s. s.log ≡ []) segs

-- the callers' numbers from n on, which no pass has
abbrev pub left_from : ℕ → List ℕ
left_from n = range n (65536 - n)

-- a seat of a turn, for these callers, where nothing happened to the segment
abbrev pub seat_of : TableId → Seg → (numbers : List ℕ) → Seated Seg
seat_of turn s numbers = record { of = turn; knows = record { own = all_at s numbers; name = name_of s; places = []; hold = None } }

-- so is this one, of the i-th turn and segment
pub record IsSeat (turns : List TableId) (segs : List Seg) (numbers : List ℕ) (i : ℕ) (seat : Seated Seg) : Type 0 where
  pub turn : TableId
  pub segment : Seg
  pub has_turn : slice_get turns i ≡ Some turn
  pub has_segment : slice_get segs i ≡ Some segment
  pub is : seat ≡ seat_of turn segment numbers

-- one of each turn
pub record AreSeats (turns : List TableId) (segs : List Seg) (numbers : List ℕ) (seats : List (Seated Seg)) : Type 0 where
  pub size : length seats ≡ length turns
  pub each : (i : ℕ) (seat : Seated Seg) → slice_get seats i ≡ Some seat → IsSeat turns segs numbers i seat

-- a board's seat that has seen nothing and made nothing
abbrev pub board_seat : TableId → (numbers : List ℕ) → BoardSeated
board_seat board numbers = record { of = board; knows = record { seen = []; made = []; numbers = numbers; looks = [] } }

-- the first seats have the callers' numbers from n on
pub record IsLeft (turns : List TableId) (segs : List Seg) (board pools : TableId) (n : ℕ) (r : RestState) : Type 0 where
  pub seats : AreSeats turns segs (left_from n) r.seats
  pub board_is : r.board ≡ board_seat board (left_from n)
  pub pools_are : r.pools.of ≡ pools
  pub no_bytes : (node : ℕ) → at_node node r.pools.bytes ≡ 0

-- a pass that was just split off
pub record IsFresh (turns : List TableId) (segs : List Seg) (shape : Shape) (board pools : TableId) (caller : ℕ) (p : PassState) : Type 0 where
  pub seats : AreSeats turns segs (caller ∷ []) p.seats
  pub is : p ≡ record {
    caller = caller;
    number = 0;
    clock = 0;
    seats = p.seats;
    bench = shape;
    board = board_seat board (caller ∷ []);
    pools = record { of = pools; bytes = []; looks = [] };
  }

-- one for each of so many callers
pub record ArePasses (turns : List TableId) (segs : List Seg) (shape : Shape) (board pools : TableId) (callers : ℕ) (passes : List PassState) : Type 0 where
  pub size : length passes ≡ callers
  pub each : (c : ℕ) (p : PassState) → slice_get passes c ≡ Some p → IsFresh turns segs shape board pools c p

-- What a cluster of a scenario starts with, for so many callers: what they share, the first seats, and each caller's pass, which has done
-- nothing.
pub record IsOpened (x : Script) (callers : ℕ) (c : Common) (r : RestState) (passes : List PassState) : Type 0 where
  pub shared : IsCommonOf x c
  pub rest : IsRestOf x c callers r
  pub count : length passes ≡ callers
  pub callers_are : (i : ℕ) (p : PassState) → slice_get passes i ≡ Some p → p.caller ≡ i
  pub passes_are : (i : ℕ) (p : PassState) → slice_get passes i ≡ Some p → IsPassOf x c p
  pub new : (i : ℕ) (p : PassState) → slice_get passes i ≡ Some p → IsNew (λ s. s.log) open_in (known_by p)

-- What a call finds: a caller's seat of the segment's turn, and what it works with.
use Rattle.std.specs.Prelude.{◌≡◌, ℕ, ◌<◌, [], ◌∷◌, None, Some, true, false, All}
use Rattle.atomic_table.specs.Seated.{TableId}
use Rattle.cod_types.specs.Limits.{Shape}
use Rattle.cod_region.specs.Device.{AllRegions}
use Rattle.cod_chronicle.specs.Legal.{node_id}
use Rattle.cod_chronicle.specs.Said.{numbers_by}
use Rattle.cod_seg.specs.Next.{open_in}
use Rattle.cod_seg.specs.Seg.{Seg}
use Rattle.cod_seg.specs.Sound.{is_frail}
use Rattle.cod_stripe.specs.Standing.{name_of}
use Rattle.cod_turn.specs.Seats.{IsIdle, Seated}

-- The seat has this one caller, with the segment as the caller's last event left it. There the caller has nothing open, and its calls have
-- numbers below this one.
pub record IsReady (caller number : ℕ) (s : Seg) (seat : Seated Seg) : Type 0 where
  pub idle : IsIdle seat
  pub named : seat.knows.name ≡ name_of s
  pub own : seat.knows.own ≡ (caller, s) ∷ []
  pub none : open_in s caller ≡ None
  pub newest : All (λ m. m < number) (numbers_by caller s.log)

-- A board and pools of the segment's nodes, the pools those of which its rooms are; a shelf that never fails where the segment's regions
-- never fail; and a bench of its geometry.
pub record Fits (board pools : TableId) (regions : AllRegions) (bench : Shape) (s : Seg) : Type 0 where
  pub board_nodes : board.words ≡ s.site.nodes
  pub pool_nodes : pools.words ≡ s.site.nodes
  pub owner : s.pools ≡ Some pools
  pub shelf : (node : ℕ) → node < s.site.nodes → is_frail s.frail node ≡ false → regions.never_fail (node_id node) ≡ true
  pub made_for : bench ≡ s.site.shape

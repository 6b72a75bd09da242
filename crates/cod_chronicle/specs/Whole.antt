-- The chronicles of all segments are one legal history.
use Rattle.std.specs.Prelude.{◌≡◌, ◌⊎◌, ℕ, ◌-◌, ◌≤◌, Some, List, Bool, true, length, slice_get, map, All, Contains}
use Rattle.std.specs.List.{filter_map, range_with_len}
use Rattle.cod_types.specs.Limits.{Shape}
use Rattle.cod_chronicle.specs.declared.entry.Entry.{Entry}
use Rattle.cod_chronicle.specs.Said.{site_as, number_by, IsChronicle}
use Rattle.cod_chronicle.specs.Legal.{IsLegal}
use Rattle.cod_chronicle.specs.Order.{Placed, stamp_at, placed, order}

-- the numbers of a caller's calls, in order
abbrev pub numbers_of : ℕ → List Placed → List ℕ
numbers_of who ps = filter_map (λ p. number_by who p.entry) ps

-- an entry has this stamp
abbrev pub HasStamp : List Placed → ℕ → Type 0
HasStamp ps t = Contains (map stamp_at ps) t

-- no stamp is left out: for each above 1 there is one that is one less
abbrev pub LeavesNoGap : List Placed → Type 0
LeavesNoGap ps = All (λ p. (stamp_at p ≤ 1) ⊎ HasStamp ps (stamp_at p - 1)) ps

-- Each segment's chronicle is legal, each caller's numbers are 0, 1, 2 and so on, and no stamp is left out.
pub record IsWholeLegalAs (told : Bool) (g : Shape) (nodes : ℕ) (hs : List (List Entry)) : Type 0 where
  pub each : (s : ℕ) (h : List Entry) → slice_get hs s ≡ Some h → IsChronicle h × IsLegal (site_as told g nodes s) h
  pub numbers : (who : ℕ) → numbers_of who (order hs) ≡ range_with_len 0 (length (numbers_of who (order hs)))
  pub stamps : LeavesNoGap (placed hs)

-- over regions that tell what they hold
abbrev pub IsWholeLegal : (g : Shape) (nodes : ℕ) (hs : List (List Entry)) → Type 0
IsWholeLegal g nodes hs = IsWholeLegalAs true g nodes hs

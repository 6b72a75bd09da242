-- What is left of a rebuild in progress.
use Rattle.std.specs.Prelude.{ℕ, ◌==◌, if◌then◌else◌, Option, Some, None}
use Rattle.cod_seg.specs.Seg.{Rebuilding}

-- the rebuild in progress, unless it is the caller's
abbrev pub left_by : (caller : ℕ) → Option Rebuilding → Option Rebuilding
left_by caller None = None
left_by caller (Some r) = if r.caller == caller then None else Some r

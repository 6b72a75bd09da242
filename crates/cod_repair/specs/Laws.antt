-- What reads leave of the columns.
use Rattle.std.specs.Prelude.{◌≡◌, ℕ, ◌≤◌, ◌&&◌, nat_lt, Bool, if◌then◌else◌, List, length}
use Rattle.cod_seg.specs.Seg.{Col, col_at}
use Rattle.cod_repair.specs.Columns.{faults_at, HasValue, was_read, were_read}

-- a read leaves a column's value, whatever its count of faults is then
abbrev pub ReadKeepsValue : Type 0
ReadKeepsValue = (c : Col) (cuts : List ℕ) (kept value : ℕ → ℕ) (faults : ℕ) → HasValue c cuts kept value → HasValue (was_read faults c) cuts kept value

-- of the columns below m the chosen ones have one read more, and nothing else has changed
abbrev pub WereReadAt : Type 0
WereReadAt =
    (chosen : ℕ → Bool) (cols : List Col) (m i : ℕ) → m ≤ length cols
    → col_at (were_read chosen cols m) i ≡ (if nat_lt i m && chosen i then was_read (faults_at cols i) (col_at cols i) else col_at cols i)

-- The lowest of the columns that are marked.
use Rattle.std.specs.Prelude.{ℕ, ◌+◌, ◌&&◌, Bool, false, List, slice_index_or, nat_lt, if◌then◌else◌}
use Rattle.std.proofs.Common.{zero, suc}

-- how many of the columns below n are marked
abbrev pub marked_below : List Bool → ℕ → ℕ
marked_below marks zero = 0
marked_below marks (suc n) = if slice_index_or marks n false then marked_below marks n + 1 else marked_below marks n

-- the column is one of the `count` lowest that are marked
abbrev pub is_lowest : (count : ℕ) → List Bool → (column : ℕ) → Bool
is_lowest count marks column = slice_index_or marks column false && nat_lt (marked_below marks column) count

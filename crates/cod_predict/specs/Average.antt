-- The moving average of the use of reserved space, and the size that follows from it. Shares and averages are in
-- ten-thousandths.
use Rattle.std.specs.Prelude.{ℕ, ◌+◌, ◌-◌, ◌*◌, ◌/◌, ◌≤◌, max}
use Rattle.cod_types.specs.Limits.{Shape, floor}

-- the bytes in use, the bytes of a size, and the average so far, within their limits
pub record InRange (used size avg : ℕ) : Type 0 where
  pub some_size : 1 ≤ size
  pub most_size : size ≤ 4194304
  pub within : used ≤ size
  pub bounded : avg ≤ 10000

-- the used part of a size
abbrev pub used_share : (used size : ℕ) → ℕ
used_share used size = used * 10000 / size

-- the average in which the newest use weighs alpha ten-thousandths, and the average so far weighs the rest
abbrev pub next_average : (alpha used size avg : ℕ) → ℕ
next_average alpha used size avg = (alpha * used_share used size + (10000 - alpha) * avg) / 10000

-- the bytes of a size that an average leaves unused
abbrev pub unused_bytes : (size avg : ℕ) → ℕ
unused_bytes size avg = (10000 - avg) * size / 10000

-- the size less its unused bytes in whole units, but no less than the floor
abbrev pub target_size : Shape → (size avg : ℕ) → ℕ
target_size g size avg = max (size - unused_bytes size avg / g.unit * g.unit) (floor g)

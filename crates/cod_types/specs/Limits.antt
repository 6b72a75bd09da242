-- The numbers of a geometry and their limits.
use Rattle.std.specs.Prelude.{ℕ, ◌+◌, ◌*◌, ◌≤◌, nat_lt, nat_eq, ◌||◌, if◌then◌else◌, Option, Some, None}
use Rattle.cod_types.specs.declared.geometry.Field.{Field}
use Rattle.cod_types.specs.declared.geometry.Field.TheVariants.{N, K, Block, Update, Reserve, Unit, Alpha}

-- The numbers of a geometry. Its version is that of the records that a segment may come to write.
pub record Shape : Type 0 where
  pub version : ℕ
  pub n : ℕ
  pub k : ℕ
  pub block : ℕ
  pub update : ℕ
  pub reserve : ℕ
  pub unit : ℕ
  pub alpha : ℕ

abbrev pub shape : (version n k block update reserve unit alpha : ℕ) → Shape
shape version n k block update reserve unit alpha =
    record { version = version; n = n; k = k; block = block; update = update; reserve = reserve; unit = unit; alpha = alpha }

-- how many bytes a record of an update has beside the update's bytes, at most
abbrev pub record_overhead : ℕ → ℕ
record_overhead version = if nat_eq version 2 then 21 else 19

-- the least reserved space: room for one record of the longest update for each data block
abbrev pub floor : Shape → ℕ
floor g = g.k * (record_overhead g.version + g.update)

-- how many bytes a segment has
abbrev pub segment_length : Shape → ℕ
segment_length g = g.k * g.block

-- the first field that is outside its limits, in the order of the fields
abbrev pub first_bad : Shape → Option Field
first_bad g =
    if nat_lt g.n 1 || nat_lt 16 g.n then Some N
    else if nat_lt g.k 1 || nat_lt g.n g.k then Some K
    else if nat_lt g.block 1 || nat_lt 1048576 g.block then Some Block
    else if nat_lt g.update 1 || nat_lt (segment_length g) g.update || nat_lt 65536 g.update then Some Update
    else if nat_lt g.reserve (floor g) || nat_lt 4194304 g.reserve then Some Reserve
    else if nat_lt g.unit 1 || nat_lt g.reserve g.unit then Some Unit
    else if nat_lt 10000 g.alpha then Some Alpha
    else None

-- a geometry's numbers are within their limits
pub record IsWithin (g : Shape) : Type 0 where
  pub first_version : 1 ≤ g.version
  pub last_version : g.version ≤ 2
  pub some_data : 1 ≤ g.k
  pub data_among_columns : g.k ≤ g.n
  pub most_columns : g.n ≤ 16
  pub some_bytes : 1 ≤ g.block
  pub most_bytes : g.block ≤ 1048576
  pub some_update : 1 ≤ g.update
  pub update_in_segment : g.update ≤ segment_length g
  pub most_update : g.update ≤ 65536
  pub least_reserve : floor g ≤ g.reserve
  pub most_reserve : g.reserve ≤ 4194304
  pub some_unit : 1 ≤ g.unit
  pub unit_in_reserve : g.unit ≤ g.reserve
  pub most_alpha : g.alpha ≤ 10000

-- A parity column as its callers see it.
use Rattle.std.specs.Prelude.{◌≡◌, ℕ, ◌+◌, ◌-◌, ◌≤◌, ◌^◌, min, List, ◌++◌, length, take, Some, nat_lt, if◌then◌else◌}
use Rattle.std.specs.List.{flat_map, AllByRecursion}
use Rattle.std.specs.Option.{option_map}
use Rattle.cod_types.specs.Faults.{bump}
use Rattle.cod_types.specs.Limits.{floor, IsWithin, Shape}
use Rattle.cod_types.specs.Overwritten.{overwritten}
use Rattle.cod_region.specs.Device.{Device}
use Rattle.cod_parity.specs.Log.{IsIn, Logged, lowest_from, no_lowest, note, text}

-- the geometry, the bytes of the reserved space, those that the records take, the bytes of records that were written since
-- the last tick, the moving average of the use in ten-thousandths, the least record number of each block, and the region
pub record State : Type 0 where
  pub shape : Shape
  pub size : ℕ
  pub used : ℕ
  pub appended : ℕ
  pub average : ℕ
  pub lowest : List ℕ
  pub device : Device

-- what holds of a column's numbers whatever its region did
pub record IsKept (s : State) : Type 0 where
  pub within : IsWithin s.shape
  pub used : s.used ≤ s.size
  pub least : floor s.shape ≤ s.size
  pub most : s.size ≤ s.shape.reserve
  pub average : s.average ≤ 10000
  pub whole : s.shape.block + s.size ≤ s.device.size

-- the region tells that it holds this base and the texts of these records behind it
pub record Means (s : State) (base : List ℕ) (records : List Logged) : Type 0 where
  pub rest : List ℕ
  pub content : s.device.content ≡ Some (base ++ flat_map text records ++ rest)
  pub base_size : length base ≡ s.shape.block
  pub used : length (flat_map text records) ≡ s.used
  pub each : AllByRecursion (IsIn s.shape) records
  pub noted : s.lowest ≡ lowest_from no_lowest records

-- a column of no record, of so many bytes of reserved space
abbrev pub empty : (g : Shape) (size average : ℕ) (device : Device) → State
empty g size average device =
    record { shape = g; size = size; used = 0; appended = 0; average = average; lowest = no_lowest; device = device }

-- the region after a read
abbrev pub was_read : Device → Device
was_read d = record d { reads = bump d.reads }

-- the region after these bytes were written from a place on
abbrev pub was_written : (off : ℕ) (bytes : List ℕ) → Device → Device
was_written off bytes d = record d { content = option_map (overwritten off bytes) d.content; writes = bump d.writes }

-- the column with one record more behind its log, by one write
unfoldable pub with_record : Logged → State → State
with_record l s =
    record s {
      used = s.used + length (text l);
      appended = min (s.appended + length (text l)) (2 ^ 64 - 1);
      lowest = note s.lowest l;
      device = was_written
          (s.shape.block + s.used) (text l) s.device;
    }

-- the column with another base and no record, by one write
unfoldable pub with_base : (base : List ℕ) → State → State
with_base base s = record s { used = 0; lowest = no_lowest; device = was_written 0 base s.device }

-- the column after the reserved space was cut to a size, where it had more
unfoldable pub cut_to : (size : ℕ) → State → State
cut_to size s =
    if nat_lt size s.size
    then record s {
      size = size;
      used = min s.used size;
      device = record s.device {
        size = s.shape.block + size;
        content = option_map (take
            (s.shape.block + size)) s.device.content;
      };
    }
    else s

-- the column at the begin of a tick that found this average
abbrev pub averaged : (average : ℕ) → State → State
averaged average s = record s { appended = 0; average = average }

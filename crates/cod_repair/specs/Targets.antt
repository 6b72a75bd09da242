-- What the calls of a target do.
use Rattle.std.specs.Prelude.{◌≡◌, ◌⊎◌, ℕ, ◌-◌, ◌<◌, min, List, length, take, drop, Result, IsOk, MatchResult}
use Rattle.std.specs.Option.{option_map}
use Rattle.cod_types.specs.declared.errors.Failed.{Failed}
use Rattle.cod_types.specs.Faults.{bump}
use Rattle.cod_types.specs.Overwritten.{overwritten}
use Rattle.cod_region.specs.Device.{Device, Torn}
use Rattle.cod_kernel.specs.Sums.{added_scaled}
use Rattle.cod_seg.specs.Seg.{Target}

-- how many of n bytes from a place on are among the first `filled`
abbrev pub overlap : (filled off n : ℕ) → ℕ
overlap filled off n = min n (filled - off)

-- These bytes were written in place, by one write; where there are none, there was no call.
pub record Overwrites (off : ℕ) (bytes : List ℕ) (result : Result Unit Failed) (old new : Target) : Type 0 where
  pub none : length bytes ≡ 0 → IsOk result × (new ≡ old)
  pub same : 0 < length bytes
      → new ≡ record old { device = record old.device { content = new.device.content; writes = bump old.device.writes; faults = new.device.faults } }
  pub content : 0 < length bytes → MatchResult result (λ _. new.device.content ≡ option_map (overwritten off bytes) old.device.content)
      (λ _. Torn off (length bytes) old.device.content new.device.content)

-- the region after a coefficient times a delta was added to its bytes from a place on, by one read and one write
abbrev pub was_added : (off coef : ℕ) (delta : List ℕ) → Device → Device
was_added off coef delta d =
    record d {
      content = option_map (λ held. overwritten off (added_scaled coef (take (length delta) (drop off held)) delta) held) d.content;
      reads = bump d.reads;
      writes = bump d.writes;
    }

-- the read failed, which has changed nothing, or the write, which may have left any bytes in the range
pub record FailsAdd (off n : ℕ) (old new : Target) : Type 0 where
  pub same : new ≡ record old {
    device = record old.device {
      content = new.device.content;
      reads = bump old.device.reads;
      writes = new.device.writes;
      faults = new.device.faults;
    };
  }
  pub which : ((new.device.content ≡ old.device.content) × (new.device.writes ≡ old.device.writes))
      ⊎ (Torn off n old.device.content new.device.content × (new.device.writes ≡ bump old.device.writes))

-- A coefficient times a delta was added in place; where it has no bytes, there was no call.
pub record AddsTo (off coef : ℕ) (delta : List ℕ) (result : Result Unit Failed) (old new : Target) : Type 0 where
  pub none : length delta ≡ 0 → IsOk result × (new ≡ old)
  pub some : 0 < length delta → MatchResult result (λ _. new ≡ record old { device = was_added off coef delta old.device })
      (λ _. FailsAdd off (length delta) old new)

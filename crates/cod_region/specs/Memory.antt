-- Regions in memory.
use Rattle.std.specs.Prelude.{ℕ, List, Bool, true, ◌==◌, ◌&&◌, nat_eq, length, Some, None, if◌then◌else◌}
use Rattle.std.specs.List.{list_any, filter_map}
use Rattle.cod_types.specs.Faults.{bump}
use Rattle.cod_types.specs.declared.call.NodeId.{NodeId}
use Rattle.cod_region.specs.Device.{Device}

-- bytes in memory, with the counts of their reads and writes
pub record Held : Type 0 where
  pub bytes : List ℕ
  pub reads : ℕ
  pub writes : ℕ

abbrev pub memory_device : Held → Device
memory_device h =
    record { size = length h.bytes; content = Some h.bytes; reads = h.reads; writes = h.writes; faults = 0; never_fails = true }

-- Bytes in memory that fail: at the calls whose numbers are listed; and how many calls there were and how many of them
-- failed.
pub record Flawed : Type 0 where
  pub held : Held
  pub fails : List ℕ
  pub calls : ℕ
  pub faults : ℕ

-- it never fails where no call is listed
abbrev pub flawed_device : Flawed → Device
flawed_device f =
    record {
      size = length f.held.bytes;
      content = Some f.held.bytes;
      reads = f.held.reads;
      writes = f.held.writes;
      faults = f.faults;
      never_fails =
          (length f.fails == 0) && (f.faults == 0);
    }

-- whether the next call is to fail
abbrev pub is_due : Flawed → Bool
is_due f = list_any (λ listed. nat_eq listed f.calls) f.fails

-- the next call is counted, and as a fault where it is to fail
abbrev pub called : Flawed → Flawed
called f = record f { calls = bump f.calls; faults = if is_due f then bump f.faults else f.faults }

-- the numbers of the calls that are listed with a node
abbrev pub calls_of : (faults : List (NodeId × ℕ)) (node : NodeId) → List ℕ
calls_of faults node = filter_map (λ fault. if nat_eq fault.0.0 node.0 then Some fault.1 else None) faults

use Rattle.std.proofs.Common.{◌≡◌, take}
use Rattle.cod_region.specs.Memory.{calls_of}
use Rattle.cod_region.proofs.faulty.FaultyShelf.calls_of.Given as goal

-- the calls so far are those of the faults so far
abbrev pub invariant-faults : goal.invariant-faults
invariant-faults l = l.calls.items ≡ calls_of (take l.fault-index l.fault-items) l.node
